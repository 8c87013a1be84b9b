-- The tiles of branches (this project's own; the rows are Power ISA Book I, 2.4). LK puts the next address into LR, but a
-- target in LR is read before; then CTR falls, unless BO bit 2 is one, and decides by BO bit 3; then the bit BI of CR decides by
-- BO bit 1, unless BO bit 0 is one.
use Rattle.std.specs.Prelude.{ℕ, ◌+◌, ◌/◌, ◌%◌, ◌^◌, Bool, true, false, not, ◌&&◌, List, [], ◌∷◌, Some}
use Rattle.machines.specs.Prelude.{BranchRegisterOp, Bclr, Bcctr, bo_bit, Sub, Condition, Equal, NotEqual}
use Rattle.symbolic_tiles.specs.declared.symbolic_op.SymbolicOperand.TheVariants.{Location}
use Rattle.symbolic_tiles.specs.declared.symbolic_op.SymbolicOp.{SymbolicOp}
use Rattle.symbolic_tiles.specs.declared.symbolic_op.SymbolicOp.TheVariants.{Mov, Put, PutImmediate, AluImmediate, TestImmediate, FetchByte}
use Rattle.symbolic_tiles.specs.declared.tile_item.TileItem.{TileItem}
use Rattle.symbolic_tiles.specs.declared.tile_item.TileItem.TheVariants.{JumpIf, Label, BranchTo}
use Rattle.symbolic_tiles.specs.Prelude.{doing}

-- LK: LR gets the next address
abbrev pub link_ops : Bool → ℕ → List SymbolicOp
link_ops true next = PutImmediate 32 next ∷ []
link_ops false next = []

-- CTR falls by 1; whether it has become 0 decides
abbrev pub count_ops : List SymbolicOp
count_ops = Mov 0 (Location 33) ∷ AluImmediate Sub 0 1 ∷ Put 33 0 ∷ []

-- the branch isn't taken on this condition, by whether CTR has to be 0
abbrev pub count_fails : Bool → Condition
count_fails true = NotEqual
count_fails false = Equal

-- the bit BI of CR is tested in its field
abbrev pub bit_ops : ℕ → List SymbolicOp
bit_ops bi = FetchByte 0 (34 + bi / 4) ∷ TestImmediate 0 (8 / 2 ^ (bi % 4)) ∷ []

-- the branch isn't taken on this condition, by whether the bit has to be 1
abbrev pub bit_fails : Bool → Condition
bit_fails true = Equal
bit_fails false = NotEqual

-- where a test is made, the ops and a jump to the mark 0 on the failure
abbrev pub unless : Bool → List SymbolicOp → Condition → List TileItem → List TileItem
unless true ops fails items = doing ops (JumpIf (Some fails) 0 ∷ items)
unless false ops fails items = items

-- the way on where the branch isn't taken, if it may not be
abbrev pub otherwise : Bool → ℕ → List TileItem
otherwise true next = Label 0 ∷ BranchTo next ∷ []
otherwise false next = []

-- a branch by BO and BI, taken by an item
abbrev pub branch_items : ℕ → ℕ → TileItem → ℕ → List TileItem
branch_items bo bi taken next =
    unless (not (bo_bit bo 2)) count_ops (count_fails (bo_bit bo 3))
    (unless (not (bo_bit bo 0)) (bit_ops bi) (bit_fails (bo_bit bo 1)) (taken ∷ otherwise (not (bo_bit bo 2 && bo_bit bo 0)) next))

-- the register that has the target
abbrev pub target_register : BranchRegisterOp → ℕ
target_register Bclr = 32
target_register Bcctr = 33
