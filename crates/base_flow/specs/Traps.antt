-- The tiles of tw and twi (this project's own; the rows are Power ISA Book I, 3.3.11): the run ends on each test that TO
-- chooses.
use Rattle.std.specs.Prelude.{ℕ, Bool, true, false, cond, eqb, List, [], ◌∷◌, Some}
use Rattle.machines.specs.Prelude.{sign_extended, bit_of, Cmp, Condition, Below, Equal, Above, Less, Greater}
use Rattle.symbolic_tiles.specs.declared.symbolic_op.SymbolicOperand.TheVariants.{Location}
use Rattle.symbolic_tiles.specs.declared.symbolic_op.SymbolicOp.{SymbolicOp}
use Rattle.symbolic_tiles.specs.declared.symbolic_op.SymbolicOp.TheVariants.{Mov, Alu, AluImmediate}
use Rattle.symbolic_tiles.specs.declared.tile_item.TileItem.{TileItem}
use Rattle.symbolic_tiles.specs.declared.tile_item.TileItem.TheVariants.{JumpIf, Label, BranchTo, Trap}
use Rattle.symbolic_tiles.specs.Prelude.{doing}

-- a jump to a mark where a test is chosen
abbrev pub when_jump : Bool → Condition → ℕ → List TileItem → List TileItem
when_jump true c mark items = JumpIf (Some c) mark ∷ items
when_jump false c mark items = items

-- tw and twi: on the tests that TO chooses the run ends
abbrev pub trap_tests : ℕ → ℕ → List TileItem
trap_tests to next =
    when_jump (bit_of to 4) Less 0 (when_jump (bit_of to 3) Greater 0 (when_jump (bit_of to 2) Equal 0 (when_jump (bit_of to 1) Below 0 (when_jump (bit_of to 0) Above 0 (BranchTo next ∷ Label 0 ∷ Trap ∷ [])))))

abbrev pub trap_items : ℕ → List SymbolicOp → ℕ → List TileItem
trap_items to compared next = cond (eqb to 0) (BranchTo next ∷ []) (doing compared (trap_tests to next))

abbrev pub tw_ops : ℕ → ℕ → List SymbolicOp
tw_ops a b = Mov 0 (Location a) ∷ Alu Cmp 0 (Location b) ∷ []

abbrev pub twi_ops : ℕ → ℕ → List SymbolicOp
twi_ops a imm = Mov 0 (Location a) ∷ AluImmediate Cmp 0 (sign_extended 16 imm) ∷ []
