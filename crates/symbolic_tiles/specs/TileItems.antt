-- The items of a flow word's tile (this project's own), told without a register map: symbolic ops, jumps forward to labels,
-- edges, and how a run ends or calls; and the item of the file that each is under a map.
use Rattle.std.specs.Prelude.{◌≢◌, ℕ, ◌<◌, List, [], ◌∷◌, ◌++◌, map, Option, Some, None}
use Rattle.machines.specs.Prelude.{Map, Int80, Int3, Ud2, Condition, Below, NotBelow, Equal, NotEqual, NotAbove, Above, Sign, NotSign, Less, NotLess, NotGreater, Greater, ebx}
use Rattle.reg_map.specs.Prelude.{place, slot_of, mov_from}
use Rattle.symbolic_tiles.specs.SymbolicOps.{SymbolicOp, op_of, IsWellFormed}
use Rattle.symbolic_tiles.specs.declared.flow_op.FlowOp.{FlowOp}
use Rattle.symbolic_tiles.specs.declared.flow_op.FlowOp.TheVariants as flow
pub use Rattle.symbolic_tiles.specs.declared.tile_item.TileItem.{TileItem}
pub use Rattle.symbolic_tiles.specs.declared.tile_item.TileItem.TheVariants.{Do, JumpIf, Label, LoadEbx, BranchTo, BranchIndirect, Interrupt, Trap, Undefined}

-- the number of a condition in opcodes; 16 is always
abbrev pub code_of : Option Condition → ℕ
code_of None = 16
code_of (Some Below) = 2
code_of (Some NotBelow) = 3
code_of (Some Equal) = 4
code_of (Some NotEqual) = 5
code_of (Some NotAbove) = 6
code_of (Some Above) = 7
code_of (Some Sign) = 8
code_of (Some NotSign) = 9
code_of (Some Less) = 12
code_of (Some NotLess) = 13
code_of (Some NotGreater) = 14
code_of (Some Greater) = 15

-- the item of the file under a map
abbrev pub flow_of : Map → TileItem → FlowOp
flow_of m (Do l) = flow.Plain (op_of m l)
flow_of m (JumpIf condition mark) = flow.Jump (code_of condition) mark
flow_of m (Label mark) = flow.Mark mark
flow_of m (LoadEbx x) = flow.Plain (mov_from ebx (place m x))
flow_of m (BranchTo target) = flow.Edge target
flow_of m BranchIndirect = flow.Leap
flow_of m Interrupt = flow.Plain Int80
flow_of m Trap = flow.Plain Int3
flow_of m Undefined = flow.Plain Ud2

abbrev pub flows_of : List TileItem → Map → List FlowOp
flows_of items m = map (flow_of m) items

-- ops before items
abbrev pub doing : List SymbolicOp → List TileItem → List TileItem
doing ops items = map Do ops ++ items

-- no location stands in the register
abbrev pub IsFree : Map → ℕ → Type 0
IsFree m r = (x : ℕ) → slot_of m x ≢ Some r

-- Well-formed items: their ops are, and where ebx is written or read it holds no location.
abbrev pub AreItems : Map → List TileItem → Type 0
AreItems m [] = Unit {0}
AreItems m (Do l ∷ items) = IsWellFormed l × AreItems m items
AreItems m (LoadEbx x ∷ items) = IsFree m ebx × (x < 34) × AreItems m items
AreItems m (Interrupt ∷ items) = IsFree m ebx × AreItems m items
AreItems m (_ ∷ items) = AreItems m items
