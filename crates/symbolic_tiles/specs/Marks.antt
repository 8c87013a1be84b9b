-- What a layout needs of a flow word's tile (this project's own): each jump leads to a mark behind it, no mark stands twice,
-- each op can be spelled over every home page, and the bytes have room.
use Rattle.std.specs.Prelude.{◌≡◌, ℕ, ◌+◌, length, Bool, true, false, ◌||◌, eqb, List, [], ◌∷◌, Option}
use Rattle.machines.specs.Prelude.{Condition, spelling}
use Rattle.reg_map.specs.Prelude.{IsPlaceable}
use Rattle.symbolic_tiles.specs.TileItems.{code_of}
use Rattle.symbolic_tiles.specs.declared.flow_op.FlowOp.{FlowOp}
use Rattle.symbolic_tiles.specs.declared.flow_op.FlowOp.TheVariants.{Plain, Jump, Mark, Edge, Leap}

-- whether a mark stands among the items
abbrev pub is_mark : FlowOp → ℕ → Bool
is_mark (Mark here) mark = eqb here mark
is_mark _ mark = false

abbrev pub has_mark : List FlowOp → ℕ → Bool
has_mark [] mark = false
has_mark (item ∷ items) mark = is_mark item mark || has_mark items mark

-- a jump's code: that of a condition, or 16, which is always
abbrev pub IsJumpCode : ℕ → Type 0
IsJumpCode code = (c : Option Condition) × (code ≡ code_of c)

abbrev pub AreMarked : List FlowOp → Type 0
AreMarked [] = Unit {0}
AreMarked (Jump code mark ∷ items) = IsJumpCode code × (has_mark items mark ≡ true) × AreMarked items
AreMarked (Mark mark ∷ items) = (has_mark items mark ≡ false) × AreMarked items
AreMarked (_ ∷ items) = AreMarked items

abbrev pub IsLaid : FlowOp → Type 0
IsLaid (Plain op) = IsPlaceable op
IsLaid _ = Unit {0}

abbrev pub AreLaid : List FlowOp → Type 0
AreLaid [] = Unit {0}
AreLaid (item ∷ items) = IsLaid item × AreLaid items

-- An item has no more bytes than this: a jump 6 (Intel SDM volume 2, Jcc), the indirect sequence 32, and an edge 41, with the
-- moves of three registers to their homes and of three from there.
abbrev pub flow_room : FlowOp → ℕ
flow_room (Plain op) = length (spelling op)
flow_room (Jump code mark) = 6
flow_room (Mark mark) = 0
flow_room (Edge target) = 41
flow_room Leap = 32

abbrev pub flows_room : List FlowOp → ℕ
flows_room [] = 0
flows_room (item ∷ items) = flow_room item + flows_room items
