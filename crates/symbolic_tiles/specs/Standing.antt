-- Ops and items in the code, one behind another, for a machine that is given by its step.
use Rattle.std.specs.Prelude.{◌≡◌, ℕ, ◌+◌, ◌≤◌, cond, List, [], ◌∷◌, length, drop, Contains, Option, Some, None}
use Rattle.machines.specs.Prelude.{AnswerValue, Op, Outcome, Goes, Asks, Ends, Anywhere, Walks, Rights, Choice, Core, Host, host_acts}
use Rattle.symbolic_tiles.specs.declared.flow_op.FlowOp.{FlowOp}
use Rattle.symbolic_tiles.specs.declared.flow_op.FlowOp.TheVariants.{Plain, Jump, Mark, Edge, Leap}
use Rattle.symbolic_tiles.specs.Perform.{perform}
use Rattle.symbolic_tiles.specs.Relocated.{op_at}
use Rattle.symbolic_tiles.specs.Flow.{is_taken, Exit, Leaves, Leaps, Stops, Calls, Falls, flow}

module _ (host : Rights) (step : Host → Outcome Host) where
  -- the op stands at an address, and the code goes on at `next`
  abbrev pub OpAt : ℕ → Op → ℕ → Type 0
  OpAt at op next = (h : Host) → h.eip ≡ at → step h ≡ host_acts host op next h

  abbrev pub OpsAt : ℕ → List Op → ℕ → Type 0
  OpsAt at [] end = at ≡ end
  OpsAt at (op ∷ ops) end = (next : ℕ) × OpAt at op next × OpsAt next ops end

  -- The machine that comes to them makes a step for each, and stands behind them with the core that they lead to.
  abbrev pub AreWalked : Type 0
  AreWalked =
      (ops : List Op) (at end : ℕ) (h : Host) (after : Core) → OpsAt at ops end → h.eip ≡ at → perform host ops h.choices h.core ≡ Some after →
      (left : List Choice) × Walks Anywhere step (length ops) h (record { core = after; eip = end; choices = left })

-- whatever the rights and the machine's step are
abbrev pub OpsAreWalked : Type 0
OpsAreWalked = (host : Rights) (step : Host → Outcome Host) → AreWalked host step

-- the code of an edge: the guest address to which it leads, and where it begins
pub record EdgeCode : Type 0 where
  pub target : ℕ
  pub at : ℕ

-- The items of a flow tile in the code: each mark has an address, at which it stands and to which its jumps lead; where
-- an edge or the indirect sequence stands, its code begins.
module _ (host : Rights) (area : ℕ) (step : Host → Outcome Host) (labels : ℕ → ℕ) (edges : List EdgeCode) (leaps : List ℕ) where
  -- a jump, however it is spelt
  abbrev pub JumpsAt : ℕ → ℕ → ℕ → ℕ → Type 0
  JumpsAt at code target next = (h : Host) → h.eip ≡ at → step h ≡ Goes (record { core = h.core; eip = cond (is_taken code h.core.flags) target next; choices = drop 1 h.choices })

  abbrev pub ItemsAt : ℕ → List FlowOp → Type 0
  ItemsAt at [] = Unit {0}
  ItemsAt at (Plain op ∷ items) = (next : ℕ) × OpAt host step at (op_at area op) next × ItemsAt next items
  ItemsAt at (Jump code mark ∷ items) = (next : ℕ) × JumpsAt at code (labels mark) next × ItemsAt next items
  ItemsAt at (Mark mark ∷ items) = (labels mark ≡ at) × ItemsAt at items
  ItemsAt at (Edge target ∷ items) = (next : ℕ) × Contains edges (record { target = target; at = at }) × ItemsAt next items
  ItemsAt at (Leap ∷ items) = (next : ℕ) × Contains leaps at × ItemsAt next items

  -- where the host stands: at the items, or at a mark among them
  abbrev pub IsAt : Option ℕ → ℕ → ℕ → Type 0
  IsAt None at eip = eip ≡ at
  IsAt (Some mark) at eip = eip ≡ labels mark

  -- In so many steps the host leaves the tile as the exit says. Behind a call there is left what is left of them.
  abbrev pub Reaches : ℕ → Exit → Host → Type 0
  Reaches most (Leaves target core) h = (j : ℕ) × (h1 : Host) × (j ≤ most) × Walks Anywhere step j h h1 × Contains edges (record { target = target; at = h1.eip }) × (h1.core ≡ core)
  Reaches most (Leaps core) h = (j : ℕ) × (h1 : Host) × (j ≤ most) × Walks Anywhere step j h h1 × Contains leaps h1.eip × (h1.core ≡ core)
  Reaches most (Stops e) h = (j : ℕ) × (h1 : Host) × (j ≤ most) × Walks Anywhere step j h h1 × (step h1 ≡ Ends e)
  Reaches most (Calls call exits) h = (j : ℕ) × (left : ℕ) × (h1 : Host) × (next : AnswerValue → Host) × (j + 1 + left ≤ most) × Walks Anywhere step j h h1 × (step h1 ≡ Asks call next) × ((a : AnswerValue) → Reaches left (exits a) (next a))
  Reaches most Falls h = Unit {0}

  abbrev pub FlowIsWalked : Type 0
  FlowIsWalked = (items : List FlowOp) (skip : Option ℕ) (at : ℕ) (h : Host) → ItemsAt at items → IsAt skip at h.eip → Reaches (length items) (flow host area items skip h.choices h.core) h

-- whatever the rights, the home page, the machine's step and the code's addresses are
abbrev pub FlowsAreWalked : Type 0
FlowsAreWalked = (host : Rights) (area : ℕ) (step : Host → Outcome Host) (labels : ℕ → ℕ) (edges : List EdgeCode) (leaps : List ℕ) → FlowIsWalked host area step labels edges leaps
