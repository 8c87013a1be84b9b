-- When the tile of a flow word does what its instruction does. This project's own.
use Rattle.std.specs.Prelude.{◌≡◌, ℕ, ◌*◌, ◌/◌, ◌⊎◌, Bool, true, false, cond, eqb, List, [], ◌∷◌, drop, Option, Some, None}
use Rattle.machines.specs.Prelude.{End, Outside, ListedCall, AnswerValue, Map, Instr, Below, NotBelow, Equal, NotEqual, NotAbove, Above, Sign, NotSign, Less, NotLess, NotGreater, Greater, Flags, condition_holds, Outcome, Goes, Asks, Ends, Rights, Guest, guest_executes, Choice, Core, Host}
use Rattle.symbolic_tiles.specs.declared.flow_op.FlowOp.{FlowOp}
use Rattle.symbolic_tiles.specs.declared.flow_op.FlowOp.TheVariants.{Plain, Jump, Mark, Edge, Leap}
use Rattle.reg_map.specs.Prelude.{IsHomePage, HasSegments, Represents, AreInRange}
use Rattle.symbolic_tiles.specs.Perform.{is_jump, op_outcome}
use Rattle.symbolic_tiles.specs.Relocated.{op_at}
use Rattle.symbolic_tiles.specs.Row.{Any, IsUnowned, WritesHeld, IsCore}

-- whether a jump is taken, by the number of its condition in opcodes; 16 is always
abbrev pub is_taken : ℕ → Flags → Bool
is_taken code f =
    cond (eqb code 16) true (
    cond (eqb code 2) (condition_holds Below f) (
    cond (eqb code 3) (condition_holds NotBelow f) (
    cond (eqb code 4) (condition_holds Equal f) (
    cond (eqb code 5) (condition_holds NotEqual f) (
    cond (eqb code 6) (condition_holds NotAbove f) (
    cond (eqb code 7) (condition_holds Above f) (
    cond (eqb code 8) (condition_holds Sign f) (
    cond (eqb code 9) (condition_holds NotSign f) (
    cond (eqb code 12) (condition_holds Less f) (
    cond (eqb code 13) (condition_holds NotLess f) (
    cond (eqb code 14) (condition_holds NotGreater f) (
    cond (eqb code 15) (condition_holds Greater f) false))))))))))))

-- How a flow tile is left: by the edge to a guest address, to the guest address in ecx, by the run's end, or by a call
-- and then as its answer has it. Falls: the items end, a jump leads to no mark behind it, or an op is itself a jump.
pub data Exit : Type 0 where
  Leaves : (target : ℕ) → Core → Exit
  Leaps : Core → Exit
  Stops : End → Exit
  Calls : ListedCall → (AnswerValue → Exit) → Exit
  Falls : Exit

-- what the rest makes of an op's outcome
abbrev pub behind_op : (List Choice → Core → Exit) → Outcome Host → Exit
behind_op rest (Goes h) = rest h.choices h.core
behind_op rest (Asks call next) = Calls call (λ a. rest (next a).choices (next a).core)
behind_op rest (Ends e) = Stops e

-- The items one after another, over the home page at `area`; with a mark, those before it are passed over. Jumps are items
-- of their own.
module _ (host : Rights) (area : ℕ) where
  abbrev pub flow : List FlowOp → Option ℕ → List Choice → Core → Exit
  flow [] skip choices core = Falls
  flow (Plain op ∷ items) None choices core = cond (is_jump (op_at area op)) Falls (behind_op (flow items None) (op_outcome host (op_at area op) choices core))
  flow (Jump code mark ∷ items) None choices core = cond (is_taken code core.flags) (flow items (Some mark) (drop 1 choices) core) (flow items None (drop 1 choices) core)
  flow (Mark k ∷ items) None choices core = flow items None choices core
  flow (Mark k ∷ items) (Some mark) choices core = cond (eqb k mark) (flow items None choices core) (flow items (Some mark) choices core)
  flow (Edge target ∷ items) None choices core = Leaves target core
  flow (Leap ∷ items) None choices core = Leaps core
  flow (_ ∷ items) (Some mark) choices core = flow items (Some mark) choices core

-- the host state before a flow tile
pub record IsBefore (map : Map) (area : ℕ) (guest host : Rights) (g : Guest) (core : Core) : Type 0 where
  pub page : IsHomePage area guest host
  pub segments : HasSegments guest host
  pub writes_held : WritesHeld guest
  pub represents : Represents map area Any guest.held g core
  pub in_range : AreInRange g
  pub is_core : IsCore core

-- the host state behind one: the guest's next state is represented, and what isn't owned is kept
pub record IsBehind (map : Map) (area : ℕ) (guest : Rights) (g' : Guest) (before after : Core) : Type 0 where
  pub represents : Represents map area Any guest.held g' after
  pub in_range : AreInRange g'
  pub memory : (a : ℕ) → IsUnowned map area guest.held a → after.bytes a ≡ before.bytes a
  pub is_core : IsCore after

-- where the indirect sequence leads: the word in ecx without its two low bits
abbrev pub leap_target : Core → ℕ
leap_target core = 4 * (core.regs 1 / 4)

-- The tile is left as the row goes on: by the edge to the next address, or by the indirect sequence with it in ecx; by
-- the same call; with the same end. Behind a guest that goes outside nothing is asked of the host.
abbrev pub FitsGoing : Map → ℕ → Rights → Core → Guest → Exit → Type 0
FitsGoing map area guest before g' (Leaves target after) = (target ≡ g'.next) × IsBehind map area guest g' before after
FitsGoing map area guest before g' (Leaps after) = (leap_target after ≡ g'.next) × IsBehind map area guest g' before after
FitsGoing map area guest before g' _ = ⊥

abbrev pub Fits : Map → ℕ → Rights → Core → Outcome Guest → Exit → Type 0
Fits map area guest before (Goes g') exit = FitsGoing map area guest before g' exit
Fits map area guest before (Asks call next) (Calls asked exits) = (asked ≡ call) × ((a : AnswerValue) → FitsGoing map area guest before (next a) (exits a))
Fits map area guest before (Asks call next) _ = ⊥
Fits map area guest before (Ends e) exit = (e ≡ Outside) ⊎ (exit ≡ Stops e)

-- a flow tile, for the word at an address, does what the word does under a map; None is an illegal word
abbrev pub FlowDoesWord : Option Instr → Map → (ℕ → List FlowOp) → Type 0
FlowDoesWord word map tile =
    (area : ℕ) (guest host : Rights) (g : Guest) (core : Core) (choices : List Choice) →
    IsBefore map area guest host g core → Fits map area guest core (guest_executes guest word g) (flow host area (tile g.next) None choices core)

-- items for the word at one address do what it does
abbrev pub FlowDoesWordAt : Option Instr → Map → ℕ → List FlowOp → Type 0
FlowDoesWordAt word map at items =
    (area : ℕ) (guest host : Rights) (g : Guest) (core : Core) (choices : List Choice) →
    g.next ≡ at → IsBefore map area guest host g core → Fits map area guest core (guest_executes guest word g) (flow host area items None choices core)
