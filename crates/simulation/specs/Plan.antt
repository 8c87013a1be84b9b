-- Plans, and their code at addresses of the host. This project's own.
use Rattle.std.specs.Prelude.{◌≡◌, ℕ, ◌+◌, ◌<◌, ◌≤◌, ◌⊎◌, true, false, cond, List, [], ◌∷◌, length, Option, Some, None, Contains}
use Rattle.machines.specs.Prelude.{Instr, Map, Op, Condition, NotBelow, Base, JmpTo, Goes, Guest, guest_executes, behind, Choice, Core}
use Rattle.symbolic_tiles.specs.declared.flow_op.FlowOp.{FlowOp}
use Rattle.symbolic_tiles.specs.Prelude.{perform, Window, GoesThrough, Implements, IsBefore, Fits, flow, OpAt, OpsAt, EdgeCode, ItemsAt}
use Rattle.simulation.specs.Windows.{rows_of, behind_all, IsLinked}
use Rattle.code_layout.specs.Prelude.{leap_ops, no_registers, ops_at}
use Rattle.simulation.specs.Context.{SimulationContext, IsWordAt, JumpsTo, ForksAt, MatchesState}

-- A step of a block's plan, whose ops aren't over the home page yet: a move to another register map; a tile of ops for
-- words; a tile for words of which the last is a branch on the condition that the ops leave; the tile of a flow word. The
-- last two end a block.
pub data PlanStep : Type 0 where
  Move : (to : Map) (ops : List Op) → PlanStep
  Tile : (words : List Instr) (window : Window) (ops : List Op) → PlanStep
  BranchTile : (words : List Instr) (window : Window) (ops : List Op) (condition : Condition) (target : ℕ) → PlanStep
  FlowTile : (word : Option Instr) (items : List FlowOp) → PlanStep

-- how many guest words the steps stand for
abbrev pub word_count : List PlanStep → ℕ
word_count [] = 0
word_count (Move to ops ∷ steps) = word_count steps
word_count (Tile words window ops ∷ steps) = length words + word_count steps
word_count (BranchTile words window ops condition target ∷ steps) = length words + word_count steps
word_count (FlowTile word items ∷ steps) = 1 + word_count steps

-- What the host may spend before the next tile: 2 for each move and, at the end of a block, 26 for the edge, its up to
-- six moves and those of the next block.
abbrev pub room : List PlanStep → ℕ
room [] = 26
room (Move to ops ∷ steps) = 2 + room steps
room (_ ∷ steps) = 0

-- nowhere stand so many moves in a row that the room is over 40
abbrev pub HasFewMoves : List PlanStep → Type 0
HasFewMoves [] = Unit {0}
HasFewMoves (step ∷ steps) = (room steps ≤ 40) × HasFewMoves steps

module _ (s : SimulationContext) where
  -- Ops bring the registers from one map to another, where the next word is at a guest address: one op, or none.
  pub record IsMove (next : ℕ) (from to : Map) (ops : List Op) : Type 0 where
    pub short : length ops ≤ 1
    pub moves : (g : Guest) (core : Core) (choices : List Choice) → g.next ≡ next → MatchesState s from g core → GoesThrough (perform s.host (ops_at s.area ops) choices core) (MatchesState s to g)

  -- At a host address stands the code that leads from a map to a guest address: the moves to the maps of the list in
  -- turn, the last of which is the map under which the block there begins; then a jump to the block.
  abbrev pub SwitchAt : ℕ → List Map → Map → ℕ → Type 0
  SwitchAt next [] map a = (map ≡ s.entry_map next) × JumpsTo s a (s.target next)
  SwitchAt next (to ∷ maps) map a = (ops : List Op) × (b : ℕ) × IsMove next map to ops × OpsAt s.host s.host_step a (ops_at s.area ops) b × SwitchAt next maps to b

  -- an edge to a guest address: a switch of at most six moves
  abbrev pub EdgeAt : Map → ℕ → ℕ → Type 0
  EdgeAt map next a = (maps : List Map) × (length maps ≤ 6) × SwitchAt next maps map a

  -- these words stand at a guest address, one behind another, and all but the last are straight
  abbrev pub AreWordsAt : ℕ → List Instr → Type 0
  AreWordsAt w [] = Unit {0}
  AreWordsAt w (i ∷ is) = IsWordAt s w (Some i) × IsLinked s.guest i is × AreWordsAt (behind w) is

  -- what a window loads lies in the guest's segments where it goes on, and what it stores may be written there
  pub record IsInside (window : Window) : Type 0 where
    pub loads : (g g' : Guest) (a : ℕ) → window.outcome s.guest g ≡ Goes g' → Contains (window.loads g) a → s.guest.held a ≡ true
    pub stores : (g g' : Guest) (a : ℕ) → window.outcome s.guest g ≡ Goes g' → Contains (window.stores g) a → s.guest.held a ≡ true × s.guest.writable a ≡ true

  -- Ops do what these words do, which stand at a guest address.
  pub record IsTile (map : Map) (w : ℕ) (words : List Instr) (window : Window) (ops : List Op) : Type 0 where
    pub some : 0 < length words
    pub few : length ops ≤ 128
    pub fetched : AreWordsAt w words
    pub rows : (g : Guest) → window.outcome s.guest g ≡ rows_of s.guest words g
    pub inside : IsInside window
    pub does : Implements window map s.area (ops_at s.area ops)

  -- From one host address up to another they stand.
  abbrev pub TileAt : Map → ℕ → List Instr → Window → List Op → ℕ → ℕ → Type 0
  TileAt map w words window ops a b = IsTile map w words window ops × OpsAt s.host s.host_step a (ops_at s.area ops) b

  -- what is dead behind a window isn't live at a guest address
  abbrev pub IsUnneeded : Window → ℕ → Type 0
  IsUnneeded window next = (x : ℕ) → window.dead x ≡ true → s.live next x ≡ false

  -- where the words go on, it is at this guest address
  abbrev pub LeadsTo : ℕ → List Instr → (Guest → ℕ) → Type 0
  LeadsTo w words next = (g g' : Guest) → g.next ≡ w → rows_of s.guest words g ≡ Goes g' → g'.next ≡ next g

  -- At a host address stands the indirect sequence, which leads through the table.
  pub record LeapAt (a : ℕ) : Type 0 where
    pub compared : ℕ
    pub inside : ℕ
    pub end : ℕ
    pub ops : OpsAt s.host s.host_step a (leap_ops s.first s.count) compared
    pub fork : ForksAt s NotBelow compared s.hold inside
    pub jump : OpAt s.host s.host_step inside (JmpTo (Base 0 s.table)) end

  -- what the table leads to at a guest address: the block, which begins with no GPR in a register, or the adapter to it
  abbrev pub DoorAt : ℕ → Type 0
  DoorAt w = ((s.door w ≡ s.target w) × (s.entry_map w ≡ no_registers)) ⊎ EdgeAt no_registers w (s.door w)

  -- The items of a tile do what the flow word does that stands at a guest address.
  pub record IsFlowTile (map : Map) (w : ℕ) (word : Option Instr) (items : List FlowOp) : Type 0 where
    pub few : length items ≤ 100
    pub fetched : IsWordAt s w word
    pub fits : (g : Guest) (core : Core) (choices : List Choice) → g.next ≡ w → IsBefore map s.area s.guest s.host g core → Fits map s.area s.guest core (guest_executes s.guest word g) (flow s.host s.area items None choices core)

  -- At a host address they stand, with the code of their edges and indirect sequences.
  pub record FlowAt (map : Map) (w : ℕ) (word : Option Instr) (items : List FlowOp) (a : ℕ) : Type 0 where
    pub tile : IsFlowTile map w word items
    pub labels : ℕ → ℕ
    pub edges : List EdgeCode
    pub leaps : List ℕ
    pub stand : ItemsAt s.host s.area s.host_step labels edges leaps a items
    pub edges_stand : (e : EdgeCode) → Contains edges e → EdgeAt map e.target e.at
    pub leaps_stand : (at : ℕ) → Contains leaps at → (map ≡ no_registers) × LeapAt at

  -- From a host address on stands, under a map, the code of the steps still to come of a block's plan, the first of whose
  -- words stands at a guest address.
  abbrev pub BlockAt : Map → ℕ → ℕ → List PlanStep → Type 0
  BlockAt map w a [] = EdgeAt map w a
  BlockAt map w a (Move to ops ∷ steps) = (b : ℕ) × IsMove w map to ops × OpsAt s.host s.host_step a (ops_at s.area ops) b × BlockAt to w b steps
  BlockAt map w a (Tile words window ops ∷ steps) = (b : ℕ) × TileAt map w words window ops a b × IsUnneeded window (behind_all w words) × LeadsTo w words (λ g. behind_all w words) × BlockAt map (behind_all w words) b steps
  BlockAt map w a (BranchTile words window ops condition target ∷ steps) =
      (b : ℕ) × (holds : ℕ) × (fails : ℕ) × TileAt map w words window ops a b × (window.condition ≡ Some condition)
      × IsUnneeded window target × IsUnneeded window (behind_all w words) × LeadsTo w words (λ g. cond (window.taken g) target (behind_all w words))
      × ForksAt s condition b holds fails × EdgeAt map target holds × EdgeAt map (behind_all w words) fails
  BlockAt map w a (FlowTile word items ∷ steps) = FlowAt map w word items a

  -- the block of the code word at a guest address
  pub record Begins (w : ℕ) : Type 0 where
    pub steps : List PlanStep
    pub stands : BlockAt (s.entry_map w) w (s.target w) steps
    pub in_block : word_count steps ≤ 64
    pub few : HasFewMoves steps
    pub few_first : room steps ≤ 12
