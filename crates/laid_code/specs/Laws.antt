-- What holds of code that stands at addresses.
use Rattle.std.specs.Prelude.{◌≡◌, ℕ, ◌+◌, ◌-◌, ◌%◌, ◌^◌, ◌<◌, ◌⊎◌, List, length, slice_index, Option, All, Contains}
use Rattle.machines.specs.Prelude.{spelling, IsInProfile, Op, Jmp, Code, Map, Instr, Program, Fetched, ReadsWords, ReadsOps, rights_of, code_of, without}
use Rattle.reg_map.specs.Prelude.{IsHomePage}
use Rattle.liveness.specs.Prelude.{Sets}
use Rattle.plan_form.specs.declared.problem.Step.{Step}
use Rattle.symbolic_tiles.specs.declared.flow_op.FlowOp.{FlowOp}
use Rattle.symbolic_tiles.specs.Prelude.{OpAt, EdgeCode, ItemsAt, AreMarked}
use Rattle.simulation.specs.Prelude.{SimulationContext, HasTable, IsOffCode, JumpsTo, PlanStep, EdgeAt, LeapAt, BlockAt, Begins}
use Rattle.code_layout.specs.Prelude.{Moves, IsLaid, items_bytes}
use Rattle.laid_code.specs.Bytes.{HasBytes, RunsCode}
use Rattle.laid_code.specs.Instance.{code_start, Interface, context_of, laid_context, HasWords, HasCodeFor, HasTableOf}
use Rattle.laid_code.specs.Items.{labels_of, edges_of, leaps_of, places_of, AreSwitches, ArePlaced}
use Rattle.laid_code.specs.Plans.{plan_items, last_map, AreRight}

-- Where an op's spelling stands, the op stands.
abbrev pub SpellingsStand : Type 0
SpellingsStand =
    (s : SimulationContext) (code : Code) (reading : List ℕ → Option Fetched) (here : ℕ) (op : Op) →
    RunsCode s code reading → IsInProfile op → HasBytes code here (spelling op) → OpAt s.host s.host_step here op (here + length (spelling op))

-- A jump whose five bytes stand at an address leads to a target, from behind them on counted.
abbrev pub JumpsLead : Type 0
JumpsLead =
    (s : SimulationContext) (code : Code) (reading : List ℕ → Option Fetched) (here target : ℕ) →
    RunsCode s code reading → target < 2 ^ 32 → HasBytes code here (spelling (Jmp ((target + (2 ^ 32 - (here + 5))) % 2 ^ 32))) → JumpsTo s here target

-- Where the bytes of items stand over the home page, the items stand, with their marks, edges and indirect sequences.
abbrev pub ItemsStand : Type 0
ItemsStand =
    (s : SimulationContext) (map : Map) (switch : ℕ → Moves) (code : Code) (reading : List ℕ → Option Fetched) (here : ℕ) (items : List FlowOp) →
    RunsCode s code reading → ArePlaced s → AreSwitches s map switch → All IsLaid items → AreMarked items → HasBytes code here (items_bytes (places_of s switch) here items) →
    ItemsAt s.host s.area s.host_step (labels_of switch here items) (edges_of switch here items) (leaps_of switch here items) here items
    × ((e : EdgeCode) → Contains (edges_of switch here items) e → EdgeAt s map e.target e.at)
    × ((a : ℕ) → Contains (leaps_of switch here items) a → LeapAt s a)

-- Where the bytes of a plan's items stand whose steps are right, the block stands; the switches are those from the map under
-- which the plan ends.
abbrev pub PlansStand : Type 0
PlansStand =
    (s : SimulationContext) (switch : ℕ → Moves) (code : Code) (reading : List ℕ → Option Fetched) (map : Map) (w here : ℕ) (steps : List PlanStep) →
    RunsCode s code reading → ArePlaced s → AreSwitches s (last_map map steps) switch → AreRight s map w steps → HasBytes code here (items_bytes (places_of s switch) here (plan_items w steps)) →
    BlockAt s map w here steps

-- At an address the block of a code word begins; or no code word stands there, and edges to it lead to `hold`.
abbrev pub IsBlockOrOff : SimulationContext → ℕ → Type 0
IsBlockOrOff s w = Begins s w ⊎ (IsOffCode s w × (s.target w ≡ s.hold))

-- The code of the written program carries the block of each code word of P by its plan, where the home page stands apart from P.
abbrev pub BlocksStand : Type 0
BlocksStand =
    (reading : ℕ → Option Instr) (ops : List ℕ → Option Fetched) (P Q : Program) (first entry : ℕ) (words : List ℕ) (live : Sets) (plans : List (List Step)) (area : ℕ) (table : List ℕ) →
    ReadsWords reading → ReadsOps ops → HasWords P first words → HasCodeFor Q first entry words live plans area table → IsHomePage area (rights_of P) (without (code_of Q) (rights_of Q)) →
    (w : ℕ) → IsBlockOrOff (laid_context live reading ops P Q first area table) w

-- `hold` is a jump to itself, under every interface.
abbrev pub HoldStands : Type 0
HoldStands =
    (interface : Interface) (targets : ℕ → ℕ) (reading : ℕ → Option Instr) (ops : List ℕ → Option Fetched) (P Q : Program) (first entry : ℕ) (words : List ℕ) (live : Sets) (plans : List (List Step)) (area : ℕ) (table : List ℕ) →
    ReadsOps ops → HasCodeFor Q first entry words live plans area table → JumpsTo (context_of interface targets reading ops P Q first area table) (code_start area) (code_start area)

-- each word of a table is a host address
abbrev pub AreAddresses : List ℕ → Type 0
AreAddresses table = (k : ℕ) → k < length table → slice_index table k < 2 ^ 32

-- The table of the words' code is made of host addresses.
abbrev pub EntriesAreAddresses : Type 0
EntriesAreAddresses =
    (Q : Program) (first entry : ℕ) (words : List ℕ) (live : Sets) (plans : List (List Step)) (area : ℕ) (table : List ℕ) →
    HasCodeFor Q first entry words live plans area table → AreAddresses table

-- A table of host addresses that stands in memory leads where its words say, and elsewhere nothing but to `hold`: under
-- every interface, wherever edges lead.
abbrev pub TablesStand : Type 0
TablesStand =
    (interface : Interface) (targets : ℕ → ℕ) (reading : ℕ → Option Instr) (ops : List ℕ → Option Fetched) (P Q : Program) (first : ℕ) (words : List ℕ) (area : ℕ) (table : List ℕ) →
    HasWords P first words → length table ≡ length words → AreAddresses table → HasTableOf (context_of interface targets reading ops P Q first area table) table → HasTable (context_of interface targets reading ops P Q first area table)
