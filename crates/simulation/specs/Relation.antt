-- The relation between guest and host that every step of a plan keeps. This project's own.
use Rattle.std.specs.Prelude.{◌≢◌, ◌<◌, false, [], ◌∷◌, Some, None, ◌≡◌, ℕ, ◌+◌, ◌*◌, ◌≤◌, ◌⊎◌, List, length}
use Rattle.machines.specs.Prelude.{AnswerValue, ended, Running, Map, IsMap, MovTo, MovFrom, Abs, Anywhere, run, AgreesFrom, IsBounded, Advances, Walks, Guest, Host}
use Rattle.reg_map.specs.Prelude.{home, slot_of, IsHomePage, HasSegments}
use Rattle.symbolic_tiles.specs.Prelude.{WritesHeld}
use Rattle.code_layout.specs.Prelude.{no_registers}
use Rattle.simulation.specs.Context.{SimulationContext, HasTable, IsOffCode, JumpsTo, IsGuest, LeadsToGuests, MatchesState, StepKeepsUnwritten, LiveIsEnough}
use Rattle.simulation.specs.Plan.{PlanStep, word_count, room, HasFewMoves, IsMove, SwitchAt, DoorAt, BlockAt, Begins}

module _ (s : SimulationContext) where
  -- The states meet inside a block, with steps of its plan still to come; or on an edge, with moves still to come; or the
  -- guest has left its code, and the host stands at `hold`. p counts the guest's instructions since the block began, and q
  -- the host's ops since the last of them.
  pub data Simulates (p q : ℕ) (g : Guest) (h : Host) : Type 0 where
    at_block : (map : Map) (steps : List PlanStep) → MatchesState s map g h.core → BlockAt s map g.next h.eip steps → p + word_count steps ≤ 64 → HasFewMoves steps → q + room steps ≤ 40 → Simulates p q g h
    on_edge : (map : Map) (maps : List Map) → MatchesState s map g h.core → SwitchAt s g.next maps map h.eip → p ≤ 64 → q + 2 * length maps ≤ 26 → Simulates p q g h
    off_code : IsOffCode s g.next → h.eip ≡ s.hold → p ≤ 64 → q ≤ 28 → Simulates p q g h

  -- The context is that of a translation: the guest's steps lead to states of the guest; the host has the guest's memory and, apart from it, the home page; each code
  -- word's block stands where edges to it lead, and edges off the code lead to `hold`, which is a jump to itself.
  pub record IsTranslation : Type 0 where
    pub page : IsHomePage s.area s.guest s.host
    pub segments : HasSegments s.guest s.host
    pub writes_held : WritesHeld s.guest
    pub guests : (g : Guest) → IsGuest s g → LeadsToGuests s (s.guest_step g)
    pub keeps : (h : Host) → StepKeepsUnwritten s.host h.core (s.host_step h)
    pub live : LiveIsEnough s
    pub blocks : (w : ℕ) → Begins s w ⊎ (IsOffCode s w × (s.target w ≡ s.hold))
    pub holds : JumpsTo s s.hold s.hold
    pub has_table : HasTable s
    pub doors : (w : ℕ) → DoorAt s w

  -- where the runs begin: the host stands where the table leads at the guest's first word, with no GPR in a register
  pub record Starts (g : Guest) (h : Host) : Type 0 where
    pub matches : MatchesState s no_registers g h.core
    pub here : h.eip ≡ s.door g.next

  abbrev pub SimulationIsBounded : Type 0
  SimulationIsBounded = IsBounded s.guest_step s.host_step Anywhere Simulates

  -- from states that meet every step of the plan leads to states that meet, or to the guest's end
  abbrev pub SimulationAdvances : Type 0
  SimulationAdvances = Advances s.guest_step s.host_step Anywhere Simulates

  -- from `hold` the host goes on for ever and lists no call
  abbrev pub HoldHolds : Type 0
  HoldHolds = (m : ℕ) (answers : List AnswerValue) (h : Host) → h.eip ≡ s.hold → run s.host_step m answers h ≡ ended Running

  -- Behind the moves of an edge the states are in a block again, or the guest's next step ends outside and the host is at `hold`.
  pub data Settled (g : Guest) (h : Host) : Type 0 where
    in_block : (map : Map) (steps : List PlanStep) → MatchesState s map g h.core → BlockAt s map g.next h.eip steps → word_count steps ≤ 64 → Settled g h
    holding : IsOffCode s g.next → h.eip ≡ s.hold → Settled g h

  abbrev pub SimulationSettles : Type 0
  SimulationSettles = (p q : ℕ) (g : Guest) (h : Host) → Simulates p q g h → (j : ℕ) × (h' : Host) × Walks Anywhere s.host_step j h h' × Settled g h'

  -- from the start on the host agrees with the guest
  abbrev pub StartAgrees : Type 0
  StartAgrees = (g : Guest) (h : Host) → Starts g h → AgreesFrom s.guest_step s.host_step Anywhere g h

-- Maps that differ in the place of one GPR: a move from its register to its home, or from its home to a register, is a
-- move from one to the other; where it is dead no op is needed.
abbrev pub MovesKeep : Type 0
MovesKeep =
    (s : SimulationContext) → IsHomePage s.area s.guest s.host → (from to : Map) (n : ℕ) → IsMap to → n < 32 → ((x : ℕ) → x ≢ n → slot_of to x ≡ slot_of from x) → (next : ℕ) →
    ((r : ℕ) → slot_of from n ≡ Some r → slot_of to n ≡ None → IsMove s next from to (MovTo (Abs (home n)) r ∷ []))
    × ((r : ℕ) → slot_of from n ≡ None → slot_of to n ≡ Some r → IsMove s next from to (MovFrom r (Abs (home n)) ∷ []))
    × (s.live next n ≡ false → IsMove s next from to [])
