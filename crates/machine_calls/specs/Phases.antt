-- How a machine stands between its steps, and where a run stands behind one.
use Rattle.std.specs.Prelude.{◌≡◌, ◌≢◌, Bool, true, false}
use Rattle.machines.specs.Prelude.{Call, End, Running, Dry, Event, Went, Asked, Ended, ListedCall, AnswerValue, Outcome, Goes, Asks, Ends}
use Rattle.space.specs.Memory.{Memory}
use Rattle.machine_calls.specs.Calls.{HasBuffer}
use Rattle.machine_calls.specs.declared.phase.Phase.{Phase}
use Rattle.machine_calls.specs.declared.phase.Phase.TheVariants.{Going, Waiting, Over}

-- no step ends so: these stand in reports alone
abbrev pub IsEnd : End → Type 0
IsEnd e = (e ≢ Running) × (e ≢ Dry)

-- how a machine stands behind a step
abbrev pub phase_of : Event → Phase
phase_of Went = Going
phase_of (Asked c) = Waiting c
phase_of (Ended e) = Over e

-- a call waits
abbrev pub IsWaiting : Phase → Type 0
IsWaiting phase = (c : Call) × (phase ≡ Waiting c)

-- the same as a test
abbrev pub is_waiting : Phase → Bool
is_waiting Going = false
is_waiting (Waiting c) = true
is_waiting (Over e) = false

-- the buffer of a call that waits is held, and a run is over with an end
abbrev pub IsReady : Phase → Memory → Type 0
IsReady Going m = Unit {0}
IsReady (Waiting c) m = HasBuffer c m
IsReady (Over e) m = IsEnd e

-- where a run stands behind a step: a call stays open until it is answered, and an end stays
abbrev pub stepped : {S : Type 0} → (S → Outcome S) → Outcome S → Outcome S
stepped step (Goes s) = step s
stepped step (Asks call next) = Asks call next
stepped step (Ends e) = Ends e

-- the event is that of the outcome
abbrev pub Tells : {S : Type 0} → Event → Outcome S → Type 0
Tells Went (Goes s) = Unit {0}
Tells (Asked c) (Asks call next) = Unit {0}
Tells (Ended e) (Ends f) = f ≡ e
Tells _ _ = ⊥

-- What a machine shows of a run, where `IsState` says that what it goes on from is a state of the run, and `IsAsking` that
-- a call of the machine is the one that is listed, behind which the run goes on so.
module _ {M S : Type 0} (IsState : M → S → Type 0) (IsAsking : M → Call → ListedCall → (AnswerValue → S) → Type 0) where
  -- The event of a step tells the outcome, and the machine shows it.
  abbrev pub LeadsTo : Event → M → Outcome S → Type 0
  LeadsTo Went m (Goes s) = IsState m s
  LeadsTo (Asked c) m (Asks call next) = IsAsking m c call next
  LeadsTo (Ended e) m (Ends f) = f ≡ e
  LeadsTo _ m _ = ⊥

  -- A machine that stands so shows the outcome.
  abbrev pub ShownBy : M → Phase → Outcome S → Type 0
  ShownBy m phase (Goes s) = (phase ≡ Going) × IsState m s
  ShownBy m phase (Asks call next) = (c : Call) × (phase ≡ Waiting c) × IsAsking m c call next
  ShownBy m phase (Ends e) = phase ≡ Over e
