-- What a machine shows of the run of a program, and what an event tells of a step.
use Rattle.std.specs.Prelude.{◌≡◌, ℕ, List, Option, Result, Ok, Err}
use Rattle.machines.specs.Prelude.{Event, Went, Asked, Ended, End, Program, Outcome, Ends, Op, rights_of, Host, host_machine, host_acts, Fetched}
use Rattle.space.specs.Memory.{Memory}
use Rattle.machine_calls.specs.declared.phase.Phase.{Phase}
use Rattle.machine_calls.specs.declared.phase.Phase.TheVariants.{Going, Waiting, Over}
use Rattle.machine_calls.specs.Calls.{HasBuffer}
use Rattle.machine_calls.specs.Phases.{IsEnd, LeadsTo, ShownBy}
use Rattle.ia_step.specs.declared.state.State.{State}
use Rattle.ia_step.specs.Shown.{IsState}
use Rattle.ia_step.specs.Calls.{IsAsking}

-- What an event says of a step from `old` to `new`, whatever program runs: an end changes nothing.
abbrev pub IsDone : Event → State → State → Type 0
IsDone Went old new = Unit {0}
IsDone (Asked c) old new = HasBuffer c new.parts.space
IsDone (Ended e) old new = IsEnd e × (new ≡ old)

-- The event of a step to `new` tells what the host did, and the state shows it.
abbrev pub Leads : Program → Event → State → Outcome Host → Type 0
Leads p event new o = LeadsTo (IsState p) (IsAsking p) event new o

-- the next op of a state of the host and the address behind it; or the end where there is none
abbrev pub Fetches : (List ℕ → Option Fetched) → Program → Host → Result (Op × ℕ) End → Type 0
Fetches ops p h (Ok x) = host_machine ops p h ≡ host_acts (rights_of p) x.0 x.1 h
Fetches ops p h (Err e) = host_machine ops p h ≡ Ends e

-- a machine as contracts see it
pub record Seen : Type 0 where
  pub state : State
  pub phase : Phase

abbrev pub memory_of : Seen → Memory
memory_of m = m.state.parts.space

-- the machine shows the outcome of a run of the program
abbrev pub Shows : Program → Seen → Outcome Host → Type 0
Shows p m o = ShownBy (IsState p) (IsAsking p) m.state m.phase o

-- What an event says of a step, whatever program runs: how the machine stands, and that an end changes nothing else.
abbrev pub IsTold : Event → Seen → Seen → Type 0
IsTold Went old new = new.phase ≡ Going
IsTold (Asked c) old new = (new.phase ≡ Waiting c) × HasBuffer c (memory_of new)
IsTold (Ended e) old new = IsEnd e × (new ≡ record old { phase = Over e })
