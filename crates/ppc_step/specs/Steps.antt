-- What a machine shows of the run of a program, and what an event tells of a step.
use Rattle.std.specs.Prelude.{◌≡◌}
use Rattle.machines.specs.Prelude.{Event, Went, Asked, Ended, Program, Outcome, Guest}
use Rattle.machine_calls.specs.declared.phase.Phase.{Phase}
use Rattle.machine_calls.specs.declared.phase.Phase.TheVariants.{Going, Waiting, Over}
use Rattle.machine_calls.specs.Calls.{HasBuffer}
use Rattle.machine_calls.specs.Phases.{IsEnd, LeadsTo, ShownBy}
use Rattle.ppc_step.specs.declared.state.State.{State}
use Rattle.ppc_step.specs.Shown.{IsState}
use Rattle.ppc_step.specs.Calls.{IsAsking}

-- What an event says of a step from `old` to `new`, whatever program runs: a call and an end change nothing.
abbrev pub IsDone : Event → State → State → Type 0
IsDone Went old new = Unit {0}
IsDone (Asked c) old new = HasBuffer c new.memory × (new ≡ old)
IsDone (Ended e) old new = IsEnd e × (new ≡ old)

-- The event of a step to `new` tells what the guest did, and the state shows it.
abbrev pub Leads : Program → Event → State → Outcome Guest → Type 0
Leads p event new o = LeadsTo (IsState p) (IsAsking p) event new o

-- a machine as contracts see it
pub record Seen : Type 0 where
  pub state : State
  pub phase : Phase

-- the machine shows the outcome of a run of the program
abbrev pub Shows : Program → Seen → Outcome Guest → Type 0
Shows p m o = ShownBy (IsState p) (IsAsking p) m.state m.phase o

-- What an event says of a step, whatever program runs: how the machine stands, and that an end changes nothing else.
abbrev pub IsTold : Event → Seen → Seen → Type 0
IsTold Went old new = new.phase ≡ Going
IsTold (Asked c) old new = (new ≡ record old { phase = Waiting c }) × HasBuffer c new.state.memory
IsTold (Ended e) old new = IsEnd e × (new ≡ record old { phase = Over e })
