-- How a machine stands behind a step.
use Rattle.std.proofs.Common.{◌≡◌, ℕ, List, Option, refl, ap}
use Rattle.machines.specs.Prelude.{Event, Went, Asked, Ended, Program, Outcome, Host, host_machine, Fetched}
use Rattle.machine_calls.specs.declared.phase.Phase.{Phase}
use Rattle.machine_calls.specs.declared.phase.Phase.TheVariants.{Going, Over}
use Rattle.machine_calls.specs.Phases.{IsReady, Tells, phase_of, stepped}
use Rattle.machine_calls.proofs.Phases.{step_shown}
use Rattle.ia_step.specs.Prelude.{State, IsState, IsAsking, IsDone, Leads, Shows, IsTold}

-- what the machine shows behind a step
pub steps : (p : Program) (ops : List ℕ → Option Fetched) (s new : State) (phase : Phase) (event : Event) (o : Outcome Host) → phase ≡ Going
    → ((h : Host) → IsState p s h → Leads p event new (host_machine ops p h)) → Shows p (record { state = s; phase = phase }) o
    → Shows p (record { state = new; phase = phase_of event }) (stepped (host_machine ops p) o) × Tells event (stepped (host_machine ops p) o)
steps p ops s new phase event o going leads shown = step_shown (IsState p) (IsAsking p) (host_machine ops p) s new phase event o going leads shown

pub ready : (event : Event) (old new : State) → IsDone event old new → IsReady (phase_of event) new.parts.space
ready Went old new d = tt
ready (Asked c) old new d = d
ready (Ended e) old new d = d.0

pub is_told : (event : Event) (s new : State) (phase : Phase) → IsDone event s new
    → IsTold event (record { state = s; phase = phase }) (record { state = new; phase = phase_of event })
is_told Went s new phase d = refl
is_told (Asked c) s new phase d = (refl, d)
is_told (Ended e) s new phase d = (d.0, ap (λ (t : State). record { state = t; phase = Over e }) d.1)
