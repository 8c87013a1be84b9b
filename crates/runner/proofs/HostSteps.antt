-- The host machine shows its run, step by step.
use Rattle.std.proofs.Common.{◌≡◌, ℕ, List, Option, refl, sym, ap, subst}
use Rattle.machines.specs.Prelude.{Call, Event, Went, Asked, Ended, Program, ListedCall, AnswerValue, Outcome, Goes, Asks, Fetched, ReadsOps, Host, host_machine}
use Rattle.machine_calls.specs.Calls.{HasBuffer as KeepsBuffer}
use Rattle.machine_calls.specs.Phases.{IsReady, phase_of, stepped, Tells as TellsEvent}
use Rattle.ia_step.specs.declared.state.State.{State}
use Rattle.ia_step.specs.Prelude.{IsState, IsAsking, Seen, Shows, IsTold}
use Rattle.runner.specs.Prelude.{Describes, Tells, ShowsHost}
use Rattle.runner.proofs.Standing.{described, tells}

-- how the machine stands behind a step
pub stands : (old new : Seen) (event : Event) → IsTold event old new → (new.phase ≡ phase_of event) × IsReady (phase_of event) new.state.parts.space
stands old new Went is = (is, tt)
stands old new (Asked c) is = is
stands old new (Ended e) is = (ap (λ m. m.phase) is.1, is.0)

describes : (p : Program) (s : State) (c : Call) (call : ListedCall) (next : AnswerValue → Host) → IsAsking p s c call next → KeepsBuffer c s.parts.space → Describes s.parts.space c call
describes p s c call next a has = described p a.h.core.bytes s.parts.space c call a.lists a.core.memory has

-- a step of the machine
pub step_shows : (old new : Seen) (event : Event) → IsTold event old new
    → ((ops : List ℕ → Option Fetched) → ReadsOps ops → (p : Program) (o : Outcome Host) → Shows p old o → Shows p new (stepped (host_machine ops p) o))
    → ((ops : List ℕ → Option Fetched) → ReadsOps ops → (p : Program) (o : Outcome Host) → Shows p old o → TellsEvent event (stepped (host_machine ops p) o))
    → (step : Host → Outcome Host) (o : Outcome Host) → ShowsHost old step o → ShowsHost new step (stepped step o) × Tells new.state.parts.space event (stepped step o)
step_shows old new event told shows says step o h =
    let p = h.program in
    let made = stepped (host_machine h.ops p) o in
    let shown : Shows p new made = shows h.ops h.reads p o h.shows in
    let behind = stands old new event told in
    subst (λ f. ShowsHost new f (stepped f o) × Tells new.state.parts.space event (stepped f o)) (sym h.is) (
      record { ops = h.ops; reads = h.reads; program = p; is = refl; shows = shown },
      tells (IsState p) (IsAsking p) (λ s. s.parts.space) (describes p) new.state new.phase event made behind.0 behind.1 shown (says h.ops h.reads p o h.shows),
    )

-- and the answer to a call
pub answer_shows : (old new : Seen) (answer : AnswerValue)
    → ((p : Program) (call : ListedCall) (next : AnswerValue → Host) → Shows p old (Asks call next) → Shows p new (Goes (next answer)))
    → (step : Host → Outcome Host) (call : ListedCall) (next : AnswerValue → Host) → ShowsHost old step (Asks call next) → ShowsHost new step (Goes (next answer))
answer_shows old new answer goes step call next h =
    record { ops = h.ops; reads = h.reads; program = h.program; is = h.is; shows = goes h.program call next h.shows }
