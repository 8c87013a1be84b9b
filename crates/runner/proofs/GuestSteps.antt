-- The guest machine shows its run, step by step.
use Rattle.std.proofs.Common.{◌≡◌, ℕ, Option, refl, sym, ap, subst}
use Rattle.machines.specs.Prelude.{Call, Event, Went, Asked, Ended, Program, ListedCall, AnswerValue, Outcome, Goes, Asks, Instr, ReadsWords, Guest, guest_machine}
use Rattle.machine_calls.specs.Calls.{HasBuffer as KeepsBuffer}
use Rattle.machine_calls.specs.Phases.{IsReady, phase_of, stepped, Tells as TellsEvent}
use Rattle.ppc_step.specs.declared.state.State.{State}
use Rattle.ppc_step.specs.Prelude.{IsState, IsAsking, Seen, Shows, IsTold}
use Rattle.runner.specs.Prelude.{Describes, Tells, ShowsGuest}
use Rattle.runner.proofs.Standing.{described, tells}

-- how the machine stands behind a step
pub stands : (old new : Seen) (event : Event) → IsTold event old new → (new.phase ≡ phase_of event) × IsReady (phase_of event) new.state.memory
stands old new Went is = (is, tt)
stands old new (Asked c) is = (ap (λ m. m.phase) is.0, is.1)
stands old new (Ended e) is = (ap (λ m. m.phase) is.1, is.0)

describes : (p : Program) (s : State) (c : Call) (call : ListedCall) (next : AnswerValue → Guest) → IsAsking p s c call next → KeepsBuffer c s.memory → Describes s.memory c call
describes p s c call next a has = described p a.g.bytes s.memory c call a.lists a.state.memory has

-- a step of the machine
pub step_shows : (old new : Seen) (event : Event) → IsTold event old new
    → ((words : ℕ → Option Instr) → ReadsWords words → (p : Program) (o : Outcome Guest) → Shows p old o → Shows p new (stepped (guest_machine words p) o))
    → ((words : ℕ → Option Instr) → ReadsWords words → (p : Program) (o : Outcome Guest) → Shows p old o → TellsEvent event (stepped (guest_machine words p) o))
    → (step : Guest → Outcome Guest) (o : Outcome Guest) → ShowsGuest old step o → ShowsGuest new step (stepped step o) × Tells new.state.memory event (stepped step o)
step_shows old new event told shows says step o h =
    let p = h.program in
    let made = stepped (guest_machine h.words p) o in
    let shown : Shows p new made = shows h.words h.reads p o h.shows in
    let behind = stands old new event told in
    subst (λ f. ShowsGuest new f (stepped f o) × Tells new.state.memory event (stepped f o)) (sym h.is) (
      record { words = h.words; reads = h.reads; program = p; is = refl; shows = shown },
      tells (IsState p) (IsAsking p) (λ s. s.memory) (describes p) new.state new.phase event made behind.0 behind.1 shown (says h.words h.reads p o h.shows),
    )

-- and the answer to a call
pub answer_shows : (old new : Seen) (answer : AnswerValue)
    → ((p : Program) (call : ListedCall) (next : AnswerValue → Guest) → Shows p old (Asks call next) → Shows p new (Goes (next answer)))
    → (step : Guest → Outcome Guest) (call : ListedCall) (next : AnswerValue → Guest) → ShowsGuest old step (Asks call next) → ShowsGuest new step (Goes (next answer))
answer_shows old new answer goes step call next h =
    record { words = h.words; reads = h.reads; program = h.program; is = h.is; shows = goes h.program call next h.shows }
