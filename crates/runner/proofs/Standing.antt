-- What a machine tells by an event, where it shows its run.
use Rattle.std.proofs.Common.{◌≡◌, ℕ, true, false, subst, refl, sym, ap, ◌∙◌, arith}
use Rattle.machines.specs.Prelude.{Call, CallKind, Event, Went, Asked, Ended, Program, ListedCall, AnswerValue, Outcome, Goes, Asks, Ends}
use Rattle.space.specs.declared.call.CallKind.TheVariants as kind
use Rattle.space.specs.Memory.{Memory}
use Rattle.access.specs.Kept.{Keeps}
use Rattle.machine_calls.specs.declared.phase.Phase.{Phase}
use Rattle.machine_calls.specs.declared.phase.Phase.TheVariants.{Going, Waiting, Over}
use Rattle.machine_calls.specs.Calls.{HasBuffer as KeepsBuffer, listed_as, listed_call, has_right}
use Rattle.machine_calls.specs.Phases.{IsReady, IsWaiting, is_waiting, phase_of, ShownBy, Tells as TellsEvent}
use Rattle.runner.specs.Prelude.{Describes, Tells, IsHeld, is_asked}
use Rattle.runner.proofs.Called.{described_write}

pub free : (phase : Phase) → is_waiting phase ≡ false → IsWaiting phase → ⊥
free Going e w = grind arith
free (Waiting c) e w = grind arith
free (Over f) e w = grind arith

pub waiting : (phase : Phase) → is_waiting phase ≡ true → IsWaiting phase
waiting Going e = absurd (grind arith)
waiting (Waiting c) e = (c, refl)
waiting (Over f) e = absurd (grind arith)

pub waits : (phase : Phase) (event : Event) → phase ≡ phase_of event → is_waiting phase ≡ is_asked event
waits phase Went is = ap is_waiting is
waits phase (Asked c) is = ap is_waiting is
waits phase (Ended e) is = ap is_waiting is

buffered : (m : Memory) (c : Call) → KeepsBuffer c m → IsHeld m c
buffered m c has = λ is. subst (λ (k : CallKind). has_right k m c.at c.count) is has

described_as : (p : Program) (f : ℕ → ℕ) (m : Memory) (c : Call) (k : CallKind) → c.kind ≡ k → Keeps p f m → IsHeld m c → Describes m c (listed_as k c.fd c.at c.count f)
described_as p f m c kind.Read is keeps held = record { kind = is; file = refl; count = refl }
described_as p f m c kind.Write is keeps held = described_write p f m c keeps is (held is)
described_as p f m c kind.Close is keeps held = record { kind = is; file = refl }

-- a call describes what is listed of it
pub described : (p : Program) (f : ℕ → ℕ) (m : Memory) (c : Call) (call : ListedCall) → call ≡ listed_call c f → Keeps p f m → KeepsBuffer c m → Describes m c call
described p f m c call lists keeps has = rw lists (described_as p f m c c.kind refl keeps (buffered m c has))

same_call : (c d : Call) → Waiting c ≡ Waiting d → c ≡ d
same_call c d e = grind arith

module _ {M S : Type 0} (IsState : M → S → Type 0) (IsAsking : M → Call → ListedCall → (AnswerValue → S) → Type 0) (memory : M → Memory)
    (describes : (m : M) (c : Call) (call : ListedCall) (next : AnswerValue → S) → IsAsking m c call next → KeepsBuffer c (memory m) → Describes (memory m) c call) where
  -- the event tells of the outcome that the machine shows
  pub tells : (m : M) (phase : Phase) (event : Event) (o : Outcome S) → phase ≡ phase_of event → IsReady (phase_of event) (memory m)
      → ShownBy IsState IsAsking m phase o → TellsEvent event o → Tells (memory m) event o
  tells m phase Went (Goes s) is ready shown told = tt
  tells m phase (Asked c) (Asks call next) is ready shown told =
      let one : shown.0 ≡ c = same_call shown.0 c (sym shown.1 ∙ is) in
      describes m c call next (subst (λ x. IsAsking m x call next) one shown.2) ready
  tells m phase (Ended e) (Ends f) is ready shown told = (sym told, rw told ready)
  tells m phase Went (Asks call next) is ready shown told = elim told [ ]
  tells m phase Went (Ends f) is ready shown told = elim told [ ]
  tells m phase (Asked c) (Goes s) is ready shown told = elim told [ ]
  tells m phase (Asked c) (Ends f) is ready shown told = elim told [ ]
  tells m phase (Ended e) (Goes s) is ready shown told = elim told [ ]
  tells m phase (Ended e) (Asks call next) is ready shown told = elim told [ ]
