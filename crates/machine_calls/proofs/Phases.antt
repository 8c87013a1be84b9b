-- What machines show behind a step.
use Rattle.std.proofs.Common.{◌≡◌, sym, refl, ap, subst}
use Rattle.machines.specs.Prelude.{Call, Event, Went, Asked, Ended, ListedCall, AnswerValue, Outcome, Goes, Asks, Ends}
use Rattle.machine_calls.specs.declared.phase.Phase.{Phase}
use Rattle.machine_calls.specs.declared.phase.Phase.TheVariants.{Going, Waiting, Over}
use Rattle.machine_calls.specs.Phases.{phase_of, stepped, Tells, LeadsTo, ShownBy}

module _ {M S : Type 0} (IsState : M → S → Type 0) (IsAsking : M → Call → ListedCall → (AnswerValue → S) → Type 0) where
  outcome_shown : (event : Event) (m : M) (o : Outcome S) → LeadsTo IsState IsAsking event m o → ShownBy IsState IsAsking m (phase_of event) o × Tells event o
  outcome_shown Went m (Goes s) l = ((refl, l), tt)
  outcome_shown Went m (Asks call next) l = absurd l
  outcome_shown Went m (Ends f) l = absurd l
  outcome_shown (Asked c) m (Goes s) l = absurd l
  outcome_shown (Asked c) m (Asks call next) l = ((c, refl, l), tt)
  outcome_shown (Asked c) m (Ends f) l = absurd l
  outcome_shown (Ended e) m (Goes s) l = absurd l
  outcome_shown (Ended e) m (Asks call next) l = absurd l
  outcome_shown (Ended e) m (Ends f) l = (ap Over (sym l), l)

  -- a machine that goes on shows the outcome of its step
  pub step_shown : (step : S → Outcome S) (old new : M) (phase : Phase) (event : Event) (o : Outcome S) → phase ≡ Going
      → ((s : S) → IsState old s → LeadsTo IsState IsAsking event new (step s)) → ShownBy IsState IsAsking old phase o
      → ShownBy IsState IsAsking new (phase_of event) (stepped step o) × Tells event (stepped step o)
  step_shown step old new phase event (Goes s) going leads shown = outcome_shown event new (step s) (leads s shown.1)
  step_shown step old new phase event (Asks call next) going leads shown = let waits = shown.1 in absurd cc
  step_shown step old new phase event (Ends e) going leads shown = absurd cc

  -- the call that waits is the one that is asked
  pub is_asking : (m : M) (phase : Phase) (c : Call) (call : ListedCall) (next : AnswerValue → S) → ShownBy IsState IsAsking m phase (Asks call next)
      → phase ≡ Waiting c → IsAsking m c call next
  is_asking m phase c call next shown waits =
      let first = shown.1 in
      let same : shown.0 ≡ c = cc in
      subst (λ x. IsAsking m x call next) same shown.2
