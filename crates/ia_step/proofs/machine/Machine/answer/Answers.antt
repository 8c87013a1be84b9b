use Rattle.std.proofs.Common.{refl}
use Rattle.machine_calls.proofs.Phases.{is_asking}
use Rattle.ia_step.specs.Prelude.{IsState, IsAsking}
use Rattle.ia_step.proofs.machine.Machine.answer.Goals as goal

pub returns-clause-shows : goal.returns-clause-shows
returns-clause-shows c = λ p call next shown.
    let s = rw (← c.self.view_is) at shown in
    (refl, c.resume.ensures p call next (is_asking (IsState p) (IsAsking p) c.self.inside.state c.self.inside.phase c.in-Waiting.call call next s c.in-Waiting.is))
