use Rattle.machines.specs.Prelude.{answer_value}
use Rattle.ia_step.proofs.Resuming.{given_result, given_error}
use Rattle.ia_step.proofs.state.State.resume.Goals as goal

pub returns-in-Ok : goal.returns-in-Ok
returns-in-Ok c = λ p listed next k.
    given_result p c.args.self.now c.put_reg.new.self c.args.call.now listed next k (answer_value c.args.answer) c.give.new.memory c.in-Ok.value
    (c.in-Ok.ensures.gives p k.h.core.bytes k.core.memory) (λ core is. c.put_reg.ensures p core is)

pub returns-in-Err : goal.returns-in-Err
returns-in-Err c = λ p listed next k.
    given_error p c.args.self.now c.put_reg-in-Err.new.self c.args.call.now listed next k (answer_value c.args.answer) c.give.new.memory c.in-Err.error c.negated.result
    (c.in-Err.ensures.gives p k.h.core.bytes k.core.memory) c.negated.ensures (λ core is. c.put_reg-in-Err.ensures p core is)
