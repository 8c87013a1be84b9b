use Rattle.machines.specs.Prelude.{answer_value}
use Rattle.ppc_step.proofs.Asking.{given_result, given_error}
use Rattle.ppc_step.proofs.state.State.resume.Goals as goal

pub returns-in-Ok : goal.returns-in-Ok
returns-in-Ok c = λ p listed next k.
    given_result p c.args.self.now c.succeed.new.self c.args.call.now listed next k (answer_value c.args.answer) c.give.new.memory c.in-Ok.value
    (c.in-Ok.ensures.gives p k.g.bytes k.state.memory) (λ g is. c.succeed.ensures.state p g is)

pub returns-in-Err : goal.returns-in-Err
returns-in-Err c = λ p listed next k.
    given_error p c.args.self.now c.fail.new.self c.args.call.now listed next k (answer_value c.args.answer) c.give.new.memory c.in-Err.error
    (c.in-Err.ensures.gives p k.g.bytes k.state.memory) (λ g is. c.fail.ensures.state p g is)
