use Rattle.std.proofs.Common.{refl}
use Rattle.machines.specs.Prelude.{Ended, Illegal}
use Rattle.ppc_step.proofs.Stepping.{executed, illegal}
use Rattle.ppc_step.proofs.state.State.step.Goals as goal

pub returns-in-Some-decode-clause-leads : goal.returns-in-Some-decode-clause-leads
returns-in-Some-decode-clause-leads c = λ words reads p g is.
    executed p words reads c.args.self.now g c.act.result c.act.new.self is c.in-Some.word c.in-Some.ensures c.in-Some-decode.instr c.in-Some-decode.ensures.found
    (c.act.ensures.leads p g is)

pub returns-in-None-clause-leads : goal.returns-in-None-clause-leads
returns-in-None-clause-leads c = λ words reads p g is.
    illegal p words reads c.args.self.now g (Ended Illegal) c.args.self.now is c.in-Some.word c.in-Some.ensures refl c.in-None.ensures.only
