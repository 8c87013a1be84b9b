use Rattle.ia_step.proofs.Cores.{both_put}
use Rattle.ia_step.proofs.parts.Parts.put_both.Goals as goal

pub returns : goal.returns
returns c = λ p core e s made.
    both_put p c.put_reg-2.new.self core _ c.flags_of-self.result e (c.put_reg-2.ensures p _ (c.put_reg.ensures p core s)) c.flags_of-self.ensures made
