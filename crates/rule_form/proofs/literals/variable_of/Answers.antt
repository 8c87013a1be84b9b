use Rattle.rule_form.proofs.ClauseWords.{not-zero}
use Rattle.rule_form.proofs.literals.variable_of.Goals as goal

pub returns-then-number-eq0 : goal.returns-then-number-eq0
returns-then-number-eq0 c = λ n some small e. not-zero c.args.word.now c.in-Some.number n c.if-number-eq0.true c.in-Some.ensures.1 some small e
