use Rattle.rule_form.proofs.ClauseWords.{literal-at}
use Rattle.rule_form.proofs.literals.literals_of.Goals as goal

pub returns-in_default : goal.returns-in_default
returns-in_default c = λ zs h e. literal-at c.args.words.now zs c.loop-word.word-index _ h e c.loop-word-test.true c.in_default.ensures
