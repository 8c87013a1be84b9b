use Rattle.plan_form.proofs.TextEnds.{again}
use Rattle.plan_form.proofs.parsing.parse.Goals as goal

pub returns-clause-again : goal.returns-clause-again
returns-clause-again c = again c.args.text.now c.read.result c.read.ensures.found c.read.ensures.fault
