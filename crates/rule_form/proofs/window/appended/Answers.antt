use Rattle.std.proofs.Common.{arith}
use Rattle.rule_form.proofs.Growing.{guests-set}
use Rattle.rule_form.proofs.window.appended.Goals as goal

pub returns-clause-guests : goal.returns-clause-guests
returns-clause-guests c = guests-set c.args.goal.words c.args.goal.free c.args.goal.count c.args.guest.word c.args.guest.free (omega arith) (omega arith)
