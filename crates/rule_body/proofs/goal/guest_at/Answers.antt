use Rattle.std.proofs.Common.{arith, false}
use Rattle.rule_body.proofs.Guests.{guest-at}
use Rattle.rule_body.proofs.goal.guest_at.Goals as goal

pub returns : goal.returns
returns c = guest-at c.args.goal.now.words c.args.goal.now.free c.args.goal.now.count c.args.place false (omega arith) (omega arith) (omega arith)
