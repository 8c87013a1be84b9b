use Rattle.access_circuits.proofs.Pushed.{access_pushed, access_pushed_owned}
use Rattle.access_circuits.proofs.accesses.push_access.Goals as goal

pub returns-clause-means : goal.returns-clause-means
returns-clause-means c = λ w ts a. access_pushed w c.args.accesses.now.items _ c.args.access ts a c.in_ok-push.ensures.items

pub returns-clause-owned : goal.returns-clause-owned
returns-clause-owned c = λ m. access_pushed_owned m c.args.accesses.now.items _ c.args.access c.in_ok-push.ensures.items
