use Rattle.chosen_inputs.proofs.Alike.{flag_pushed, flag_pushed_owned}
use Rattle.chosen_inputs.proofs.pairs.push_flag.Goals as goal

pub returns-clause-alike : goal.returns-clause-alike
returns-clause-alike c = λ w. flag_pushed w c.args.pairs.now.items _ c.args.x c.args.y c.in_ok-push.ensures.items

pub returns-clause-owned : goal.returns-clause-owned
returns-clause-owned c = λ m. flag_pushed_owned m c.args.pairs.now.items _ c.args.x c.args.y c.in_ok-push.ensures.items
