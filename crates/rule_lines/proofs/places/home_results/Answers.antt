use Rattle.std.proofs.Common.{arith}
use Rattle.rule_lines.proofs.Parameters.{home_bounds}
use Rattle.rule_lines.proofs.places.home_results.Goals as goal

pub overflow_cast-result-else-offset-lt128 : goal.overflow_cast-result-else-offset-lt128
overflow_cast-result-else-offset-lt128 c = let h = home_bounds c.args.slots.now c.args.offset c.args.size c.requires.few c.requires.operand in let m = h.1 in omega (arith, m)
