use Rattle.std.proofs.Common.{arith}
use Rattle.rule_match.proofs.matching.goal_lengths.Goals as goal

pub returns : goal.returns
returns c = (omega arith, omega arith, omega arith)
