use Rattle.rule_lines.proofs.Whole.{bodies_run}
use Rattle.rule_lines.proofs.laws.bodies_run.Goals as goal

pub returns : goal.returns
returns c = bodies_run c.ops_have_shapes.ensures.shapes
