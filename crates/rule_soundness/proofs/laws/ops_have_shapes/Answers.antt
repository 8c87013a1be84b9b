use Rattle.rule_soundness.proofs.HostTable.{ops_have_shapes, ops_leave_at_most}
use Rattle.rule_soundness.proofs.laws.ops_have_shapes.Goals as goal

pub returns : goal.returns
returns c = record { shapes = ops_have_shapes; leaves = ops_leave_at_most }
