use Rattle.code_layout.proofs.Spelled.{spelled-more, spelled-longer, spelled-all, spelled-whole}
use Rattle.code_layout.proofs.code.put_ops.Goals as goal

pub loop-op-preserved : goal.loop-op-preserved
loop-op-preserved c = record {
  bytes = spelled-more c.args.ops.now c.loop-op.op-index _ c.loop-op.code.items c.put_op.new.code.items _ c.loop-op-test.true c.in_ok-put_op.ensures.spelled c.loop-op.invariant.bytes;
  length = spelled-longer c.args.ops.now c.loop-op.op-index _ _ _ _ c.loop-op-test.true c.in_ok-put_op.ensures.length c.loop-op.invariant.length;
}

pub returns-clause-spelled : goal.returns-clause-spelled
returns-clause-spelled c = spelled-all c.args.ops.now c.loop-op.op-index c.loop-op.code.items _ c.loop-op-test.false c.loop-op.invariant.bytes

pub returns-clause-length : goal.returns-clause-length
returns-clause-length c = spelled-whole c.args.ops.now c.loop-op.op-index _ _ c.loop-op-test.false c.loop-op.invariant.length
