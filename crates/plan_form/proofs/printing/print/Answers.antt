use Rattle.plan_form.proofs.TextPrinted.{put-plan}
use Rattle.plan_form.proofs.printing.print.Goals as goal

pub loop-plan-preserved : goal.loop-plan-preserved
loop-plan-preserved c = put-plan c.put_block.new.out.items c.loop-plan.out.items c.args.plans.now c.loop-plan.plan-index c.plan-item.result c.plan-item.result
    c.loop-plan-test.true c.plan-item.is c.in_ok-put_block.ensures c.loop-plan.invariant
