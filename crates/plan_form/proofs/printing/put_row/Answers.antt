use Rattle.plan_form.proofs.TextPrinted.{put-label}
use Rattle.plan_form.proofs.printing.put_row.Goals as goal

pub loop-label-preserved : goal.loop-label-preserved
loop-label-preserved c = put-label c.put_decimal-in-loop-label.new.out.items c.push.new.self.items c.loop-label.out.items c.args.out.now.items c.args.place c.args.labels.now c.loop-label.label-index _
    c.loop-label-test.true c.in_ok-put_decimal-2.ensures c.in_ok-push.ensures.items c.loop-label.invariant
