use Rattle.std.proofs.Common.{◌∙◌, ap}
use Rattle.plan_form.proofs.TextPrinted.{put-row}
use Rattle.plan_form.proofs.printing.put_rows.Goals as goal

pub loop-place-preserved : goal.loop-place-preserved
loop-place-preserved c = put-row c.put_row.new.out.items c.loop-place.out.items c.args.out.now.items c.deref.result.now c.args.labels.now c.loop-place.place c.index-labels-place.result
    c.loop-place-test.true (c.deref.ensures.value ∙ ap (λ v. v.items) c.index-labels-place.is) c.in_ok-put_row.ensures c.loop-place.invariant
