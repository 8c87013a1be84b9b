use Rattle.std.proofs.Common.{◌∙◌, ap, map, ◌++◌}
use Rattle.plan_form.specs.Prelude.{written, Does, rows}
use Rattle.plan_form.proofs.TextPrinted.{lines, put-block}
use Rattle.plan_form.proofs.printing.put_block.Goals as goal

pub returns : goal.returns
returns c = put-block c.extend_from_slice.new.self.items c.put_head.new.out.items c.put_steps.new.out.items c.put_rows.new.out.items c.args.out.now.items (written c.args.block.now)
    c.in_ok-extend_from_slice.ensures.items
    (c.in_ok-put_rows.ensures ∙ ap (λ ls. c.put_steps.new.out.items ++ lines (rows 0 (map (λ row. row.items) ls))) c.deref-2.ensures.value)
    (c.in_ok-put_steps.ensures ∙ ap (λ ss. c.put_head.new.out.items ++ lines (map Does ss)) c.deref.ensures.value)
    c.in_ok-put_head.ensures
