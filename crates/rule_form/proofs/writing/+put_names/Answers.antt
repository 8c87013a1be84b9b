use Rattle.std.proofs.Common.{arith}
use Rattle.rule_form.proofs.Printed.{put-names}
use Rattle.rule_form.proofs.writing.+put_names.Goals as goal

pub returns-then-bits-eq1 : goal.returns-then-bits-eq1
returns-then-bits-eq1 t c =
    put-names c.put_more_names.result c.put_more_names.new.out.items c.extend_from_slice.new.self.items c.args.out.now.items c.args.names.now c.args.bits _ (omega arith) c.if-bits-eq1.true
    c.put_more_names.ensures c.in_ok-extend_from_slice.ensures.items
