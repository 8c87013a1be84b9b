use Rattle.std.proofs.Common.{◌/◌, length, sym, ◌∙◌, arith, refl}
use Rattle.rule_form.proofs.WordFields.{short, no_op, one_op, taken}
use Rattle.rule_form.proofs.fields.op_of.Goals as goal

pub returns-then-len-gt12 : goal.returns-then-len-gt12
returns-then-len-gt12 c = λ op h e. let s = (short op c.args.word.now e).1 in absurd (omega (arith, s))

pub returns-then-is_err : goal.returns-then-is_err
returns-then-is_err c =
    no_op c.args.word.now c.decode_to_slice.new.out _ (length c.args.word.now / 2) c.decode_to_slice.result refl c.decode_to_slice.auto.out (taken (length c.args.word.now / 2) _ c.if-len-gt12.false) c.decode_to_slice.ensures.value
    (sym c.is_err.ensures.value ∙ c.if-is_err.true)

pub returns : goal.returns
returns c =
    one_op c.args.word.now c.decode_to_slice.new.out _ (length c.args.word.now / 2) c.decode_to_slice.result refl c.decode_to_slice.auto.out (taken (length c.args.word.now / 2) _ c.if-len-gt12.false) c.decode_to_slice.ensures.value
    _ c.op_in.result c.op_in.ensures
