use Rattle.std.proofs.Common.{◌≡◌, length, sym, ap, ◌∙◌, true, false}
use Rattle.std.proofs.lemmas.Bool.{false≢true}
use Rattle.hex.specs.Hex.{encode_lower}
use Rattle.ia_codec.specs.Prelude.{spelling}
use Rattle.rule_form.proofs.WordFields.{spelt, same-op}
use Rattle.rule_form.proofs.fields.op_in.Goals as goal

pub returns-in_default : goal.returns-in_default
returns-in_default c = λ op h is e. c.in_default.not-Some _ (c.decode.ensures.only op (length c.args.bytes.now) (spelt op c.args.bytes.now h is))

pub returns-else-is_hexadecimal : goal.returns-else-is_hexadecimal
returns-else-is_hexadecimal c = λ op h is e.
    let f = c.decode.ensures.only op (length c.args.bytes.now) (spelt op c.args.bytes.now h is) in
    let same = same-op c.decode.result op c.in-Some.op _ _ f c.in-Some.is in
    let t = c.is_hexadecimal.ensures.1 (e ∙ ap encode_lower (ap spelling same ∙ sym c.encode-spelled.ensures.spelled)) in
    let u : true ≡ false = sym t ∙ c.if-is_hexadecimal.false in
    false≢true (sym u)
