use Rattle.std.proofs.Common.{◌∙◌, sym, w64, refl}
use Rattle.std.proofs.lemmas.Int.{to_z-of_z}
use Rattle.word_kit.proofs.SignedParts.{cast_64, told, parts_of_casts}
use Rattle.word_kit.proofs.quotients.signed_parts.Goals as goal

pub returns : goal.returns
returns c =
    let a = c.args.dividend in
    let b = c.args.by in
    let t = told c.try_from.result _ _ c.in_ok-fitting.fitting c.try_from.ensures (sym c.ok.ensures.value ∙ c.in_ok-fitting.was) in
    let p = parts_of_casts a b _ _ c.in_ok-quotient.quotient c.in_ok-fitting.fitting c.cast_unsigned.result c.cast_unsigned-2.result (to_z-of_z w64 a c.ranges.dividend) (cast_64 b c.ranges.by) c.ranges.dividend c.ranges.by c.in_ok-quotient.ensures t c.cast_unsigned.ensures c.cast_unsigned-2.ensures in
    (p.0, rw (p.1.0, p.1.1) refl)
