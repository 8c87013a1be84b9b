use Rattle.std.proofs.Common.{◌∙◌, sym, ap, arith}
use Rattle.word_kit.specs.Prelude.{product_high}
use Rattle.word_kit.proofs.SignedParts.{product_is}
use Rattle.word_kit.proofs.plain_words.PlainAlg.mul_high.Goals as goal

pub returns-then-signed-clause-makes : goal.returns-then-signed-clause-makes
returns-then-signed-clause-makes c =
    ap (λ w. record { word = w; held = tt }) (product_is c.args.x c.args.y c.cast_unsigned.result c.cast_signed.result c.cast_signed-then-signed.result (omega arith) (omega arith) c.cast_signed.ensures c.cast_signed-then-signed.ensures c.cast_unsigned.ensures ∙ ap (λ s. product_high c.args.x c.args.y s) (sym c.if-signed.true))

pub returns-then-signed-clause-means : goal.returns-then-signed-clause-means
returns-then-signed-clause-means c = λ a h.
    product_is c.args.x c.args.y c.cast_unsigned.result c.cast_signed.result c.cast_signed-then-signed.result (omega arith) (omega arith) c.cast_signed.ensures c.cast_signed-then-signed.ensures c.cast_unsigned.ensures ∙ ap (λ s. product_high c.args.x c.args.y s) (sym c.if-signed.true)
