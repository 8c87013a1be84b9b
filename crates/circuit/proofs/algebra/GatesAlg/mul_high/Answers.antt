use Rattle.std.proofs.Common.{◌∙◌, ap}
use Rattle.word_kit.specs.Prelude.{bit_of}
use Rattle.circuit.proofs.Values.{word_value-lt}
use Rattle.circuit.proofs.FreeValues.{high_below, free_is}
use Rattle.circuit.proofs.algebra.GatesAlg.mul_high.Goals as goal

pub free_word-requires : goal.free_word-requires
free_word-requires c = record { owned = c.high_product-product.ensures.owned _ c.requires.x_owned c.requires.y_owned; apart = c.high_product-product.ensures.apart }

pub returns-clause-means : goal.returns-clause-means
returns-clause-means c = λ v h. free_is c.in_ok-word.word v _ (high_below c.args.signed _ _ (word_value-lt 32 c.args.x v) (word_value-lt 32 c.args.y v)) (λ k l. c.in_ok-word.ensures.means v h k l ∙ ap (λ n. bit_of n k) (c.high_product-product.ensures.means v))
