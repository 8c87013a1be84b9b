use Rattle.std.proofs.Common.{◌∙◌, ap}
use Rattle.word_kit.specs.Prelude.{bit_of}
use Rattle.circuit.proofs.FreeValues.{low_below, free_is}
use Rattle.circuit.proofs.algebra.GatesAlg.mul_low.Goals as goal

pub free_word-requires : goal.free_word-requires
free_word-requires c = record { owned = c.low_product-product.ensures.owned _ c.requires.x_owned c.requires.y_owned; apart = c.low_product-product.ensures.apart }

pub returns-clause-means : goal.returns-clause-means
returns-clause-means c = λ v h. free_is c.in_ok-word.word v _ (low_below _ _) (λ k l. c.in_ok-word.ensures.means v h k l ∙ ap (λ n. bit_of n k) (c.low_product-product.ensures.means v))
