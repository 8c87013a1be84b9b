use Rattle.std.proofs.Common.{◌∙◌, ap, arith}
use Rattle.circuit.specs.Prelude.{word_value}
use Rattle.circuit.proofs.Meanings.{lit_means, lit_owned, owned_of}
use Rattle.circuit.proofs.algebra.GatesAlg.lit.Goals as goal

pub returns-clause-owned : goal.returns-clause-owned
returns-clause-owned c = owned_of _ _ _ c.literal_word.ensures (lit_owned c.args.value _)

pub returns-clause-means : goal.returns-clause-means
returns-clause-means c = λ v. ap (λ w. word_value 32 w v) c.literal_word.ensures ∙ lit_means c.args.value v (omega arith)
