use Rattle.std.proofs.Common.{◌∙◌, ap, arith}
use Rattle.circuit.specs.Prelude.{word_value}
use Rattle.circuit.proofs.Meanings.{not_means}
use Rattle.circuit.proofs.algebra.GatesAlg.not.Goals as goal

pub returns-clause-means : goal.returns-clause-means
returns-clause-means c = λ v. ap (λ w. word_value 32 w v) c.complement_of.ensures.made ∙ not_means c.args.x v (omega arith)
