use Rattle.circuit.proofs.Meanings.{and_means}
use Rattle.circuit.proofs.algebra.GatesAlg.and.Goals as goal

pub returns-clause-means : goal.returns-clause-means
returns-clause-means c = λ v h. and_means c.args.x c.args.y c.in_ok-word.word v (c.in_ok-word.ensures.means v h)
