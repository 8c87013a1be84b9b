use Rattle.circuit.proofs.Meanings.{or_means}
use Rattle.circuit.proofs.algebra.GatesAlg.or.Goals as goal

pub returns-clause-means : goal.returns-clause-means
returns-clause-means c = λ v h. or_means c.args.x c.args.y c.in_ok-word.word v (c.in_ok-word.ensures.means v h)
