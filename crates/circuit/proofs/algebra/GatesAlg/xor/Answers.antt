use Rattle.circuit.proofs.Meanings.{xor_means}
use Rattle.circuit.proofs.algebra.GatesAlg.xor.Goals as goal

pub returns-clause-means : goal.returns-clause-means
returns-clause-means c = λ v h. xor_means c.args.x c.args.y c.in_ok-word.word v (c.in_ok-word.ensures.means v h)
