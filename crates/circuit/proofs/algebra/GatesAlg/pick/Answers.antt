use Rattle.circuit.specs.Prelude.{lit_truth}
use Rattle.circuit.proofs.Meanings.{choice_means}
use Rattle.circuit.proofs.algebra.GatesAlg.pick.Goals as goal

pub returns-clause-means : goal.returns-clause-means
returns-clause-means c = λ v h. choice_means (lit_truth c.args.b v) c.args.x c.args.y c.in_ok-word.word v (c.in_ok-word.ensures.means v h)
