use Rattle.circuit.specs.Prelude.{lit_truth, word_value}
use Rattle.circuit.proofs.Values.{word_value-lt}
use Rattle.circuit.proofs.Meanings.{sum_parts}
use Rattle.circuit.proofs.algebra.GatesAlg.add.Goals as goal

pub returns-clause-sum : goal.returns-clause-sum
returns-clause-sum c = λ v h. (sum_parts (word_value 32 c.in_ok-word.word v) _ (lit_truth c.in_ok-word.over v) (word_value-lt 32 c.in_ok-word.word v) (c.in_ok-word.ensures.means v h)).0

pub returns-clause-carry : goal.returns-clause-carry
returns-clause-carry c = λ v h. (sum_parts (word_value 32 c.in_ok-word.word v) _ (lit_truth c.in_ok-word.over v) (word_value-lt 32 c.in_ok-word.word v) (c.in_ok-word.ensures.means v h)).1
