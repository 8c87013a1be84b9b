use Rattle.circuit.specs.Prelude.{word_value}
use Rattle.circuit.proofs.Values.{word_value-lt}
use Rattle.circuit.proofs.FreeValues.{quotient_below, remainder_below, free_is}
use Rattle.circuit.proofs.algebra.GatesAlg.div.Goals as goal

pub returns-clause-quotient : goal.returns-clause-quotient
returns-clause-quotient c = λ v h. free_is c.in_ok-quotient.quotient v _ (quotient_below c.args.signed (word_value 32 c.args.high v) (word_value 32 c.args.low v) (word_value 32 c.args.by v)) (c.in_ok-quotient.ensures.means v (c.in_ok-remainder.ensures.later.earlier v (c.variable.ensures.later.earlier v h)))

pub returns-clause-remainder : goal.returns-clause-remainder
returns-clause-remainder c = λ v h. free_is c.in_ok-remainder.remainder v _ (remainder_below c.args.signed (word_value 32 c.args.high v) (word_value 32 c.args.low v) (word_value 32 c.args.by v) (word_value-lt 32 c.args.by v)) (c.in_ok-remainder.ensures.means v (c.variable.ensures.later.earlier v h))
