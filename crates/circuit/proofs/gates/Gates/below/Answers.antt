use Rattle.std.proofs.Common.{◌∙◌, ap, arith}
use Rattle.circuit.specs.Prelude.{word_of, not_bits}
use Rattle.circuit.proofs.Meanings.{less_is}
use Rattle.circuit.proofs.gates.Gates.below.Goals as goal

pub returns-clause-means : goal.returns-clause-means
returns-clause-means c = λ v h. less_is c.args.signed c.args.x c.args.y _ _ c.in_ok-_sum._sum c.in_ok-_sum.carry c.flip.result v (omega arith) (omega arith) (omega arith) (omega arith)
    c.ordered-first.ensures.made (c.complement_of-second.ensures.made ∙ ap (λ z. word_of (not_bits z) 32) c.ordered.ensures.made) (c.in_ok-_sum.ensures.means v h) (c.flip.ensures.means v)
