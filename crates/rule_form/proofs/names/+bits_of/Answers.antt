use Rattle.std.proofs.Common.{arith, map}
use Rattle.rule_form.proofs.DeadNames.{odd-none}
use Rattle.rule_form.proofs.names.+bits_of.Goals as goal

pub returns-in_default-bits_of : goal.returns-in_default-bits_of
returns-in_default-bits_of t c = λ b low e.
    odd-none c.args.names.now (map (λ p. p.now) c.args.pieces.now) (map (λ p. p.now) c.in-Some.rest.now) _ b (omega arith) c.requires.differ low c.in-Some.ensures c.in_default-bits_of.ensures e
