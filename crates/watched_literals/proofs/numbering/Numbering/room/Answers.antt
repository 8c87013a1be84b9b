use Rattle.std.proofs.Common.{◌≤◌, ◌<◌, ◌^◌, min, length, arith}
use Rattle.word_kit.specs.Prelude.{variable}
use Rattle.watched_literals.proofs.Numbers.{within-of}
use Rattle.watched_literals.proofs.numbering.Numbering.room.Goals as goal

pub returns : goal.returns
returns c = λ number n.
    let below : variable number < 2 ^ 31 = n.is_literal.within in
    let listed : variable number ≤ length c.args.self.now.variables.keys = n.within in
    within-of number (min (length c.args.self.now.variables.keys) 2147483647) _ (omega arith) n.is_literal (omega (arith, below, listed))
