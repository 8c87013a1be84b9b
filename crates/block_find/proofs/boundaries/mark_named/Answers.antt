use Rattle.std.proofs.Common.{arith}
use Rattle.block_find.specs.Prelude.{Names}
use Rattle.block_find.proofs.Marking.{gains_one}
use Rattle.block_find.proofs.boundaries.mark_named.Goals as goal

pub returns-in-Some : goal.returns-in-Some
returns-in-Some c =
    let named = c.in-Some.ensures in
    gains_one c.args.marks.now c.in-Some.named (Names c.args.code.now.first c.args.code.now.words.now c.args.place)
    (let lt = named.0 in omega arith) named.1 named.2
