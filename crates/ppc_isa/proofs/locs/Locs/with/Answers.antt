use Rattle.std.proofs.Common.{◌^◌, ◌<◌, arith}
use Rattle.std.proofs.Math.Pow.{pow-lt}
use Rattle.std.proofs.lemmas.Nat.{one_shl, or_lt}
use Rattle.ppc_isa.proofs.locs.Locs.with.Goals as goal

pub returns-clause-within : goal.returns-clause-within
returns-clause-within c =
    let fits : 2 ^ c.args.location < 2 ^ 46 = pow-lt c.requires.location in
    rw (one_shl c.args.location 64 (omega arith))
    (or_lt 46 c.args.self.bits (2 ^ c.args.location) c.requires.within fits)
