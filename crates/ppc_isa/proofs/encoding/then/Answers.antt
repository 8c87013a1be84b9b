use Rattle.std.proofs.Common.{◌*◌, ◌<◌, ◌^◌, arith}
use Rattle.std.proofs.Math.Nat.{mod-eq_of_lt}
use Rattle.std.proofs.lemmas.Nat.{or_shifted}
use Rattle.ppc_isa.proofs.encoding.then.Goals as goal

pub returns : goal.returns
returns c =
    let lt : c.args.front * 2 ^ c.args.len < 4294967296 = omega arith in
    rw mod-eq_of_lt (or_shifted c.args.front c.args.len c.args.value c.requires.value)
