use Rattle.std.proofs.Common.{◌/◌, ◌^◌}
use Rattle.std.proofs.lemmas.Nat.{one_shl, and_mask}
use Rattle.ppc_isa.proofs.decoding.cut_of.Goals as goal

pub returns : goal.returns
returns c =
    rw (one_shl c.args.len 32 c.requires.few) (and_mask (c.args.word / 2 ^ c.args.below) c.args.len)
