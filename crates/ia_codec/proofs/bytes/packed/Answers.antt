use Rattle.std.proofs.Common.{◌≡◌, ◌+◌, ◌*◌, ◌%◌, arith}
use Rattle.std.proofs.lemmas.Nat.{or_shifted}
use Rattle.std.specs.Int.Bits.{bit_or}
use Rattle.ia_codec.proofs.bytes.packed.Goals as goal

pub returns : goal.returns
returns c =
    let top : c.args.top * 64 % 256 ≡ c.args.top * 64 = omega arith in
    let middle : c.args.middle * 8 % 256 ≡ c.args.middle * 8 = omega arith in
    let first : bit_or (c.args.top * 64) (c.args.middle * 8) ≡ c.args.top * 64 + c.args.middle * 8 = or_shifted c.args.top 6 (c.args.middle * 8) (omega arith) in
    let same : c.args.top * 64 + c.args.middle * 8 ≡ (c.args.top * 8 + c.args.middle) * 8 = omega arith in
    rw (top, middle, first, same, or_shifted (c.args.top * 8 + c.args.middle) 3 c.args.low c.requires.low) (omega arith)
