-- Divisions of edx and eax: the Intel SDM, volume 2, under DIV and IDIV. All flags are undefined. Where the division
-- faults nothing comes of it, and both numbers are 0.
use Rattle.std.specs.Prelude.{Bool, false}
use Rattle.word_kit.specs.Prelude.{quotient, remainder, divide_faults}
use Rattle.ia_codec.specs.Effect.{HostValues, HostEffect}

abbrev pub divide_row : Bool → HostValues → HostEffect
divide_row as_signed v = record {
  result = quotient v.high v.x v.y as_signed;
  high = remainder v.high v.x v.y as_signed;
  flags = v.free_flags;
  holds = false;
  faults = divide_faults v.high v.x v.y as_signed;
}
