-- Logic: the Intel SDM, volume 2, under AND, OR, XOR and TEST.
use Rattle.std.specs.Prelude.{ℕ, false, eqb}
use Rattle.word_kit.specs.Prelude.{is_negative}
use Rattle.ia_codec.specs.Effect.{Flags}

-- and, or, xor clear CF and OF
abbrev pub logic_flags : ℕ → Flags
logic_flags result = record { cf = false; zf = eqb result 0; sf = is_negative result; of = false }
