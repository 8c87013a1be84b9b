-- The bit scan: the Intel SDM, volume 2, under BSR. Of 0 the result is undefined; CF, SF and OF are undefined always.
use Rattle.std.specs.Prelude.{ℕ, zero, suc, cond, eqb}
use Rattle.word_kit.specs.Prelude.{bit_of}
use Rattle.ia_codec.specs.Effect.{HostValues, HostEffect}
use Rattle.ia_codec.specs.Sums.{gives}

-- the highest of the places below n that has a 1, and 0 where there is none
unfoldable pub highest_one : ℕ → ℕ → ℕ
highest_one zero y = 0
highest_one (suc n) y = cond (bit_of y n) n (highest_one n y)

abbrev pub scan_row : HostValues → HostEffect
scan_row v = gives (cond (eqb v.y 0) v.free (highest_one 32 v.y)) (record v.free_flags { zf = eqb v.y 0 }) v
