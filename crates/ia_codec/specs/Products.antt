-- Products: the Intel SDM, volume 2, under MUL and IMUL. ZF and SF are undefined; for SF behind IMUL that is this project's
-- own, since editions differ there.
use Rattle.std.specs.Prelude.{ℕ, ◌-◌, ◌^◌, Bool, true, false, cond, not, eqb, ◌*ℤ◌}
use Rattle.word_kit.specs.Prelude.{is_negative, signed, product_low, product_high, fits_word}
use Rattle.ia_codec.specs.Effect.{Flags, HostValues, HostEffect, unchanged}
use Rattle.ia_codec.specs.Sums.{gives}

-- 32 copies of the sign of a word
abbrev pub sign_copies : ℕ → ℕ
sign_copies x = cond (is_negative x) (2 ^ 32 - 1) 0

-- CF and OF say whether the product is longer than the word that it is meant for
abbrev pub product_flags : Bool → HostValues → Flags
product_flags long v = record { cf = long; zf = v.free_flags.zf; sf = v.free_flags.sf; of = long }

-- both halves, and whether the high one is more than zeros
abbrev pub mul_row : HostValues → HostEffect
mul_row v = record (unchanged v) {
  result = product_low v.x v.y;
  high = product_high v.x v.y false;
  flags = product_flags (not (eqb (product_high v.x v.y false) 0)) v;
}

-- both halves, and whether the high one is more than the low one's sign
abbrev pub imul1_row : HostValues → HostEffect
imul1_row v = record (unchanged v) {
  result = product_low v.x v.y;
  high = product_high v.x v.y true;
  flags = product_flags (not (eqb (product_high v.x v.y true) (sign_copies (product_low v.x v.y)))) v;
}

-- the low half, and whether the product of the words read as signed fits none
abbrev pub imul_row : HostValues → HostEffect
imul_row v = gives (product_low v.x v.y) (product_flags (not (fits_word (signed v.x *ℤ signed v.y))) v) v
