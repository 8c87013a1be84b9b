-- Shifts to the left and back, as extensions of a sign.
use Rattle.std.proofs.Common.{◌≡◌, ℕ, ◌*◌, ◌%◌, ◌^◌, arith}
use Rattle.std.proofs.lemmas.Bool.Decides.{nat_tests}
use Rattle.word_kit.specs.Prelude.{shifted_left, shifted_arith}
use Rattle.ppc_isa.specs.AccessRows.{half_extended, byte_extended}

up_24 : (x : ℕ) → shifted_left x 24 ≡ x % 2 ^ 8 * 2 ^ 24
up_24 x = omega arith

up_16 : (x : ℕ) → shifted_left x 16 ≡ x % 2 ^ 16 * 2 ^ 16
up_16 x = omega arith

pub extended_byte : (x : ℕ) → shifted_arith (shifted_left x 24) 24 ≡ byte_extended x
extended_byte x = let e = up_24 x in rw e (grind (arith, nat_tests))

pub extended_half : (x : ℕ) → shifted_arith (shifted_left x 16) 16 ≡ half_extended x
extended_half x = let e = up_16 x in rw e (grind (arith, nat_tests))
