-- Numbers that differ.
use Rattle.std.proofs.Common.{◌≡◌, ◌≢◌, ℕ, false, eqb, arith}
use Rattle.std.proofs.lemmas.Bool.Decides.{nat_tests}

pub is_other : (a b : ℕ) → a ≢ b → eqb a b ≡ false
is_other a b h = grind (arith, nat_tests)
