use Rattle.std.proofs.Common.{IsTrue, ◌≡◌, ℕ, nat_eq, arith}
use Rattle.std.proofs.lemmas.Nat.{bit_set_by_shift}
use Rattle.std.proofs.lemmas.Bool.Decides.{nat_tests}
use Rattle.offer_make.proofs.words.is_in.Goals as goal

one : (a : ℕ) → IsTrue (nat_eq a 1) → a ≡ 1
one a t = grind (arith, nat_tests)

is_one : (a : ℕ) → a ≡ 1 → IsTrue (nat_eq a 1)
is_one a e = grind (arith, nat_tests)

pub returns : goal.returns
returns c =
    let s = bit_set_by_shift c.args.set.now.bits c.args.location in
    (λ t. s.0 (one _ t), λ b. is_one _ (s.1 b))
