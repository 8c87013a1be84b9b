-- Addresses go on at 0 behind the last one.
use Rattle.std.proofs.Common.{◌≡◌, ℕ, ◌+◌, ◌-◌, ◌*◌, ◌/◌, ◌%◌, ◌<◌, ◌≤◌, Bool, true, inl, inr, ◌∙◌, ap, arith}
use Rattle.std.proofs.Math.Nat.{mod-eq_of_lt, add-mul-mod_self_left, mod-add-div}
use Rattle.std.proofs.lemmas.Bool.{cases_lt}

-- steps from an address that don't pass the last one
steps_on : (n x k : ℕ) → x % n + k < n → (x + k) % n ≡ x % n + k
steps_on n x k small =
    let split : x + k ≡ (x % n + k) + n * (x / n) = omega (arith, mod-add-div x n) in
    rw split (add-mul-mod_self_left (x % n + k) n (x / n) ∙ mod-eq_of_lt small)

-- what holds of the first addresses, and of those of a run behind them, holds of both
pub run_on : (test : ℕ → Bool) (n at done run : ℕ) → (at + done) % n + run ≤ n
    → ((k : ℕ) → k < done → test ((at + k) % n) ≡ true) → ((k : ℕ) → k < run → test ((at + done) % n + k) ≡ true)
    → (k : ℕ) → k < done + run → test ((at + k) % n) ≡ true
run_on test n at done run small before behind k below =
    elim (cases_lt k done) as (λ _. test ((at + k) % n) ≡ true) [
      | inl lt ↦ before k lt
      | inr ge ↦
          let j : k ≡ done + (k - done) = omega arith in
          let far : at + k ≡ (at + done) + (k - done) = omega arith in
          let e : (at + k) % n ≡ (at + done) % n + (k - done) = ap (λ x. x % n) far ∙ steps_on n (at + done) (k - done) (omega arith) in
          ap test e ∙ behind (k - done) (omega arith)
    ]
