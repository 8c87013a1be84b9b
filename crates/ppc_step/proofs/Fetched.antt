-- The words that are fetched are the program's code words.
use Rattle.std.proofs.Common.{◌≡◌, ℕ, ◌+◌, ◌-◌, ◌≤◌, Bool, true, false, cond, Option, Some, None, drop, get_or, refl, ◌∙◌, ap, arith}
use Rattle.std.specs.Prelude.{slice_get, option_and_then}
use Rattle.std.proofs.lemmas.Bool.Decides.{nat_tests}
use Rattle.std.proofs.lemmas.List.{get_or-drop}
use Rattle.byteorder.specs.Endian.{big_number}
use Rattle.machines.specs.Prelude.{Segment, Program, word_in, has_word, code_word as kept_word, code_in, code_of, is_code_word, word_of_code}
use Rattle.space.specs.Memory.{Memory}
use Rattle.access.specs.Kept.{Keeps}

none_is : (a : ℕ) → is_code_word (code_in None) a ≡ false
none_is a = grind (arith, nat_tests)

word_is : (s : Segment) (a : ℕ) → s.at ≤ a → big_number 4 (drop (a - s.at) s.bytes) ≡ word_of_code (code_in (Some s)) a
word_is s a begins =
    let byte = λ (i : ℕ). get_or-drop (a - s.at) s.bytes i 0 in
    let at : (i : ℕ) → a - s.at + i ≡ a + i - s.at = λ i. omega arith in
    let zeroth : get_or s.bytes (a - s.at + 0) 0 ≡ get_or s.bytes (a - s.at) 0 = ap (λ j. get_or s.bytes j 0) (omega arith) in
    omega (arith, byte 0 ∙ zeroth, byte 1 ∙ ap (λ j. get_or s.bytes j 0) (at 1), byte 2 ∙ ap (λ j. get_or s.bytes j 0) (at 2), byte 3 ∙ ap (λ j. get_or s.bytes j 0) (at 3))

begins : (s : Segment) (a : ℕ) → has_word a s ≡ true → s.at ≤ a
begins s a h = grind (arith, nat_tests)

in_segment : (code : Option Segment) (a : ℕ) → option_and_then (word_in a) code ≡ cond (is_code_word (code_in code) a) (Some (word_of_code (code_in code) a)) None
in_segment None a = rw (none_is a) refl
in_segment (Some s) a = by_test (has_word a s) refl
  where
    by_test : (b : Bool) → has_word a s ≡ b → cond (has_word a s) (Some (big_number 4 (drop (a - s.at) s.bytes))) None ≡ cond (has_word a s) (Some (word_of_code (code_in (Some s)) a)) None
    by_test true e = rw e (ap Some (word_is s a (begins s a e)))
    by_test false e = rw e refl

fetched : (p : Program) (f : ℕ → ℕ) (m : Memory) (a : ℕ) → Keeps p f m
    → kept_word m a ≡ cond (is_code_word (code_of p) a) (Some (word_of_code (code_of p) a)) None
fetched p f m a keeps = rw keeps.code_stands (in_segment (slice_get p.segments p.code) a)

none_of : (b : Bool) (n : ℕ) → None ≡ cond b (Some n) None → b ≡ false
none_of true n e = absurd cc
none_of false n e = refl

some_of : (b : Bool) (m n : ℕ) → Some m ≡ cond b (Some n) None → (b ≡ true) × (m ≡ n)
some_of true m n e = (refl, cc)
some_of false m n e = absurd cc

module _ (p : Program) (f : ℕ → ℕ) (m : Memory) (a : ℕ) (keeps : Keeps p f m) where
  pub no_word : None ≡ kept_word m a → is_code_word (code_of p) a ≡ false
  no_word none = none_of (is_code_word (code_of p) a) (word_of_code (code_of p) a) (none ∙ fetched p f m a keeps)

  pub word : (w : ℕ) → Some w ≡ kept_word m a → (is_code_word (code_of p) a ≡ true) × (w ≡ word_of_code (code_of p) a)
  word w some = some_of (is_code_word (code_of p) a) w (word_of_code (code_of p) a) (some ∙ fetched p f m a keeps)
