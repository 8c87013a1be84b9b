-- The words of the program.
use Rattle.std.proofs.Common.{◌≡◌, ℕ, zero, suc, ◌+◌, ◌*◌, ◌^◌, ◌<◌, ◌⊎◌, inl, inr, true, slice_index, refl, arith}
use Rattle.std.proofs.lemmas.Bool.Decides.{nat_tests}
use Rattle.machines.specs.Prelude.{IsLegal, IsWordOf, code_of, is_code_word, word_of_code}
use Rattle.code_words.specs.Words.{HasWords}
use Rattle.plan_example.specs.Example.{program, words, adds, back}

pub legal_adds : (n : ℕ) → n < 2 ^ 16 → IsLegal (adds n)
legal_adds n small = record { fit = (omega arith, (omega arith, (omega arith, (small, tt)))); allowed = tt }

pub legal_back : IsLegal back
legal_back = record { fit = (omega arith, (omega arith, (omega arith, (omega arith, tt)))); allowed = tt }

pub word_1 : IsWordOf 0x38630001 (adds 1)
word_1 = record { spelled = refl; legal = legal_adds 1 (omega arith) }

pub word_2 : IsWordOf 0x38630002 (adds 2)
word_2 = record { spelled = refl; legal = legal_adds 2 (omega arith) }

pub word_3 : IsWordOf 0x38630003 (adds 3)
word_3 = record { spelled = refl; legal = legal_adds 3 (omega arith) }

pub word_4 : IsWordOf 0x4BFFFFF4 back
word_4 = record { spelled = refl; legal = legal_back }

-- a code word is one of the four
pub which : (w : ℕ) → is_code_word (code_of program) w ≡ true → (w ≡ 0x10000) ⊎ (w ≡ 0x10004) ⊎ (w ≡ 0x10008) ⊎ (w ≡ 0x1000C)
which w h = grind (arith, nat_tests)

here : (k : ℕ) → k < 4 → is_code_word (code_of program) (0x10000 + 4 * k) ≡ true
here zero lt = refl
here (suc zero) lt = refl
here (suc (suc zero)) lt = refl
here (suc (suc (suc zero))) lt = refl
here (suc (suc (suc (suc k)))) lt = absurd (omega arith)

each : (k : ℕ) → k < 4 → word_of_code (code_of program) (0x10000 + 4 * k) ≡ slice_index words k
each zero lt = refl
each (suc zero) lt = refl
each (suc (suc zero)) lt = refl
each (suc (suc (suc zero))) lt = refl
each (suc (suc (suc (suc k)))) lt = absurd (omega arith)

place_in : (a : ℕ) → (a ≡ 0x10000) ⊎ (a ≡ 0x10004) ⊎ (a ≡ 0x10008) ⊎ (a ≡ 0x1000C) → (k : ℕ) × (k < 4) × (a ≡ 0x10000 + 4 * k)
place_in a (inl e) = (0, omega arith, e)
place_in a (inr (inl e)) = (1, omega arith, e)
place_in a (inr (inr (inl e))) = (2, omega arith, e)
place_in a (inr (inr (inr e))) = (3, omega arith, e)

-- the program's code words are these
pub has_words : HasWords program 0x10000 words
has_words = record { aligned = refl; low = omega arith; here = here; each = each; only = λ a on. place_in a (which a on) }
