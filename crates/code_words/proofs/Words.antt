-- The words in the bytes of a code segment are its code words.
use Rattle.std.proofs.Common.{◌≡◌, ℕ, ◌+◌, ◌-◌, ◌*◌, ◌/◌, ◌%◌, ◌^◌, ◌<◌, ◌≤◌, true, List, length, get_or, take, drop, refl, sym, ◌∙◌, ap, subst, arith}
use Rattle.std.specs.Prelude.{slice_index, Result, Ok, Err}
use Rattle.std.specs.Result.{IfOk}
use Rattle.std.specs.Int.{next_multiple_of}
use Rattle.std.proofs.lemmas.Bool.Decides.{nat_tests}
use Rattle.std.proofs.lemmas.List.{get_or-drop, get_or-take}
use Rattle.byteorder.specs.Endian.{IsRead, big_number}
use Rattle.machines.specs.Prelude.{Program, Code, code_of, code_byte, is_code_word, word_of_code}
use Rattle.code_words.specs.Words.{HasWords, first_of}

-- what a code word's address is like
pub record IsWordAt (code : Code) (a : ℕ) : Type 0 where
  pub aligned : a % 4 ≡ 0
  pub begins : code.at ≤ a
  pub ends : a + 4 ≤ code.at + length code.bytes

pub word_at : (code : Code) (a : ℕ) → is_code_word code a ≡ true → IsWordAt code a
word_at code a is = record {
  aligned = grind (arith, nat_tests);
  begins = grind (arith, nat_tests);
  ends = grind (arith, nat_tests);
}

is_word_at : (code : Code) (a : ℕ) → a % 4 ≡ 0 → code.at ≤ a → a + 4 ≤ code.at + length code.bytes → is_code_word code a ≡ true
is_word_at code a aligned begins ends = grind (arith, nat_tests)

pub first_is : (at first : ℕ) → first ≡ next_multiple_of at 4 → (first % 4 ≡ 0) × (at ≤ first) × (first < at + 4)
first_is at first e = (omega arith, omega arith, omega arith)

-- a multiple of 4 that isn't below an address isn't below the least such one
pub not_before : (at first a : ℕ) → first ≡ next_multiple_of at 4 → a % 4 ≡ 0 → at ≤ a → first ≤ a
not_before at first a e aligned begins = omega arith

-- the words are read from the `size` bytes that stand `before` bytes behind the segment's start
module _ (code : Code) (first before size : ℕ) (words : List ℕ) (start : first ≡ next_multiple_of code.at 4) (gap : first ≡ code.at + before)
    (count : 4 * length words ≡ size) (read : IsRead big_number 4 (take size (drop before code.bytes)) words) where
  byte : (k i : ℕ) → 4 * k + i < size → slice_index (drop (4 * k) (take size (drop before code.bytes))) i ≡ code_byte code (first + 4 * k + i)
  byte k i lt =
      let place : before + (4 * k + i) ≡ first + 4 * k + i - code.at = omega arith in
      get_or-drop (4 * k) (take size (drop before code.bytes)) i 0
      ∙ get_or-take size (drop before code.bytes) (4 * k + i) 0 lt
      ∙ get_or-drop before code.bytes (4 * k + i) 0
      ∙ ap (λ j. get_or code.bytes j 0) place

  word : (k : ℕ) → k < length words → word_of_code code (first + 4 * k) ≡ slice_index words k
  word k lt =
      let zeroth : slice_index (drop (4 * k) (take size (drop before code.bytes))) 0 ≡ code_byte code (first + 4 * k) =
      byte k 0 (omega arith) ∙ ap (code_byte code) (omega arith) in
      omega (arith, read k lt, zeroth, byte k 1 (omega arith), byte k 2 (omega arith), byte k 3 (omega arith))

  module _ (inside : before + size ≤ length code.bytes) (all : length code.bytes < before + size + 4) (low : code.at + length code.bytes < 2 ^ 32) where
    here : (k : ℕ) → k < length words → is_code_word code (first + 4 * k) ≡ true
    here k lt =
        let is = first_is code.at first start in
        let aligned = is.0 in
        is_word_at code (first + 4 * k) (omega arith) (omega arith) (omega arith)

    only : (a : ℕ) → is_code_word code a ≡ true → (k : ℕ) × (k < length words) × (a ≡ first + 4 * k)
    only a is =
        let at = word_at code a is in
        let aligned = at.aligned in
        let ends = at.ends in
        let not = not_before code.at first a start at.aligned at.begins in
        let first_aligned = (first_is code.at first start).0 in
        ((a - first) / 4, omega arith, omega arith)

    pub has_words : (P : Program) → code_of P ≡ code → HasWords P first words
    has_words P e = record {
      aligned = (first_is code.at first start).0;
      low = omega arith;
      here = λ k lt. ap (λ (c : Code). is_code_word c (first + 4 * k)) e ∙ here k lt;
      each = λ k lt. ap (λ (c : Code). word_of_code c (first + 4 * k)) e ∙ word k lt;
      only = λ a is. only a (sym (ap (λ (c : Code). is_code_word c a) e) ∙ is);
    }

-- a code word stands at a multiple of 4 from the first address on
pub place_of : (P : Program) → is_code_word (code_of P) P.entry ≡ true
    → (first_of P ≤ P.entry) × (4 * ((P.entry - first_of P) / 4) ≡ P.entry - first_of P)
place_of P is =
    let at = word_at (code_of P) P.entry is in
    let aligned = at.aligned in
    let first_aligned = (first_is (code_of P).at (first_of P) refl).0 in
    let le = not_before (code_of P).at (first_of P) P.entry refl at.aligned at.begins in
    (le, multiple P.entry (first_of P) at.aligned first_aligned)
  where
    multiple : (a b : ℕ) → a % 4 ≡ 0 → b % 4 ≡ 0 → 4 * ((a - b) / 4) ≡ a - b
    multiple a b e f = omega arith

-- what is read of the whole words in the code is its words
module _ (P : Program) (at : ℕ) (bytes whole : List ℕ) (first before : ℕ) (is : code_of P ≡ record { at = at; bytes = bytes })
    (start : first ≡ first_of P) (gap : before ≡ first - at) (inside : before + length whole ≤ length bytes)
    (all : length bytes < before + length whole + 4) (part : whole ≡ take (length whole) (drop before bytes)) (low : at + length bytes ≤ 0xC0000000) where
  read_of : (words : List ℕ) → 4 * length words ≡ length whole → IsRead big_number 4 whole words → HasWords P (first_of P) words
  read_of words count read =
      let code : Code = record { at = at; bytes = bytes } in
      let begins : first ≡ next_multiple_of at 4 = start ∙ ap (λ (c : Code). next_multiple_of c.at 4) is in
      let under = (first_is at first begins).1 in
      let read_is : IsRead big_number 4 (take (length whole) (drop before bytes)) words = subst (λ xs. IsRead big_number 4 xs words) part read in
      subst (λ n. HasWords P n words) start
      (has_words code first before (length whole) words begins (omega arith) count read_is inside all (omega arith) P is)

  pub words_of_code : {V E : Type 0} (items : V → List ℕ) (r : Result V E) → IfOk r (λ v. 4 * length (items v) ≡ length whole)
      → IfOk r (λ v. IsRead big_number 4 whole (items v)) → IfOk r (λ v. HasWords P (first_of P) (items v))
  words_of_code items (Ok v) count read = read_of (items v) count read
  words_of_code items (Err e) count read = tt
