-- Words of lines: letters, and ops in hexadecimal.
use Rattle.std.proofs.Common.{◌≡◌, ◌≢◌, ℕ, zero, suc, ◌+◌, ◌*◌, ◌/◌, ◌<◌, ◌≤◌, ◌++◌, List, [], ◌∷◌, length, map, take, drop, get_or, slice_set, refl, sym, ap, subst, ◌∙◌, arith, codes, Bool, true, false, add-one, Option, Some, None, MatchOption, MatchResult, Result, Ok, Err}
use Rattle.std.specs.List.{AllByRecursion}
use Rattle.std.specs.Result.{is_err}
use Rattle.std.proofs.Math.Seq.{take-length, take-append_seam}
use Rattle.hex.specs.Hex.{encode_lower, decode_sized, lower_digits}
use Rattle.hex.specs.declared.error.FromHexError.{FromHexError}
use Rattle.hex.proofs.HexLemmas.{length-encode_with, decode_sized-encode_lower}
use Rattle.ia_codec.specs.Prelude.{spelling, IsInProfile, IsSpelt}
use Rattle.ia_codec.specs.declared.op.Op.{Op}
use Rattle.ia_codec.proofs.Lengths.{length-spelling}
use Rattle.rule_form.specs.Prelude.{letter, slots_word}
use Rattle.rule_form.proofs.SpelledBytes.{spelled-bytes}

-- Letters.
at-letter : (s : List Bool) (i : ℕ) → i < length s → (b : Bool) × (get_or (map letter s) i 0 ≡ letter b)
at-letter [] i below = absurd (omega (arith, below))
at-letter (b ∷ s) zero below = (b, refl)
at-letter (b ∷ s) (suc i) below = at-letter s i (omega (arith, below))

long-letters : (s : List Bool) → length (map letter s) ≡ length s
long-letters [] = refl
long-letters (b ∷ s) = let f = long-letters s in omega (arith, f)

pub not-letters : (word : List ℕ) (s : List Bool) (i : ℕ) → word ≡ slots_word s → word ≢ codes "-" → i < length word → ((b : Bool) → get_or word i 0 ≢ letter b) → ⊥
not-letters word [] i is not below none = not is
not-letters word (b ∷ s) i is not below none =
    let len : length word ≡ length (b ∷ s) = ap length is ∙ long-letters (b ∷ s) in
    let a = at-letter (b ∷ s) i (omega (arith, below, len)) in
    none a.0 (ap (λ w. get_or w i 0) is ∙ a.1)

pub letter-more : (slots : List Bool) (word : List ℕ) (i : ℕ) (b : Bool) → i < length slots → i < length word → map letter (take i slots) ≡ take i word → get_or word i 0 ≡ letter b
    → map letter (take (i + 1) (slice_set slots i b)) ≡ take (i + 1) word
letter-more slots word i b few below is at = subst (λ k. map letter (take k (slice_set slots i b)) ≡ take k word) (sym (add-one i)) (go slots word i few below is at)
  where
    go : (slots : List Bool) (word : List ℕ) (i : ℕ) → i < length slots → i < length word → map letter (take i slots) ≡ take i word → get_or word i 0 ≡ letter b
        → map letter (take (suc i) (slice_set slots i b)) ≡ take (suc i) word
    go [] word i few below is at = absurd (omega (arith, few))
    go (s ∷ slots) [] i few below is at = absurd (omega (arith, below))
    go (s ∷ slots) (w ∷ word) zero few below is at = ap (λ k. k ∷ []) (sym at)
    go (s ∷ slots) (w ∷ word) (suc i) few below is at =
        ap (λ l. letter s ∷ l) (go slots word i (omega (arith, few)) (omega (arith, below)) (ap (drop 1) is) at)
        ∙ ap (λ k. k ∷ take (suc i) word) (ap (λ l. get_or l 0 0) is)

pub clear-more : (slots : List Bool) (i : ℕ) (b : Bool) → i < length slots → AllByRecursion (λ x. x ≡ false) (drop i slots) → AllByRecursion (λ x. x ≡ false) (drop (i + 1) (slice_set slots i b))
clear-more slots i b few h = subst (λ k. AllByRecursion (λ x. x ≡ false) (drop k (slice_set slots i b))) (sym (add-one i)) (go slots i few h)
  where
    go : (slots : List Bool) (i : ℕ) → i < length slots → AllByRecursion (λ x. x ≡ false) (drop i slots) → AllByRecursion (λ x. x ≡ false) (drop (suc i) (slice_set slots i b))
    go [] i few h = absurd (omega (arith, few))
    go (s ∷ slots) zero few h = h.1
    go (s ∷ slots) (suc i) few h = go slots i (omega (arith, few)) h

pub taken : {A : Type 0} (n : ℕ) (xs : List A) → n ≤ length xs → length (take n xs) ≡ n
taken zero xs below = refl
taken (suc n) [] below = absurd (omega (arith, below))
taken (suc n) (x ∷ xs) below = let f = taken n xs (omega (arith, below)) in omega (arith, f)

pub length-slice_set : (slots : List Bool) (i : ℕ) (b : Bool) → i < length slots → length (slice_set slots i b) ≡ length slots
length-slice_set [] i b below = absurd (omega (arith, below))
length-slice_set (s ∷ slots) zero b below = refl
length-slice_set (s ∷ slots) (suc i) b below = let f = length-slice_set slots i b (omega (arith, below)) in omega (arith, f)

-- Ops.
pub spelt : (op : Op) (bytes : List ℕ) → IsInProfile op → bytes ≡ spelling op → IsSpelt op bytes (length bytes)
spelt op bytes h is = record { profile = h; within = omega arith; front = take-length bytes ∙ is }

pub short : (op : Op) (word : List ℕ) → word ≡ encode_lower (spelling op) → (length word / 2 ≡ length (spelling op)) × (length word / 2 ≤ 12)
short op word is =
    let len : length word ≡ 2 * length (spelling op) = ap length is ∙ length-encode_with lower_digits (spelling op) in
    let most = (length-spelling op).1 in
    (omega (arith, len), omega (arith, len, most))

sized : (op : Op) (word : List ℕ) → IsInProfile op → word ≡ encode_lower (spelling op) → decode_sized word (length word / 2) ≡ Ok (spelling op)
sized op word h is = ap (λ w. decode_sized w (length word / 2)) is ∙ decode_sized-encode_lower (spelling op) (length word / 2) (sym (short op word is).0) (spelled-bytes op h)

first : Op → Option (Op × ℕ) → Op
first d (Some p) = p.0
first d None = d

pub same-op : (r : Option (Op × ℕ)) (a b : Op) (m n : ℕ) → r ≡ Some (a, m) → r ≡ Some (b, n) → a ≡ b
unfolding first
same-op r a b m n e f = ap (first a) (sym e ∙ f)

-- the room for an op's bytes
module _ (word out room : List ℕ) (n : ℕ) (r : Result (Unit {0}) FromHexError) (len : n ≡ length word / 2) (long : length out ≡ length room) (fits : length room ≡ n)
    (h : MatchResult (decode_sized word (length room)) (λ bytes. (r ≡ Ok tt) × (out ≡ bytes)) (λ e. r ≡ Err e)) where
  same_size : length room ≡ length word / 2
  same_size = fits ∙ len

  pub no_op : is_err r ≡ true → (op : Op) → IsInProfile op → word ≡ encode_lower (spelling op) → ⊥
  no_op failed op p is =
      let s = rw (same_size, sized op word p is) at h in
      let t : true ≡ false = sym failed ∙ ap is_err s.0 in
      cc

  read : (op : Op) → IsInProfile op → word ≡ encode_lower (spelling op) → out ≡ spelling op
  read op p is = (rw (same_size, sized op word p is) at h).1

  pub one_op : (rest : List ℕ) (o : Option Op)
      → MatchOption o ((op : Op) → IsInProfile op → take n (out ++ rest) ≡ spelling op → word ≡ encode_lower (spelling op) → ⊥) (λ op. IsInProfile op × (word ≡ encode_lower (spelling op)))
      → MatchOption o ((op : Op) → IsInProfile op → word ≡ encode_lower (spelling op) → ⊥) (λ op. IsInProfile op × (word ≡ encode_lower (spelling op)))
  one_op rest (Some op) k = k
  one_op rest None none = λ op p is. none op p (ap (λ m. take m (out ++ rest)) (sym (long ∙ fits)) ∙ take-append_seam out rest ∙ read op p is) is
