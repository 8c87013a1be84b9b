-- Numbers in hexadecimal: what is read is what is written.
use Rattle.std.proofs.Common.{◌≡◌, ℕ, ◌+◌, ◌*◌, ◌<◌, ◌^◌, ◌++◌, ◌↔◌, List, length, get_or, take, Result, Ok, Err, MatchResult, Option, Some, None, MatchOption, IsTrue, Bool, true, false, sym, ap, subst, ◌∙◌, arith, zero, suc}
use Rattle.std.proofs.Math.Seq.{take-append_seam}
use Rattle.std.specs.Int.{w32, to_be_bytes}
use Rattle.std.specs.Result.{is_err}
use Rattle.std.specs.List.{slice_index}
use Rattle.std.proofs.lemmas.Nat.{be_bytes_4}
use Rattle.hex.specs.Hex.{encode_lower, decode_sized, lower_digits}
use Rattle.hex.specs.declared.error.FromHexError.{FromHexError}
use Rattle.hex.proofs.HexLemmas.{length-encode_with, decode_of-encode_lower, decode_sized-twice}

-- the front of a buffer, into which digits were written
pub front : (written rest bytes : List ℕ) → written ≡ encode_lower bytes → take (2 * length bytes) (written ++ rest) ≡ encode_lower bytes
front written rest bytes is =
    ap (λ k. take k (written ++ rest)) (sym (ap length is ∙ length-encode_with lower_digits bytes)) ∙ take-append_seam written rest ∙ is

pub compared : (text slice digits : List ℕ) (b : Bool) → slice ≡ digits → (IsTrue b ↔ (text ≡ slice)) → IsTrue b ↔ (text ≡ digits)
compared text slice digits b is h = subst (λ s. IsTrue b ↔ (text ≡ s)) is h

low : (n i : ℕ) → get_or (to_be_bytes w32 n) i 0 < 256
low n zero = omega arith
low n (suc zero) = omega arith
low n (suc (suc zero)) = omega arith
low n (suc (suc (suc zero))) = omega arith
low n (suc (suc (suc (suc i)))) = omega arith

-- the digits of a word decode to its bytes
pub sized : (text : List ℕ) (w : ℕ) → text ≡ encode_lower (to_be_bytes w32 w) → decode_sized text 4 ≡ Ok (to_be_bytes w32 w)
sized text w is =
    let len : length text ≡ 2 * 4 = ap length is ∙ length-encode_with lower_digits (to_be_bytes w32 w) in
    decode_sized-twice text 4 len ∙ rw is (decode_of-encode_lower (to_be_bytes w32 w) (low w))

module _ (text out : List ℕ) (r : Result (Unit {0}) FromHexError) (h : MatchResult (decode_sized text 4) (λ bytes. (r ≡ Ok tt) × (out ≡ bytes)) (λ e. r ≡ Err e)) where
  -- a text that is refused is that of no word
  pub no_word : is_err r ≡ true → (w : ℕ) → text ≡ encode_lower (to_be_bytes w32 w) → ⊥
  no_word failed w is =
      let s = rw (sized text w is) at h in
      let t : true ≡ false = sym failed ∙ ap is_err s.0 in
      cc

  -- a text is that of the bytes that were read, or of no word
  pub one_word : (o : Option ℕ) → MatchOption o (text ≡ encode_lower out → ⊥) (λ w. text ≡ encode_lower (to_be_bytes w32 w))
      → MatchOption o ((w : ℕ) → w < 2 ^ 32 → text ≡ encode_lower (to_be_bytes w32 w) → ⊥) (λ w. text ≡ encode_lower (to_be_bytes w32 w))
  one_word (Some w) is = is
  one_word None not = λ w small is. not (is ∙ ap encode_lower (sym (rw (sized text w is) at h).1))

-- bytes that were read are those of the number that they make
pub again : (out : List ℕ) (n : ℕ) → length out ≡ 4 → ((i : ℕ) → get_or out i 0 < 256) → n ≡ slice_index out 0 * 16777216 + slice_index out 1 * 65536 + slice_index out 2 * 256 + slice_index out 3
    → encode_lower out ≡ encode_lower (to_be_bytes w32 n)
again out n len fit is = ap encode_lower (sym (be_bytes_4 out n len fit is))
