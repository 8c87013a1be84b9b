-- The bytes that are stored, as pairs.
use Rattle.std.proofs.Common.{◌≡◌, ℕ, ◌+◌, ◌<◌, Bool, List, [], ◌∷◌, ◌++◌, refl, sym, ◌∙◌, ap, subst, arith, add-one}
use Rattle.std.proofs.lemmas.List.{append_assoc, append-nil}
use Rattle.std.proofs.Math.Decide.{dec_lt}
use Rattle.circuit.specs.Prelude.{lit_truth, word_value, at}
use Rattle.circuit.specs.declared.literals.Lit.{Lit}
use Rattle.circuit.proofs.Meanings.{word_is}
use Rattle.access_circuits.specs.Terms.{byte_pairs, stored_place}

pub one_more : (P : ℕ → Type 0) (i : ℕ) → ((k : ℕ) → k < i → P k) → P i → (k : ℕ) → k < i + 1 → P k
one_more P i below here k h = elim (dec_lt k i) [
  | yes lt ↦ below k lt
  | no ge ↦ let e : i ≡ k = omega arith in subst P e here
]

pub bytes_begin : (old : List (Lit × Lit)) (x y : List Lit) → old ≡ old ++ byte_pairs 0 x y
unfolding byte_pairs
bytes_begin old x y = sym (append-nil old)

pub bytes_go_on : (i : ℕ) (old before after : List (Lit × Lit)) (x y : List Lit) → before ≡ old ++ byte_pairs i x y → after ≡ before ++ (at x (stored_place i), at y (stored_place i)) ∷ [] → after ≡ old ++ byte_pairs (i + 1) x y
unfolding byte_pairs
bytes_go_on i old before after x y p q = rw add-one (q ∙ ap (λ ps. ps ++ (at x (stored_place i), at y (stored_place i)) ∷ []) p ∙ append_assoc old (byte_pairs i x y) ((at x (stored_place i), at y (stored_place i)) ∷ []))

pub place_turns : (k : ℕ) → k < 32 → stored_place (stored_place k) ≡ k
place_turns k l = omega (arith, l)

-- words whose bytes are the same, in whatever order they come
pub words_same : (w : ℕ → Bool) (x y : List Lit) → ((k : ℕ) → k < 32 → lit_truth (at x (stored_place k)) w ≡ lit_truth (at y (stored_place k)) w) → word_value 32 x w ≡ word_value 32 y w
words_same w x y h =
    word_is x w (λ k. lit_truth (at y k) w) (λ k l. subst (λ j. lit_truth (at x j) w ≡ lit_truth (at y j) w) (place_turns k l) (h (stored_place k) (omega (arith, l))))
    ∙ sym (word_is y w (λ k. lit_truth (at y k) w) (λ k l. refl))
