-- The runs are among the words, and a program has one list of code words.
use Rattle.std.proofs.Common.{◌≡◌, ℕ, ◌+◌, ◌*◌, ◌<◌, inl, inr, List, Bool, false, All, filter, length, not, sym, ◌∙◌, subst, arith}
use Rattle.std.specs.Prelude.{slice_index, slice_index_or, Result, Ok, Err, IfOk}
use Rattle.std.specs.List.{range_with_len}
use Rattle.std.proofs.lemmas.Bool.{cases_lt}
use Rattle.std.proofs.lemmas.List.FromFn.{get_or-range_with_len, length-range_with_len}
use Rattle.std.proofs.lemmas.List.Elements.{All-from_get_or, All-filter, All-map}
use Rattle.std.proofs.lemmas.Grind.{same_number_lists}
use Rattle.machines.specs.Prelude.{Program}
use Rattle.code_words.specs.Words.{HasWords, first_of}
use Rattle.block_find.specs.Prelude.{IsIn, AreAllBlocks, IsWithin, AreBlocksOf, past, alone, singles_of, Run, Blocks}

pub runs_within : (words : List ℕ) (leads : List Bool) (runs : List Run) → AreAllBlocks words (IsIn leads) runs → All (IsWithin (length words)) runs
runs_within words leads runs all = All-from_get_or (IsWithin (length words)) runs (past (length words)) (λ i lt. (all.are.ends i lt).within)

module _ (leads : List Bool) (n : ℕ) where
  abbrev is_single : ℕ → Bool
  is_single k = not (slice_index_or leads k false)

  pub singles_within : All (IsWithin n) (singles_of leads n)
  singles_within =
      All-map (IsWithin n) alone (filter is_single (range_with_len 0 n))
      (All-filter is_single (λ (k : ℕ). IsWithin n (alone k)) (range_with_len 0 n)
      (All-from_get_or (λ (k : ℕ). IsWithin n (alone k)) (range_with_len 0 n) 0 (λ i lt.
      let count : length (range_with_len 0 n) ≡ n = length-range_with_len 0 n in
      let less : i < n = omega arith in
      let e : slice_index (range_with_len 0 n) i ≡ 0 + i = get_or-range_with_len 0 n i 0 less in omega arith)))

module _ (P : Program) (first : ℕ) (a b : List ℕ) (of_a : HasWords P first a) (of_b : HasWords P first b) where
  not_longer : length a < length b → ⊥
  not_longer lt = let k = of_a.only (first + 4 * length a) (of_b.here (length a) lt) in let within = k.1 in let e = k.2 in omega arith

  pub not_shorter : length b < length a → ⊥
  not_shorter lt = let k = of_b.only (first + 4 * length b) (of_a.here (length b) lt) in let within = k.1 in let e = k.2 in omega arith

  same_count : length a ≡ length b
  same_count = elim (cases_lt (length a) (length b)) [
    | inl lt ↦ absurd (not_longer lt)
    | inr le ↦ elim (cases_lt (length b) (length a)) [ inl lt ↦ absurd (not_shorter lt) | inr ge ↦ omega arith ]
  ]

  pub same_words : a ≡ b
  same_words = same_number_lists a b same_count (λ k lt. sym (of_a.each k lt) ∙ of_b.each k (let n = same_count in omega arith))

-- what is found of the words that were read is told of all words that the program has
pub of_program : {E : Type 0} (P : Program) (first entry : ℕ) (own : List ℕ) (r : Result Blocks E) → first ≡ first_of P → HasWords P (first_of P) own
    → P.entry ≡ first_of P + 4 * entry → IfOk r (λ b. AreBlocksOf first entry own b)
    → IfOk r (λ b. (words : List ℕ) (at : ℕ) → HasWords P (first_of P) words → P.entry ≡ first_of P + 4 * at → AreBlocksOf (first_of P) at words b)
of_program P first entry own (Ok b) same has at are = λ words at' has' there.
    let e : entry ≡ at' = omega arith in
    subst (λ (ws : List ℕ). AreBlocksOf (first_of P) at' ws b) (same_words P (first_of P) own words has has')
    (subst (λ (k : ℕ). AreBlocksOf (first_of P) k own b) e (subst (λ (f : ℕ). AreBlocksOf f entry own b) same are))
of_program P first entry own (Err e) same has at are = tt
