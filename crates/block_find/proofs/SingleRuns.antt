-- Which runs the singles are.
use Rattle.std.proofs.Common.{◌≡◌, ◌≢◌, ℕ, zero, suc, ◌+◌, ◌<◌, inl, inr, List, [], ◌∷◌, ◌++◌, Bool, true, false, length, refl, sym, ◌∙◌, ap, subst, arith}
use Rattle.std.specs.Prelude.{slice_index_or}
use Rattle.std.proofs.lemmas.Bool.{cases_lt}
use Rattle.std.proofs.lemmas.Bool.Decides.{eqb_tells}
use Rattle.std.proofs.lemmas.List.{get_or_append_left, get_or_push}
use Rattle.std.proofs.Math.ListN.{length-append}
use Rattle.block_find.specs.Prelude.{IsIn, past, alone, singles_of, Run}
use Rattle.block_find.proofs.SingleWords.{single_more, single_less}

abbrev pub run_at : List Run → ℕ → Run
run_at runs i = slice_index_or runs i (past 0)

-- the runs are the words below n that are no leaders, ascending
pub record AreSingles (leads : List Bool) (runs : List Run) (n : ℕ) : Type 0 where
  pub below : (i : ℕ) → i < length runs → (run_at runs i).at < n
  pub single : (i : ℕ) → i < length runs → ¬ (IsIn leads (run_at runs i).at)
  pub one : (i : ℕ) → i < length runs → (run_at runs i).count ≡ 1
  pub ascending : (i j : ℕ) → i < j → j < length runs → (run_at runs i).at < (run_at runs j).at
  pub found : (k : ℕ) → k < n → ¬ (IsIn leads k) → (i : ℕ) × (i < length runs) × ((run_at runs i).at ≡ k)

module _ (leads : List Bool) (runs : List Run) (n : ℕ) (are : AreSingles leads runs n) where
  leader_more : slice_index_or leads n false ≡ true → AreSingles leads runs (n + 1)
  leader_more on = record {
    below = λ i lt. omega (arith, are.below i lt);
    single = are.single;
    one = are.one;
    ascending = are.ascending;
    found = λ k lt not. are.found k (elim (eqb_tells k n) [
      | inl e ↦ absurd (not (subst (λ (j : ℕ). IsIn leads j) (sym e.1) on))
      | inr e ↦ (let other : k ≢ n = e.1 in omega arith)
    ]) not;
  }

  more : length (runs ++ alone n ∷ []) ≡ length runs + 1
  more = length-append runs (alone n ∷ [])

  kept : (i : ℕ) → i < length runs → run_at (runs ++ alone n ∷ []) i ≡ run_at runs i
  kept i lt = get_or_append_left runs (alone n ∷ []) (past 0) i lt

  added : (i : ℕ) → length runs ≡ i → run_at (runs ++ alone n ∷ []) i ≡ alone n
  added i e = get_or_push runs (alone n) (past 0) i e

  old_or_new : (P : Run → Type 0) → ((i : ℕ) → i < length runs → P (run_at runs i)) → P (alone n) → (i : ℕ) → i < length (runs ++ alone n ∷ []) → P (run_at (runs ++ alone n ∷ []) i)
  old_or_new P old new i lt = elim (cases_lt i (length runs)) [
    | inl less ↦ subst P (sym (kept i less)) (old i less)
    | inr ge ↦ subst P (sym (added i (omega (arith, more, lt, ge)))) new
  ]

  single_one_more : slice_index_or leads n false ≡ false → AreSingles leads (runs ++ alone n ∷ []) (n + 1)
  single_one_more off = record {
    below = old_or_new (λ (r : Run). r.at < n + 1) (λ i lt. omega (arith, are.below i lt)) (omega arith);
    single = old_or_new (λ (r : Run). ¬ (IsIn leads r.at)) are.single (λ is. (let no : true ≡ false = sym is ∙ off in cc));
    one = old_or_new (λ (r : Run). r.count ≡ 1) are.one refl;
    ascending = λ i j lt within. elim (cases_lt j (length runs)) [
      | inl less ↦ (let a = ap (λ (r : Run). r.at) (kept i (omega arith)) in let b = ap (λ (r : Run). r.at) (kept j less) in let c = are.ascending i j lt less in omega (arith, a, b, c))
      | inr ge ↦ (let a = ap (λ (r : Run). r.at) (kept i (omega (arith, more))) in let b = ap (λ (r : Run). r.at) (added j (omega (arith, more))) in
          let c = are.below i (omega (arith, more)) in omega (arith, a, b, c))
    ];
    found = λ k lt not. elim (cases_lt k n) [
      | inl less ↦ (let f = are.found k less not in (f.0, omega (arith, more, f.1), ap (λ (r : Run). r.at) (kept f.0 f.1) ∙ f.2))
      | inr ge ↦ (length runs, omega (arith, more), ap (λ (r : Run). r.at) (added (length runs) refl) ∙ omega arith)
    ];
  }

one_word_more : (leads : List Bool) (n : ℕ) → AreSingles leads (singles_of leads n) n → (b : Bool) → slice_index_or leads n false ≡ b → AreSingles leads (singles_of leads (n + 1)) (n + 1)
one_word_more leads n are true on = subst (λ (rs : List Run). AreSingles leads rs (n + 1)) (sym (single_less leads n on)) (leader_more leads (singles_of leads n) n are on)
one_word_more leads n are false off = subst (λ (rs : List Run). AreSingles leads rs (n + 1)) (sym (single_more leads n off)) (single_one_more leads (singles_of leads n) n are off)

pub are_singles : (leads : List Bool) (n : ℕ) → AreSingles leads (singles_of leads n) n
are_singles leads zero = record {
  below = λ i lt. absurd (omega arith);
  single = λ i lt. absurd (omega arith);
  one = λ i lt. absurd (omega arith);
  ascending = λ i j lt within. absurd (omega arith);
  found = λ k lt. absurd (omega arith);
}
are_singles leads (suc n) =
    let e : n + 1 ≡ suc n = omega arith in
    subst (λ (m : ℕ). AreSingles leads (singles_of leads m) m) e (one_word_more leads n (are_singles leads n) (slice_index_or leads n false) refl)
