-- Literals are left out of a clause one after the other.
use Rattle.std.proofs.lemmas.List.Sorted.{IsPermutation-reverse, Contains-permutation}
use Rattle.std.proofs.Common.{reverse, ◌≡◌, ◌≢◌, inl, inr, ℕ, ◌<◌, ◌≤◌, ◌+◌, Bool, true, false, List, [], ◌∷◌, ◌++◌, ℤ, length, take, sym, subst, ap, ◌∙◌, arith, get_or}
use Rattle.std.specs.List.{Contains}
use Rattle.std.specs.Bool.{Decides}
use Rattle.std.proofs.lemmas.Bool.{false≢true}
use Rattle.std.proofs.lemmas.List.Elements.{Contains-push_cases}
use Rattle.std.proofs.Math.Seq.{take-length}
use Rattle.watched_literals.specs.Prelude.{HasConflict, IsTautology, Follows, IsTight, without}
use Rattle.watched_literals.proofs.Trails.{Contains-nil, made-more, same_or_not, take-item}
use Rattle.sat_core.specs.Prelude.{IsGained, IsLesson}
use Rattle.sat_core.proofs.Without.{AreWithin, from-without, to-without, without-within, without-more, tautology-more, conflict-within, follows-within}

-- these literals were tried, and what is left follows and is news by the last one
pub record IsTightened (clauses : List (List ℤ)) (clause : List ℤ) (last : ℤ) (done kept : List ℤ) : Type 0 where
  pub gained : IsGained clauses kept last
  pub within : AreWithin kept clause
  pub tried : (x : ℤ) → Contains done x → Contains kept x → x ≢ last → ¬ Follows clauses (without x kept)

pub tightened-start : (clauses : List (List ℤ)) (clause : List ℤ) (last : ℤ) → IsGained clauses clause last
    → IsTightened clauses (reverse clause) last [] clause
tightened-start clauses clause last h = record {
  gained = h;
  within = λ x m. Contains-permutation clause (reverse clause) x (IsPermutation-reverse clause) m;
  tried = λ x m. Contains-nil x m;
}

-- this literal stays
pub tightened-stays : (clauses : List (List ℤ)) (clause : List ℤ) (last : ℤ) (done kept : List ℤ) (literal : ℤ)
    → (literal ≢ last → ¬ Follows clauses (without literal kept)) → IsTightened clauses clause last done kept
    → IsTightened clauses clause last (done ++ literal ∷ []) kept
tightened-stays clauses clause last done kept literal needed h = record {
  gained = h.gained;
  within = h.within;
  tried = λ x m inside ne. elim (Contains-push_cases done literal x m) [
    | inl before ↦ h.tried x before inside ne
    | inr e ↦ subst (λ y. y ≢ last → ¬ Follows clauses (without y kept)) e needed ne
  ];
}

gained-without : (clauses : List (List ℤ)) (kept : List ℤ) (last literal : ℤ) → literal ≢ last → Follows clauses (without literal kept)
    → IsGained clauses kept last → IsGained clauses (without literal kept) last
gained-without clauses kept last literal ne follows h = record {
  inside = to-without literal kept last h.inside (λ e. ne (sym e));
  plain = plain;
  conflict = go follows;
  quiet = λ k. h.quiet (conflict-within clauses (without last (without literal kept)) (without last kept) less k);
  fresh = λ m. h.fresh (made-more clauses clauses (without last (without literal kept)) (without last kept) (λ c k. k) less last m);
}
  where
    less : AreWithin (without last (without literal kept)) (without last kept)
    less = without-more last (without literal kept) kept (without-within literal kept)

    plain : ¬ IsTautology (without literal kept)
    plain t = h.plain (tautology-more (without literal kept) kept (without-within literal kept) t)

    go : Follows clauses (without literal kept) → HasConflict clauses (without literal kept)
    go (inl t) = absurd (h.plain (tautology-more (without literal kept) kept (without-within literal kept) t))
    go (inr k) = k

-- this literal is left out
pub tightened-out : (clauses : List (List ℤ)) (clause : List ℤ) (last : ℤ) (done kept : List ℤ) (literal : ℤ)
    → literal ≢ last → Follows clauses (without literal kept) → IsTightened clauses clause last done kept
    → IsTightened clauses clause last (done ++ literal ∷ []) (without literal kept)
tightened-out clauses clause last done kept literal ne follows h = record {
  gained = gained-without clauses kept last literal ne follows h.gained;
  within = λ x m. h.within x (without-within literal kept x m);
  tried = λ x m inside nl f. elim (Contains-push_cases done literal x m) [
    | inl before ↦ h.tried x before (without-within literal kept x inside) nl
        (follows-within clauses (without x (without literal kept)) (without x kept)
        (without-more x (without literal kept) kept (without-within literal kept)) f)
    | inr e ↦ (from-without literal kept x inside).1 (sym e)
  ];
}

pub tightened-lesson : (clauses : List (List ℤ)) (clause : List ℤ) (last : ℤ) (kept : List ℤ) → IsTightened clauses clause last clause kept
    → IsLesson clauses kept
tightened-lesson clauses clause last kept h = record {
  some = λ e. Contains-nil last (subst (λ xs. Contains xs last) e h.gained.inside);
  plain = h.gained.plain;
  follows = inr h.gained.conflict;
  news = (last, h.gained.inside, h.gained.quiet, h.gained.fresh);
  tight = tight;
}
  where
    needed : ¬ Follows clauses (without last kept)
    needed (inl t) = h.gained.plain (tautology-more (without last kept) kept (without-within last kept) t)
    needed (inr k) = h.gained.quiet k

    tight : IsTight clauses kept
    tight x inside f = elim (same_or_not x last) [
      | inl e ↦ needed (subst (λ y. Follows clauses (without y kept)) e f)
      | inr ne ↦ h.tried x (h.within x inside) inside ne f
    ]

pub tightened-end : (clauses : List (List ℤ)) (clause : List ℤ) (last : ℤ) (kept : List ℤ) (n : ℕ) → length clause ≤ n → n ≤ length clause
    → IsTightened clauses clause last (take n clause) kept → IsTightened clauses clause last clause kept
tightened-end clauses clause last kept n low high h =
    let at : n ≡ length clause = omega arith in
    subst (λ xs. IsTightened clauses clause last xs kept) (ap (λ m. take m clause) at ∙ take-length clause) h

-- ---- one literal of the clause after the other

pub tightened-next_out : (clauses : List (List ℤ)) (clause : List ℤ) (last : ℤ) (n : ℕ) (kept kept' rest seen : List ℤ) (literal : ℤ) (holds : Bool)
    → n < length clause → literal ≡ get_or clause n literal → literal ≢ last → rest ≡ without literal kept → seen ≡ rest
    → Decides holds (Follows clauses seen) → holds ≡ true → kept' ≡ rest → IsTightened clauses clause last (take n clause) kept
    → IsTightened clauses clause last (take (n + 1) clause) kept'
tightened-next_out clauses clause last n kept kept' rest seen literal holds within is ne e f d y g h =
    subst (λ done. IsTightened clauses clause last done kept') (sym (take-item clause n literal within is))
    (subst (IsTightened clauses clause last (take n clause ++ literal ∷ [])) (sym (g ∙ e))
    (tightened-out clauses clause last (take n clause) kept literal ne (subst (Follows clauses) (f ∙ e) (d.0 y)) h))

pub tightened-next_stays : (clauses : List (List ℤ)) (clause : List ℤ) (last : ℤ) (n : ℕ) (kept kept' rest seen : List ℤ) (literal : ℤ) (holds : Bool)
    → n < length clause → literal ≡ get_or clause n literal → rest ≡ without literal kept → seen ≡ rest
    → Decides holds (Follows clauses seen) → holds ≡ false → kept' ≡ kept → IsTightened clauses clause last (take n clause) kept
    → IsTightened clauses clause last (take (n + 1) clause) kept'
tightened-next_stays clauses clause last n kept kept' rest seen literal holds within is e f d y g h =
    subst (λ done. IsTightened clauses clause last done kept') (sym (take-item clause n literal within is))
    (subst (IsTightened clauses clause last (take n clause ++ literal ∷ [])) (sym g)
    (tightened-stays clauses clause last (take n clause) kept literal
    (λ ne follows. false≢true (sym y ∙ d.1 (subst (Follows clauses) (sym (f ∙ e)) follows))) h))

pub tightened-next_last : (clauses : List (List ℤ)) (clause : List ℤ) (last : ℤ) (n : ℕ) (kept kept' : List ℤ) (literal : ℤ)
    → n < length clause → literal ≡ get_or clause n literal → literal ≡ last → kept' ≡ kept → IsTightened clauses clause last (take n clause) kept
    → IsTightened clauses clause last (take (n + 1) clause) kept'
tightened-next_last clauses clause last n kept kept' literal within is e g h =
    subst (λ done. IsTightened clauses clause last done kept') (sym (take-item clause n literal within is))
    (subst (IsTightened clauses clause last (take n clause ++ literal ∷ [])) (sym g)
    (tightened-stays clauses clause last (take n clause) kept literal (λ ne follows. ne e) h))
