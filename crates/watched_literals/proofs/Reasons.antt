-- The clauses that made literals true.
use Rattle.std.proofs.Common.{◌≡◌, ◌⊎◌, inl, inr, ℕ, ◌<◌, ◌≤◌, List, [], ◌∷◌, ◌++◌, ℤ, pos, length, take, get_or, sym, subst, ap, ◌∙◌, arith, length-append, None, Some, Option}
use Rattle.std.proofs.lemmas.Bool.{cases_lt}
use Rattle.std.proofs.lemmas.List.{take-append-le, take-take, take_all, length-take-le, get_or_append_left, get_or-take}
use Rattle.std.proofs.Math.Seq.{take-append_seam, get_or-append_seam}
use Rattle.watched_literals.specs.Prelude.{IsUnit, Assigned, AreReasoned}

-- one literal more, with its reason
pub reasoned-push : (clauses : List (List ℤ)) (old new : Assigned) (literal : ℤ) (reason : Option ℕ) → new.literals ≡ old.literals ++ literal ∷ []
    → new.reasons ≡ old.reasons ++ reason ∷ []
    → ((clause : ℕ) → reason ≡ Some clause → (clause < length clauses) × IsUnit old.literals (get_or clauses clause []) literal)
    → AreReasoned clauses old → AreReasoned clauses new
reasoned-push clauses old new literal reason e f u h = record {
  aligned = omega (arith, h.aligned, ap length e, ap length f, length-append old.literals (literal ∷ []), length-append old.reasons (reason ∷ []));
  unit = λ place clause within is. go place clause within is (cases_lt place (length old.literals));
}
  where
    go : (place clause : ℕ) → place < length new.literals → get_or new.reasons place None ≡ Some clause
        → (place < length old.literals) ⊎ (length old.literals ≤ place)
        → (clause < length clauses) × IsUnit (take place new.literals) (get_or clauses clause []) (get_or new.literals place (pos 0))
    go place clause within is (inl less) =
        let r : get_or new.reasons place None ≡ get_or old.reasons place None =
        ap (λ xs. get_or xs place None) f ∙ get_or_append_left old.reasons (reason ∷ []) None place (omega (arith, less, h.aligned)) in
        let l : get_or new.literals place (pos 0) ≡ get_or old.literals place (pos 0) =
        ap (λ xs. get_or xs place (pos 0)) e ∙ get_or_append_left old.literals (literal ∷ []) (pos 0) place less in
        let t : take place new.literals ≡ take place old.literals = ap (take place) e ∙ take-append-le place old.literals (literal ∷ []) (omega arith) in
        let was = h.unit place clause less (sym r ∙ is) in (
          was.0,
          subst (λ xs. IsUnit xs (get_or clauses clause []) (get_or new.literals place (pos 0))) (sym t)
              (subst (IsUnit (take place old.literals) (get_or clauses clause [])) (sym l) was.1),
        )
    go place clause within is (inr past) =
        let at : place ≡ length old.literals = omega (arith, within, past, ap length e, length-append old.literals (literal ∷ [])) in
        let r : get_or new.reasons place None ≡ reason =
        ap (λ xs. get_or xs place None) f ∙ ap (λ p. get_or (old.reasons ++ reason ∷ []) p None) (at ∙ sym h.aligned) ∙ get_or-append_seam old.reasons reason [] None in
        let l : get_or new.literals place (pos 0) ≡ literal =
        ap (λ xs. get_or xs place (pos 0)) e ∙ ap (λ p. get_or (old.literals ++ literal ∷ []) p (pos 0)) at ∙ get_or-append_seam old.literals literal [] (pos 0) in
        let t : take place new.literals ≡ old.literals =
        ap (take place) e ∙ ap (λ p. take p (old.literals ++ literal ∷ [])) at ∙ take-append_seam old.literals (literal ∷ []) in
        let is_unit = u clause (sym r ∙ is) in (
          is_unit.0,
          subst (λ xs. IsUnit xs (get_or clauses clause []) (get_or new.literals place (pos 0))) (sym t)
              (subst (IsUnit old.literals (get_or clauses clause [])) (sym l) is_unit.1),
        )

pub reasoned-none : (clauses : List (List ℤ)) (old new : Assigned) (literal : ℤ) → new.literals ≡ old.literals ++ literal ∷ []
    → new.reasons ≡ old.reasons ++ None ∷ [] → AreReasoned clauses old → AreReasoned clauses new
reasoned-none clauses old new literal e f h = reasoned-push clauses old new literal None e f (λ clause is. absurd (none clause is)) h
  where
    none : (clause : ℕ) → None ≡ Some clause → ⊥
    none clause is = cc

-- the first literals
pub reasoned-take : (clauses : List (List ℤ)) (old new : Assigned) (count : ℕ) → new.literals ≡ take count old.literals
    → new.reasons ≡ take count old.reasons → AreReasoned clauses old → AreReasoned clauses new
reasoned-take clauses old new count e f h = elim (cases_lt count (length old.literals)) [
  | inl less ↦
      let n : length new.literals ≡ count = ap length e ∙ length-take-le count old.literals (omega arith) in
      let m : length new.reasons ≡ count = ap length f ∙ length-take-le count old.reasons (omega (arith, h.aligned)) in
      record {
        aligned = m ∙ sym n;
        unit = λ place clause within is.
            let below : place < count = omega (arith, within, n) in
            let r : get_or new.reasons place None ≡ get_or old.reasons place None = ap (λ xs. get_or xs place None) f ∙ get_or-take count old.reasons place None below in
            let l : get_or new.literals place (pos 0) ≡ get_or old.literals place (pos 0) =
            ap (λ xs. get_or xs place (pos 0)) e ∙ get_or-take count old.literals place (pos 0) below in
            let t : take place new.literals ≡ take place old.literals = ap (take place) e ∙ take-take place count old.literals (omega arith) in
            let was = h.unit place clause (omega (arith, below, less)) (sym r ∙ is) in (
              was.0,
              subst (λ xs. IsUnit xs (get_or clauses clause []) (get_or new.literals place (pos 0))) (sym t)
                  (subst (IsUnit (take place old.literals) (get_or clauses clause [])) (sym l) was.1),
            );
      }
  | inr past ↦
      let l : new.literals ≡ old.literals = e ∙ take_all count old.literals past in
      let r : new.reasons ≡ old.reasons = f ∙ take_all count old.reasons (omega (arith, past, h.aligned)) in
      record {
        aligned = ap length r ∙ h.aligned ∙ sym (ap length l);
        unit = λ place clause within is.
            let was = h.unit place clause (omega (arith, within, ap length l)) (sym (ap (λ xs. get_or xs place None) r) ∙ is) in
            (was.0, subst (λ xs. IsUnit (take place xs) (get_or clauses clause []) (get_or xs place (pos 0))) (sym l) was.1);
      }
]

-- one clause more
pub reasoned-longer : (clauses : List (List ℤ)) (more : List (List ℤ)) (trail : Assigned) → AreReasoned clauses trail → AreReasoned (clauses ++ more) trail
reasoned-longer clauses more trail h = record {
  aligned = h.aligned;
  unit = λ place clause within is.
      let was = h.unit place clause within is in (
        omega (arith, was.0, length-append clauses more),
        subst (λ c. IsUnit (take place trail.literals) c (get_or trail.literals place (pos 0))) (sym (get_or_append_left clauses more [] clause was.0)) was.1,
      );
}

pub reasoned-unit : (clauses : List (List ℤ)) (old new : Assigned) (literal : ℤ) (place : ℕ) → new.literals ≡ old.literals ++ literal ∷ []
    → new.reasons ≡ old.reasons ++ Some place ∷ [] → place < length clauses → IsUnit old.literals (get_or clauses place []) literal
    → AreReasoned clauses old → AreReasoned clauses new
reasoned-unit clauses old new literal place e f within u h = reasoned-push clauses old new literal (Some place) e f (λ clause is. at clause is) h
  where
    at : (clause : ℕ) → Some place ≡ Some clause → (clause < length clauses) × IsUnit old.literals (get_or clauses clause []) literal
    at clause is =
        let same : place ≡ clause = cc in
        (subst (λ p. p < length clauses) same within, subst (λ p. IsUnit old.literals (get_or clauses p []) literal) same u)
