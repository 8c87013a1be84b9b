-- A trail that gives each variable a value, and on which every clause is settled, satisfies the clauses.
use Rattle.std.proofs.Common.{◌≡◌, ◌⊎◌, inl, inr, ℕ, zero, suc, ◌<◌, ◌≤◌, ◌+◌, ◌^◌, Bool, true, false, not, IsTrue, List, [], ◌∷◌, ◌++◌, ℤ, pos, negsuc, neg_ℤ, length, get_or, refl, sym, subst, ap, ◌∙◌, arith, length-append}
use Rattle.std.proofs.Math.ListN.{get_or-append}
use Rattle.std.proofs.Math.Seq.{get_or-append_seam}
use Rattle.std.proofs.lemmas.Bool.{cases_lt}
use Rattle.std.specs.List.{All, Any, Contains, list_any}
use Rattle.std.specs.Ordering.{int_eq}
use Rattle.std.proofs.lemmas.List.Elements.{All-weaker, All-contains, All-contains_itself, Contains-append_left}
use Rattle.word_kit.specs.Prelude.{IsLiteral, IsFormula, AreClauses, Satisfies, literal_truth, variable}
use Rattle.word_kit.specs.declared.formulas.Formula.{Formula}
use Rattle.watched_literals.specs.Prelude.{IsConsistent, IsSettled, AllSettled}
use Rattle.watched_literals.proofs.Trails.{lists, tested}
use Rattle.sat_core.specs.Prelude.{IsClosedUnder, IsVariable, IsAssigned, AreRead, IsModel, value_of}

-- a literal of the trail is true
truth-on : (trail : List ℤ) (last : ℕ) (values : List Bool) (l : ℤ) → IsConsistent trail → AreRead trail last values → IsLiteral l → variable l ≤ last
    → Contains trail l → literal_truth l (value_of values) ≡ true
truth-on trail last values (pos zero) ok r is within m = absurd (omega (arith, is.nonzero))
truth-on trail last values (pos (suc n)) ok r is within m =
    r.read n (omega (arith, within)) is.within ∙ (lists trail (pos (suc n))).1 m
truth-on trail last values (negsuc n) ok r is within m =
    ap not (r.read n (omega (arith, within)) is.within ∙ tested trail (pos (suc n)) (λ k. ok (pos (suc n)) k m))

assigned : (trail : List ℤ) (last : ℕ) (l : ℤ) → IsLiteral l → variable l ≤ last → ((x : ℤ) → IsVariable last x → IsAssigned trail x)
    → Contains trail l ⊎ Contains trail (neg_ℤ l)
assigned trail last (pos zero) is within all = absurd (omega (arith, is.nonzero))
assigned trail last (pos (suc n)) is within all = all (pos (suc n)) (suc n, refl, is.nonzero, within, is.within)
assigned trail last (negsuc n) is within all = elim (all (pos (suc n)) (suc n, refl, is.nonzero, within, is.within)) [
  | inl m ↦ inr m
  | inr m ↦ inl m
]

module _ (trail : List ℤ) (last : ℕ) (values : List Bool) (ok : IsConsistent trail) (r : AreRead trail last values)
    (all : (x : ℤ) → IsVariable last x → IsAssigned trail x) where
  clause-true : (clause : List ℤ) → All IsLiteral clause → All (λ l. variable l ≤ last) clause → IsSettled trail trail clause
      → (l : ℤ) × Contains clause l × (literal_truth l (value_of values) ≡ true)
  clause-true clause ls named (inl s) =
      (s.0, s.1, truth-on trail last values s.0 ok r (All-contains IsLiteral clause s.0 ls s.1) (All-contains (λ l. variable l ≤ last) clause s.0 named s.1) s.2)
  clause-true clause ls named (inr s) =
      let is = All-contains IsLiteral clause s.0 ls s.3 in
      let within = All-contains (λ l. variable l ≤ last) clause s.0 named s.3 in
      elim (assigned trail last s.0 is within all) [
        | inl m ↦ (s.0, s.3, truth-on trail last values s.0 ok r is within m)
        | inr m ↦ absurd (s.5 m)
      ]

  pub all-true : (clauses : List (List ℤ)) → AreClauses clauses → All (λ clause. All (λ l. variable l ≤ last) clause) clauses
      → AllSettled clauses trail trail → Satisfies (value_of values) clauses
  all-true clauses cs named settled =
      All-weaker (Contains clauses) (λ clause. Any (λ l. IsTrue (literal_truth l (value_of values))) clause)
      (λ clause known.
      let t = clause-true clause (All-contains (All IsLiteral) clauses clause cs known)
      (All-contains (λ c. All (λ l. variable l ≤ last) c) clauses clause named known) (settled clause known) in
      (t.1.0, t.0, t.1.1, t.1.2, t.2))
      clauses (All-contains_itself clauses)

pub model-of : (formula : Formula) (clauses earlier : List (List ℤ)) (decided trail : List ℤ) (values : List Bool) → IsFormula formula
    → clauses ≡ formula.clauses → IsClosedUnder (clauses ++ earlier) decided trail
    → ((x : ℤ) → IsVariable formula.variables x → IsAssigned trail x) → AreRead trail formula.variables values → IsModel formula values
model-of formula clauses earlier decided trail values f e h all r = record {
  one_each = r.one_each;
  satisfies = all-true trail formula.variables values h.consistent r all formula.clauses f.literals f.named
      (λ clause known. h.settled clause (Contains-append_left clauses earlier clause (subst (λ cs. Contains cs clause) (sym e) known)));
}

pub read-start : (trail : List ℤ) → AreRead trail 0 []
read-start trail = record { one_each = refl; read = λ index less below. absurd (omega (arith, less)) }

pub read-more : (trail : List ℤ) (n : ℕ) (values : List Bool) (b : Bool) → (n + 1 < 2 ^ 31 → b ≡ list_any (int_eq (pos (n + 1))) trail)
    → AreRead trail n values → AreRead trail (n + 1) (values ++ b ∷ [])
read-more trail n values b here h = record {
  one_each = omega (arith, length-append values (b ∷ []), h.one_each);
  read = λ index less below. elim (cases_lt index n) [
    | inl before ↦ get_or-append values (b ∷ []) false index (omega (arith, before, h.one_each)) ∙ h.read index before below
    | inr past ↦
        let at : index ≡ n = omega (arith, less, past) in
        let place : index ≡ length values = omega (arith, at, h.one_each) in
        let next : n + 1 ≡ suc index = omega (arith, at) in
        ap (λ p. get_or (values ++ b ∷ []) p false) place ∙ get_or-append_seam values b [] false
        ∙ here (omega (arith, below, next)) ∙ ap (λ m. list_any (int_eq (pos m)) trail) next
  ];
}
