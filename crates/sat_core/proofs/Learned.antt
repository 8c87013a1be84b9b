-- Steps that are learned one after the other.
use Rattle.std.proofs.Common.{◌≡◌, ◌⊎◌, inl, inr, ℕ, ◌<◌, ◌≤◌, List, [], ◌∷◌, ◌++◌, ℤ, neg_ℤ, length, take, get_or, refl, sym, subst, ap, ◌∙◌, arith, length-append}
use Rattle.std.proofs.lemmas.Bool.{cases_lt}
use Rattle.std.specs.List.{All, Contains}
use Rattle.word_kit.specs.Prelude.{IsLiteral, AreClauses}
use Rattle.std.proofs.lemmas.List.Elements.{Contains-get_or, Contains-append_right, All-push}
use Rattle.std.proofs.lemmas.List.{take-append-le}
use Rattle.std.proofs.Math.ListN.{get_or-append}
use Rattle.std.proofs.Math.IntN.{neg_ℤ-neg_ℤ}
use Rattle.std.proofs.Math.Seq.{get_or-append_seam, take-append_seam}
use Rattle.watched_literals.specs.Prelude.{HasConflict, Follows, without}
use Rattle.watched_literals.specs.Propagation.IsMadeTrue.{opposite, unit}
use Rattle.refute_check.specs.Refutations.{StepsFollow}
use Rattle.sat_core.specs.Prelude.{IsLesson, AreLessons, AreSame, AreDifferent, AreLearned, IsRefuted}
use Rattle.sat_core.proofs.Without.{to-without}

pub learned-start : (formula : List (List ℤ)) → AreLearned formula []
learned-start formula = record {
  lessons = λ place within. absurd (omega (arith, within));
  different = λ earlier later less within. absurd (omega (arith, within));
}

-- a clause that says something new isn't a known one
not-known : (clauses : List (List ℤ)) (known clause : List ℤ) → Contains clauses known → IsLesson clauses clause → ¬ AreSame known clause
not-known clauses known clause inside h same =
    let n = h.news in
    n.3 (unit known n.0 inside ((same n.0).1 n.1)
    (λ other i ne. opposite (neg_ℤ other)
    (subst (Contains (without n.0 clause)) (sym (neg_ℤ-neg_ℤ other)) (to-without n.0 clause other ((same other).0 i) ne))))

at-place : (steps : List (List ℤ)) (clause : List ℤ) (place : ℕ) → place < length (steps ++ clause ∷ [])
    → (place < length steps) ⊎ (place ≡ length steps)
at-place steps clause place within = elim (cases_lt place (length steps)) [
  | inl less ↦ inl less
  | inr past ↦ inr (omega (arith, within, length-append steps (clause ∷ [])))
]

step-before : (steps : List (List ℤ)) (clause : List ℤ) (place : ℕ) → place < length steps → get_or (steps ++ clause ∷ []) place [] ≡ get_or steps place []
step-before steps clause place less = get_or-append steps (clause ∷ []) [] place less

step-last : (steps : List (List ℤ)) (clause : List ℤ) (place : ℕ) → place ≡ length steps → get_or (steps ++ clause ∷ []) place [] ≡ clause
step-last steps clause place at = ap (λ p. get_or (steps ++ clause ∷ []) p []) at ∙ get_or-append_seam steps clause [] []

front-before : (steps : List (List ℤ)) (clause : List ℤ) (place : ℕ) → place < length steps → take place (steps ++ clause ∷ []) ≡ take place steps
front-before steps clause place less = take-append-le place steps (clause ∷ []) (omega (arith, less))

front-last : (steps : List (List ℤ)) (clause : List ℤ) (place : ℕ) → place ≡ length steps → take place (steps ++ clause ∷ []) ≡ steps
front-last steps clause place at = ap (λ p. take p (steps ++ clause ∷ [])) at ∙ take-append_seam steps (clause ∷ [])

pub learned-more : (formula steps : List (List ℤ)) (clause : List ℤ) → AreLearned formula steps → IsLesson (formula ++ steps) clause
    → AreLearned formula (steps ++ clause ∷ [])
learned-more formula steps clause h lesson = record { lessons = lessons; different = different }
  where
    lessons : AreLessons formula (steps ++ clause ∷ [])
    lessons place within = elim (at-place steps clause place within) [
      | inl less ↦ subst (IsLesson (formula ++ take place (steps ++ clause ∷ []))) (sym (step-before steps clause place less))
          (subst (λ front. IsLesson (formula ++ front) (get_or steps place [])) (sym (front-before steps clause place less)) (h.lessons place less))
      | inr at ↦ subst (IsLesson (formula ++ take place (steps ++ clause ∷ []))) (sym (step-last steps clause place at))
          (subst (λ front. IsLesson (formula ++ front) clause) (sym (front-last steps clause place at)) lesson)
    ]

    different : AreDifferent (steps ++ clause ∷ [])
    different earlier later less within same = elim (at-place steps clause later within) [
      | inl before ↦ h.different earlier later less before
          (subst (λ c. AreSame c (get_or steps later [])) (step-before steps clause earlier (omega (arith, less, before)))
          (subst (AreSame (get_or (steps ++ clause ∷ []) earlier [])) (step-before steps clause later before) same))
      | inr at ↦
          let below : earlier < length steps = omega (arith, less, at) in
          not-known (formula ++ steps) (get_or steps earlier []) clause
          (Contains-append_right formula steps (get_or steps earlier []) (Contains-get_or steps earlier [] below)) lesson
          (subst (λ c. AreSame c clause) (step-before steps clause earlier below)
          (subst (AreSame (get_or (steps ++ clause ∷ []) earlier [])) (step-last steps clause later at) same))
    ]

-- the empty clause ends a refutation
pub refuted-end : (formula steps : List (List ℤ)) (limit : ℕ) → AreLearned formula steps → length steps ≤ limit → HasConflict (formula ++ steps) []
    → AreClauses steps → IsRefuted formula limit (steps ++ [] ∷ [])
refuted-end formula steps limit h within conflict literals = record {
  refutation = record { follow = follow; ends = (steps, refl) };
  learned = (steps, refl, within, h);
  literals = All-push (All IsLiteral) steps [] literals (λ k d inside. absurd (omega (arith, inside)));
}
  where
    follow : StepsFollow formula (steps ++ [] ∷ [])
    follow place inside = elim (at-place steps [] place inside) [
      | inl less ↦ subst (Follows (formula ++ take place (steps ++ [] ∷ []))) (sym (step-before steps [] place less))
          (subst (λ front. Follows (formula ++ front) (get_or steps place [])) (sym (front-before steps [] place less)) (h.lessons place less).follows)
      | inr at ↦ subst (Follows (formula ++ take place (steps ++ [] ∷ []))) (sym (step-last steps [] place at))
          (subst (λ front. Follows (formula ++ front) []) (sym (front-last steps [] place at)) (inr conflict))
    ]
