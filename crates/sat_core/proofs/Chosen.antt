-- What a decision leads to.
use Rattle.std.proofs.Common.{◌≡◌, ◌⊎◌, inl, inr, ℕ, ◌<◌, ◌≤◌, ◌+◌, true, false, List, [], ◌∷◌, ◌++◌, ℤ, pos, neg_ℤ, length, take, get_or, refl, sym, subst, ap, ◌∙◌, arith, append-nil, Option, None, Some, min}
use Rattle.std.specs.Option.{is_some}
use Rattle.std.proofs.lemmas.Bool.{cases_lt, false≢true}
use Rattle.std.proofs.lemmas.List.{take_all}
use Rattle.std.specs.List.{Contains}
use Rattle.std.proofs.lemmas.List.Elements.{Contains-append_left, Contains-push, Contains-push_cases}
use Rattle.std.proofs.Math.IntN.{neg_ℤ-neg_ℤ}
use Rattle.word_kit.specs.Prelude.{IsLiteral}
use Rattle.watched_literals.specs.Prelude.{IsWithin, Spreads, IsMadeTrue, HasConflict, without, AreMadeTrue, IsConsistent, Extends}
use Rattle.watched_literals.specs.Propagation.IsMadeTrue.{opposite}
use Rattle.watched_literals.proofs.Trails.{Contains-cons, Contains-nil, made-more, closed, no-conflict, consistent-push, extends-on, take-item}
use Rattle.sat_core.specs.Prelude.{IsClosedUnder, IsGained, IsAssigned, IsLiteralOf, IsVariable, Leads}
use Rattle.sat_core.proofs.Without.{AreWithin, from-without, conflict-within}

extends-same : (trail : List ℤ) → Extends trail trail
extends-same trail = ([], sym (append-nil trail))

pub extends-keeps : (old new : List ℤ) → Extends old new → AreWithin old new
extends-keeps old new e x h = subst (λ xs. Contains xs x) (sym e.1) (Contains-append_left old e.0 x h)

assigned-on : (old new : List ℤ) (literal : ℤ) → Extends old new → IsAssigned old literal → IsAssigned new literal
assigned-on old new literal e (inl h) = inl (extends-keeps old new e literal h)
assigned-on old new literal e (inr h) = inr (extends-keeps old new e (neg_ℤ literal) h)

-- nothing is decided yet
pub leads-start : (clauses : List (List ℤ)) (wanted : ℤ → Type 0) (trail decided : List ℤ) → IsClosedUnder clauses decided trail
    → ((literal : ℤ) → wanted literal → IsAssigned trail literal) → Leads clauses wanted trail trail decided None
leads-start clauses wanted trail decided h all = (h, extends-same trail, all)

-- one decision after others
pub leads-on : (clauses : List (List ℤ)) (before here after : ℤ → Type 0) (old now new decided decided' : List ℤ) (last : Option ℤ)
    → ((literal : ℤ) → after literal → before literal ⊎ here literal) → Leads clauses before old now decided None
    → Leads clauses here now new decided' last → Leads clauses after old new decided' last
leads-on clauses before here after old now new decided decided' None split h k = (
  k.0,
  extends-on old now new h.1 k.1,
  λ literal w. elim (split literal w) [
    | inl b ↦ assigned-on now new literal k.1 (h.2 literal b)
    | inr b ↦ k.2 literal b
  ],
)
leads-on clauses before here after old now new decided decided' (Some last) split h k = (k.0, extends-on old now new h.1 k.1)

-- a literal without a value is made true
module _ (clauses : List (List ℤ)) (decided trail : List ℤ) (literal : ℤ) (is : IsLiteral literal) (fresh : ¬ Contains trail literal)
    (free : ¬ Contains trail (neg_ℤ literal)) (h : IsClosedUnder clauses decided trail) where
  chosen-made : AreMadeTrue clauses (decided ++ neg_ℤ literal ∷ []) (trail ++ literal ∷ [])
  chosen-made x m = elim (Contains-push_cases trail literal x m) [
    | inl before ↦ made-more clauses clauses decided (decided ++ neg_ℤ literal ∷ []) (λ c k. k)
        (λ y k. Contains-append_left decided (neg_ℤ literal ∷ []) y k) x (h.made x before)
    | inr e ↦ subst (IsMadeTrue clauses (decided ++ neg_ℤ literal ∷ [])) e (opposite literal (Contains-push decided (neg_ℤ literal)))
  ]

  chosen-consistent : IsConsistent (trail ++ literal ∷ [])
  chosen-consistent = consistent-push trail literal is fresh free h.consistent

  chosen-denied : (x : ℤ) → Contains (decided ++ neg_ℤ literal ∷ []) x → Contains (trail ++ literal ∷ []) (neg_ℤ x)
  chosen-denied x m = elim (Contains-push_cases decided (neg_ℤ literal) x m) [
    | inl before ↦ Contains-append_left trail (literal ∷ []) (neg_ℤ x) (h.denied x before)
    | inr e ↦ subst (λ y. Contains (trail ++ literal ∷ []) (neg_ℤ y)) e
        (subst (Contains (trail ++ literal ∷ [])) (sym (neg_ℤ-neg_ℤ literal)) (Contains-push trail literal))
  ]

  others-within : AreWithin (without (neg_ℤ literal) (decided ++ neg_ℤ literal ∷ [])) decided
  others-within x m =
      let r = from-without (neg_ℤ literal) (decided ++ neg_ℤ literal ∷ []) x m in
      elim (Contains-push_cases decided (neg_ℤ literal) x r.0) [ inl before ↦ before | inr e ↦ absurd (r.1 (sym e)) ]

  gained : HasConflict clauses (decided ++ neg_ℤ literal ∷ []) → IsGained clauses (decided ++ neg_ℤ literal ∷ []) (neg_ℤ literal)
  gained conflict = record {
    inside = Contains-push decided (neg_ℤ literal);
    plain = λ t. chosen-consistent (neg_ℤ t.0) (chosen-denied t.0 t.1) (chosen-denied (neg_ℤ t.0) t.2);
    conflict = conflict;
    quiet = λ k. no-conflict clauses decided trail h.consistent h.settled h.denied
        (conflict-within clauses (without (neg_ℤ literal) (decided ++ neg_ℤ literal ∷ [])) decided others-within k);
    fresh = λ m. free (closed clauses decided trail h.consistent h.settled h.denied (neg_ℤ literal)
        (made-more clauses clauses (without (neg_ℤ literal) (decided ++ neg_ℤ literal ∷ [])) decided (λ c k. k) others-within (neg_ℤ literal) m));
  }

  pub decided-false : (new : List ℤ) (wanted : ℤ → Type 0) → Spreads clauses (trail ++ literal ∷ []) new true
      → Leads clauses wanted trail new (decided ++ neg_ℤ literal ∷ []) (Some (neg_ℤ literal))
  decided-false new wanted p = (
    gained (p.0 (decided ++ neg_ℤ literal ∷ []) chosen-made),
    extends-on trail (trail ++ literal ∷ []) new (literal ∷ [], refl) p.1,
  )

  pub decided-open : (new : List ℤ) → Spreads clauses (trail ++ literal ∷ []) new false
      → Leads clauses (λ x. literal ≡ x) trail new (decided ++ neg_ℤ literal ∷ []) None
  decided-open new p = (
    record {
      made = p.made (decided ++ neg_ℤ literal ∷ []) chosen-made;
      consistent = p.consistent chosen-consistent;
      settled = p.settled;
      denied = λ x m. extends-keeps (trail ++ literal ∷ []) new p.extends (neg_ℤ x) (chosen-denied x m);
    },
    extends-on trail (trail ++ literal ∷ []) new (literal ∷ [], refl) p.extends,
    λ x e. inl (subst (Contains new) e (extends-keeps (trail ++ literal ∷ []) new p.extends literal (Contains-push trail literal))),
  )

only : (room : ℕ) (literal x : ℤ) → IsLiteralOf room (literal ∷ []) x → literal ≡ x
only room literal x m = elim (Contains-cons literal [] x m.0) [ inl e ↦ e | inr n ↦ Contains-nil x n ]

-- a literal that has a value is passed over
pub leads-valued : (room : ℕ) (clauses : List (List ℤ)) (decided trail : List ℤ) (literal : ℤ) → IsAssigned trail literal → IsClosedUnder clauses decided trail
    → Leads clauses (IsLiteralOf room (literal ∷ [])) trail trail decided None
leads-valued room clauses decided trail literal has h =
    leads-start clauses (IsLiteralOf room (literal ∷ [])) trail decided h (λ x m. subst (IsAssigned trail) (only room literal x m) has)

pub leads-false : (clauses : List (List ℤ)) (decided trail : List ℤ) (literal : ℤ) (new decided' : List ℤ) (last : ℤ) (wanted : ℤ → Type 0)
    → IsLiteral literal → (¬ Contains trail literal) → (¬ Contains trail (neg_ℤ literal)) → IsClosedUnder clauses decided trail
    → decided' ≡ decided ++ neg_ℤ literal ∷ [] → last ≡ neg_ℤ literal → Spreads clauses (trail ++ literal ∷ []) new true
    → Leads clauses wanted trail new decided' (Some last)
leads-false clauses decided trail literal new decided' last wanted is fresh free h f g p =
    subst (λ d. Leads clauses wanted trail new d (Some last)) (sym f)
    (subst (λ l. Leads clauses wanted trail new (decided ++ neg_ℤ literal ∷ []) (Some l)) (sym g)
    (decided-false clauses decided trail literal is fresh free h new wanted p))

pub leads-open : (room : ℕ) (clauses : List (List ℤ)) (decided trail : List ℤ) (literal : ℤ) (new decided' : List ℤ)
    → IsLiteral literal → (¬ Contains trail literal) → (¬ Contains trail (neg_ℤ literal)) → IsClosedUnder clauses decided trail
    → decided' ≡ decided ++ neg_ℤ literal ∷ [] → Spreads clauses (trail ++ literal ∷ []) new false
    → Leads clauses (IsLiteralOf room (literal ∷ [])) trail new decided' None
leads-open room clauses decided trail literal new decided' is fresh free h f p =
    let r = decided-open clauses decided trail literal is fresh free h new p in
    subst (λ d. Leads clauses (IsLiteralOf room (literal ∷ [])) trail new d None) (sym f) (r.0, r.1, λ x m. r.2 x (only room literal x m))

-- ---- literals are assumed one after the other

pub literal-split : (room : ℕ) (numbers : List ℤ) (n : ℕ) (literal : ℤ) → n < length numbers → literal ≡ get_or numbers n literal
    → (x : ℤ) → IsLiteralOf room (take (n + 1) numbers) x → IsLiteralOf room (take n numbers) x ⊎ IsLiteralOf room (literal ∷ []) x
literal-split room numbers n literal within is x m =
    elim (Contains-push_cases (take n numbers) literal x (subst (λ xs. Contains xs x) (take-item numbers n literal within is) m.0)) [
      | inl before ↦ inl (before, m.1)
      | inr e ↦ inr ((0, omega arith, e), m.1)
    ]

pub leads-weaker : (clauses : List (List ℤ)) (wanted wanted' : ℤ → Type 0) (old new decided : List ℤ) (last : Option ℤ)
    → ((x : ℤ) → wanted' x → wanted x) → Leads clauses wanted old new decided last → Leads clauses wanted' old new decided last
leads-weaker clauses wanted wanted' old new decided None less h = (h.0, h.1, λ x m. h.2 x (less x m))
leads-weaker clauses wanted wanted' old new decided (Some last) less h = h

pub leads-stopped : (clauses : List (List ℤ)) (wanted wanted' : ℤ → Type 0) (old new decided : List ℤ) (last : Option ℤ)
    → is_some last ≡ true → Leads clauses wanted old new decided last → Leads clauses wanted' old new decided last
leads-stopped clauses wanted wanted' old new decided None s h = absurd (false≢true s)
leads-stopped clauses wanted wanted' old new decided (Some last) s h = h

pub literals-all : (room : ℕ) (numbers : List ℤ) (n : ℕ) → length numbers ≤ n → (x : ℤ) → IsLiteralOf room numbers x → IsLiteralOf room (take n numbers) x
literals-all room numbers n low x m = (subst (λ xs. Contains xs x) (sym (take_all n numbers low)) m.0, m.1)

pub variable-split : (room n : ℕ) (literal : ℤ) → literal ≡ pos (n + 1) → IsWithin room literal
    → (x : ℤ) → IsVariable (n + 1) x → IsVariable n x ⊎ IsLiteralOf room (literal ∷ []) x
variable-split room n literal is within x m = elim (cases_lt m.0 (n + 1)) [
  | inl less ↦ inl (m.0, m.1, m.2, omega (arith, less), m.4)
  | inr past ↦
      let at : n + 1 ≡ m.0 = omega (arith, past, m.3) in
      let e : literal ≡ x = is ∙ ap pos at ∙ sym m.1 in
      inr ((0, omega arith, e), subst (IsWithin room) e within)
]

pub variables-all : (n last : ℕ) → min last 2147483647 ≤ n → (x : ℤ) → IsVariable last x → IsVariable n x
variables-all n last low x m = (m.0, m.1, m.2, omega (arith, low, m.3, m.4), m.4)

pub leads-going : (clauses : List (List ℤ)) (wanted : ℤ → Type 0) (old new decided : List ℤ) (last : Option ℤ)
    → is_some last ≡ false → Leads clauses wanted old new decided last → Leads clauses wanted old new decided None
leads-going clauses wanted old new decided None s h = h
leads-going clauses wanted old new decided (Some last) s h = absurd (false≢true (sym s))
