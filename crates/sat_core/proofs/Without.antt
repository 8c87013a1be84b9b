-- Clauses without a literal, and what follows from fewer literals.
use Rattle.std.proofs.Common.{◌≡◌, ◌≢◌, ◌⊎◌, inl, inr, Bool, true, false, not, cond, List, [], ◌∷◌, ◌++◌, ℤ, neg_ℤ, refl, sym, ap, ◌∙◌, arith, append-nil}
use Rattle.std.specs.List.{All, Contains}
use Rattle.std.specs.Bool.{Decides}
use Rattle.std.specs.Ordering.{int_eq}
use Rattle.std.proofs.lemmas.Bool.{false≢true}
use Rattle.std.proofs.lemmas.Bool.Decides.{Decides-int_eq}
use Rattle.std.proofs.lemmas.List.Elements.{filter-append, All-weaker, All-contains, All-contains_itself, Contains-append_right}
use Rattle.watched_literals.specs.Prelude.{HasConflict, IsTautology, Follows, without}
use Rattle.watched_literals.proofs.Trails.{Contains-nil, Contains-cons, conflict-more}

abbrev pub AreWithin : List ℤ → List ℤ → Type 0
AreWithin some all = (x : ℤ) → Contains some x → Contains all x

pub from-without : (literal : ℤ) (xs : List ℤ) (x : ℤ) → Contains (without literal xs) x → Contains xs x × (x ≢ literal)
from-without literal [] x h = Contains-nil x h
from-without literal (y ∷ ys) x h = go (from-without literal ys x) (int_eq y literal) (Decides-int_eq y literal) h
  where
    later : Contains ys x × (x ≢ literal) → Contains (y ∷ ys) x × (x ≢ literal)
    later r = (Contains-append_right (y ∷ []) ys x r.0, r.1)

    go : (Contains (without literal ys) x → Contains ys x × (x ≢ literal)) → (b : Bool) → Decides b (y ≡ literal)
        → Contains (cond (not b) (y ∷ without literal ys) (without literal ys)) x → Contains (y ∷ ys) x × (x ≢ literal)
    go rest true d k = later (rest k)
    go rest false d k = elim (Contains-cons y (without literal ys) x k) [
      | inl e ↦ ((0, omega arith, e), λ f. false≢true (d.1 (e ∙ f)))
      | inr m ↦ later (rest m)
    ]

pub to-without : (literal : ℤ) (xs : List ℤ) (x : ℤ) → Contains xs x → x ≢ literal → Contains (without literal xs) x
to-without literal [] x h ne = Contains-nil x h
to-without literal (y ∷ ys) x h ne =
    go (λ m. to-without literal ys x m ne) (int_eq y literal) (Decides-int_eq y literal) (Contains-cons y ys x h)
  where
    go : (Contains ys x → Contains (without literal ys) x) → (b : Bool) → Decides b (y ≡ literal) → (y ≡ x) ⊎ Contains ys x
        → Contains (cond (not b) (y ∷ without literal ys) (without literal ys)) x
    go rest true d (inl e) = absurd (ne (sym e ∙ d.0 refl))
    go rest true d (inr m) = rest m
    go rest false d (inl e) = (0, omega arith, e)
    go rest false d (inr m) = Contains-append_right (y ∷ []) (without literal ys) x (rest m)

pub without-within : (literal : ℤ) (xs : List ℤ) → AreWithin (without literal xs) xs
without-within literal xs x h = (from-without literal xs x h).0

pub without-more : (literal : ℤ) (some all : List ℤ) → AreWithin some all → AreWithin (without literal some) (without literal all)
without-more literal some all h x m =
    let r = from-without literal some x m in
    to-without literal all x (h x r.0) r.1

pub within-on : (a b c : List ℤ) → AreWithin a b → AreWithin b c → AreWithin a c
within-on a b c g h x m = h x (g x m)

pub all-within : (P : ℤ → Type 0) (some all : List ℤ) → AreWithin some all → All P all → All P some
all-within P some all h a = All-weaker (Contains some) P (λ x m. All-contains P all x a (h x m)) some (All-contains_itself some)

pub tautology-more : (some all : List ℤ) → AreWithin some all → IsTautology some → IsTautology all
tautology-more some all h t = (t.0, h t.0 t.1, h (neg_ℤ t.0) t.2)

pub conflict-within : (clauses : List (List ℤ)) (some all : List ℤ) → AreWithin some all → HasConflict clauses some → HasConflict clauses all
conflict-within clauses some all h k = conflict-more clauses clauses some all (λ c m. m) h k

pub follows-within : (clauses : List (List ℤ)) (some all : List ℤ) → AreWithin some all → Follows clauses some → Follows clauses all
follows-within clauses some all h (inl t) = inl (tautology-more some all h t)
follows-within clauses some all h (inr k) = inr (conflict-within clauses some all h k)

pub without-kept : (literal : ℤ) (xs : List ℤ) (x : ℤ) → x ≢ literal → without literal (xs ++ x ∷ []) ≡ without literal xs ++ x ∷ []
without-kept literal xs x ne =
    filter-append (λ other. not (int_eq other literal)) xs (x ∷ [])
    ∙ ap (λ t. without literal xs ++ t) (go (int_eq x literal) (Decides-int_eq x literal))
  where
    go : (b : Bool) → Decides b (x ≡ literal) → cond (not b) (x ∷ []) [] ≡ x ∷ []
    go true d = absurd (ne (d.0 refl))
    go false d = refl

pub without-left : (literal : ℤ) (xs : List ℤ) (x : ℤ) → x ≡ literal → without literal (xs ++ x ∷ []) ≡ without literal xs
without-left literal xs x e =
    filter-append (λ other. not (int_eq other literal)) xs (x ∷ [])
    ∙ ap (λ t. without literal xs ++ t) (go (int_eq x literal) (Decides-int_eq x literal)) ∙ append-nil (without literal xs)
  where
    go : (b : Bool) → Decides b (x ≡ literal) → cond (not b) (x ∷ []) [] ≡ []
    go true d = refl
    go false d = absurd (false≢true (d.1 e))
