-- A search in two parts of a list.
use Rattle.std.proofs.Common.{inl, inr, ℕ, List, ◌-◌, length, take, drop, Option, Some, None, MatchOption, sym, subst}
use Rattle.std.specs.List.{Contains}
use Rattle.std.proofs.lemmas.List.{take-append-drop, take_rest}
use Rattle.std.proofs.lemmas.List.Elements.{Contains-append_left, Contains-append_right, Contains-append_cases}

pub in-front : {X : Type 0} (xs : List X) (k : ℕ) (x : X) → Contains (take k xs) x → Contains xs x
in-front xs k x h = subst (λ ys. Contains ys x) (take-append-drop k xs) (Contains-append_left (take k xs) (drop k xs) x h)

pub in-back : {X : Type 0} (xs : List X) (k : ℕ) (x : X) → Contains (drop k xs) x → Contains xs x
in-back xs k x h = subst (λ ys. Contains ys x) (take-append-drop k xs) (Contains-append_right (take k xs) (drop k xs) x h)

pub in-neither : {X : Type 0} (xs : List X) (k : ℕ) (x : X) → ¬ Contains (take k xs) x → ¬ Contains (drop k xs) x → ¬ Contains xs x
in-neither xs k x front back h =
    elim (Contains-append_cases (take k xs) (drop k xs) x (subst (λ ys. Contains ys x) (sym (take-append-drop k xs)) h)) [ inl a ↦ front a | inr b ↦ back b ]

-- what is found in the front, where the back has nothing
pub front-search : {X : Type 0} (xs : List X) (k : ℕ) (m : ℕ → X) (found : Option ℕ)
    → MatchOption found ((p : ℕ) → ¬ Contains (take k xs) (m p)) (λ p. Contains (take k xs) (m p)) → ((p : ℕ) → ¬ Contains (take (length xs - k) (drop k xs)) (m p))
    → MatchOption found ((p : ℕ) → ¬ Contains xs (m p)) (λ p. Contains xs (m p))
front-search xs k m None h none = λ p. in-neither xs k (m p) (h p) (subst (λ ys. ¬ Contains ys (m p)) (take_rest xs k) (none p))
front-search xs k m (Some p) h none = in-front xs k (m p) h

pub front-offer : {X : Type 0} (xs : List X) (k : ℕ) (m : ℕ → ℕ → X) (Is : X → Type 0) (found : Option X)
    → MatchOption found ((t p : ℕ) → ¬ Contains (take k xs) (m t p)) (λ o. Contains (take k xs) o × Is o) → ((t p : ℕ) → ¬ Contains (take (length xs - k) (drop k xs)) (m t p))
    → MatchOption found ((t p : ℕ) → ¬ Contains xs (m t p)) (λ o. Contains xs o × Is o)
front-offer xs k m Is None h none = λ t p. in-neither xs k (m t p) (h t p) (subst (λ ys. ¬ Contains ys (m t p)) (take_rest xs k) (none t p))
front-offer xs k m Is (Some o) h none = (in-front xs k o h.0, h.1)
