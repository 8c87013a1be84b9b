-- Variables numbered anew: what follows stays what follows.
use Rattle.std.proofs.Common.{◌≡◌, ◌⊎◌, inl, inr, ℕ, zero, suc, ◌<◌, List, [], ◌∷◌, ℤ, neg_ℤ, length, get_or, map, refl, sym, subst, ap, ◌∙◌, arith}
use Rattle.std.specs.List.{Contains}
use Rattle.watched_literals.specs.Prelude.{IsMadeTrue, Follows}
use Rattle.watched_literals.specs.Propagation.IsMadeTrue.{opposite, unit}

cons-cases : {X : Type 0} (y : X) (ys : List X) (x : X) → Contains (y ∷ ys) x → (y ≡ x) ⊎ Contains ys x
cons-cases y ys x h = place h.0 h.1 h.2
  where
    place : (k : ℕ) → k < length (y ∷ ys) → get_or (y ∷ ys) k x ≡ x → (y ≡ x) ⊎ Contains ys x
    place zero within is = inl is
    place (suc k) within is = inr (k, omega (arith, within), is)

cons-here : {X : Type 0} (y : X) (ys : List X) (x : X) → y ≡ x → Contains (y ∷ ys) x
cons-here y ys x e = (0, omega arith, e)

cons-there : {X : Type 0} (y : X) (ys : List X) (x : X) → Contains ys x → Contains (y ∷ ys) x
cons-there y ys x h = (suc h.0, omega (arith, h.1), h.2)

none-in : {X : Type 0} {P : Type 0} (x : X) → Contains [] x → P
none-in x h = absurd (omega (arith, h.1))

map-in : {X Y : Type 0} (f : X → Y) (xs : List X) (x : X) → Contains xs x → Contains (map f xs) (f x)
map-in f [] x h = none-in x h
map-in f (y ∷ ys) x h = elim (cons-cases y ys x h) [ inl e ↦ cons-here (f y) (map f ys) (f x) (ap f e) | inr k ↦ cons-there (f y) (map f ys) (f x) (map-in f ys x k) ]

map-from : {X Y : Type 0} (f : X → Y) (xs : List X) (y : Y) → Contains (map f xs) y → (x : X) × Contains xs x × (f x ≡ y)
map-from f [] y h = none-in y h
map-from f (x ∷ xs) y h = elim (cons-cases (f x) (map f xs) y h) [
  | inl e ↦ (x, cons-here x xs x refl, e)
  | inr k ↦ let r = map-from f xs y k in (r.0, cons-there x xs r.0 r.1, r.2)
]

-- a numbering: opposites stay opposites, and no two literals become one
module _ (number : ℤ → ℤ) (keeps : (x : ℤ) → number (neg_ℤ x) ≡ neg_ℤ (number x)) (apart : (x y : ℤ) → number x ≡ number y → x ≡ y) where
  abbrev pub numbered : List (List ℤ) → List (List ℤ)
  numbered clauses = map (map number) clauses

  pub made-numbered : (clauses : List (List ℤ)) (falses : List ℤ) (l : ℤ) → IsMadeTrue clauses falses l → IsMadeTrue (numbered clauses) (map number falses) (number l)
  made-numbered clauses falses _ (opposite l h) = opposite (number l) (subst (Contains (map number falses)) (keeps l) (map-in number falses (neg_ℤ l) h))
  made-numbered clauses falses _ (unit clause l known inside others) =
      unit (map number clause) (number l) (map-in (map number) clauses clause known) (map-in number clause l inside)
      (λ other i ne.
      let o = map-from number clause other i in
      subst (λ x. IsMadeTrue (numbered clauses) (map number falses) x) (keeps o.0 ∙ ap neg_ℤ o.2)
      (made-numbered clauses falses (neg_ℤ o.0) (others o.0 o.1 (λ e. ne (sym o.2 ∙ ap number e)))))

  inside-from : (xs : List ℤ) (x : ℤ) → Contains (map number xs) (number x) → Contains xs x
  inside-from xs x h = let r = map-from number xs (number x) h in subst (Contains xs) (apart r.0 x r.2) r.1

  pub made-from : (clauses : List (List ℤ)) (falses : List ℤ) (m : ℤ) → IsMadeTrue (numbered clauses) (map number falses) m
      → (l : ℤ) → m ≡ number l → IsMadeTrue clauses falses l
  made-from clauses falses _ (opposite m h) l e =
      opposite l (inside-from falses (neg_ℤ l) (subst (Contains (map number falses)) (ap neg_ℤ e ∙ sym (keeps l)) h))
  made-from clauses falses _ (unit clause m known inside others) l e =
      let c = map-from (map number) clauses clause known in
      unit c.0 l c.1 (inside-from c.0 l (subst (λ xs. Contains xs (number l)) (sym c.2) (subst (Contains clause) e inside)))
      (λ other i ne.
      made-from clauses falses (neg_ℤ (number other))
      (others (number other) (subst (λ xs. Contains xs (number other)) c.2 (map-in number c.0 other i)) (λ f. ne (apart other l (f ∙ e))))
      (neg_ℤ other) (sym (keeps other)))

  pub follows-numbered : (clauses : List (List ℤ)) (clause : List ℤ) → Follows clauses clause → Follows (numbered clauses) (map number clause)
  follows-numbered clauses clause (inl t) =
      inl (number t.0, map-in number clause t.0 t.1, subst (Contains (map number clause)) (keeps t.0) (map-in number clause (neg_ℤ t.0) t.2))
  follows-numbered clauses clause (inr h) = inr (
    map number h.0,
    map-in (map number) clauses h.0 h.1,
    λ l i.
        let o = map-from number h.0 l i in
        subst (IsMadeTrue (numbered clauses) (map number clause)) (keeps o.0 ∙ ap neg_ℤ o.2) (made-numbered clauses clause (neg_ℤ o.0) (h.2 o.0 o.1)),
  )

  pub follows-from : (clauses : List (List ℤ)) (clause : List ℤ) → Follows (numbered clauses) (map number clause) → Follows clauses clause
  follows-from clauses clause (inl t) =
      let o = map-from number clause t.0 t.1 in
      inl (o.0, o.1, inside-from clause (neg_ℤ o.0) (subst (Contains (map number clause)) (ap neg_ℤ (sym o.2) ∙ sym (keeps o.0)) t.2))
  follows-from clauses clause (inr h) =
      let c = map-from (map number) clauses h.0 h.1 in
      inr (
        c.0,
        c.1,
        λ l i.
            made-from clauses clause (neg_ℤ (number l)) (h.2 (number l) (subst (λ xs. Contains xs (number l)) c.2 (map-in number c.0 l i))) (neg_ℤ l) (sym (keeps l)),
      )
