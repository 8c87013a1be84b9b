-- A full problem has one plan that is to be chosen.
use Rattle.std.proofs.Common.{◌≡◌, inl, inr, ℕ, List, [], ◌∷◌, refl, sym, subst, ap, ◌∙◌, arith}
use Rattle.plan_form.specs.declared.problem.Problem.{Problem}
use Rattle.plan_form.specs.declared.problem.Offer.{Offer}
use Rattle.plan_form.specs.declared.problem.Step.{Step}
use Rattle.plan_form.specs.declared.problem.Step.TheVariants.{Go, Lay}
use Rattle.plan_form.specs.Prelude.{Node, Leads, Leaves, IsWalk, IsNotBehind, IsAsGood, IsChosen, IsFullOver, entry_node}
use Rattle.tile_plan.proofs.Orders.{order-once}

module _ (q : Problem) (candidates : List ℕ) (price : ℕ → ℕ → ℕ) (full : IsFullOver q candidates price) where
  -- a step leads from a node to one node
  same_end : (u : Node) (step : Step) (c d : ℕ) (v w : Node) → Leads q u step c v → Leads q u step d w → v ≡ w
  same_end u (Go move) c d v w h k = h.1 ∙ sym k.1
  same_end u (Lay tile) c d v w h k =
      let e = full.single _ _ h.0 k.0 refl refl refl in
      let f : v.place ≡ w.place = ap (λ (o : Offer). o.to) e in
      ap (λ (n : ℕ). let x : Node = record { place = n; map = v.map } in x) f
      ∙ ap (λ m. let x : Node = record { place = w.place; map = m } in x) (h.1 ∙ sym k.1)

  same_after : (moves : ℕ) (step : Step) (a b : ℕ) → Leaves moves step a → Leaves moves step b → a ≡ b
  same_after moves (Go move) a b h k = omega (arith, h, k)
  same_after moves (Lay tile) a b h k = h ∙ sym k

  -- walks of which neither is behind the other are one
  one_walk : (moves : ℕ) (u : Node) (xs ys : List Step) (c d : ℕ) → IsWalk q moves u xs c → IsWalk q moves u ys d → IsNotBehind q xs ys → IsNotBehind q ys xs → xs ≡ ys
  one_walk moves u [] [] c d h k front back = refl
  one_walk moves u [] (y ∷ ys) c d h k front back = absurd back
  one_walk moves u (x ∷ xs) [] c d h k front back = absurd front
  one_walk moves u (x ∷ xs) (y ∷ ys) c d h k (inl less) (inl more) = absurd (omega (arith, less, more))
  one_walk moves u (x ∷ xs) (y ∷ ys) c d h k (inl less) (inr b) = absurd (let e = b.0 in omega (arith, less, e))
  one_walk moves u (x ∷ xs) (y ∷ ys) c d h k (inr f) (inl more) = absurd (let e = f.0 in omega (arith, more, e))
  one_walk moves u (x ∷ xs) (y ∷ ys) c d h k (inr f) (inr b) =
      let same : x ≡ y = order-once q candidates price full u x y h.0 k.0 h.2 k.2 h.4 k.4 f.0 in
      let l = subst (λ (s : Step). Leads q u s h.0 h.2) same h.4 in
      let end : h.2 ≡ k.2 = same_end u y h.0 k.0 h.2 k.2 l k.4 in
      let after : h.1 ≡ k.1 = same_after moves y h.1 k.1 (subst (λ (s : Step). Leaves moves s h.1) same h.5) k.5 in
      let w = subst (λ (v : Node). IsWalk q k.1 v xs h.3) end (subst (λ (n : ℕ). IsWalk q n h.2 xs h.3) after h.6) in
      ap (λ (s : Step). s ∷ xs) same ∙ ap (λ (l : List Step). y ∷ l) (one_walk k.1 k.2 xs ys h.3 k.3 w k.6 f.1 b.1)

  -- each of two plans that are as good as the other isn't behind it
  even : (a b : ℕ) (xs ys : List Step) → IsAsGood q a xs b ys → IsAsGood q b ys a xs → IsNotBehind q xs ys × IsNotBehind q ys xs
  even a b xs ys (inl less) (inl more) = absurd (omega (arith, less, more))
  even a b xs ys (inl less) (inr h) = absurd (let e = h.0 in omega (arith, less, e))
  even a b xs ys (inr h) (inl more) = absurd (let e = h.0 in omega (arith, more, e))
  even a b xs ys (inr (e, inl fewer)) (inr (f, inl more)) = absurd (omega (arith, fewer, more))
  even a b xs ys (inr (e, inl fewer)) (inr (f, inr h)) = absurd (let g = h.0 in omega (arith, fewer, g))
  even a b xs ys (inr (e, inr h)) (inr (f, inl more)) = absurd (let g = h.0 in omega (arith, more, g))
  even a b xs ys (inr (e, inr h)) (inr (f, inr k)) = (h.1, k.1)

  pub one_choice : (xs ys : List Step) (a b : ℕ) → IsChosen q xs a → IsChosen q ys b → xs ≡ ys
  one_choice xs ys a b h k =
      let e = even a b xs ys (h.best ys b k.plan) (k.best xs a h.plan) in
      one_walk 6 (entry_node q) xs ys a b h.plan k.plan e.0 e.1
