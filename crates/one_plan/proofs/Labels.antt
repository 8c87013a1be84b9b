-- The least costs of a problem's nodes are one list of labels.
use Rattle.std.proofs.Common.{◌≡◌, inl, inr, ℕ, ◌<◌, Bool, true, false, cond, eqb, List, [], length, get_or, refl, sym, subst, ap, ◌∙◌, arith}
use Rattle.std.specs.List.{Contains}
use Rattle.std.proofs.lemmas.Bool.{cases_lt}
use Rattle.std.proofs.lemmas.Bool.Decides.{nat_tests}
use Rattle.std.proofs.lemmas.List.{ext_get_or}
use Rattle.std.proofs.lemmas.List.Elements.{Contains-get_or}
use Rattle.std.proofs.lemmas.Grind.{same_number_lists}
use Rattle.plan_form.specs.declared.problem.Problem.{Problem}
use Rattle.plan_form.specs.Prelude.{Node, IsFullOver, IsAt, IsShaped, last, label_at, exit_node}
use Rattle.plan_form.proofs.Bounds.{at, label-last}
use Rattle.plan_form.proofs.Indexes.{map_at-at}
use Rattle.tile_plan.specs.Arcs.{node_at}
use Rattle.tile_plan.specs.Solution.{IsNode, IsLeastCost}

abbrev pub AreLeastCosts : Problem → List (List ℕ) → Type 0
AreLeastCosts q values = (u : Node) (i : ℕ) → IsNode q u → IsAt q u.map i → IsLeastCost q u (label_at q values u.place i)

one_cost : (q : Problem) (u : Node) (a b : ℕ) → IsLeastCost q u a → IsLeastCost q u b → a ≡ b
one_cost q u a b h k = let x = h.bound b k.reached in let y = k.bound a h.reached in omega (arith, x, y)

row_label : (q : Problem) (values : List (List ℕ)) (place i : ℕ) → place < last q → label_at q values place i ≡ get_or (get_or values place []) i 0
row_label q values place i less = go (eqb place (last q)) refl
  where
    is : (m n : ℕ) → eqb m n ≡ true → m ≡ n
    is m n e = grind (arith, nat_tests)

    go : (b : Bool) → eqb place (last q) ≡ b → get_or (get_or values place []) (cond (eqb place (last q)) 0 i) 0 ≡ get_or (get_or values place []) i 0
    go true e = absurd (let f = is place (last q) e in omega (arith, f, less))
    go false e = ap (λ (b : Bool). get_or (get_or values place []) (cond b 0 i) 0) e

module _ (q : Problem) (candidates : List ℕ) (price : ℕ → ℕ → ℕ) (full : IsFullOver q candidates price) (a b : List (List ℕ)) (shaped_a : IsShaped q a) (shaped_b : IsShaped q b)
    (least_a : AreLeastCosts q a) (least_b : AreLeastCosts q b) where
  same_row : (place : ℕ) → place < last q → get_or a place [] ≡ get_or b place []
  same_row place less = same_number_lists _ _ (shaped_a.before place less ∙ sym (shaped_b.before place less)) go
    where
      go : (i : ℕ) → i < length (get_or a place []) → get_or (get_or a place []) i 0 ≡ get_or (get_or b place []) i 0
      go i low =
          let n = shaped_a.before place less in
          let within : i < length q.maps.items = omega (arith, low, n) in
          let node : IsNode q (node_at q place i) = record { place = omega (arith, less); map = Contains-get_or q.maps.items i q.exit within; at_end = λ e. absurd (omega (arith, less, e)) } in
          let here = map_at-at q i within in
          sym (row_label q a place i less) ∙ one_cost q (node_at q place i) _ _ (least_a (node_at q place i) i node here) (least_b (node_at q place i) i node here) ∙ row_label q b place i less

  same_last : get_or a (last q) [] ≡ get_or b (last q) []
  same_last = same_number_lists _ _ (shaped_a.at_end ∙ sym shaped_b.at_end) go
    where
      exit : Contains q.maps.items q.exit
      exit = (full.maps q.exit).1 full.exit

      node : IsNode q (exit_node q)
      node = record { place = omega arith; map = exit; at_end = λ e. refl }

      both : get_or (get_or a (last q) []) 0 0 ≡ get_or (get_or b (last q) []) 0 0
      both =
          let j = at q q.exit exit in
          sym (label-last q a j.0) ∙ one_cost q (exit_node q) _ _ (least_a (exit_node q) j.0 node j.1) (least_b (exit_node q) j.0 node j.1) ∙ label-last q b j.0

      go : (i : ℕ) → i < length (get_or a (last q) []) → get_or (get_or a (last q) []) i 0 ≡ get_or (get_or b (last q) []) i 0
      go i low =
          let n = shaped_a.at_end in
          let zeroth : 0 ≡ i = omega (arith, low, n) in
          subst (λ (k : ℕ). get_or (get_or a (last q) []) k 0 ≡ get_or (get_or b (last q) []) k 0) zeroth both

  pub same_labels : a ≡ b
  same_labels = ext_get_or [] a b (shaped_a.places ∙ sym shaped_b.places) (λ place within. elim (cases_lt place (last q)) [
    | inl less ↦ same_row place less
    | inr more ↦
        let n = shaped_a.places in
        let low = full.low in
        let e : last q ≡ place = omega (arith, within, more, n, low) in
        subst (λ (k : ℕ). get_or a k [] ≡ get_or b k []) e same_last
  ])
