-- A walk followed from its start.
use Rattle.std.proofs.Common.{◌≡◌, inl, inr, ℕ, ◌+◌, ◌<◌, ◌≤◌, List, [], ◌∷◌, length, get_or, drop, refl, sym, subst, ap, ◌∙◌}
use Rattle.std.proofs.lemmas.List.{at_drop_more, at_drop_all}
use Rattle.plan_form.specs.declared.problem.Problem.{Problem}
use Rattle.plan_form.specs.declared.problem.Step.{Step}
use Rattle.plan_form.specs.Prelude.{Node, Leads, Leaves, IsWalk, IsValidPlan, exit_node, entry_node}
use Rattle.plan_verify.specs.Failures.{LeadsNowhere, Sticks}

-- the first k steps lead to the node, with so many moves left in a row
pub record IsReached (q : Problem) (steps : List Step) (k moves : ℕ) (u : Node) : Type 0 where
  pub onward : (rest : ℕ) → IsWalk q moves u (drop k steps) rest → (cost : ℕ) × IsValidPlan q steps cost
  pub sticks : (place : ℕ) → Sticks q moves u (drop k steps) place → Sticks q 6 (entry_node q) steps place

pub begins : (q : Problem) (steps : List Step) → IsReached q steps 0 6 (entry_node q)
begins q steps = record { onward = λ rest walk. (rest, walk); sticks = λ place here. here }

module _ (q : Problem) (steps : List Step) (k moves : ℕ) (u : Node) (reached : IsReached q steps k moves u) where
  module _ (step d : Step) (within : k < length steps) (is : get_or steps k d ≡ step) where
    here : drop k steps ≡ step ∷ drop (k + 1) steps
    here = at_drop_more (λ xs. xs) steps k d within ∙ ap (λ s. s ∷ drop (k + 1) steps) is

    pub follow : (price after : ℕ) (v : Node) → Leads q u step price v → Leaves moves step after → IsReached q steps (k + 1) after v
    follow price after v leads leaves = record {
      onward = λ rest walk.
          let whole : IsWalk q moves u (step ∷ drop (k + 1) steps) (price + rest) = (price, after, v, rest, leads, leaves, walk, refl) in
          reached.onward (price + rest) (subst (λ xs. IsWalk q moves u xs (price + rest)) (sym here) whole);
      sticks = λ place there.
          let whole : Sticks q moves u (step ∷ drop (k + 1) steps) place = inr (price, after, v, leads, leaves, there) in
          reached.sticks place (subst (λ xs. Sticks q moves u xs place) (sym here) whole);
    }

    pub stops : LeadsNowhere q moves u step → Sticks q 6 (entry_node q) steps u.place
    stops none =
        let whole : Sticks q moves u (step ∷ drop (k + 1) steps) u.place = inl (none, refl) in
        reached.sticks u.place (subst (λ xs. Sticks q moves u xs u.place) (sym here) whole)

  module _ (end : length steps ≤ k) where
    over : drop k steps ≡ []
    over = at_drop_all (λ xs. xs) steps k end

    pub arrives : u ≡ exit_node q → (cost : ℕ) × IsValidPlan q steps cost
    arrives is =
        let whole : IsWalk q moves u [] 0 = (is, refl) in
        reached.onward 0 (subst (λ xs. IsWalk q moves u xs 0) (sym over) whole)

    pub stops_short : ¬ (u ≡ exit_node q) → Sticks q 6 (entry_node q) steps u.place
    stops_short short =
        let whole : Sticks q moves u [] u.place = (short, refl) in
        reached.sticks u.place (subst (λ xs. Sticks q moves u xs u.place) (sym over) whole)
