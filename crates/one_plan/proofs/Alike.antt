-- Problems that say the same, in vectors of their own, have the same plans and the same costs.
use Rattle.std.proofs.Common.{◌≡◌, inl, inr, ℕ, ◌+◌, ◌-◌, ◌*◌, ◌<◌, ◌==◌, List, [], ◌∷◌, length, if◌then◌else◌, refl, sym, subst, ap, ◌∙◌, arith}
use Rattle.std.specs.Prelude.{slice_index_or}
use Rattle.std.specs.List.{Contains, position_or_len}
use Rattle.machines.specs.Prelude.{Map}
use Rattle.reg_map.specs.declared.moves.Move.TheVariants.{Drop, Take}
use Rattle.plan_form.specs.declared.problem.Problem.{Problem}
use Rattle.plan_form.specs.declared.problem.Offer.{Offer}
use Rattle.plan_form.specs.declared.problem.MovePrice.{MovePrice}
use Rattle.plan_form.specs.declared.problem.Step.{Step}
use Rattle.plan_form.specs.declared.problem.Step.TheVariants.{Go, Lay}
use Rattle.plan_form.specs.declared.problem.Tile.TheVariants.{Base, Rule}
use Rattle.plan_form.specs.Prelude.{Node, Leads, IsWalk, IsValidPlan, IsNotBehind, IsAsGood, IsChosen, IsAt, IsShaped, entry_node, exit_node, order, is_alone, label_at}
use Rattle.tile_plan.specs.Reach.{Reaches, starts, steps_on}
use Rattle.tile_plan.specs.Solution.{IsNode, IsLeastCost}

pub record AreAlike (q r : Problem) : Type 0 where
  pub places : q.places ≡ r.places
  pub entry : q.entry ≡ r.entry
  pub exit : q.exit ≡ r.exit
  pub maps : q.maps.items ≡ r.maps.items
  pub moves : q.moves.items ≡ r.moves.items
  pub offers : q.offers.items ≡ r.offers.items

pub turned : (q r : Problem) → AreAlike q r → AreAlike r q
turned q r h = record { places = sym h.places; entry = sym h.entry; exit = sym h.exit; maps = sym h.maps; moves = sym h.moves; offers = sym h.offers }

module _ (q r : Problem) (alike : AreAlike q r) where
  leads : (u : Node) (step : Step) (price : ℕ) (v : Node) → Leads q u step price v → Leads r u step price v
  leads u (Go move) price v h = (subst (λ (l : List MovePrice). Contains l (record { place = u.place; map = u.map; step = move; price = price })) alike.moves h.0, h.1)
  leads u (Lay tile) price v h = (subst (λ (l : List Offer). Contains l (record { from = u.place; to = v.place; map = u.map; tile = tile; price = price })) alike.offers h.0, h.1)

  same_entry : entry_node q ≡ entry_node r
  same_entry = ap (λ (m : Map). let w : Node = record { place = 0; map = m } in w) alike.entry

  same_exit : exit_node q ≡ exit_node r
  same_exit =
      ap (λ (n : ℕ). let w : Node = record { place = n - 1; map = q.exit } in w) alike.places
      ∙ ap (λ (m : Map). let w : Node = record { place = r.places - 1; map = m } in w) alike.exit

  walk : (moves : ℕ) (u : Node) (steps : List Step) (cost : ℕ) → IsWalk q moves u steps cost → IsWalk r moves u steps cost
  walk moves u [] cost h = (h.0 ∙ same_exit, h.1)
  walk moves u (step ∷ steps) cost h = (h.0, h.1, h.2, h.3, leads u step h.0 h.2 h.4, h.5, walk h.1 h.2 steps h.3 h.6, h.7)

  pub valid : (steps : List Step) (cost : ℕ) → IsValidPlan q steps cost → IsValidPlan r steps cost
  valid steps cost h = subst (λ (u : Node). IsWalk r 6 u steps cost) same_entry (walk 6 (entry_node q) steps cost h)

  same_order : (step : Step) → order q step ≡ order r step
  same_order (Lay Base) = refl
  same_order (Lay (Rule n)) = refl
  same_order (Go (Drop slot)) = refl
  same_order (Go (Take slot g)) = ap (λ (l : List Map). 0x1_0000_0200 + 512 * slot + position_or_len (λ (m : Map). is_alone g m.ebx m.esi m.edi) l) alike.maps

  not_behind : (xs ys : List Step) → IsNotBehind q xs ys → IsNotBehind r xs ys
  not_behind [] ys h = tt
  not_behind (x ∷ xs) [] h = h
  not_behind (x ∷ xs) (y ∷ ys) (inl less) = let e = same_order x in let f = same_order y in inl (omega (arith, less, e, f))
  not_behind (x ∷ xs) (y ∷ ys) (inr h) = inr (sym (same_order x) ∙ h.0 ∙ same_order y, not_behind xs ys h.1)

  pub as_good : (cost : ℕ) (steps : List Step) (cost' : ℕ) (other : List Step) → IsAsGood q cost steps cost' other → IsAsGood r cost steps cost' other
  as_good cost steps cost' other (inl less) = inl less
  as_good cost steps cost' other (inr (e, inl fewer)) = inr (e, inl fewer)
  as_good cost steps cost' other (inr (e, inr (f, h))) = inr (e, inr (f, not_behind steps other h))

  pub reaches : {u : Node} {cost : ℕ} → Reaches q u cost → Reaches r u cost
  reaches starts = subst (λ (u : Node). Reaches r u 0) (sym same_entry) starts
  reaches (steps_on {u} {cost} step price v before l) = steps_on step price v (reaches before) (leads u step price v l)

  pub node : (u : Node) → IsNode q u → IsNode r u
  node u h =
      let e = alike.places in
      record {
        place = (let low = h.place in omega (arith, low, e));
        map = subst (λ (l : List Map). Contains l u.map) alike.maps h.map;
        at_end = λ k. h.at_end (omega (arith, k, e)) ∙ alike.exit;
      }

  pub stands : (m : Map) (i : ℕ) → IsAt q m i → IsAt r m i
  stands m i h = record {
    within = subst (λ (l : List Map). i < length l) alike.maps h.within;
    is = subst (λ (l : List Map). slice_index_or l i m ≡ m) alike.maps h.is;
  }

  pub same_label : (values : List (List ℕ)) (place i : ℕ) → label_at q values place i ≡ label_at r values place i
  same_label values place i = ap (λ (n : ℕ). slice_index_or (slice_index_or values place []) (if place == n - 1 then 0 else i) 0) alike.places

  pub shaped : (values : List (List ℕ)) → IsShaped q values → IsShaped r values
  shaped values h =
      let e = alike.places in
      record {
        places = h.places ∙ e;
        before = λ place less. h.before place (omega (arith, less, e)) ∙ ap (λ (l : List Map). length l) alike.maps;
        at_end = subst (λ (n : ℕ). length (slice_index_or values (n - 1) []) ≡ 1) e h.at_end;
      }

module _ (q r : Problem) (alike : AreAlike q r) where
  pub chosen : (steps : List Step) (cost : ℕ) → IsChosen q steps cost → IsChosen r steps cost
  chosen steps cost h = record {
    plan = valid q r alike steps cost h.plan;
    best = λ other cost' p. as_good q r alike cost steps cost' other (h.best other cost' (valid r q (turned q r alike) other cost' p));
  }

  pub least : (u : Node) (cost : ℕ) → IsLeastCost q u cost → IsLeastCost r u cost
  least u cost h = record {
    reached = reaches q r alike h.reached;
    bound = λ other w. h.bound other (reaches r q (turned q r alike) w);
  }
