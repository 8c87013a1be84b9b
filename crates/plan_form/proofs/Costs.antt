-- A plan followed from its start.
use Rattle.std.proofs.Common.{◌≡◌, inl, inr, ℕ, ◌+◌, ◌*◌, ◌<◌, ◌≤◌, List, [], ◌∷◌, length, get_or, drop, refl, sym, subst, ap, ◌∙◌, arith, add_assoc}
use Rattle.std.proofs.lemmas.List.{at_drop_more, at_drop_all}
use Rattle.machines.specs.Prelude.{Map}
use Rattle.plan_form.specs.Prelude.{Problem, Step, Go, Lay, IsFullOver, Node, Leads, Leaves, IsWalk, IsValidPlan, exit_node, entry_node, last}
use Rattle.reg_map.specs.Prelude.{moved_gpr}
use Rattle.plan_form.proofs.Bounds.{leads-once}

pub node-same : (p p' : ℕ) (m m' : Map) → p ≡ p' → m ≡ m' → ◌≡◌ {A = Node} (record { place = p; map = m }) (record { place = p'; map = m' })
node-same p p' m m' e f = ap (λ (x : ℕ). let n : Node = record { place = x; map = m } in n) e ∙ ap (λ (x : Map). let n : Node = record { place = p'; map = x } in n) f

-- the first k steps of a list lead at this cost to this node, with so many moves left in a row
pub record IsFollowed (q : Problem) (steps : List Step) (k moves cost : ℕ) (u : Node) : Type 0 where
  pub onward : (c : ℕ) → IsWalk q moves u (drop k steps) c → IsValidPlan q steps (cost + c)
  pub back : (total : ℕ) → IsValidPlan q steps total → (c : ℕ) × IsWalk q moves u (drop k steps) c × (total ≡ cost + c)
  pub within : u.place ≤ last q
  pub few : moves ≤ 6
  pub small : cost + 1024 * moves ≤ 1024 * (7 * u.place + 6)

pub followed-as : (q : Problem) (steps : List Step) (k moves moves' cost cost' : ℕ) (u v : Node) → moves' ≡ moves → cost' ≡ cost → v ≡ u
    → IsFollowed q steps k moves cost u → IsFollowed q steps k moves' cost' v
followed-as q steps k moves moves' cost cost' u v e f g h =
    subst (λ n. IsFollowed q steps k n cost' v) (sym e) (subst (λ n. IsFollowed q steps k moves n v) (sym f) (subst (λ w. IsFollowed q steps k moves cost w) (sym g) h))

pub leaves-once : (moves : ℕ) (step : Step) (a b : ℕ) → Leaves moves step a → Leaves moves step b → a ≡ b
leaves-once moves (Go step) a b h k = omega (arith, h, k)
leaves-once moves (Lay tile) a b h k = h ∙ sym k

module _ (q : Problem) (candidates : List ℕ) (price : ℕ → ℕ → ℕ) (full : IsFullOver q candidates price) where
  pub price-small : (u : Node) (step : Step) (cost : ℕ) (v : Node) → Leads q u step cost v → cost < 1024
  price-small u (Go step) cost v h =
      let e = ((full.moves _).0 h.0).price_is in
      elim (full.prices u.place (moved_gpr u.map step)) [ inl p ↦ omega (arith, e, p) | inr p ↦ omega (arith, e, p) ]
  price-small u (Lay tile) cost v h = (full.offers _ h.0).price

  pub leads-place : (u : Node) (step : Step) (cost : ℕ) (v : Node) → Leads q u step cost v → v.place ≤ last q
  leads-place u (Go step) cost v h = let e = ap (λ (w : Node). w.place) h.1 in omega (arith, e, ((full.moves _).0 h.0).place)
  leads-place u (Lay tile) cost v h = (full.offers _ h.0).within

  leads-small : (u : Node) (step : Step) (cost : ℕ) (v : Node) (moves after spent : ℕ) → Leads q u step cost v → Leaves moves step after → moves ≤ 6
      → spent + 1024 * moves ≤ 1024 * (7 * u.place + 6) → (after ≤ 6) × (spent + cost + 1024 * after ≤ 1024 * (7 * v.place + 6))
  leads-small u (Go step) cost v moves after spent h k few small =
      let e = ap (λ (w : Node). w.place) h.1 in let p = price-small u (Go step) cost v h in
      (omega (arith, k), omega (arith, e, k, p))
  leads-small u (Lay tile) cost v moves after spent h k few small =
      let e = (full.offers _ h.0).onward in let p = price-small u (Lay tile) cost v h in
      (omega (arith, k), omega (arith, e, k, p))

  drop-step : (steps : List Step) (k : ℕ) (step d : Step) → k < length steps → get_or steps k d ≡ step → drop k steps ≡ step ∷ drop (k + 1) steps
  drop-step steps k step d within is = at_drop_more (λ xs. xs) steps k d within ∙ ap (λ s. s ∷ drop (k + 1) steps) is

  pub follow : (steps : List Step) (k moves spent : ℕ) (u : Node) (step d : Step) (cost after : ℕ) (v : Node) → IsFollowed q steps k moves spent u
      → k < length steps → get_or steps k d ≡ step → Leads q u step cost v → Leaves moves step after → IsFollowed q steps (k + 1) after (spent + cost) v
  follow steps k moves spent u step d cost after v at within is leads leaves =
      let e = drop-step steps k step d within is in
      let small = leads-small u step cost v moves after spent leads leaves at.few at.small in
      record {
        onward = λ c walk.
            let whole : IsWalk q moves u (step ∷ drop (k + 1) steps) (cost + c) = (cost, after, v, c, leads, leaves, walk, refl) in
            subst (IsValidPlan q steps) (sym (add_assoc spent cost c)) (at.onward (cost + c) (subst (λ xs. IsWalk q moves u xs (cost + c)) (sym e) whole));
        back = λ total plan.
            let b = at.back total plan in
            let walk = subst (λ xs. IsWalk q moves u xs b.0) e b.1 in
            let same = leads-once q candidates price full u step walk.0 cost walk.2 v walk.4 leads in
            let left = leaves-once moves step walk.1 after walk.5 leaves in
            (walk.3, subst (λ w. IsWalk q after w (drop (k + 1) steps) walk.3) same.1 (subst (λ n. IsWalk q n walk.2 (drop (k + 1) steps) walk.3) left walk.6), omega (arith, b.2, walk.7, same.0));
        within = leads-place u step cost v leads;
        few = small.0;
        small = small.1;
      }

  -- no step leads on, so there is no plan
  pub stuck : (steps : List Step) (k moves spent : ℕ) (u : Node) (step d : Step) → IsFollowed q steps k moves spent u
      → k < length steps → get_or steps k d ≡ step → ((cost after : ℕ) (v : Node) → Leads q u step cost v → Leaves moves step after → ⊥)
      → (total : ℕ) → IsValidPlan q steps total → ⊥
  stuck steps k moves spent u step d at within is none total plan =
      let b = at.back total plan in
      let walk = subst (λ xs. IsWalk q moves u xs b.0) (drop-step steps k step d within is) b.1 in
      none walk.0 walk.1 walk.2 walk.4 walk.5

  pub begins : (steps : List Step) → IsFollowed q steps 0 6 0 (entry_node q)
  begins steps = record {
    onward = λ c walk. subst (IsValidPlan q steps) (omega arith) walk;
    back = λ total plan. (total, plan, omega arith);
    within = omega arith;
    few = omega arith;
    small = omega arith;
  }

  pub arrives : (steps : List Step) (k moves spent : ℕ) (u : Node) → IsFollowed q steps k moves spent u → length steps ≤ k → u ≡ exit_node q → IsValidPlan q steps spent
  arrives steps k moves spent u at end is =
      subst (IsValidPlan q steps) (omega arith) (at.onward 0 (subst (λ xs. IsWalk q moves u xs 0) (sym (at_drop_all (λ xs. xs) steps k end)) (is, refl)))

  pub arrives_not : (steps : List Step) (k moves spent : ℕ) (u : Node) → IsFollowed q steps k moves spent u → length steps ≤ k → (u ≡ exit_node q → ⊥)
      → (total : ℕ) → IsValidPlan q steps total → ⊥
  arrives_not steps k moves spent u at end none total plan =
      let b = at.back total plan in
      none (subst (λ xs. IsWalk q moves u xs b.0) (at_drop_all (λ xs. xs) steps k end) b.1).0

  -- steps from a node have one cost
  pub walk-once : (moves : ℕ) (u : Node) (steps : List Step) (c d : ℕ) → IsWalk q moves u steps c → IsWalk q moves u steps d → c ≡ d
  walk-once moves u [] c d h k = h.1 ∙ sym k.1
  walk-once moves u (step ∷ steps) c d h k =
      let same = leads-once q candidates price full u step h.0 k.0 h.2 k.2 h.4 k.4 in
      let left = leaves-once moves step h.1 k.1 h.5 k.5 in
      let there = subst (λ w. IsWalk q h.1 w steps k.3) (sym same.1) (subst (λ n. IsWalk q n k.2 steps k.3) (sym left) k.6) in
      let rest = walk-once h.1 h.2 steps h.3 k.3 h.6 there in
      omega (arith, same.0, rest, h.7, k.7)
