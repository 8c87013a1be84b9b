-- Labels bound the walks.
use Rattle.std.proofs.Common.{◌≡◌, ℕ, ◌+◌, ◌≤◌, List, [], ◌∷◌, refl, sym, subst, ap, ◌∙◌, arith, Bool, cond, get_or, eq-eqb}
use Rattle.std.specs.List.{Contains}
use Rattle.machines.specs.Prelude.{Map}
use Rattle.plan_form.specs.Prelude.{Problem, Step, Go, Lay, Offer, IsMapOver, IsFullOver, Node, Leads, IsWalk, IsValidPlan, entry_node, last, IsAt, label_at, IsObeyed, Certifies}

-- a map that the list holds stands at an index
pub at : (q : Problem) (m : Map) → Contains q.maps.items m → (i : ℕ) × IsAt q m i
at q m h = (h.0, record { within = h.1; is = h.2 })

-- at the last place there is one label
pub label-last : (q : Problem) (values : List (List ℕ)) (i : ℕ) → label_at q values (last q) i ≡ get_or (get_or values (last q) []) 0 0
label-last q values i = ap (λ (b : Bool). get_or (get_or values (last q) []) (cond b 0 i) 0) (eq-eqb (last q) (last q) refl)

module _ (q : Problem) (candidates : List ℕ) (price : ℕ → ℕ → ℕ) (full : IsFullOver q candidates price) where
  pub leads-map : (u : Node) (step : Step) (cost : ℕ) (v : Node) → Leads q u step cost v → IsMapOver candidates v.map
  leads-map u (Go step) cost v h = subst (λ (w : Node). IsMapOver candidates w.map) (sym h.1) ((full.moves _).0 h.0).to
  leads-map u (Lay tile) cost v h = subst (IsMapOver candidates) (sym h.1) (full.offers _ h.0).map

  pub leads-at : (u : Node) (step : Step) (cost : ℕ) (v : Node) → Leads q u step cost v → (i : ℕ) × IsAt q v.map i
  leads-at u step cost v h = at q v.map ((full.maps v.map).1 (leads-map u step cost v h))

  pub walk-bound : (values : List (List ℕ)) → IsObeyed q values → (j : ℕ) → IsAt q q.exit j → (steps : List Step) (moves : ℕ) (u : Node) (cost i : ℕ)
      → IsWalk q moves u steps cost → IsAt q u.map i → label_at q values (last q) j ≤ label_at q values u.place i + cost
  walk-bound values obeyed j exit [] moves u cost i h here =
      let e = ap (λ (w : Node). label_at q values w.place i) h.0 in
      omega (arith, label-last q values j, label-last q values i, e)
  walk-bound values obeyed j exit (step ∷ steps) moves u cost i h here =
      let v = h.2 in
      let at_v = leads-at u step h.0 v h.4 in
      let edge = obeyed u step h.0 v i at_v.0 h.4 here at_v.1 in
      let rest = walk-bound values obeyed j exit steps h.1 v h.3 at_v.0 h.6 at_v.1 in
      omega (arith, edge, rest, h.7)

  -- the cost that is certified is at most that of any plan
  pub certified-least : (values : List (List ℕ)) (cost : ℕ) → Certifies q values cost → (steps : List Step) (c : ℕ) → IsValidPlan q steps c → cost ≤ c
  certified-least values cost good steps c h =
      let i = at q q.entry ((full.maps q.entry).1 full.entry) in
      let j = at q q.exit ((full.maps q.exit).1 full.exit) in
      let b = walk-bound values good.edges j.0 j.1 steps 6 (entry_node q) c i.0 h i.1 in
      omega (arith, b, good.start i.0 i.1, good.end j.0 j.1)

  -- a step from a node leads to one node, at one price
  pub leads-once : (u : Node) (step : Step) (c d : ℕ) (v w : Node) → Leads q u step c v → Leads q u step d w → (c ≡ d) × (v ≡ w)
  leads-once u (Go step) c d v w h k =
      (((full.moves _).0 h.0).price_is ∙ sym ((full.moves _).0 k.0).price_is, h.1 ∙ sym k.1)
  leads-once u (Lay tile) c d v w h k =
      let e = full.single _ _ h.0 k.0 refl refl refl in
      (ap (λ (o : Offer). o.price) e, same_node v w (ap (λ (o : Offer). o.to) e) (h.1 ∙ sym k.1))
    where
      same_node : (v w : Node) → v.place ≡ w.place → v.map ≡ w.map → v ≡ w
      same_node v w e f = ap (λ (p : ℕ). let n : Node = record { place = p; map = v.map } in n) e ∙ ap (λ (m : Map). let n : Node = record { place = w.place; map = m } in n) f
