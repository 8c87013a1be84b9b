-- Whatever is reached is reached with at most six moves in a row, at no higher cost; and a full problem has a plan.
use Rattle.std.proofs.Common.{◌≡◌, ℕ, zero, suc, ◌+◌, ◌-◌, ◌≤◌, List, [], ◌∷◌, refl, sym, subst, arith}
use Rattle.machines.specs.Prelude.{Map}
use Rattle.plan_form.specs.declared.problem.Problem.{Problem}
use Rattle.plan_form.specs.declared.problem.Step.{Step}
use Rattle.plan_form.specs.declared.problem.Step.TheVariants.{Go, Lay}
use Rattle.plan_form.specs.declared.problem.Tile.TheVariants.{Base}
use Rattle.plan_form.specs.declared.problem.Tile.{Tile}
use Rattle.plan_form.specs.Prelude.{IsMapOver, IsFullOver, Node, Leads, IsValidPlan, exit_node, last}
use Rattle.plan_form.proofs.Costs.{node-same}
use Rattle.tile_plan.specs.Prelude.{Reaches}
use Rattle.tile_plan.specs.Reach.Reaches.{starts, steps_on}
use Rattle.tile_plan.proofs.Switches.{Can, can-switch, switch_price, switch-same, switch-on}

-- a tile may follow any number of moves
can-lay : (q : Problem) (moves : ℕ) (u : Node) (tile : Tile) (price : ℕ) (v : Node) (cost : ℕ) → Leads q u (Lay tile) price v → Can q 6 v cost → Can q moves u (price + cost)
can-lay q moves u tile price v cost h w = record { steps = Lay tile ∷ w.steps; walk = (price, 6, v, cost, h, refl, w.walk, refl) }

-- a plan at most as costly
pub record HasPlan (q : Problem) (most : ℕ) : Type 0 where
  pub steps : List Step
  pub cost : ℕ
  pub plan : IsValidPlan q steps cost
  pub low : cost ≤ most

-- a walk from this node makes a plan that costs so much more
abbrev Completes : Problem → Node → ℕ → Type 0
Completes q w spent = (rest : ℕ) → Can q 6 w rest → HasPlan q (spent + rest)

-- the node is reached from the end of the last tile, or from the start, by a switch
record IsBased (q : Problem) (candidates : List ℕ) (price : ℕ → ℕ → ℕ) (u : Node) (cost : ℕ) : Type 0 where
  pub base : Map
  pub spent : ℕ
  pub base_over : IsMapOver candidates base
  pub over : IsMapOver candidates u.map
  pub place_in : u.place ≤ last q
  pub completes : Completes q (record { place = u.place; map = base }) spent
  pub low : spent + switch_price (price u.place) base u.map ≤ cost
  pub at_end : u.place ≡ last q → base ≡ u.map

module _ (q : Problem) (candidates : List ℕ) (price : ℕ → ℕ → ℕ) (full : IsFullOver q candidates price) where
  on-move : (u : Node) (cost : ℕ) (go : _) (paid : ℕ) (v : Node) → Leads q u (Go go) paid v → IsBased q candidates price u cost → IsBased q candidates price v (cost + paid)
  on-move u cost go paid v h b =
      let m = (full.moves _).0 h.0 in
      let on = switch-on (price u.place) b.base u.map go m.possible in
      subst (λ w. IsBased q candidates price w (cost + paid)) (sym h.1)
      (record {
        base = b.base;
        spent = b.spent;
        base_over = b.base_over;
        over = m.to;
        place_in = b.place_in;
        completes = b.completes;
        low = omega (arith, b.low, on, m.price_is);
        at_end = λ e. absurd (omega (arith, e, m.place));
      })

  lay-from : (u : Node) (tile : Tile) (paid : ℕ) (v : Node) → Leads q u (Lay tile) paid v → (base : Map) (spent rest : ℕ) → IsMapOver candidates base → IsMapOver candidates u.map
      → Completes q (record { place = u.place; map = base }) spent → Can q 6 v rest → HasPlan q (spent + (switch_price (price u.place) base u.map + (paid + rest)))
  lay-from u tile paid v h base spent rest from over completes w =
      let o = full.offers _ h.0 in
      let lay = can-lay q 0 u tile paid v rest h w in
      completes (switch_price (price u.place) base u.map + (paid + rest))
      (can-switch q candidates price full u.place (omega (arith, o.onward, o.within)) base u.map (paid + rest) from over lay)

  on-tile : (u : Node) (cost : ℕ) (tile : Tile) (paid : ℕ) (v : Node) → Leads q u (Lay tile) paid v → IsBased q candidates price u cost → IsBased q candidates price v (cost + paid)
  on-tile u cost tile paid v h b =
      let o = full.offers _ h.0 in
      let zero_price = switch-same (price v.place) v.map in
      record {
        base = v.map;
        spent = b.spent + switch_price (price u.place) b.base u.map + paid;
        base_over = subst (IsMapOver candidates) (sym h.1) b.over;
        over = subst (IsMapOver candidates) (sym h.1) b.over;
        place_in = o.within;
        completes = λ rest w. let p = lay-from u tile paid v h b.base b.spent rest b.base_over b.over b.completes w in
            record { steps = p.steps; cost = p.cost; plan = p.plan; low = omega (arith, p.low) };
        low = omega (arith, b.low, zero_price);
        at_end = λ e. refl;
      }

  based : (u : Node) (cost : ℕ) → Reaches q u cost → IsBased q candidates price u cost
  based _ _ starts = record {
    base = q.entry;
    spent = 0;
    base_over = full.entry;
    over = full.entry;
    place_in = omega arith;
    completes = λ rest w. record { steps = w.steps; cost = rest; plan = w.walk; low = omega arith };
    low = let z = switch-same (price 0) q.entry in omega (arith, z);
    at_end = λ e. absurd (omega (arith, e, full.low));
  }
  based _ _ (steps_on {u} {cost} (Go go) paid v r h) = on-move u cost go paid v h (based u cost r)
  based _ _ (steps_on {u} {cost} (Lay tile) paid v r h) = on-tile u cost tile paid v h (based u cost r)

  -- what reaches the last node is no cheaper than some plan
  pub reached-plan : (cost : ℕ) → Reaches q (exit_node q) cost → HasPlan q cost
  reached-plan cost r =
      let b = based (exit_node q) cost r in
      let same : ◌≡◌ {A = Node} (record { place = last q; map = b.base }) (exit_node q) = node-same _ _ _ _ refl (b.at_end refl) in
      let end : Can q 6 (exit_node q) 0 = record { steps = []; walk = (refl, refl) } in
      let p = b.completes 0 (subst (λ w. Can q 6 w 0) (sym same) end) in
      record { steps = p.steps; cost = p.cost; plan = p.plan; low = omega (arith, p.low, b.low) }

  -- from the entry map at each place before the last
  entry-on : (k place : ℕ) → place + suc k ≡ last q → (cost : ℕ) × Can q 6 (record { place = place; map = q.entry }) cost
  entry-on zero place e =
      let o = full.base place q.exit (omega (arith, e)) full.exit (λ _. refl) in
      let there : ◌≡◌ {A = Node} (record { place = place + 1; map = q.exit }) (exit_node q) = node-same _ _ _ _ (omega (arith, e)) refl in
      let end : Can q 6 (exit_node q) 0 = record { steps = []; walk = (refl, refl) } in
      let lay = can-lay q 0 (record { place = place; map = q.exit }) Base o.0 (record { place = place + 1; map = q.exit }) 0 (o.1, refl) (subst (λ w. Can q 6 w 0) (sym there) end) in
      (_, can-switch q candidates price full place (omega (arith, e)) q.entry q.exit (o.0 + 0) full.entry full.exit lay)
  entry-on (suc k) place e =
      let o = full.base place q.entry (omega (arith, e)) full.entry (λ f. absurd (omega (arith, e, f))) in
      let rest = entry-on k (place + 1) (omega (arith, e)) in
      (_, can-lay q 6 (record { place = place; map = q.entry }) Base o.0 (record { place = place + 1; map = q.entry }) rest.0 (o.1, refl) rest.1)

  pub some-plan : (steps : List Step) × (cost : ℕ) × IsValidPlan q steps cost
  some-plan =
      let h = entry-on (last q - 1) 0 (omega (arith, full.low)) in
      (h.1.steps, h.0, h.1.walk)
