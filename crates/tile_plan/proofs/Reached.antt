-- Every node of a full problem is reached from the start, at a cost below NEVER.
use Rattle.std.proofs.Common.{◌≡◌, inl, inr, ℕ, zero, suc, ◌+◌, ◌-◌, ◌*◌, ◌<◌, ◌≤◌, List, Option, Some, None, refl, sym, subst, ◌∙◌, arith}
use Rattle.std.proofs.lemmas.Bool.{cases_lt}
use Rattle.machines.specs.Prelude.{Map}
use Rattle.reg_map.specs.declared.moves.Move.{Move}
use Rattle.reg_map.specs.declared.moves.Move.TheVariants.{Drop, Take}
use Rattle.reg_map.specs.Prelude.{moved, moved_gpr, content, with_content, IsPossible}
use Rattle.plan_form.specs.declared.problem.Problem.{Problem}
use Rattle.plan_form.specs.declared.problem.Step.TheVariants.{Go, Lay}
use Rattle.plan_form.specs.declared.problem.Tile.TheVariants.{Base}
use Rattle.plan_form.specs.Prelude.{IsMapOver, IsFullOver, Node, exit_node, last}
use Rattle.plan_form.proofs.Costs.{node-same}
use Rattle.tile_plan.specs.Prelude.{Reaches, IsNode}
use Rattle.tile_plan.specs.Reach.Reaches.{starts, steps_on}
use Rattle.tile_plan.proofs.Switches.{map_of, map-sub, sub-same, sub-none, some-none, take-possible}

-- the node is reached at no higher cost
pub record IsReachedBy (q : Problem) (limit : ℕ) (u : Node) : Type 0 where
  pub cost : ℕ
  pub reaches : Reaches q u cost
  pub low : cost ≤ limit

higher : (q : Problem) (limit more : ℕ) (u : Node) → limit ≤ more → IsReachedBy q limit u → IsReachedBy q more u
higher q limit more u less h = record { cost = h.cost; reaches = h.reaches; low = omega (arith, h.low, less) }

module _ (q : Problem) (candidates : List ℕ) (price : ℕ → ℕ → ℕ) (full : IsFullOver q candidates price) where
  module _ (place : ℕ) (before : place < last q) where
    abbrev at_map : Map → Node
    at_map m = record { place = place; map = m }

    by-move : (m : Map) (move : Move) (limit : ℕ) → IsMapOver candidates m → IsPossible m move → IsMapOver candidates (moved m move)
        → IsReachedBy q limit (at_map m) → IsReachedBy q (limit + 3) (at_map (moved m move))
    by-move m move limit from possible to h =
        let paid = price place (moved_gpr m move) in
        let inside = (full.moves (record { place = place; map = m; step = move; price = paid })).1
        (record { place = before; from = from; possible = possible; to = to; price_is = refl }) in
        let low : price place (moved_gpr m move) ≤ 3 = elim (full.prices place (moved_gpr m move)) [ inl e ↦ omega (arith, e) | inr e ↦ omega (arith, e) ] in
        record { cost = h.cost + paid; reaches = steps_on (Go move) paid (at_map (moved m move)) h.reaches (inside, refl); low = omega (arith, h.low, low) }

    module _ (F : Option ℕ → Map) (s : ℕ) (slot : s < 3) (get : (x : Option ℕ) → content (F x) s ≡ x) (put : (x y : Option ℕ) → with_content (F x) s y ≡ F y) where
      emptied : (x : Option ℕ) (limit : ℕ) → IsMapOver candidates (F x) → IsMapOver candidates (F None) → IsReachedBy q limit (at_map (F x)) → IsReachedBy q (limit + 3) (at_map (F None))
      emptied None limit from to h = higher q limit (limit + 3) (at_map (F None)) (omega arith) h
      emptied (Some g) limit from to h =
          let r = by-move (F (Some g)) (Drop s) limit from (slot, λ e. some-none g (sym (get (Some g)) ∙ e)) (subst (IsMapOver candidates) (sym (put (Some g) None)) to) h in
          subst (λ (m : Map). IsReachedBy q (limit + 3) (at_map m)) (put (Some g) None) r

      filled : (y : Option ℕ) (limit : ℕ) → IsMapOver candidates (F None) → IsMapOver candidates (F y) → IsReachedBy q limit (at_map (F None)) → IsReachedBy q (limit + 3) (at_map (F y))
      filled None limit from to h = higher q limit (limit + 3) (at_map (F None)) (omega arith) h
      filled (Some g) limit from to h =
          let there = subst (IsMapOver candidates) (sym (put None (Some g))) to in
          let r = by-move (F None) (Take s g) limit from (take-possible (F None) s g slot (get None) there.is_map) there h in
          subst (λ (m : Map). IsReachedBy q (limit + 3) (at_map m)) (put None (Some g)) r

    -- all slots are emptied, and then filled
    by-switch : (m n : Map) (limit : ℕ) → IsMapOver candidates m → IsMapOver candidates n → IsReachedBy q limit (record { place = place; map = m })
        → IsReachedBy q (limit + 18) (record { place = place; map = n })
    unfolding map_of
    by-switch m n limit from to h =
        let s = sub-same in let none = sub-none in
        let e0 = emptied (λ x. map_of x m.esi m.edi) 0 (omega arith) (λ x. refl) (λ x y. refl) m.ebx limit
        from (map-sub candidates m _ _ _ from (none m.ebx) (s m.esi) (s m.edi)) h in
        let e1 = emptied (λ x. map_of None x m.edi) 1 (omega arith) (λ x. refl) (λ x y. refl) m.esi _
        (map-sub candidates m _ _ _ from (none m.ebx) (s m.esi) (s m.edi)) (map-sub candidates m _ _ _ from (none m.ebx) (none m.esi) (s m.edi)) e0 in
        let e2 = emptied (λ x. map_of None None x) 2 (omega arith) (λ x. refl) (λ x y. refl) m.edi _
        (map-sub candidates m _ _ _ from (none m.ebx) (none m.esi) (s m.edi)) (map-sub candidates m _ _ _ from (none m.ebx) (none m.esi) (none m.edi)) e1 in
        let f0 = filled (λ x. map_of x None None) 0 (omega arith) (λ x. refl) (λ x y. refl) n.ebx _
        (map-sub candidates n _ _ _ to (none n.ebx) (none n.esi) (none n.edi)) (map-sub candidates n _ _ _ to (s n.ebx) (none n.esi) (none n.edi)) e2 in
        let f1 = filled (λ x. map_of n.ebx x None) 1 (omega arith) (λ x. refl) (λ x y. refl) n.esi _
        (map-sub candidates n _ _ _ to (s n.ebx) (none n.esi) (none n.edi)) (map-sub candidates n _ _ _ to (s n.ebx) (s n.esi) (none n.edi)) f0 in
        let f2 = filled (λ x. map_of n.ebx n.esi x) 2 (omega arith) (λ x. refl) (λ x y. refl) n.edi _
        (map-sub candidates n _ _ _ to (s n.ebx) (s n.esi) (none n.edi)) to f1 in
        higher q (limit + 3 + 3 + 3 + 3 + 3 + 3) (limit + 18) (record { place = place; map = n }) (omega arith) f2

  by-base : (place : ℕ) (m : Map) (limit : ℕ) → place < last q → IsMapOver candidates m → (place + 1 ≡ last q → m ≡ q.exit)
      → IsReachedBy q limit (record { place = place; map = m }) → IsReachedBy q (limit + 1024) (record { place = place + 1; map = m })
  by-base place m limit before over end h =
      let o = full.base place m before over end in
      let low = (full.offers _ o.1).price in
      record { cost = h.cost + o.0; reaches = steps_on (Lay Base) o.0 (record { place = place + 1; map = m }) h.reaches (o.1, refl); low = omega (arith, h.low, low) }

  -- under the entry map, by base tiles
  along : (place : ℕ) → place < last q → IsReachedBy q (1024 * place) (record { place = place; map = q.entry })
  along zero before = record { cost = 0; reaches = starts; low = omega arith }
  along (suc place) before =
      let h = along place (omega (arith, before)) in
      let r = by-base place q.entry (1024 * place) (omega (arith, before)) full.entry (λ e. absurd (omega (arith, e, before))) h in
      let e : place + 1 ≡ suc place = omega arith in
      higher q (1024 * place + 1024) (1024 * suc place) (record { place = suc place; map = q.entry }) (omega arith)
      (subst (λ p. IsReachedBy q (1024 * place + 1024) (record { place = p; map = q.entry })) e r)

  inside : (place : ℕ) (m : Map) → place < last q → IsMapOver candidates m → IsReachedBy q (1024 * place + 18) (record { place = place; map = m })
  inside place m before over = by-switch place before q.entry m (1024 * place) full.entry over (along place before)

  at-end : IsReachedBy q 100000 (exit_node q)
  at-end =
      let h = inside (last q - 1) q.exit (omega (arith, full.low)) full.exit in
      let r = by-base (last q - 1) q.exit (1024 * (last q - 1) + 18) (omega (arith, full.low)) full.exit (λ e. refl) h in
      let e : last q - 1 + 1 ≡ last q = omega (arith, full.low) in
      higher q (1024 * (last q - 1) + 18 + 1024) 100000 (exit_node q) (omega (arith, full.high))
      (subst (λ p. IsReachedBy q (1024 * (last q - 1) + 18 + 1024) (record { place = p; map = q.exit })) e r)

  pub reached-by : (u : Node) → IsNode q u → IsReachedBy q 100000 u
  reached-by u node =
      elim (cases_lt u.place (last q)) [
        | inl before ↦ higher q (1024 * u.place + 18) 100000 u (omega (arith, before, full.high)) (inside u.place u.map before ((full.maps u.map).0 node.map))
        | inr end ↦
            let there : u.place ≡ last q = omega (arith, end, node.place) in
            subst (IsReachedBy q 100000) (node-same _ _ _ _ (sym there) (sym (node.at_end there))) at-end
      ]
