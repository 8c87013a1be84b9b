-- The labels made of the costs certify the plan that is chosen.
use Rattle.std.proofs.Common.{◌≡◌, ◌⊎◌, inl, inr, ℕ, ◌+◌, ◌<◌, ◌≤◌, Bool, true, false, cond, eqb, List, [], ◌∷◌, ◌++◌, length, get_or, refl, sym, subst, ap, ◌∙◌, arith}
use Rattle.std.proofs.lemmas.Bool.{cases_lt}
use Rattle.std.proofs.lemmas.List.{get_or_append_left, get_or_at, length_push}
use Rattle.std.proofs.lemmas.Bool.Decides.{nat_tests}
use Rattle.plan_form.specs.declared.problem.Problem.{Problem}
use Rattle.plan_form.specs.declared.problem.Step.{Step}
use Rattle.plan_form.specs.declared.problem.Step.TheVariants.{Go, Lay}
use Rattle.plan_form.specs.Prelude.{IsFullOver, Node, Leads, IsChosen, IsAsGood, entry_node, exit_node, last, IsAt, IsShaped, IsObeyed, Certifies, label_at, map_at}
use Rattle.plan_form.proofs.Bounds.{at, walk-bound, label-last}
use Rattle.plan_form.proofs.Costs.{node-same, leads-place}
use Rattle.tile_plan.specs.Prelude.{node_at, Reaches, AreForwardLabels, IsForwardRow, IsNode, IsLeastCost}
use Rattle.plan_form.proofs.Indexes.{map_at-is, map-once}
use Rattle.tile_plan.proofs.Firsts.{walk-short}
use Rattle.tile_plan.proofs.Reaches.{reached-plan}
use Rattle.tile_plan.proofs.Reached.{reached-by}
use Rattle.tile_plan.specs.Reach.Reaches.{starts, steps_on}

-- a good plan costs no more
good-low : (q : Problem) (cost cost' : ℕ) (steps other : List Step) → IsAsGood q cost steps cost' other → cost ≤ cost'
good-low q cost cost' steps other (inl h) = omega (arith, h)
good-low q cost cost' steps other (inr h) = omega (arith, h.0)

module _ (q : Problem) (candidates : List ℕ) (price : ℕ → ℕ → ℕ) (full : IsFullOver q candidates price) (values : List (List ℕ)) (h : AreForwardLabels q values) where
  -- the costs of a place
  row_at : ℕ → List ℕ
  row_at place = get_or (h.rows ++ h.row ∷ []) place []

  row-forward : (place : ℕ) → place ≤ last q → IsForwardRow q h.rows place (row_at place)
  unfolding row_at
  row-forward place low = go (cases_lt place (last q))
    where
      go : (place < last q) ⊎ (last q ≤ place) → IsForwardRow q h.rows place (get_or (h.rows ++ h.row ∷ []) place [])
      go (inl less) = subst (IsForwardRow q h.rows place) (sym (get_or_append_left h.rows (h.row ∷ []) [] place (omega (arith, less, h.len)))) (h.forward place (omega (arith, less, h.len)))
      go (inr more) =
          let e : place ≡ last q = omega (arith, low, more) in
          subst (λ p. IsForwardRow q h.rows p (get_or (h.rows ++ h.row ∷ []) p [])) (sym e) (subst (IsForwardRow q h.rows (last q)) (sym (get_or_at h.rows h.row [] [] (last q) h.len)) h.end)

  cond-false : (m n i : ℕ) → m < n → cond (eqb m n) 0 i ≡ i
  cond-false m n i less = go (eqb m n) refl
    where
      go : (b : Bool) → eqb m n ≡ b → cond b 0 i ≡ i
      go true e = absurd (omega (arith, is m n e, less))
        where
          is : (m n : ℕ) → eqb m n ≡ true → m ≡ n
          is m n e = grind (arith, nat_tests)
      go false e = refl

  -- the label of a node is its cost
  label-before : (place i : ℕ) → place < last q → label_at q values place i ≡ get_or (row_at place) i 0
  unfolding row_at
  label-before place i less =
      let within : place < length h.rows = omega (arith, less, h.len) in
      let a = ap (λ xs. get_or xs place []) h.is ∙ get_or_append_left h.rows ((get_or h.row h.index 0 ∷ []) ∷ []) [] place within in
      let b = get_or_append_left h.rows (h.row ∷ []) [] place within in
      ap (λ n. get_or (get_or values place []) n 0) (cond-false place (last q) i less) ∙ ap (λ xs. get_or xs i 0) (a ∙ sym b)

  label-end : (i : ℕ) → IsAt q q.exit i → label_at q values (last q) i ≡ get_or (row_at (last q)) i 0
  unfolding row_at
  label-end i here =
      let a = ap (λ xs. get_or xs (last q) []) h.is ∙ get_or_at h.rows (get_or h.row h.index 0 ∷ []) [] [] (last q) h.len in
      let b = get_or_at h.rows h.row [] [] (last q) h.len in
      let same = map-once q candidates price full q.exit h.index i h.at here in
      label-last q values i ∙ ap (λ xs. get_or xs 0 0) a ∙ ap (λ j. get_or h.row j 0) same ∙ ap (λ xs. get_or xs i 0) (sym b)

  leads-before : (u : Node) (step : Step) (cost : ℕ) (v : Node) → Leads q u step cost v → (u.place < last q) × (u.place ≤ v.place) × (v.place ≡ last q → v.map ≡ q.exit)
  leads-before u (Go go) cost v k =
      let m = ((full.moves _).0 k.0).place in
      let e = ap (λ (w : Node). w.place) k.1 in
      (m, omega (arith, e), λ f. absurd (omega (arith, m, e, f)))
  leads-before u (Lay tile) cost v k =
      let o = full.offers _ k.0 in
      (omega (arith, o.onward, o.within), omega (arith, o.onward), λ f. k.1 ∙ o.at_end f)

  node-is : (u : Node) (i : ℕ) → IsAt q u.map i → u ≡ node_at q u.place i
  node-is u i here = node-same u.place u.place u.map (map_at q i) refl (sym (map_at-is q u.map i here))

  label-of : (v : Node) (j : ℕ) → v.place ≤ last q → (v.place ≡ last q → v.map ≡ q.exit) → IsAt q v.map j → label_at q values v.place j ≡ get_or (row_at v.place) j 0
  label-of v j low end here = go (cases_lt v.place (last q))
    where
      go : (v.place < last q) ⊎ (last q ≤ v.place) → label_at q values v.place j ≡ get_or (row_at v.place) j 0
      go (inl less) = label-before v.place j less
      go (inr more) =
          let e : v.place ≡ last q = omega (arith, low, more) in
          subst (λ p. label_at q values p j ≡ get_or (row_at p) j 0) (sym e) (label-end j (subst (λ m. IsAt q m j) (end e) here))

  pub labels-obeyed : IsObeyed q values
  unfolding row_at
  labels-obeyed u step cost v i j leads from to =
      let b = leads-before u step cost v leads in
      let low = leads-place q candidates price full u step cost v leads in
      let f = row-forward v.place low in
      let there = subst (λ w. Leads q w step cost (node_at q v.place j)) (node-is u i from) (subst (λ w. Leads q u step cost w) (node-is v j to) leads) in
      let label_v = label-of v j low b.2 to in
      let label_u = label-before u.place i b.0 in
      go f there label_v label_u (cases_lt u.place v.place) b.0 b.1
    where
      go : IsForwardRow q h.rows v.place (row_at v.place) → Leads q (node_at q u.place i) step cost (node_at q v.place j) → label_at q values v.place j ≡ get_or (row_at v.place) j 0
          → label_at q values u.place i ≡ get_or (row_at u.place) i 0 → (u.place < v.place) ⊎ (v.place ≤ u.place) → u.place < last q → u.place ≤ v.place
          → label_at q values v.place j ≤ label_at q values u.place i + cost
      go f there lv lu (inl less) before order =
          let e = ap (λ xs. get_or xs i 0) (get_or_append_left h.rows (h.row ∷ []) [] u.place (omega (arith, before, h.len))) in
          let k = f.before u.place i j step cost less from.within to.within there in
          omega (arith, lv, lu, e, k)
      go f there lv lu (inr more) before order =
          let same : u.place ≡ v.place = omega (arith, order, more) in
          let k = f.here i j step cost from.within to.within (subst (λ p. Leads q (node_at q p i) step cost (node_at q v.place j)) same there) in
          let e = ap (λ p. get_or (row_at p) i 0) same in
          omega (arith, lv, lu, e, k)

  label-start : (i : ℕ) → IsAt q q.entry i → label_at q values 0 i ≡ 0
  label-start i here =
      let f = row-forward 0 (omega arith) in
      label-before 0 i (omega (arith, full.low)) ∙ f.start i here.within (sym (node-is (entry_node q) i here))

  leads-from : (u : Node) (step : Step) (cost : ℕ) (v : Node) → Leads q u step cost v → (i : ℕ) × IsAt q u.map i
  leads-from u (Go step) cost v h = at q u.map ((full.maps u.map).1 ((full.moves _).0 h.0).from)
  leads-from u (Lay tile) cost v h = at q u.map ((full.maps u.map).1 (full.offers _ h.0).map)

  -- no label is above a cost at which its node is reached
  label-low : (u : Node) (cost : ℕ) → Reaches q u cost → (i : ℕ) → IsAt q u.map i → label_at q values u.place i ≤ cost
  label-low _ _ starts i here = omega (arith, label-start i here)
  label-low _ _ (steps_on {u} {cost} step price v r h) i here =
      let j = leads-from u step price v h in
      let low = label-low u cost r j.0 j.1 in
      let edge = labels-obeyed u step price v j.0 i h j.1 here in
      omega (arith, low, edge)

  -- the labels are the least costs
  pub labels-least : (u : Node) (i : ℕ) → IsNode q u → IsAt q u.map i → IsLeastCost q u (label_at q values u.place i)
  labels-least u i node here =
      let by = reached-by q candidates price full u node in
      let low = label-low u by.cost by.reaches i here in
      let label = label-of u i node.place node.at_end here in
      let f = row-forward u.place node.place in
      let reached = f.reached.reached i here.within (omega (arith, label, low, by.low)) in
      record {
        reached = subst (Reaches q u) (sym label) (subst (λ w. Reaches q w (get_or (row_at u.place) i 0)) (sym (node-is u i here)) reached);
        bound = λ other r. label-low u other r i here;
      }

  pub labels-certify : (steps : List Step) (cost : ℕ) → IsChosen q steps cost → Certifies q values cost
  labels-certify steps cost chosen = record { start = label-start; edges = labels-obeyed; end = end }
    where
      end : (i : ℕ) → IsAt q q.exit i → label_at q values (last q) i ≡ cost
      end i here =
          let e = at q q.entry ((full.maps q.entry).1 full.entry) in
          let b = walk-bound q candidates price full values labels-obeyed i here steps 6 (entry_node q) cost e.0 chosen.plan e.1 in
          let low : label_at q values (last q) i ≤ cost = omega (arith, b, label-start e.0 e.1) in
          let short = walk-short q candidates price full 6 (entry_node q) steps cost (omega arith) chosen.plan in
          let label = label-end i here in
          let f = row-forward (last q) (omega arith) in
          let reached = f.reached.reached i here.within (omega (arith, label, low, short, full.high)) in
          let there = subst (λ w. Reaches q w (get_or (row_at (last q)) i 0)) (sym (node-is (exit_node q) i here)) reached in
          let p = reached-plan q candidates price full (get_or (row_at (last q)) i 0) there in
          let high = good-low q cost p.cost steps p.steps (chosen.best p.steps p.cost p.plan) in
          omega (arith, low, high, p.low, label)

  pub labels-shaped : IsShaped q values
  labels-shaped = record {
    places = let k = length_push h.rows (get_or h.row h.index 0 ∷ []) in ap length h.is ∙ omega (arith, k, h.len, full.low);
    before = λ place less.
        let e = ap (λ xs. get_or xs place []) h.is ∙ get_or_append_left h.rows ((get_or h.row h.index 0 ∷ []) ∷ []) [] place (omega (arith, less, h.len)) in
        ap length e ∙ (h.forward place (omega (arith, less, h.len))).reached.len;
    at_end = ap length (ap (λ xs. get_or xs (last q) []) h.is ∙ get_or_at h.rows (get_or h.row h.index 0 ∷ []) [] [] (last q) h.len);
  }
