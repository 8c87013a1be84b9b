-- Costs from the start, lowered edge by edge.
use Rattle.std.proofs.Common.{◌≡◌, ◌≢◌, ◌⊎◌, inl, inr, ℕ, suc, ◌+◌, ◌-◌, ◌<◌, ◌≤◌, List, [], ◌∷◌, ◌++◌, length, get_or, set, refl, sym, subst, ap, ◌∙◌, arith, get_or-set_same, get_or-set_other, length-set}
use Rattle.std.specs.List.{All}
use Rattle.std.proofs.lemmas.Bool.{cases_lt, cases_eq}
use Rattle.std.proofs.lemmas.List.{get_or_default, get_or_append_left, get_or_at, length_push}
use Rattle.std.proofs.lemmas.List.Elements.{All-contains}
use Rattle.plan_form.specs.declared.problem.Step.TheVariants.{Go, Lay}
use Rattle.plan_form.specs.Prelude.{IsFullOver, IsAt, Node, Leads, entry_node, map_at}
use Rattle.plan_form.specs.declared.problem.Problem.{Problem}
use Rattle.plan_form.specs.declared.problem.Step.{Step}
use Rattle.tile_plan.specs.Prelude.{NEVER, Arc, node_at, IsArc, AreArcs, Reaches, AreReached, AreLower, AreObeyed, IsRelaxed, AreStartCosts, StartsFree, AreObeyedFrom, IsForwardRow, AreForward}
use Rattle.tile_plan.specs.Reach.Reaches.{starts, steps_on}
use Rattle.plan_form.proofs.Indexes.{map_at-at, map-once, below-split}
use Rattle.tile_plan.proofs.Leasts.{has-arc}

module _ (q : Problem) (source place : ℕ) (arcs : List Arc) (from : List ℕ) where
  obeyed-more : (n : ℕ) (arc d : Arc) (row : List ℕ) → n < length arcs → get_or arcs n d ≡ arc
      → (arc.place ≡ place → get_or row arc.to 0 ≤ get_or from arc.from 0 + arc.price) → AreObeyed place arcs n from row → AreObeyed place arcs (n + 1) from row
  obeyed-more n arc d row within is new h k e low there = go (below-split k n low)
    where
      at : (a : Arc) → a ≡ arc → a.place ≡ place → get_or row a.to 0 ≤ get_or from a.from 0 + a.price
      at a f there = subst (λ b. get_or row b.to 0 ≤ get_or from b.from 0 + b.price) (sym f) (new (ap (λ b. b.place) (sym f) ∙ there))

      go : (k < n) ⊎ (k ≡ n) → get_or row (get_or arcs k e).to 0 ≤ get_or from (get_or arcs k e).from 0 + (get_or arcs k e).price
      go (inl less) = h k e less there
      go (inr same) = at (get_or arcs k e) (ap (λ j. get_or arcs j e) same ∙ get_or_default arcs n e d within ∙ is) there

  pub relax-kept : (n : ℕ) (arc d : Arc) (old row : List ℕ) → n < length arcs → get_or arcs n d ≡ arc
      → (arc.place ≡ place → get_or row arc.to 0 ≤ get_or from arc.from 0 + arc.price) → IsRelaxed q place arcs n from old row → IsRelaxed q place arcs (n + 1) from old row
  relax-kept n arc d old row within is new h = record {
    reached = h.reached;
    lower = h.lower;
    obeyed = obeyed-more n arc d row within is new h.obeyed;
  }

  pub relax-lowered : (n : ℕ) (arc d : Arc) (old row : List ℕ) (cost : ℕ) → n < length arcs → get_or arcs n d ≡ arc → IsArc q source arc → arc.place ≡ place
      → AreReached q source from → cost ≡ get_or from arc.from 0 + arc.price → cost < get_or row arc.to 0
      → IsRelaxed q place arcs n from old row → IsRelaxed q place arcs (n + 1) from old (set row arc.to cost)
  relax-lowered n arc d old row cost within is good there sources cost_is less h =
      record {
        reached = record {
          len = length-set row arc.to cost ∙ h.reached.len;
          high = λ i inside. high i inside (cases_eq i arc.to);
          reached = λ i inside some. reached i inside (cases_eq i arc.to) some;
        };
        lower = λ i inside. lower i inside (cases_eq i arc.to);
        obeyed = obeyed-more n arc d (set row arc.to cost) within is (λ _. omega (arith, hit, cost_is)) (λ k e low place_is. kept k e low place_is (cases_eq (get_or arcs k e).to arc.to));
      }
    where
      inside_row : arc.to < length row
      inside_row = omega (arith, h.reached.len, good.to)

      hit : get_or (set row arc.to cost) arc.to 0 ≡ cost
      hit = get_or-set_same row arc.to cost 0 inside_row

      most : get_or row arc.to 0 ≤ NEVER
      most = h.reached.high arc.to good.to

      high : (i : ℕ) → i < length q.maps.items → (i ≡ arc.to) ⊎ (i ≢ arc.to) → get_or (set row arc.to cost) i 0 ≤ NEVER
      high i inside (inl e) = subst (λ j. get_or (set row arc.to cost) j 0 ≤ NEVER) (sym e) (omega (arith, hit, most, less))
      high i inside (inr ne) = let e = get_or-set_other row arc.to i cost 0 ne in omega (arith, e, h.reached.high i inside)

      lower : (i : ℕ) → i < length q.maps.items → (i ≡ arc.to) ⊎ (i ≢ arc.to) → get_or (set row arc.to cost) i 0 ≤ get_or old i 0
      lower i inside (inl e) = subst (λ j. get_or (set row arc.to cost) j 0 ≤ get_or old j 0) (sym e) (omega (arith, hit, less, h.lower arc.to good.to))
      lower i inside (inr ne) = let e = get_or-set_other row arc.to i cost 0 ne in omega (arith, e, h.lower i inside)

      on : Reaches q (node_at q place arc.to) cost
      on = subst (Reaches q (node_at q place arc.to)) (sym cost_is) (subst (λ p. Reaches q (node_at q p arc.to) (get_or from arc.from 0 + arc.price)) there
          (steps_on arc.step arc.price (node_at q arc.place arc.to) (sources.reached arc.from good.from (omega (arith, cost_is, less, most))) good.leads))

      reached : (i : ℕ) → i < length q.maps.items → (i ≡ arc.to) ⊎ (i ≢ arc.to) → get_or (set row arc.to cost) i 0 < NEVER → Reaches q (node_at q place i) (get_or (set row arc.to cost) i 0)
      reached i inside (inl e) some = subst (λ j. Reaches q (node_at q place j) (get_or (set row arc.to cost) j 0)) (sym e) (subst (Reaches q (node_at q place arc.to)) (sym hit) on)
      reached i inside (inr ne) some =
          let e = get_or-set_other row arc.to i cost 0 ne in
          subst (Reaches q (node_at q place i)) (sym e) (h.reached.reached i inside (subst (λ n. n < NEVER) e some))

      kept : (k : ℕ) (e : Arc) → k < n → (get_or arcs k e).place ≡ place → ((get_or arcs k e).to ≡ arc.to) ⊎ ((get_or arcs k e).to ≢ arc.to)
          → get_or (set row arc.to cost) (get_or arcs k e).to 0 ≤ get_or from (get_or arcs k e).from 0 + (get_or arcs k e).price
      kept k e low place_is (inl f) =
          let old_one = h.obeyed k e low place_is in
          let same = ap (λ j. get_or (set row arc.to cost) j 0) f in let same' = ap (λ j. get_or row j 0) f in
          omega (arith, hit, same, same', old_one, less)
      kept k e low place_is (inr ne) =
          let f = get_or-set_other row arc.to (get_or arcs k e).to cost 0 ne in omega (arith, f, h.obeyed k e low place_is)

-- the sum of a list
abbrev pub total : List ℕ → ℕ
total [] = 0
total (x ∷ xs) = x + total xs

-- a list that is nowhere higher and not the same has a smaller sum
pub sum-lower : (xs ys : List ℕ) → length xs ≡ length ys → ((i : ℕ) → i < length ys → get_or xs i 0 ≤ get_or ys i 0) → (xs ≡ ys) ⊎ (total xs < total ys)
sum-lower [] [] e h = inl refl
sum-lower [] (y ∷ ys) e h = absurd (omega (arith, e))
sum-lower (x ∷ xs) [] e h = absurd (omega (arith, e))
sum-lower (x ∷ xs) (y ∷ ys) e h =
    let first : x ≤ y = h 0 (omega arith) in
    go first (cases_lt x y) (sum-lower xs ys (omega (arith, e)) (λ i low. h (suc i) (omega (arith, low))))
  where
    le : (xs ys : List ℕ) → (xs ≡ ys) ⊎ (total xs < total ys) → total xs ≤ total ys
    le xs ys (inl e) = omega (arith, ap total e)
    le xs ys (inr h) = omega (arith, h)

    go : x ≤ y → (x < y) ⊎ (y ≤ x) → (xs ≡ ys) ⊎ (total xs < total ys) → (x ∷ xs ≡ y ∷ ys) ⊎ (x + total xs < y + total ys)
    go first (inl less) rest = inr (omega (arith, less, le xs ys rest))
    go first (inr high) (inl rest) = inl (let f : x ≡ y = omega (arith, first, high) in cc)
    go first (inr high) (inr rest) = inr (omega (arith, first, rest))

pub lower-trans : (q : Problem) (a b c : List ℕ) → AreLower q a b → AreLower q b c → AreLower q a c
lower-trans q a b c f g i inside = omega (arith, f i inside, g i inside)

pub start-reached : (q : Problem) (place : ℕ) (row : List ℕ) → AreStartCosts q place row → AreReached q place row × StartsFree q place row
start-reached q place row h = (
  record {
    len = h.len;
    high = λ i inside. high (get_or row i 0) (h.costs i inside).value;
    reached = λ i inside some. reached (get_or row i 0) (node_at q place i) (h.costs i inside).value some;
  },
  λ i inside is. (h.costs i inside).start is,
)
  where
    high : (v : ℕ) {P : Type 0} → (v ≡ NEVER) ⊎ ((v ≡ 0) × P) → v ≤ NEVER
    high v (inl e) = omega (arith, e)
    high v (inr e) = omega (arith, e.0)

    reached : (v : ℕ) (u : Node) → (v ≡ NEVER) ⊎ ((v ≡ 0) × (u ≡ entry_node q)) → v < NEVER → Reaches q u v
    reached v u (inl e) some = absurd (omega (arith, e, some))
    reached v u (inr e) some = subst (Reaches q u) (sym e.0) (subst (λ w. Reaches q w 0) (sym e.1) starts)

pub start-lower : (q : Problem) (place : ℕ) (old new : List ℕ) → AreLower q old new → StartsFree q place old → StartsFree q place new
start-lower q place old new low h i inside is = omega (arith, low i inside, h i inside is)

obeyed-lower : (q : Problem) (source place : ℕ) (arcs : List Arc) (from old new : List ℕ) → All (IsArc q source) arcs → AreLower q old new
    → AreObeyed place arcs (length arcs) from old → AreObeyed place arcs (length arcs) from new
obeyed-lower q source place arcs from old new sound low h k d within here =
    omega (arith, h k d within here, low (get_or arcs k d).to (sound k d within).to)

pub obeyed-source : (q : Problem) (place : ℕ) (arcs : List (List Arc)) (rows : List (List ℕ)) (first source : ℕ) (old new : List ℕ)
    → ((s : ℕ) → s ≤ source → All (IsArc q s) (get_or arcs s [])) → AreLower q old new
    → AreObeyed place (get_or arcs source []) (length (get_or arcs source [])) (get_or rows source []) new
    → AreObeyedFrom q place arcs rows first source old → AreObeyedFrom q place arcs rows first (source + 1) new
obeyed-source q place arcs rows first source old new sound low here h s from to = go (below-split s source to)
  where
    go : (s < source) ⊎ (s ≡ source) → AreObeyed place (get_or arcs s []) (length (get_or arcs s [])) (get_or rows s []) new
    go (inl less) = obeyed-lower q s place (get_or arcs s []) (get_or rows s []) old new (sound s (omega (arith, less))) low (h s from less)
    go (inr e) = subst (λ x. AreObeyed place (get_or arcs x []) (length (get_or arcs x [])) (get_or rows x []) new) (sym e) here

pub obeyed-all : (q : Problem) (place : ℕ) (arcs : List (List Arc)) (rows : List (List ℕ)) (first high : ℕ) (old new : List ℕ)
    → ((s : ℕ) → s < high → All (IsArc q s) (get_or arcs s [])) → AreLower q old new
    → AreObeyedFrom q place arcs rows first high old → AreObeyedFrom q place arcs rows first high new
obeyed-all q place arcs rows first high old new sound low h s from to =
    obeyed-lower q s place (get_or arcs s []) (get_or rows s []) old new (sound s to) low (h s from to)

module _ (q : Problem) (candidates : List ℕ) (price : ℕ → ℕ → ℕ) (full : IsFullOver q candidates price) where
  -- an edge by its indexes is one of the list
  arc-obeyed : (source place : ℕ) (arcs : List Arc) (from row : List ℕ) → AreArcs q source arcs → AreObeyed place arcs (length arcs) from row
      → (i j : ℕ) (step : Step) (cost : ℕ) → i < length q.maps.items → j < length q.maps.items
      → Leads q (node_at q source i) step cost (node_at q place j) → get_or row j 0 ≤ get_or from i 0 + cost
  arc-obeyed source place arcs from row all obeyed i j step cost inside there leads =
      let a = has-arc q candidates price full source arcs all i inside step cost (node_at q place j) leads in
      let k = a.inside.0 in
      let is : get_or arcs k a.arc ≡ a.arc = a.inside.2 in
      let good : IsArc q source a.arc = All-contains (IsArc q source) arcs a.arc all.sound a.inside in
      let at_place : a.arc.place ≡ place = ap (λ (w : Node). w.place) a.to in
      let same_map : map_at q a.arc.to ≡ map_at q j = ap (λ (w : Node). w.map) a.to in
      let same : a.arc.to ≡ j = map-once q candidates price full (map_at q j) a.arc.to j (subst (λ m. IsAt q m a.arc.to) same_map (map_at-at q a.arc.to good.to)) (map_at-at q j there) in
      let low : get_or row a.arc.to 0 ≤ get_or from a.arc.from 0 + a.arc.price = subst (λ x. get_or row x.to 0 ≤ get_or from x.from 0 + x.price) is
      (obeyed k a.arc a.inside.1 (ap (λ x. x.place) is ∙ at_place)) in
      omega (arith, low, ap (λ x. get_or row x 0) same, ap (λ x. get_or from x 0) a.from, a.price_is)

  near : (source i : ℕ) (step : Step) (cost : ℕ) (place j : ℕ) → source < place → Leads q (node_at q source i) step cost (node_at q place j) → place - 3 ≤ source
  near source i (Go go) cost place j less h = absurd (let e = ap (λ (w : Node). w.place) h.1 in omega (arith, e, less))
  near source i (Lay tile) cost place j less h = let o = (full.offers _ h.0).short in omega (arith, o)

  pub forward-row : (place : ℕ) (arcs : List (List Arc)) (rows : List (List ℕ)) (row : List ℕ) → ((s : ℕ) → s ≤ place → AreArcs q s (get_or arcs s []))
      → AreReached q place row → StartsFree q place row → AreObeyedFrom q place arcs rows (place - 3) place row
      → AreObeyed place (get_or arcs place []) (length (get_or arcs place [])) row row → IsForwardRow q rows place row
  forward-row place arcs rows row all reached start before here = record {
    reached = reached;
    start = start;
    before = λ source i j step cost less inside there leads.
        arc-obeyed source place (get_or arcs source []) (get_or rows source []) row (all source (omega (arith, less)))
        (before source (near source i step cost place j less leads) less) i j step cost inside there leads;
    here = λ i j step cost inside there leads. arc-obeyed place place (get_or arcs place []) row row (all place (omega arith)) here i j step cost inside there leads;
  }

-- one more place
forward-grown : (q : Problem) (rows : List (List ℕ)) (more row : List ℕ) (place : ℕ) → place ≤ length rows → IsForwardRow q rows place row → IsForwardRow q (rows ++ more ∷ []) place row
forward-grown q rows more row place low h = record {
  reached = h.reached;
  start = h.start;
  here = h.here;
  before = λ source i j step cost less inside there leads.
      let e = get_or_append_left rows (more ∷ []) [] source (omega (arith, less, low)) in
      let f = ap (λ xs. get_or xs i 0) e in
      omega (arith, f, h.before source i j step cost less inside there leads);
}

pub forward-push : (q : Problem) (rows : List (List ℕ)) (row : List ℕ) → AreForward q rows → IsForwardRow q rows (length rows) row → AreForward q (rows ++ row ∷ [])
forward-push q rows row h new place within =
    let k = length_push rows row in go (below-split place (length rows) (omega (arith, k, within)))
  where
    go : (place < length rows) ⊎ (place ≡ length rows) → IsForwardRow q (rows ++ row ∷ []) place (get_or (rows ++ row ∷ []) place [])
    go (inl low) = subst (IsForwardRow q (rows ++ row ∷ []) place) (sym (get_or_append_left rows (row ∷ []) [] place low)) (forward-grown q rows row (get_or rows place []) place (omega (arith, low)) (h place low))
    go (inr e) = subst (λ p. IsForwardRow q (rows ++ row ∷ []) p (get_or (rows ++ row ∷ []) p [])) (sym e)
        (subst (IsForwardRow q (rows ++ row ∷ []) (length rows)) (sym (get_or_at rows row [] [] (length rows) refl)) (forward-grown q rows row row (length rows) (omega arith) new))
