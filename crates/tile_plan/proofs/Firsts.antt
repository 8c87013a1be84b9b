-- The first of the least walks, step by step.
use Rattle.std.proofs.Common.{◌≡◌, ◌⊎◌, inl, inr, ℕ, suc, ◌+◌, ◌-◌, ◌*◌, ◌/◌, ◌<◌, ◌≤◌, List, [], ◌∷◌, ◌++◌, length, get_or, refl, sym, subst, ap, ◌∙◌, arith, append_assoc}
use Rattle.std.specs.List.{Contains}
use Rattle.std.proofs.lemmas.List.Elements.{All-contains}
use Rattle.plan_form.specs.Prelude.{IsAt, IsFullOver, Node, Leads, Leaves, IsWalk, IsValidPlan, entry_node, IsNotBehind, order, last}
use Rattle.std.proofs.lemmas.Bool.{cases_lt}
use Rattle.plan_form.specs.declared.problem.Problem.{Problem}
use Rattle.plan_form.specs.declared.problem.Step.{Step}
use Rattle.plan_form.specs.declared.problem.Step.TheVariants.{Go, Lay}
use Rattle.plan_form.proofs.Bounds.{leads-once}
use Rattle.plan_form.proofs.Costs.{node-same, leaves-once, price-small, leads-place}
use Rattle.tile_plan.specs.Prelude.{NEVER, Arc, node_at, IsArc, AreArcs, HasWalk, IsLeast, IsTable, IsFirst, IsTight, IsChoice}
use Rattle.tile_plan.proofs.Leasts.{HasArc, has-arc, walk-on, lay-beyond, go-beyond}
use Rattle.plan_form.proofs.Indexes.{map_at-is, below-split}
use Rattle.std.proofs.lemmas.List.{get_or_default}
use Rattle.tile_plan.proofs.Orders.{order-once}

-- a node has one least weight
pub least-once : (q : Problem) (moves : ℕ) (u : Node) (a b : ℕ) → IsLeast q moves u a → IsLeast q moves u b → a < NEVER → a ≡ b
least-once q moves u a b f g some =
    let h = f.reached some in
    let low = g.bound h.steps h.cost h.walk in
    let k = g.reached (omega (arith, low, h.weighs, some)) in
    let high = f.bound k.steps k.cost k.walk in
    omega (arith, low, h.weighs, high, k.weighs)

module _ (q : Problem) (candidates : List ℕ) (price : ℕ → ℕ → ℕ) (full : IsFullOver q candidates price) (place : ℕ) (arcs : List Arc) (all : AreArcs q place arcs) where
  -- a walk of the least weight begins with an edge that is tight
  pub tight-of : (moves i weight : ℕ) → i < length q.maps.items → IsLeast q moves (node_at q place i) weight → weight < NEVER
      → (step : Step) (steps : List Step) (cost : ℕ) → (h : IsWalk q moves (node_at q place i) (step ∷ steps) cost) → weight ≡ 512 * cost + (length steps + 1)
      → ((a : Arc) → Contains arcs a → (after : ℕ) → Leaves moves a.step after → (b : ℕ) × IsLeast q after (node_at q a.place a.to) b)
      → (a : HasArc q arcs i step h.0 h.2) × IsTight q moves i weight a.arc
  tight-of moves i weight inside least some step steps cost h weighs behind =
      let a = has-arc q candidates price full place arcs all i inside step h.0 h.2 h.4 in
      let leaves = subst (λ s. Leaves moves s h.1) (sym a.step_is) h.5 in
      let b = behind a.arc a.inside h.1 leaves in
      let low = b.1.bound steps h.3 (subst (λ v. IsWalk q h.1 v steps h.3) (sym a.to) h.6) in
      let small : b.0 < NEVER = omega (arith, low, weighs, some, h.7) in
      let back = b.1.reached small in
      let on = walk-on q moves (node_at q place i) step h.0 h.1 h.2 b.0 h.4 h.5 (subst (λ v. HasWalk q h.1 v b.0) a.to back) in
      let high = least.bound on.steps on.cost on.walk in (
        a,
        record {
          from = a.from;
          after = h.1;
          leaves = leaves;
          rest = b.0;
          least = b.1;
          some = small;
          weighs = omega (arith, low, weighs, h.7, high, on.weighs, a.price_is);
        },
      )

  pub first-on : (moves i weight : ℕ) (arc : Arc) → i < length q.maps.items → IsLeast q moves (node_at q place i) weight → weight < NEVER → 0 < weight
      → ((a : Arc) → Contains arcs a → (after : ℕ) → Leaves moves a.step after → (b : ℕ) × IsLeast q after (node_at q a.place a.to) b)
      → (c : IsChoice q place moves i weight arcs arc) → (rest : List Step) → IsFirst q c.tight.after (node_at q arc.place arc.to) rest c.tight.rest
      → IsFirst q moves (node_at q place i) (arc.step ∷ rest) weight
  first-on moves i weight arc inside least some more behind c rest h =
      let t = c.tight in
      let leads : Leads q (node_at q place i) arc.step arc.price (node_at q arc.place arc.to) = subst (λ j. Leads q (node_at q place j) arc.step arc.price (node_at q arc.place arc.to)) t.from c.good.leads in
      record {
        cost = arc.price + h.cost;
        walk = (arc.price, t.after, node_at q arc.place arc.to, h.cost, leads, t.leaves, h.walk, refl);
        weighs = omega (arith, t.weighs, h.weighs);
        first = go leads;
      }
    where
      go : Leads q (node_at q place i) arc.step arc.price (node_at q arc.place arc.to) → (other : List Step) (cost : ℕ) → IsWalk q moves (node_at q place i) other cost → weight ≡ 512 * cost + length other → IsNotBehind q (arc.step ∷ rest) other
      go leads [] cost walk weighs = absurd (omega (arith, weighs, walk.1, more))
      go leads (y ∷ ys) cost walk weighs =
          let t = tight-of moves i weight inside least some y ys cost walk (omega (arith, weighs)) behind in
          let low = subst (λ s. order q arc.step ≤ order q s) t.0.step_is (c.first t.0.arc t.0.inside t.1) in
          elim (cases_lt (order q arc.step) (order q y)) [
            | inl less ↦ inl less
            | inr high ↦
                let same : order q arc.step ≡ order q y = omega (arith, low, high) in
                let is = order-once q candidates price full (node_at q place i) arc.step y arc.price walk.0 (node_at q arc.place arc.to) walk.2 leads walk.4 same in
                let there = subst (λ s. Leads q (node_at q place i) s walk.0 walk.2) (sym is) walk.4 in
                let once = leads-once q candidates price full (node_at q place i) arc.step arc.price walk.0 (node_at q arc.place arc.to) walk.2 leads there in
                let left = leaves-once moves arc.step c.tight.after walk.1 c.tight.leaves (subst (λ s. Leaves moves s walk.1) (sym is) walk.5) in
                let walk' = subst (λ v. IsWalk q c.tight.after v ys walk.3) (sym once.1) (subst (λ n. IsWalk q n walk.2 ys walk.3) (sym left) walk.6) in
                inr (same, h.first ys walk.3 walk' (omega (arith, c.tight.weighs, weighs, walk.7, once.0)))
          ]

-- where the least weight is 0 the walk is over
pub first-end : (q : Problem) (moves : ℕ) (u : Node) → IsLeast q moves u 0 → IsFirst q moves u [] 0
first-end q moves u h = go (h.reached (omega arith))
  where
    go : HasWalk q moves u 0 → IsFirst q moves u [] 0
    go w = at w.steps w.cost w.walk w.weighs
      where
        at : (steps : List Step) (cost : ℕ) → IsWalk q moves u steps cost → 0 ≡ 512 * cost + length steps → IsFirst q moves u [] 0
        at [] cost walk e = record { cost = 0; walk = (walk.0, refl); weighs = refl; first = λ other c _ _. tt }
        at (x ∷ xs) cost walk e = absurd (omega (arith, e))

-- a walk has few steps, and each costs little
pub walk-short : (q : Problem) (candidates : List ℕ) (price : ℕ → ℕ → ℕ) → IsFullOver q candidates price → (moves : ℕ) (u : Node) (steps : List Step) (cost : ℕ)
    → moves ≤ 6 → IsWalk q moves u steps cost → (length steps ≤ 7 * (last q - u.place) + moves) × (cost ≤ 1024 * length steps)
walk-short q candidates price full moves u [] cost few walk = (omega arith, omega (arith, walk.1))
walk-short q candidates price full moves u (Go go ∷ steps) cost few walk =
    let e = ap (λ (w : Node). w.place) walk.4.1 in
    let rest = walk-short q candidates price full walk.1 walk.2 steps walk.3 (omega (arith, walk.5)) walk.6 in
    let small = price-small q candidates price full u (Go go) walk.0 walk.2 walk.4 in
    (omega (arith, rest.0, e, walk.5), omega (arith, rest.1, small, walk.7))
walk-short q candidates price full moves u (Lay tile ∷ steps) cost few walk =
    let o = full.offers _ walk.4.0 in
    let rest = walk-short q candidates price full walk.1 walk.2 steps walk.3 (omega (arith, walk.5)) walk.6 in
    (omega (arith, rest.0, o.onward, o.within, walk.5), omega (arith, rest.1, o.price, walk.7))

pub behind-of : (q : Problem) (candidates : List ℕ) (price : ℕ → ℕ → ℕ) → IsFullOver q candidates price → (rows : List (List ℕ)) → IsTable q rows
    → (place left : ℕ) → left ≤ 6 → place ≤ last q → 7 * (last q - place) + left ≤ length rows → (arc : Arc) → IsArc q place arc → (after : ℕ) → Leaves left arc.step after
    → (b : ℕ) × IsLeast q after (node_at q arc.place arc.to) b
behind-of q candidates price full rows table place left few low enough arc good after leaves = go arc.step refl leaves
  where
    some-left : (n m : ℕ) → n ≡ suc m → 0 < n
    some-left n m h = omega (arith, h)

    go : (s : Step) → arc.step ≡ s → Leaves left s after → (b : ℕ) × IsLeast q after (node_at q arc.place arc.to) b
    go (Go move) e h = let b = go-beyond q candidates price full rows table place left arc move e good few (some-left left after h) low enough in (_, b.least after leaves)
    go (Lay tile) e h = let b = lay-beyond q candidates price full rows table place left arc tile e good low enough in (_, b.least after leaves)

-- the steps so far, before a node of this least weight
pub record IsWalked (q : Problem) (steps : List Step) (place index left weight : ℕ) : Type 0 where
  pub inside : index < length q.maps.items
  pub place_in : place ≤ last q
  pub few : left ≤ 6
  pub least : IsLeast q left (node_at q place index) weight
  pub some : weight < NEVER
  pub start : ℕ
  pub start_least : IsLeast q 6 (entry_node q) start
  pub onward : (rest : List Step) → IsFirst q left (node_at q place index) rest weight → IsFirst q 6 (entry_node q) (steps ++ rest) start

module _ (q : Problem) (candidates : List ℕ) (price : ℕ → ℕ → ℕ) (full : IsFullOver q candidates price) (rows : List (List ℕ)) (table : IsTable q rows) (len : length rows ≡ 7 * q.places) where
  enough : (place left : ℕ) → left ≤ 6 → 7 * (last q - place) + left ≤ length rows
  enough place left few = omega (arith, len, full.low)

  pub walked-tight : (steps : List Step) (place index left weight : ℕ) (arcs : List Arc) → AreArcs q place arcs → IsWalked q steps place index left weight → 0 < weight
      → (arc : Arc) × Contains arcs arc × IsTight q left index weight arc
  walked-tight steps place index left weight arcs all h more = go (h.least.reached h.some)
    where
      go : HasWalk q left (node_at q place index) weight → (arc : Arc) × Contains arcs arc × IsTight q left index weight arc
      go w = at w.steps w.cost w.walk w.weighs
        where
          at : (xs : List Step) (cost : ℕ) → IsWalk q left (node_at q place index) xs cost → weight ≡ 512 * cost + length xs → (arc : Arc) × Contains arcs arc × IsTight q left index weight arc
          at [] cost walk e = absurd (omega (arith, e, walk.1, more))
          at (x ∷ xs) cost walk e =
              let t = tight-of q candidates price full place arcs all left index weight h.inside h.least h.some x xs cost walk (omega (arith, e))
              (λ a inside after leaves. behind-of q candidates price full rows table place left h.few h.place_in (enough place left h.few) a (All-contains (IsArc q place) arcs a all.sound inside) after leaves) in
              (t.0.arc, t.0.inside, t.1)

  pub walked-on : (steps : List Step) (place index left weight : ℕ) (arcs : List Arc) (arc : Arc) → AreArcs q place arcs → IsWalked q steps place index left weight → 0 < weight
      → (c : IsChoice q place left index weight arcs arc) → IsWalked q (steps ++ arc.step ∷ []) arc.place arc.to c.tight.after c.tight.rest
  walked-on steps place index left weight arcs arc all h more c = record {
    inside = c.good.to;
    place_in = leads-place q candidates price full _ arc.step arc.price _ c.good.leads;
    few = few_after left arc.step c.tight.after h.few c.tight.leaves;
    least = c.tight.least;
    some = c.tight.some;
    start = h.start;
    start_least = h.start_least;
    onward = λ rest first.
        let on = first-on q candidates price full place arcs all left index weight arc h.inside h.least h.some more
        (λ a inside after leaves. behind-of q candidates price full rows table place left h.few h.place_in (enough place left h.few) a (All-contains (IsArc q place) arcs a all.sound inside) after leaves)
        c rest first in
        subst (λ xs. IsFirst q 6 (entry_node q) xs h.start) (sym (append_assoc steps (arc.step ∷ []) rest)) (h.onward (arc.step ∷ rest) on);
  }
    where
      few_after : (left : ℕ) (step : Step) (after : ℕ) → left ≤ 6 → Leaves left step after → after ≤ 6
      few_after left (Go go) after few h = omega (arith, h)
      few_after left (Lay tile) after few h = omega (arith, h)

  pub walk-begins : (index : ℕ) → IsAt q q.entry index → (steps : List Step) (cost : ℕ) → IsValidPlan q steps cost
      → IsWalked q [] 0 index 6 (get_or (get_or rows (7 * (q.places - 1) + 6) []) index 0)
  walk-begins index at steps cost plan =
      let r = 7 * (q.places - 1) + 6 in
      let by : (7 * (q.places - 1) + 6) / 7 ≡ q.places - 1 = omega arith in
      let row = table.rows (7 * (q.places - 1) + 6) (omega (arith, len, full.low)) in
      let w = get_or (get_or rows (7 * (q.places - 1) + 6) []) index 0 in
      let here = row.least index at.within in
      let there : IsLeast q 6 (node_at q 0 index) w = subst (λ p. IsLeast q 6 (node_at q p index) w) (omega (arith, by)) (subst (λ m. IsLeast q m (node_at q (last q - r / 7) index) w) (omega arith) here) in
      let same : node_at q 0 index ≡ entry_node q = node-same 0 0 _ _ refl (map_at-is q q.entry index at) in
      let entry = subst (λ u. IsLeast q 6 u w) same there in
      let short = walk-short q candidates price full 6 (entry_node q) steps cost (omega arith) plan in
      record {
        inside = at.within;
        place_in = omega arith;
        few = omega arith;
        least = there;
        some = let b = entry.bound steps cost plan in omega (arith, b, short, full.high);
        start = w;
        start_least = entry;
        onward = λ rest first. subst (λ u. IsFirst q 6 u rest w) same first;
      }

-- the least order so far, after one more edge
pub first-more : (q : Problem) (left index weight : ℕ) (arcs : List Arc) (n : ℕ) (d : Arc) (least new : ℕ) → n < length arcs → new ≤ least
    → (IsTight q left index weight (get_or arcs n d) → new ≤ order q (get_or arcs n d).step)
    → ((k : ℕ) (e : Arc) → k < n → IsTight q left index weight (get_or arcs k e) → least ≤ order q (get_or arcs k e).step)
    → (k : ℕ) (e : Arc) → k < n + 1 → IsTight q left index weight (get_or arcs k e) → new ≤ order q (get_or arcs k e).step
first-more q left index weight arcs n d least new within low here before k e under tight = go (below-split k n under)
  where
    go : (k < n) ⊎ (k ≡ n) → new ≤ order q (get_or arcs k e).step
    go (inl less) = omega (arith, before k e less tight, low)
    go (inr same) =
        let is : get_or arcs k e ≡ get_or arcs n d = ap (λ j. get_or arcs j e) same ∙ get_or_default arcs n e d within in
        subst (λ a. new ≤ order q a.step) (sym is) (here (subst (IsTight q left index weight) is tight))

pub walked-as : (q : Problem) (steps steps' : List Step) (place index left left' weight weight' : ℕ) → steps' ≡ steps → left' ≡ left → weight' ≡ weight
    → IsWalked q steps place index left weight → IsWalked q steps' place index left' weight'
walked-as q steps steps' place index left left' weight weight' e f g h =
    subst (λ xs. IsWalked q xs place index left' weight') (sym e) (subst (λ n. IsWalked q steps place index n weight') (sym f) (subst (λ n. IsWalked q steps place index left n) (sym g) h))
