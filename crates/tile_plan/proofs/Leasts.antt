-- Least weights by the edges from a node.
use Rattle.std.proofs.Common.{◌≡◌, ◌≢◌, ◌⊎◌, inl, inr, ℕ, suc, ◌+◌, ◌-◌, ◌*◌, ◌/◌, ◌%◌, ◌<◌, ◌≤◌, List, [], ◌∷◌, ◌++◌, length, get_or, set, refl, sym, subst, ap, ◌∙◌, arith, get_or-set_same, get_or-set_other, length-set, map, Vec, Global}
use Rattle.std.proofs.lemmas.Bool.{cases_eq}
use Rattle.std.specs.List.{Contains}
use Rattle.std.proofs.lemmas.List.{get_or_default, get_or_read, map-append, length-map, get_or_append_left, get_or_at, length_push}
use Rattle.reg_map.specs.declared.moves.Move.{Move}
use Rattle.plan_form.specs.declared.problem.Tile.{Tile}
use Rattle.plan_form.specs.declared.problem.Problem.{Problem}
use Rattle.plan_form.specs.declared.problem.Step.{Step}
use Rattle.plan_form.specs.declared.problem.Step.TheVariants.{Go, Lay}
use Rattle.plan_form.specs.Prelude.{IsFullOver, Node, Leads, Leaves, IsWalk, exit_node, last, map_at}
use Rattle.tile_plan.specs.Prelude.{NEVER, Arc, node_at, IsArc, AreArcs, HasWalk, IsLeast, IsRow, IsTable, IsBeyond}
use Rattle.plan_form.proofs.Costs.{node-same}
use Rattle.plan_form.proofs.Indexes.{map_at-is, map_at-at, map-once, below-split}

-- the edge of a step
pub record HasArc (q : Problem) (arcs : List Arc) (i : ℕ) (step : Step) (price : ℕ) (v : Node) : Type 0 where
  pub arc : Arc
  pub inside : Contains arcs arc
  pub from : arc.from ≡ i
  pub step_is : arc.step ≡ step
  pub price_is : arc.price ≡ price
  pub to : node_at q arc.place arc.to ≡ v

pub has-arc : (q : Problem) (candidates : List ℕ) (price : ℕ → ℕ → ℕ) → IsFullOver q candidates price → (place : ℕ) (arcs : List Arc) → AreArcs q place arcs
    → (i : ℕ) → i < length q.maps.items → (step : Step) (cost : ℕ) (v : Node) → Leads q (node_at q place i) step cost v → HasArc q arcs i step cost v
has-arc q candidates price full place arcs all i within (Go go) cost v h =
    let a = all.moves _ h.0 refl in
    record {
      arc = a.0;
      inside = a.1;
      from = map-once q candidates price full (map_at q i) a.0.from i a.2.from (map_at-at q i within);
      step_is = a.2.step;
      price_is = a.2.price;
      to = node-same _ _ _ _ a.2.place (map_at-is q _ _ a.2.to) ∙ sym h.1;
    }
has-arc q candidates price full place arcs all i within (Lay tile) cost v h =
    let a = all.offers _ h.0 refl in
    record {
      arc = a.0;
      inside = a.1;
      from = map-once q candidates price full (map_at q i) a.0.from i a.2.from (map_at-at q i within);
      step_is = a.2.step;
      price_is = a.2.price;
      to = node-same _ _ _ _ a.2.place (map_at-is q _ _ a.2.to ∙ sym h.1);
    }

-- an edge and a walk behind it
pub walk-on : (q : Problem) (moves : ℕ) (u : Node) (step : Step) (price after : ℕ) (v : Node) (b : ℕ) → Leads q u step price v → Leaves moves step after
    → HasWalk q after v b → HasWalk q moves u (512 * price + 1 + b)
walk-on q moves u step price after v b leads leaves h = record {
  steps = step ∷ h.steps;
  cost = price + h.cost;
  walk = (price, after, v, h.cost, leads, leaves, h.walk, refl);
  weighs = omega (arith, h.weighs);
}

-- a walk that begins with no move may begin with some
walk-longer : (q : Problem) (moves : ℕ) (u : Node) (b : ℕ) → HasWalk q 0 u b → HasWalk q moves u b
walk-longer q moves u b h = record { steps = h.steps; cost = h.cost; walk = go h.steps h.cost h.walk; weighs = h.weighs }
  where
    go : (steps : List Step) (cost : ℕ) → IsWalk q 0 u steps cost → IsWalk q moves u steps cost
    go [] cost walk = walk
    go (Lay tile ∷ steps) cost walk = walk
    go (Go move ∷ steps) cost walk = let none = walk.5 in absurd (omega (arith, none))

-- no weight of one row is above that of the other
abbrev pub AreBelow : Problem → List ℕ → List ℕ → Type 0
AreBelow q row base = (i : ℕ) → i < length q.maps.items → get_or row i 0 ≤ get_or base i 0

pub set-below : (q : Problem) (row base : List ℕ) (from w : ℕ) → from < length row → w ≤ get_or row from 0 → AreBelow q row base → AreBelow q (set row from w) base
set-below q row base from w within less h i inside = go (cases_eq i from)
  where
    go : (i ≡ from) ⊎ (i ≢ from) → get_or (set row from w) i 0 ≤ get_or base i 0
    go (inr ne) = subst (λ v. v ≤ get_or base i 0) (sym (get_or-set_other row from i w 0 ne)) (h i inside)
    go (inl e) =
        let same = get_or-set_same row from w 0 within in
        let here = h i inside in
        subst (λ j. get_or (set row from w) j 0 ≤ get_or base i 0) (sym e) (let b = ap (λ j. get_or row j 0) e in omega (arith, same, here, less, b))

-- the weight at the index i of a row after the first n edges
pub record IsPart (q : Problem) (place moves limit : ℕ) (arcs : List Arc) (n i v : ℕ) : Type 0 where
  pub reached : v < NEVER → HasWalk q moves (node_at q place i) v
  pub small : v < NEVER → v ≤ limit
  pub high : v ≤ NEVER
  pub end : node_at q place i ≡ exit_node q → v ≡ 0
  pub bound : (k : ℕ) (d : Arc) → k < n → (get_or arcs k d).from ≡ i → (after : ℕ) (steps : List Step) (c : ℕ) → Leaves moves (get_or arcs k d).step after
      → IsWalk q after (node_at q (get_or arcs k d).place (get_or arcs k d).to) steps c → v ≤ 512 * (get_or arcs k d).price + 1 + (512 * c + length steps)

pub record IsPartRow (q : Problem) (place moves limit : ℕ) (arcs : List Arc) (n : ℕ) (row : List ℕ) : Type 0 where
  pub len : length row ≡ length q.maps.items
  pub parts : (i : ℕ) → i < length q.maps.items → IsPart q place moves limit arcs n i (get_or row i 0)

module _ (q : Problem) (place moves limit : ℕ) (arcs : List Arc) where
  -- an edge more, where no walk that begins with it weighs less
  part-extended : (n i v : ℕ) (arc d : Arc) → n < length arcs → get_or arcs n d ≡ arc
      → (arc.from ≡ i → (after : ℕ) (steps : List Step) (c : ℕ) → Leaves moves arc.step after → IsWalk q after (node_at q arc.place arc.to) steps c
      → v ≤ 512 * arc.price + 1 + (512 * c + length steps))
      → IsPart q place moves limit arcs n i v → IsPart q place moves limit arcs (n + 1) i v
  part-extended n i v arc d within is low h = record {
    reached = h.reached;
    small = h.small;
    high = h.high;
    end = h.end;
    bound = λ k e less here after steps c leaves walk. go k e here after steps c leaves walk (below-split k n less);
  }
    where
      new : (a : Arc) → a ≡ arc → a.from ≡ i → (after : ℕ) (steps : List Step) (c : ℕ) → Leaves moves a.step after
          → IsWalk q after (node_at q a.place a.to) steps c → v ≤ 512 * a.price + 1 + (512 * c + length steps)
      new a e from after steps c leaves walk =
          let w = low (ap (λ x. x.from) (sym e) ∙ from) after steps c (subst (λ x. Leaves moves x.step after) e leaves)
          (subst (λ x. IsWalk q after (node_at q x.place x.to) steps c) e walk) in
          let p = ap (λ x. x.price) e in
          omega (arith, w, p)

      go : (k : ℕ) (e : Arc) → (get_or arcs k e).from ≡ i → (after : ℕ) (steps : List Step) (c : ℕ) → Leaves moves (get_or arcs k e).step after
          → IsWalk q after (node_at q (get_or arcs k e).place (get_or arcs k e).to) steps c → (k < n) ⊎ (k ≡ n)
          → v ≤ 512 * (get_or arcs k e).price + 1 + (512 * c + length steps)
      go k e here after steps c leaves walk (inl less) = h.bound k e less here after steps c leaves walk
      go k e here after steps c leaves walk (inr same) =
          new (get_or arcs k e) (ap (λ j. get_or arcs j e) same ∙ get_or_default arcs n e d within ∙ is) here after steps c leaves walk

  part-more : (n i v : ℕ) (arc d : Arc) (b : ℕ) → n < length arcs → get_or arcs n d ≡ arc → IsBeyond q moves limit arc b
      → (arc.from ≡ i → v ≤ 512 * arc.price + 1 + b) → IsPart q place moves limit arcs n i v → IsPart q place moves limit arcs (n + 1) i v
  part-more n i v arc d b within is beyond low h =
      part-extended n i v arc d within is
      (λ from after steps c leaves walk. let l = low from in let w = (beyond.least after leaves).bound steps c walk in omega (arith, l, w)) h

  part-lower : (n i v w : ℕ) → w < v → (node_at q place i ≡ exit_node q → w ≡ 0) → HasWalk q moves (node_at q place i) w → w ≤ limit
      → IsPart q place moves limit arcs n i v → IsPart q place moves limit arcs n i w
  part-lower n i v w less end walk small h = record {
    reached = λ _. walk;
    small = λ _. small;
    high = omega (arith, h.high);
    end = end;
    bound = λ k d low here after steps c leaves way. omega (arith, h.bound k d low here after steps c leaves way);
  }

  -- an edge that lowers nothing
  pub row-kept : (n : ℕ) (row : List ℕ) (arc d : Arc) (b : ℕ) → n < length arcs → get_or arcs n d ≡ arc → IsBeyond q moves limit arc b
      → (get_or row arc.from 0 ≤ 512 * arc.price + 1 + b) → IsPartRow q place moves limit arcs n row → IsPartRow q place moves limit arcs (n + 1) row
  row-kept n row arc d b within is beyond low h = record {
    len = h.len;
    parts = λ i inside. part-more n i (get_or row i 0) arc d b within is beyond (λ e. subst (λ j. get_or row j 0 ≤ 512 * arc.price + 1 + b) e low) (h.parts i inside);
  }

  -- an edge that lowers the weight of its node
  pub row-lowered : (n : ℕ) (row : List ℕ) (arc d : Arc) (b : ℕ) → n < length arcs → get_or arcs n d ≡ arc → IsArc q place arc → IsBeyond q moves limit arc b → b < NEVER
      → arc.price < 1024 → 512 * arc.price + 1 + b < get_or row arc.from 0 → IsPartRow q place moves limit arcs n row
      → IsPartRow q place moves limit arcs (n + 1) (set row arc.from (512 * arc.price + 1 + b))
  row-lowered n row arc d b within is good beyond some cheap less h = record {
    len = length-set row arc.from (512 * arc.price + 1 + b) ∙ h.len;
    parts = λ i inside. go i inside (cases_eq i arc.from);
  }
    where
      w : ℕ
      w = 512 * arc.price + 1 + b

      go : (i : ℕ) → i < length q.maps.items → (i ≡ arc.from) ⊎ (i ≢ arc.from) → IsPart q place moves limit arcs (n + 1) i (get_or (set row arc.from (512 * arc.price + 1 + b)) i 0)
      go i inside (inr ne) =
          subst (λ v. IsPart q place moves limit arcs (n + 1) i v) (sym (get_or-set_other row arc.from i (512 * arc.price + 1 + b) 0 ne))
          (part-more n i (get_or row i 0) arc d b within is beyond (λ e. absurd (ne (sym e))) (h.parts i inside))
      go i inside (inl e) =
          let on = beyond.onward some in
          let walk = walk-on q moves (node_at q place arc.from) arc.step arc.price on.0 (node_at q arc.place arc.to) b good.leads on.1 ((beyond.least on.0 on.1).reached some) in
          let small = beyond.small some in
          let old = h.parts arc.from good.from in
          let lower = part-lower n arc.from (get_or row arc.from 0) (512 * arc.price + 1 + b) less
          (λ at_end. absurd (omega (arith, old.end at_end, less))) walk (omega (arith, small, cheap)) old in
          let inside_row : arc.from < length row = omega (arith, h.len, good.from) in
          subst (λ j. IsPart q place moves limit arcs (n + 1) j (get_or (set row arc.from (512 * arc.price + 1 + b)) j 0)) (sym e)
          (subst (λ v. IsPart q place moves limit arcs (n + 1) arc.from v) (sym (get_or-set_same row arc.from (512 * arc.price + 1 + b) 0 inside_row))
          (part-more n arc.from (512 * arc.price + 1 + b) arc d b within is beyond (λ _. omega arith) lower))

  -- a tile's edge, where the row begins with the least weights of walks without a move before the first tile
  pub row-passed : (n : ℕ) (row base : List ℕ) (low : ℕ) (arc d : Arc) (tile : Tile) → n < length arcs → get_or arcs n d ≡ arc → IsArc q place arc → arc.step ≡ Lay tile
      → IsRow q place 0 low base → AreBelow q row base → IsPartRow q place moves limit arcs n row → IsPartRow q place moves limit arcs (n + 1) row
  row-passed n row base low arc d tile within is good e all below h = record {
    len = h.len;
    parts = λ i inside. part-extended n i (get_or row i 0) arc d within is (λ from after steps c leaves walk.
        let w = (all.least arc.from good.from).bound (arc.step ∷ steps) (arc.price + c)
        (arc.price, after, node_at q arc.place arc.to, c, good.leads, subst (λ s. Leaves 0 s after) (sym e) (subst (λ s. Leaves moves s after) e leaves), walk, refl) in
        let v = subst (λ j. get_or row j 0 ≤ get_or base j 0) from (below arc.from good.from) in
        let b = ap (λ j. get_or base j 0) from in
        omega (arith, w, v, b)) (h.parts i inside);
  }

  -- the row that walks without a move before the first tile have is a beginning
  pub row-begun : (base : List ℕ) (low : ℕ) → low ≤ limit → IsRow q place 0 low base → IsPartRow q place moves limit arcs 0 base
  row-begun base low less h = record {
    len = h.len;
    parts = λ i inside. record {
      reached = λ some. walk-longer q moves (node_at q place i) (get_or base i 0) ((h.least i inside).reached some);
      small = λ some. let s = h.small i inside some in omega (arith, s, less);
      high = h.high i inside;
      end = λ e. let l = (h.least i inside).bound [] 0 (e, refl) in omega (arith, l);
      bound = λ k d none from after steps c leaves walk. absurd (omega (arith, none));
    };
  }

  pub row-whole : (candidates : List ℕ) (price : ℕ → ℕ → ℕ) → IsFullOver q candidates price → AreArcs q place arcs → (n : ℕ) (row : List ℕ) → length arcs ≤ n
      → IsPartRow q place moves limit arcs n row → IsRow q place moves limit row
  row-whole candidates price full all n row end h = record {
    len = h.len;
    least = λ i inside. record { bound = go i inside; reached = (h.parts i inside).reached };
    small = λ i inside. (h.parts i inside).small;
    high = λ i inside. (h.parts i inside).high;
  }
    where
      go : (i : ℕ) → i < length q.maps.items → (steps : List Step) (cost : ℕ) → IsWalk q moves (node_at q place i) steps cost → get_or row i 0 ≤ 512 * cost + length steps
      go i inside [] cost walk = let e = (h.parts i inside).end walk.0 in omega (arith, e)
      go i inside (step ∷ steps) cost walk =
          let a = has-arc q candidates price full place arcs all i inside step walk.0 walk.2 walk.4 in
          let k = a.inside.0 in
          let is : get_or arcs k a.arc ≡ a.arc = a.inside.2 in
          let leaves = subst (λ s. Leaves moves s walk.1) (sym (ap (λ x. x.step) is ∙ a.step_is)) walk.5 in
          let to = subst (λ v. IsWalk q walk.1 v steps walk.3) (sym (ap (λ x. node_at q x.place x.to) is ∙ a.to)) walk.6 in
          let low = (h.parts i inside).bound k a.arc (omega (arith, a.inside.1)) (ap (λ x. x.from) is ∙ a.from) walk.1 steps walk.3 leaves to in
          let p = ap (λ x. x.price) is ∙ a.price_is in
          omega (arith, low, p, walk.7)

-- what is behind a move, by the row with one move less
pub row-beyond : (q : Problem) (place left low limit : ℕ) (arc : Arc) (go : Move) (fewer : List ℕ) → arc.step ≡ Go go → IsArc q place arc → 0 < left → low + 524288 ≤ limit
    → IsRow q place (left - 1) low fewer → IsBeyond q left limit arc (get_or fewer arc.to 0)
row-beyond q place left low limit arc go fewer e is some less row =
    let h = subst (λ s. Leads q (node_at q place arc.from) s arc.price (node_at q arc.place arc.to)) e is.leads in
    let f : arc.place ≡ place = ap (λ w. w.place) h.1 in
    record {
      least = λ after leaves.
          let k : left ≡ suc after = subst (λ s. Leaves left s after) e leaves in
          let n : left - 1 ≡ after = omega (arith, k) in
          subst (λ m. IsLeast q m (node_at q arc.place arc.to) (get_or fewer arc.to 0)) n
          (subst (λ p. IsLeast q (left - 1) (node_at q p arc.to) (get_or fewer arc.to 0)) (sym f) (row.least arc.to is.to));
      onward = λ _. (left - 1, subst (λ s. Leaves left s (left - 1)) (sym e) (let n : left ≡ suc (left - 1) = omega (arith, some) in n));
      small = λ known. let k = row.small arc.to is.to known in omega (arith, k, less);
    }

module _ (q : Problem) (candidates : List ℕ) (price : ℕ → ℕ → ℕ) (full : IsFullOver q candidates price) (rows : List (List ℕ)) (table : IsTable q rows) where
  pub row-as : (r place moves : ℕ) → r < length rows → last q - r / 7 ≡ place → r % 7 ≡ moves → IsRow q place moves (524288 * r) (get_or rows r [])
  row-as r place moves within e f =
      subst (λ p. IsRow q p moves (524288 * r) (get_or rows r [])) e (subst (λ m. IsRow q (last q - r / 7) m (524288 * r) (get_or rows r [])) f (table.rows r within))

  pub offer-facts : (u : Node) (step : Step) (cost : ℕ) (v : Node) (tile : Tile) → step ≡ Lay tile → Leads q u step cost v → (u.place < v.place) × (v.place ≤ last q)
  offer-facts u step cost v tile e h =
      let k = subst (λ s. Leads q u s cost v) e h in
      let o = full.offers _ k.0 in
      (o.onward, o.within)

  pub move-facts : (u : Node) (step : Step) (cost : ℕ) (v : Node) (go : Move) → step ≡ Go go → Leads q u step cost v → v.place ≡ u.place
  move-facts u step cost v go e h = ap (λ w. w.place) (subst (λ s. Leads q u s cost v) e h).1

  pub lay-row : (place left : ℕ) (arc : Arc) (tile : Tile) → arc.step ≡ Lay tile → IsArc q place arc → place ≤ last q → 7 * (last q - place) + left ≤ length rows
      → (7 * (q.places - 1 - arc.place) + 6 < length rows) × IsRow q arc.place 6 (524288 * (7 * (q.places - 1 - arc.place) + 6)) (get_or rows (7 * (q.places - 1 - arc.place) + 6) [])
  lay-row place left arc tile e is low enough =
      let f = offer-facts _ _ _ _ tile e is.leads in
      let r = 7 * (q.places - 1 - arc.place) + 6 in
      let within : 7 * (q.places - 1 - arc.place) + 6 < length rows = omega (arith, f.0, f.1, low, enough) in
      let by : (7 * (q.places - 1 - arc.place) + 6) / 7 ≡ q.places - 1 - arc.place = omega arith in
      (within, row-as (7 * (q.places - 1 - arc.place) + 6) arc.place 6 within (omega (arith, by, f.1)) (omega arith))

  pub go-row : (place left : ℕ) → left ≤ 6 → 0 < left → place ≤ last q → 7 * (last q - place) + left ≤ length rows
      → (7 * (q.places - 1 - place) + left - 1 < length rows) × IsRow q place (left - 1) (524288 * (7 * (q.places - 1 - place) + left - 1)) (get_or rows (7 * (q.places - 1 - place) + left - 1) [])
  go-row place left few some low enough =
      let within : 7 * (q.places - 1 - place) + left - 1 < length rows = omega (arith, low, enough) in
      let by : (7 * (q.places - 1 - place) + left - 1) / 7 ≡ q.places - 1 - place = omega arith in
      (within, row-as (7 * (q.places - 1 - place) + left - 1) place (left - 1) within (omega (arith, by, low)) (omega arith))

  pub lay-beyond : (place left : ℕ) (arc : Arc) (tile : Tile) → arc.step ≡ Lay tile → IsArc q place arc → place ≤ last q → 7 * (last q - place) + left ≤ length rows
      → IsBeyond q left (524288 * (7 * (last q - place) + left)) arc (get_or (get_or rows (7 * (q.places - 1 - arc.place) + 6) []) arc.to 0)
  lay-beyond place left arc tile e is low enough =
      let row = lay-row place left arc tile e is low enough in
      let f = offer-facts _ _ _ _ tile e is.leads in
      let b = get_or (get_or rows (7 * (q.places - 1 - arc.place) + 6) []) arc.to 0 in
      record {
        least = λ after leaves. subst (λ n. IsLeast q n (node_at q arc.place arc.to) b) (sym (subst (λ s. Leaves left s after) e leaves)) (row.1.least arc.to is.to);
        onward = λ _. (6, subst (λ s. Leaves left s 6) (sym e) refl);
        small = λ some. let k = row.1.small arc.to is.to some in omega (arith, k, f.0, f.1);
      }

  pub go-beyond : (place left : ℕ) (arc : Arc) (go : Move) → arc.step ≡ Go go → IsArc q place arc → left ≤ 6 → 0 < left → place ≤ last q → 7 * (last q - place) + left ≤ length rows
      → IsBeyond q left (524288 * (7 * (last q - place) + left)) arc (get_or (get_or rows (7 * (q.places - 1 - place) + left - 1) []) arc.to 0)
  go-beyond place left arc go e is few some low enough =
      let row = go-row place left few some low enough in
      row-beyond q place left (524288 * (7 * (q.places - 1 - place) + left - 1)) (524288 * (7 * (last q - place) + left)) arc go _ e is some (omega (arith, some)) row.1

  pub never-beyond : (limit : ℕ) (arc : Arc) (go : Move) → arc.step ≡ Go go → IsBeyond q 0 limit arc NEVER
  never-beyond limit arc go e = record {
    least = λ after leaves. absurd (none after (subst (λ s. Leaves 0 s after) e leaves));
    onward = λ some. absurd (omega (arith, some));
    small = λ some. absurd (omega (arith, some));
  }
    where
      none : (after : ℕ) → 0 ≡ suc after → ⊥
      none after h = omega (arith, h)

pub read-zero : (xs : List ℕ) (i x : ℕ) → x ≡ get_or xs i x → i < length xs → x ≡ get_or xs i 0
read-zero xs i x e within = get_or_read xs i x within e 0

rows-push : (q : Problem) (n : ℕ) (old : List (List ℕ)) (row : List ℕ) → IsTable q old → length old ≡ n → n < 7 * q.places
    → IsRow q (last q - n / 7) (n % 7) (524288 * (7 * (last q - (last q - n / 7)) + n % 7)) row → IsTable q (old ++ row ∷ [])
rows-push q n old row h len less new = record {
  few = let k = length_push old row in omega (arith, k, len, less);
  rows = λ r within. let k = length_push old row in go r (below-split r n (omega (arith, k, len, within)));
}
  where
    go : (r : ℕ) → (r < n) ⊎ (r ≡ n) → IsRow q (last q - r / 7) (r % 7) (524288 * r) (get_or (old ++ row ∷ []) r [])
    go r (inl low) =
        subst (λ xs. IsRow q (last q - r / 7) (r % 7) (524288 * r) xs) (sym (get_or_append_left old (row ∷ []) [] r (omega (arith, low, len)))) (h.rows r (omega (arith, low, len)))
    go r (inr e) =
        let size : 524288 * (7 * (last q - (last q - n / 7)) + n % 7) ≡ 524288 * n = omega (arith, less) in
        let here = subst (λ limit. IsRow q (last q - n / 7) (n % 7) limit row) size new in
        subst (λ m. IsRow q (last q - m / 7) (m % 7) (524288 * m) (get_or (old ++ row ∷ []) m [])) (sym e)
        (subst (λ xs. IsRow q (last q - n / 7) (n % 7) (524288 * n) xs) (sym (get_or_at old row [] [] n len)) here)

-- one more row
pub table-push : (q : Problem) (n : ℕ) (table : List (Vec ℕ Global)) (row : Vec ℕ Global) → IsTable q (map (λ r. r.items) table) → length table ≡ n → n < 7 * q.places
    → IsRow q (last q - n / 7) (n % 7) (524288 * (7 * (last q - (last q - n / 7)) + n % 7)) row.items → IsTable q (map (λ r. r.items) (table ++ row ∷ []))
table-push q n table row h len less new =
    let old = map (λ r. r.items) table in
    let e : map (λ r. r.items) (table ++ row ∷ []) ≡ old ++ row.items ∷ [] = map-append (λ r. r.items) table (row ∷ []) in
    let size : length old ≡ n = length-map table (λ r. r.items) ∙ len in
    subst (IsTable q) (sym e) (rows-push q n old row.items h size less new)
