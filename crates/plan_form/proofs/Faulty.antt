-- The first edge that is not obeyed.
use Rattle.std.proofs.Common.{◌≡◌, ◌⊎◌, inl, inr, ℕ, ◌+◌, ◌<◌, List, length, get_or, Option, Some, None, MatchOption, sym, subst, ap, ◌∙◌, arith}
use Rattle.std.proofs.lemmas.List.{get_or_default}
use Rattle.std.proofs.lemmas.Bool.{cases_lt}
use Rattle.plan_form.specs.Prelude.{Problem, Offer, MovePrice, Step, Go, Lay, Fault, IsFullOver, Node, Leads, label_at, IsObeyed, IsPassed, IsFaultOf, IsEarlier, IsSound, IsFound, IsMoveFault, IsOfferFault, IsFirstFault}
use Rattle.reg_map.specs.Prelude.{moved}
use Rattle.plan_form.proofs.Indexes.{below-split, map-once}

-- the first n moves are covered by what is found
abbrev pub MovesFound : Problem → List (List ℕ) → ℕ → Option Fault → Type 0
MovesFound q values n found = (k : ℕ) (d : MovePrice) → k < n → let m = get_or q.moves.items k d in
    IsFound q values (record { place = m.place; map = m.map }) (Go m.step) m.price (record { place = m.place; map = moved m.map m.step }) found

abbrev pub OffersFound : Problem → List (List ℕ) → ℕ → Option Fault → Type 0
OffersFound q values n found = (k : ℕ) (d : Offer) → k < n → let o = get_or q.offers.items k d in
    IsFound q values (record { place = o.from; map = o.map }) (Lay o.tile) o.price (record { place = o.to; map = o.map }) found

-- what one edge's test says
pub found-of : (q : Problem) (candidates : List ℕ) (price : ℕ → ℕ → ℕ) → IsFullOver q candidates price → (values : List (List ℕ)) (u : Node) (step : Step) (cost : ℕ) (v : Node) (found : Option Fault)
    → MatchOption found (IsPassed q values u cost v) (λ fault. IsFaultOf q values u step cost v fault) → IsSound q values found × IsFound q values u step cost v found
found-of q candidates price full values u step cost v None h = (tt, λ i j from to fails. omega (arith, h i j from to, fails))
found-of q candidates price full values u step cost v (Some fault) h = (
  (u, step, cost, v, h),
  λ i j from to fails.
      let same = map-once q candidates price full u.map i h.i from h.from in
      omega (arith, h.order_is, same),
)

module _ (q : Problem) (values : List (List ℕ)) (old more new : Option Fault) (e : IsEarlier old more new) where
  pub sound-on : IsSound q values old → IsSound q values more → IsSound q values new
  sound-on h g = go e.one
    where
      go : (new ≡ old) ⊎ (new ≡ more) → IsSound q values new
      go (inl f) = subst (IsSound q values) (sym f) h
      go (inr f) = subst (IsSound q values) (sym f) g

  pub moves-kept : (n : ℕ) → MovesFound q values n old → MovesFound q values n new
  moves-kept n h k d low i j from to fails = e.by_first _ (h k d low i j from to fails)

  pub moves-on : (slice : List MovePrice) (n : ℕ) (d : MovePrice) → slice ≡ q.moves.items → n < length slice → MovesFound q values n old
      → IsMoveFault q values (get_or slice n d) more → MovesFound q values (n + 1) new
  moves-on slice n d s within h g k d' low = go (below-split k n low)
    where
      go : (k < n) ⊎ (k ≡ n) → let m = get_or q.moves.items k d' in IsFound q values (record { place = m.place; map = m.map }) (Go m.step) m.price (record { place = m.place; map = moved m.map m.step }) new
      go (inl less) = λ i j from to fails. e.by_first _ (h k d' less i j from to fails)
      go (inr same) =
          let is : get_or slice n d ≡ get_or q.moves.items k d' = get_or_default slice n d d' within ∙ ap (λ xs. get_or xs n d') s ∙ ap (λ x. get_or q.moves.items x d') (sym same) in
          let g' = subst (λ m. IsMoveFault q values m more) is g in
          λ i j from to fails. e.by_other _ (g'.covers i j from to fails)

  pub offers-on : (slice : List Offer) (n : ℕ) (d : Offer) → slice ≡ q.offers.items → n < length slice → OffersFound q values n old
      → IsOfferFault q values (get_or slice n d) more → OffersFound q values (n + 1) new
  offers-on slice n d s within h g k d' low = go (below-split k n low)
    where
      go : (k < n) ⊎ (k ≡ n) → let o = get_or q.offers.items k d' in IsFound q values (record { place = o.from; map = o.map }) (Lay o.tile) o.price (record { place = o.to; map = o.map }) new
      go (inl less) = λ i j from to fails. e.by_first _ (h k d' less i j from to fails)
      go (inr same) =
          let is : get_or slice n d ≡ get_or q.offers.items k d' = get_or_default slice n d d' within ∙ ap (λ xs. get_or xs n d') s ∙ ap (λ x. get_or q.offers.items x d') (sym same) in
          let g' = subst (λ o. IsOfferFault q values o more) is g in
          λ i j from to fails. e.by_other _ (g'.covers i j from to fails)

pub first-of : (q : Problem) (values : List (List ℕ)) (found : Option Fault) → IsSound q values found → MovesFound q values (length q.moves.items) found
    → OffersFound q values (length q.offers.items) found → IsFirstFault q values found
first-of q values found sound moves offers = record { sound = sound; covers = go }
  where
    go : (u : Node) (step : Step) (price : ℕ) (v : Node) → Leads q u step price v → IsFound q values u step price v found
    go u (Go step) price v h =
        let k = h.0 in
        let m : MovePrice = record { place = u.place; map = u.map; step = step; price = price } in
        let at = subst (λ x. IsFound q values (record { place = x.place; map = x.map }) (Go x.step) x.price (record { place = x.place; map = moved x.map x.step }) found) k.2 (moves k.0 m k.1) in
        subst (λ w. IsFound q values u (Go step) price w found) (sym h.1) at
    go u (Lay tile) price v h =
        let k = h.0 in
        let o : Offer = record { from = u.place; to = v.place; map = u.map; tile = tile; price = price } in
        let at = subst (λ x. IsFound q values (record { place = x.from; map = x.map }) (Lay x.tile) x.price (record { place = x.to; map = x.map }) found) k.2 (offers k.0 o k.1) in
        let there : ◌≡◌ {A = Node} v (record { place = v.place; map = u.map }) = ap (λ m. let n : Node = record { place = v.place; map = m } in n) h.1 in
        subst (λ w. IsFound q values u (Lay tile) price w found) (sym there) at

-- where nothing is found every edge is obeyed
pub none-obeyed : (q : Problem) (values : List (List ℕ)) → IsFirstFault q values None → IsObeyed q values
none-obeyed q values h u step price v i j leads from to =
    elim (cases_lt (label_at q values u.place i + price) (label_at q values v.place j)) [
      | inl fails ↦ absurd (h.covers u step price v leads i j from to fails)
      | inr low ↦ low
    ]
