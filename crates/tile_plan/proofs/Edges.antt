-- Edges collected by place.
use Rattle.std.proofs.Common.{◌≡◌, ◌≢◌, ◌⊎◌, inl, inr, ℕ, ◌+◌, ◌<◌, ◌≤◌, List, [], ◌∷◌, ◌++◌, length, get_or, refl, sym, subst, ap, ◌∙◌, arith, map, Vec, Global, set, get_or-set_same, get_or-set_other, length-set}
use Rattle.std.specs.List.{All, Contains}
use Rattle.std.proofs.lemmas.List.{get_or_default, map-append, map-set, length-map, get_or_append_left, get_or_at}
use Rattle.std.proofs.lemmas.List.Elements.{All-push, Contains-append_left, Contains-push, Contains-get_or}
use Rattle.std.proofs.lemmas.Bool.{cases_eq}
use Rattle.plan_form.specs.declared.problem.Problem.{Problem}
use Rattle.plan_form.specs.declared.problem.Step.{Step}
use Rattle.plan_form.specs.declared.problem.Step.TheVariants.{Go, Lay}
use Rattle.plan_form.specs.declared.problem.Offer.{Offer}
use Rattle.plan_form.specs.declared.problem.MovePrice.{MovePrice}
use Rattle.reg_map.specs.Prelude.{moved}
use Rattle.plan_form.specs.Prelude.{Node, Leads}
use Rattle.tile_plan.specs.Prelude.{node_at, IsMoveArc, IsOfferArc, IsArc, AreAllArcs, IsCollected, AreFromPlace, AreSoFar, IsPushed, Arc}
use Rattle.plan_form.proofs.Costs.{node-same}
use Rattle.plan_form.proofs.Indexes.{map_at-is, below-split}

module _ {X : Type 0} (at : X → ℕ) (Is : X → Arc → Type 0) (place : ℕ) (items : List X) where
  pub collect-push : (slice : List X) (n : ℕ) (arcs new : List Arc) (d : X) (arc : Arc) → slice ≡ items → n < length slice → new ≡ arcs ++ arc ∷ []
      → IsCollected at Is place items n arcs → Is (get_or slice n d) arc → IsCollected at Is place items (n + 1) new
  collect-push slice n arcs new d arc e within f h good =
      subst (IsCollected at Is place items (n + 1)) (sym f) (record { each = λ k d' low here. go k d' here (below-split k n low) })
    where
      go : (k : ℕ) (d' : X) → at (get_or items k d') ≡ place → (k < n) ⊎ (k ≡ n) → (a : Arc) × Contains (arcs ++ arc ∷ []) a × Is (get_or items k d') a
      go k d' here (inl low) = let a = h.each k d' low here in (a.0, Contains-append_left arcs (arc ∷ []) a.0 a.1, a.2)
      go k d' here (inr is) =
          let same : get_or slice n d ≡ get_or items k d' = get_or_default slice n d d' within ∙ ap (λ xs. get_or xs n d') e ∙ ap (λ j. get_or items j d') (sym is) in
          (arc, Contains-push arcs arc, subst (λ y. Is y arc) same good)

  pub collect-skip : (slice : List X) (n : ℕ) (arcs new : List Arc) (d : X) → slice ≡ items → n < length slice → new ≡ arcs → (at (get_or slice n d) ≡ place → ⊥)
      → IsCollected at Is place items n arcs → IsCollected at Is place items (n + 1) new
  collect-skip slice n arcs new d e within f not h =
      subst (IsCollected at Is place items (n + 1)) (sym f) (record { each = λ k d' low here. go k d' here (below-split k n low) })
    where
      go : (k : ℕ) (d' : X) → at (get_or items k d') ≡ place → (k < n) ⊎ (k ≡ n) → (a : Arc) × Contains arcs a × Is (get_or items k d') a
      go k d' here (inl low) = h.each k d' low here
      go k d' here (inr is) =
          let same : get_or slice n d ≡ get_or items k d' = get_or_default slice n d d' within ∙ ap (λ xs. get_or xs n d') e ∙ ap (λ j. get_or items j d') (sym is) in
          absurd (not (ap at same ∙ here))

  pub collect-all : (n : ℕ) (arcs : List Arc) → length items ≤ n → IsCollected at Is place items n arcs
      → (x : X) → Contains items x → at x ≡ place → (arc : Arc) × Contains arcs arc × Is x arc
  collect-all n arcs end h x inside here =
      let a = h.each inside.0 x (omega (arith, inside.1)) (ap at inside.2 ∙ here) in
      (a.0, a.1, subst (λ y. Is y a.0) inside.2 a.2)

  pub collect-kept : (n : ℕ) (arcs new : List Arc) (arc : Arc) → new ≡ arcs ++ arc ∷ [] → IsCollected at Is place items n arcs → IsCollected at Is place items n new
  collect-kept n arcs new arc f h = subst (IsCollected at Is place items n) (sym f) (record { each = λ k d low here. let e = h.each k d low here in (e.0, Contains-append_left arcs (arc ∷ []) e.0 e.1, e.2) })

pub move-arc-is : (q : Problem) (place : ℕ) (move : MovePrice) (arc : Arc) → Contains q.moves.items move → move.place ≡ place → IsMoveArc q move arc → IsArc q place arc
move-arc-is q place move arc inside here is = record {
  from = is.from.within;
  to = is.to.within;
  leads =
      let there : Leads q (record { place = move.place; map = move.map }) (Go move.step) move.price (record { place = move.place; map = moved move.map move.step }) = (inside, refl) in
      let e = node-same _ _ _ _ here (sym (map_at-is q move.map arc.from is.from)) in
      let f = node-same _ _ _ _ (sym is.place) (sym (map_at-is q (moved move.map move.step) arc.to is.to)) in
      subst (λ (u : Node). Leads q u arc.step arc.price (node_at q arc.place arc.to)) e
      (subst (λ (v : Node). Leads q (record { place = move.place; map = move.map }) arc.step arc.price v) f
      (subst (λ (s : Step). Leads q (record { place = move.place; map = move.map }) s arc.price (record { place = move.place; map = moved move.map move.step })) (sym is.step)
      (subst (λ (n : ℕ). Leads q (record { place = move.place; map = move.map }) (Go move.step) n (record { place = move.place; map = moved move.map move.step })) (sym is.price) there)));
}

pub offer-arc-is : (q : Problem) (place : ℕ) (offer : Offer) (arc : Arc) → Contains q.offers.items offer → offer.from ≡ place → IsOfferArc q offer arc → IsArc q place arc
offer-arc-is q place offer arc inside here is = record {
  from = is.from.within;
  to = is.to.within;
  leads =
      let there : Leads q (record { place = offer.from; map = offer.map }) (Lay offer.tile) offer.price (record { place = offer.to; map = offer.map }) = (inside, refl) in
      let e = node-same _ _ _ _ here (sym (map_at-is q offer.map arc.from is.from)) in
      let f = node-same _ _ _ _ (sym is.place) (sym (map_at-is q offer.map arc.to is.to)) in
      subst (λ (u : Node). Leads q u arc.step arc.price (node_at q arc.place arc.to)) e
      (subst (λ (v : Node). Leads q (record { place = offer.from; map = offer.map }) arc.step arc.price v) f
      (subst (λ (s : Step). Leads q (record { place = offer.from; map = offer.map }) s arc.price (record { place = offer.to; map = offer.map })) (sym is.step)
      (subst (λ (n : ℕ). Leads q (record { place = offer.from; map = offer.map }) (Lay offer.tile) n (record { place = offer.to; map = offer.map })) (sym is.price) there)));
}

pub sound-push : (q : Problem) (place : ℕ) (arcs new : List Arc) (arc : Arc) → new ≡ arcs ++ arc ∷ [] → All (IsArc q place) arcs → IsArc q place arc → All (IsArc q place) new
sound-push q place arcs new arc f sound is = subst (All (IsArc q place)) (sym f) (All-push (IsArc q place) arcs arc sound is)

pub contains-at : {X : Type 0} (slice items : List X) (n : ℕ) (d : X) → slice ≡ items → n < length slice → Contains items (get_or slice n d)
contains-at slice items n d e within = subst (λ xs. Contains xs (get_or slice n d)) e (Contains-get_or slice n d within)

-- no edge yet
pub none-yet : (q : Problem) (place : ℕ) → AreFromPlace q place 0 0 []
none-yet q place = record {
  sound = λ k d low. absurd (omega (arith, low));
  moves_in = record { each = λ k d low here. absurd (omega (arith, low)) };
  offers_in = record { each = λ k d low here. absurd (omega (arith, low)) };
}

-- one more list without edges
pub none-push : (q : Problem) (n : ℕ) (rows : List (Vec Arc Global)) (more : Vec Arc Global) → length rows ≡ n → more.items ≡ []
    → ((k : ℕ) → k < n → get_or (map (λ a. a.items) rows) k [] ≡ []) → (k : ℕ) → k < n + 1 → get_or (map (λ a. a.items) (rows ++ more ∷ [])) k [] ≡ []
none-push q n rows more len none h k low =
    ap (λ xs. get_or xs k []) (map-append (λ a. a.items) rows (more ∷ [])) ∙ go (below-split k n low)
  where
    size : length (map (λ a. a.items) rows) ≡ n
    size = length-map rows (λ a. a.items) ∙ len

    go : (k < n) ⊎ (k ≡ n) → get_or (map (λ a. a.items) rows ++ more.items ∷ []) k [] ≡ []
    go (inl less) = get_or_append_left (map (λ a. a.items) rows) (more.items ∷ []) [] k (omega (arith, less, size)) ∙ h k less
    go (inr e) = ap (λ j. get_or (map (λ a. a.items) rows ++ more.items ∷ []) j []) e ∙ get_or_at (map (λ a. a.items) rows) more.items [] [] n size ∙ none

-- an edge is pushed to the list of a place
pub pushed : (rows : List (Vec Arc Global)) (place : ℕ) (more : Vec Arc Global) (arc : Arc) → place < length rows
    → more.items ≡ get_or (map (λ a. a.items) rows) place [] ++ arc ∷ [] → IsPushed (map (λ a. a.items) rows) (map (λ a. a.items) (set rows place more)) place arc
pushed rows place more arc within is =
    let old = map (λ a. a.items) rows in
    let e = map-set (λ a. a.items) rows place more in
    let size : length old ≡ length rows = length-map rows (λ a. a.items) in
    record {
      len = ap length e ∙ length-set old place more.items;
      here = ap (λ xs. get_or xs place []) e ∙ get_or-set_same old place more.items [] (omega (arith, within, size)) ∙ is;
      others = λ k ne. ap (λ xs. get_or xs k []) e ∙ get_or-set_other old place k more.items [] ne;
    }

module _ (q : Problem) (rows new : List (List Arc)) (place : ℕ) (arc : Arc) (push : IsPushed rows new place arc) where
  -- one more move
  pub move-more : (slice : List MovePrice) (m n : ℕ) (d : MovePrice) → slice ≡ q.moves.items → m < length slice → (get_or slice m d).place ≡ place
      → IsMoveArc q (get_or slice m d) arc → AreSoFar q m n rows → AreSoFar q (m + 1) n new
  move-more slice m n d same within here is h = record { len = push.len ∙ h.len; places = λ p low. go p (h.places p low) (cases_eq p place) }
    where
      go : (p : ℕ) → AreFromPlace q p m n (get_or rows p []) → (p ≡ place) ⊎ (p ≢ place) → AreFromPlace q p (m + 1) n (get_or new p [])
      go p f (inl e) =
          let list : get_or new p [] ≡ get_or rows p [] ++ arc ∷ [] = ap (λ k. get_or new k []) e ∙ push.here ∙ ap (λ k. get_or rows k [] ++ arc ∷ []) (sym e) in
          record {
            sound = sound-push q p (get_or rows p []) (get_or new p []) arc list f.sound (move-arc-is q p (get_or slice m d) arc (contains-at slice q.moves.items m d same within) (here ∙ sym e) is);
            moves_in = collect-push (λ (x : MovePrice). x.place) (IsMoveArc q) p q.moves.items slice m (get_or rows p []) (get_or new p []) d arc same within list f.moves_in is;
            offers_in = collect-kept (λ (x : Offer). x.from) (IsOfferArc q) p q.offers.items n (get_or rows p []) (get_or new p []) arc list f.offers_in;
          }
      go p f (inr ne) =
          let list = push.others p ne in
          record {
            sound = subst (All (IsArc q p)) (sym list) f.sound;
            moves_in = collect-skip (λ (x : MovePrice). x.place) (IsMoveArc q) p q.moves.items slice m (get_or rows p []) (get_or new p []) d same within list (λ e. ne (sym e ∙ here)) f.moves_in;
            offers_in = subst (IsCollected (λ (x : Offer). x.from) (IsOfferArc q) p q.offers.items n) (sym list) f.offers_in;
          }

  -- one more offer
  pub offer-more : (slice : List Offer) (m n : ℕ) (d : Offer) → slice ≡ q.offers.items → n < length slice → (get_or slice n d).from ≡ place
      → IsOfferArc q (get_or slice n d) arc → AreSoFar q m n rows → AreSoFar q m (n + 1) new
  offer-more slice m n d same within here is h = record { len = push.len ∙ h.len; places = λ p low. go p (h.places p low) (cases_eq p place) }
    where
      go : (p : ℕ) → AreFromPlace q p m n (get_or rows p []) → (p ≡ place) ⊎ (p ≢ place) → AreFromPlace q p m (n + 1) (get_or new p [])
      go p f (inl e) =
          let list : get_or new p [] ≡ get_or rows p [] ++ arc ∷ [] = ap (λ k. get_or new k []) e ∙ push.here ∙ ap (λ k. get_or rows k [] ++ arc ∷ []) (sym e) in
          record {
            sound = sound-push q p (get_or rows p []) (get_or new p []) arc list f.sound (offer-arc-is q p (get_or slice n d) arc (contains-at slice q.offers.items n d same within) (here ∙ sym e) is);
            moves_in = collect-kept (λ (x : MovePrice). x.place) (IsMoveArc q) p q.moves.items m (get_or rows p []) (get_or new p []) arc list f.moves_in;
            offers_in = collect-push (λ (x : Offer). x.from) (IsOfferArc q) p q.offers.items slice n (get_or rows p []) (get_or new p []) d arc same within list f.offers_in is;
          }
      go p f (inr ne) =
          let list = push.others p ne in
          record {
            sound = subst (All (IsArc q p)) (sym list) f.sound;
            moves_in = subst (IsCollected (λ (x : MovePrice). x.place) (IsMoveArc q) p q.moves.items m) (sym list) f.moves_in;
            offers_in = collect-skip (λ (x : Offer). x.from) (IsOfferArc q) p q.offers.items slice n (get_or rows p []) (get_or new p []) d same within list (λ e. ne (sym e ∙ here)) f.offers_in;
          }

-- all are there
pub all-there : (q : Problem) (rows : List (List Arc)) → AreSoFar q (length q.moves.items) (length q.offers.items) rows → AreAllArcs q rows
all-there q rows h = record {
  len = h.len;
  places = λ place low.
      let f = h.places place low in
      record {
        sound = f.sound;
        moves = collect-all (λ (x : MovePrice). x.place) (IsMoveArc q) place q.moves.items (length q.moves.items) (get_or rows place []) (omega arith) f.moves_in;
        offers = collect-all (λ (x : Offer). x.from) (IsOfferArc q) place q.offers.items (length q.offers.items) (get_or rows place []) (omega arith) f.offers_in;
      };
}
