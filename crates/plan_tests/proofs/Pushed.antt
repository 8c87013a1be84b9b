-- A full problem is full with one more offer that may be made.
use Rattle.std.proofs.Common.{◌≡◌, ◌≢◌, ◌⊎◌, inl, inr, ℕ, ◌+◌, List, [], ◌∷◌, ◌++◌, sym, subst, ap, ◌∙◌}
use Rattle.std.specs.List.{Contains}
use Rattle.std.proofs.lemmas.List.Elements.{All-contains, Contains-append_left, Contains-push_cases}
use Rattle.plan_form.specs.declared.problem.Problem.{Problem}
use Rattle.plan_form.specs.declared.problem.Tile.TheVariants.{Base}
use Rattle.plan_form.specs.declared.problem.Offer.{Offer}
use Rattle.plan_form.specs.Maps.{IsMapOver}
use Rattle.plan_form.specs.Full.{IsOffer, IsNumbered, IsFullOver}
use Rattle.plan_tests.specs.Offers.{MayBeOffered}

module _ (q r : Problem) (offer : Offer) (candidates : List ℕ) (price : ℕ → ℕ → ℕ) (full : IsFullOver q candidates price)
    (may : MayBeOffered q offer) (over : IsMapOver candidates offer.map) (tile : IsNumbered offer.tile)
    (more : r.offers.items ≡ q.offers.items ++ offer ∷ []) where
  abbrev pushed : Problem
  pushed = record q { offers = r.offers }

  cases : (o : Offer) → Contains r.offers.items o → Contains q.offers.items o ⊎ (offer ≡ o)
  cases o c = Contains-push_cases q.offers.items offer o (subst (λ l. Contains l o) more c)

  old : (o : Offer) → Contains q.offers.items o → Contains r.offers.items o
  old o c = subst (λ l. Contains l o) (sym more) (Contains-append_left q.offers.items (offer ∷ []) o c)

  new-is : IsOffer pushed candidates offer
  new-is = record {
    onward = may.onward;
    short = may.short;
    within = may.within;
    map = over;
    at_end = may.at_end;
    price = may.price;
    tile = tile;
  }

  old-is : (o : Offer) → IsOffer q candidates o → IsOffer pushed candidates o
  old-is o h = record {
    onward = h.onward;
    short = h.short;
    within = h.within;
    map = h.map;
    at_end = h.at_end;
    price = h.price;
    tile = h.tile;
  }

  differs : (o : Offer) → Contains q.offers.items o → o.tile ≡ offer.tile → ⊥
  differs o c e = All-contains (λ other. other.tile ≢ offer.tile) q.offers.items o may.is_new c e

  is-single : (o p : Offer) → Contains r.offers.items o → Contains r.offers.items p → o.from ≡ p.from → o.map ≡ p.map → o.tile ≡ p.tile → o ≡ p
  is-single o p c d from map same = elim (cases o c) [
    | inl a ↦ elim (cases p d) [
      | inl b ↦ full.single o p a b from map same
      | inr e ↦ absurd (differs o a (same ∙ sym (ap (λ (x : Offer). x.tile) e)))
    ]
    | inr e ↦ elim (cases p d) [
      | inl b ↦ absurd (differs p b (sym same ∙ sym (ap (λ (x : Offer). x.tile) e)))
      | inr g ↦ sym e ∙ g
    ]
  ]

  pub is-full : IsFullOver pushed candidates price
  is-full = record {
    low = full.low;
    high = full.high;
    few = full.few;
    registers = full.registers;
    maps = full.maps;
    in_order = full.in_order;
    entry = full.entry;
    exit = full.exit;
    prices = full.prices;
    moves = λ move. (
      (λ c. let h = (full.moves move).0 c in record { place = h.place; from = h.from; possible = h.possible; to = h.to; price_is = h.price_is }),
      (λ h. (full.moves move).1 (record { place = h.place; from = h.from; possible = h.possible; to = h.to; price_is = h.price_is })),
    );
    offers = λ o c. elim (cases o c) [ inl a ↦ old-is o (full.offers o a) | inr e ↦ subst (IsOffer pushed candidates) e new-is ];
    base = λ place m less is at_end. let b = full.base place m less is at_end in (b.0, old (record { from = place; to = place + 1; map = m; tile = Base; price = b.0 }) b.1);
    single = is-single;
  }
