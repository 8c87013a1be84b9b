-- The problem of a block is full.
use Rattle.std.proofs.Common.{◌≡◌, ◌⊎◌, inl, inr, ℕ, ◌+◌, ◌<◌, ◌≤◌, ◌==◌, ◌&&◌, ◌||◌, not, Bool, true, false, List, [], length, get_or, map, filter, Option, Some, None, if◌then◌else◌, refl, sym, subst, ap, ◌∙◌, arith}
use Rattle.std.specs.List.{All, Contains, flat_map, range_with_len}
use Rattle.std.proofs.lemmas.Bool.Decides.{nat_tests}
use Rattle.machines.specs.Prelude.{Map, Instr}
use Rattle.reg_map.specs.declared.moves.Move.{Move}
use Rattle.reg_map.specs.declared.moves.Move.TheVariants.{Drop, Take}
use Rattle.reg_map.specs.Prelude.{moved_gpr, move_op, is_live, PossibleMovesMoveOne}
use Rattle.plan_form.specs.declared.problem.Problem.{Problem}
use Rattle.plan_form.specs.declared.problem.Tile.TheVariants.{Base}
use Rattle.plan_form.specs.declared.problem.Offer.{Offer}
use Rattle.plan_form.specs.declared.problem.MovePrice.{MovePrice}
use Rattle.plan_form.specs.Prelude.{IsMapOver, last, IsFull}
use Rattle.plan_form.specs.Full.{IsMove, IsOffer}
use Rattle.offer_make.specs.Maps.{AreMapsOver}
use Rattle.offer_make.specs.Prices.{code_cost, move_price, base_price}
use Rattle.offer_make.specs.Tables.{may_move, moves_between, priced_at, moves_of, is_same_content, is_same_map, may_lie, offers_of, word_address, base_tiles}
use Rattle.offer_make.proofs.Elements.{flat_map-from, flat_map-to, map-from, map-to, filter-from, filter-to, range-from, range-to, first, single}
use Rattle.offer_make.proofs.Moving.{IsAmong, unpriced, may-possible, possible-may, moved-over, over-among, between-to, between-from}

-- a move costs 3 where its GPR is live
abbrev pub three_if : Bool → ℕ
three_if b = if b then 3 else 0

price-is : (live : ℕ) (m : Map) (step : Move) → move_price live m step ≡ three_if (is_live live (moved_gpr m step))
price-is live m (Drop slot) = go (is_live live (moved_gpr m (Drop slot)))
  where
    go : (b : Bool) → code_cost (if b then Some (move_op m (Drop slot)) else None) ≡ three_if b
    go true = refl
    go false = refl
price-is live m (Take slot g) = go (is_live live g)
  where
    go : (b : Bool) → code_cost (if b then Some (move_op m (Take slot g)) else None) ≡ three_if b
    go true = refl
    go false = refl

three-or-none : (b : Bool) → (three_if b ≡ 0) ⊎ (three_if b ≡ 3)
three-or-none true = inr refl
three-or-none false = inl refl

-- maps that are the same
same-gpr : (g h : ℕ) → (g == h) ≡ true → g ≡ h
same-gpr g h e = grind (arith, nat_tests)

own-gpr : (g : ℕ) → (g == g) ≡ true
own-gpr g = grind (arith, nat_tests)

same-content : (a b : Option ℕ) → is_same_content a b ≡ true → a ≡ b
same-content None None e = refl
same-content None (Some h) e = absurd cc
same-content (Some g) None e = absurd cc
same-content (Some g) (Some h) e = ap (λ (k : ℕ). Some k) (same-gpr g h e)

own-content : (a : Option ℕ) → is_same_content a a ≡ true
own-content None = refl
own-content (Some g) = own-gpr g

three-of : (a b c : Bool) → (a && b && c) ≡ true → (a ≡ true) × (b ≡ true) × (c ≡ true)
three-of true true true e = (refl, refl, refl)
three-of true true false e = absurd cc
three-of true false c e = absurd cc
three-of false b c e = absurd cc

of-three : (a b c : Bool) → a ≡ true → b ≡ true → c ≡ true → (a && b && c) ≡ true
of-three true true true e f g = refl
of-three true true false e f g = absurd cc
of-three true false c e f g = absurd cc
of-three false b c e f g = absurd cc

pub same-map : (m n : Map) → is_same_map m n ≡ true → m ≡ n
same-map m n e =
    let t = three-of (is_same_content m.ebx n.ebx) (is_same_content m.esi n.esi) (is_same_content m.edi n.edi) e in
    ap (λ (x : Option ℕ). let w : Map = record { ebx = x; esi = m.esi; edi = m.edi } in w) (same-content m.ebx n.ebx t.0)
    ∙ ap (λ (x : Option ℕ). let w : Map = record { ebx = n.ebx; esi = x; edi = m.edi } in w) (same-content m.esi n.esi t.1)
    ∙ ap (λ (x : Option ℕ). let w : Map = record { ebx = n.ebx; esi = n.esi; edi = x } in w) (same-content m.edi n.edi t.2)

pub own-map : (m : Map) → is_same_map m m ≡ true
own-map m = of-three (is_same_content m.ebx m.ebx) (is_same_content m.esi m.esi) (is_same_content m.edi m.edi) (own-content m.ebx) (own-content m.esi) (own-content m.edi)

either-way : (a b : Bool) → (not a || b) ≡ true → a ≡ true → b ≡ true
either-way true b e f = e
either-way false b e f = absurd cc

lies : (a b : Bool) → (a ≡ true → b ≡ true) → (not a || b) ≡ true
lies true b h = h refl
lies false b h = refl

is-equal : (a b : ℕ) → a ≡ b → (a == b) ≡ true
is-equal a b e = grind (arith, nat_tests)

module _ (count : ℕ) (live : ℕ → ℕ) (at : ℕ) (candidates : List ℕ) (decoded : List (Option Instr)) (q : Problem)
    (some : 1 ≤ count) (short : count ≤ 64) (places : q.places ≡ count + 1)
    (few : length candidates ≤ 6) (registers : All (λ g. g < 32) candidates)
    (maps : AreMapsOver candidates q.maps.items) (entry : IsMapOver candidates q.entry) (exit : IsMapOver candidates q.exit)
    (moves : q.moves.items ≡ moves_of count live candidates q.maps.items)
    (offers : q.offers.items ≡ offers_of count q.exit q.maps.items (base_tiles at decoded))
    (low : (k : ℕ) (m : Map) → k < count → (k + 1 ≡ count → m ≡ q.exit) → base_price (get_or decoded k None) (word_address at k) m < 1024)
    (one : PossibleMovesMoveOne) where
  end : last q ≡ count
  end = omega (arith, places)

  abbrev price : ℕ → ℕ → ℕ
  price place g = three_if (is_live (live place) g)

  abbrev base_at : ℕ → Map → Offer
  base_at place m = record { from = place; to = place + 1; map = m; tile = Base; price = base_price (get_or decoded place None) (word_address at place) m }

  move-is : (place : ℕ) (m : Map) (step : Move) → place < count → Contains q.maps.items m → IsAmong candidates step → may_move m step ≡ true
      → IsMove q candidates price (priced_at live place (unpriced m step))
  move-is place m step less c among may =
      let over = (maps.each m).0 c in
      let can = may-possible candidates registers m step among may in
      record {
        place = omega (arith, less, end);
        from = over;
        possible = can;
        to = moved-over candidates m step over among (one m step over.is_map can).is_map;
        price_is = price-is (live place) m step;
      }

  move-to : (move : MovePrice) → Contains q.moves.items move → IsMove q candidates price move
  move-to move c =
      let f = flat_map-to (λ place. map (priced_at live place) (moves_between candidates q.maps.items)) (range_with_len 0 count) move (subst (λ l. Contains l move) moves c) in
      let g = map-to (priced_at live f.0) (moves_between candidates q.maps.items) move f.2 in
      let h = between-to candidates q.maps.items g.0 g.1 in
      subst (IsMove q candidates price) (ap (priced_at live f.0) h.5 ∙ g.2) (move-is f.0 h.0 h.1 (range-to count f.0 f.1) h.2 h.3 h.4)

  move-from : (move : MovePrice) → IsMove q candidates price move → Contains q.moves.items move
  move-from move h =
      let among = over-among candidates move.map move.step h.possible h.to in
      let c = between-from candidates q.maps.items move.map move.step ((maps.each move.map).1 h.from) among (possible-may candidates move.map move.step h.possible) in
      let e = price-is (live move.place) move.map move.step ∙ sym h.price_is in
      let all = flat_map-from (λ place. map (priced_at live place) (moves_between candidates q.maps.items)) (range_with_len 0 count) move.place
      (priced_at live move.place (unpriced move.map move.step)) (range-from count move.place (let p = h.place in omega (arith, p, end)))
      (map-from (priced_at live move.place) (moves_between candidates q.maps.items) (unpriced move.map move.step) c) in
      subst (λ l. Contains l move) (sym moves)
      (subst (λ (p : ℕ). Contains (moves_of count live candidates q.maps.items) (record { place = move.place; map = move.map; step = move.step; price = p })) e all)

  offer-to : (o : Offer) → Contains q.offers.items o → (place : ℕ) × (m : Map) × (place < count) × Contains q.maps.items m × (base_at place m ≡ o) × (may_lie count q.exit o ≡ true)
  offer-to o c =
      let tiles = base_tiles at decoded in
      let f = flat_map-to (λ place. flat_map (λ m. filter (may_lie count q.exit) (tiles place m)) q.maps.items) (range_with_len 0 count) o (subst (λ l. Contains l o) offers c) in
      let g = flat_map-to (λ m. filter (may_lie count q.exit) (tiles f.0 m)) q.maps.items o f.2 in
      let h = filter-to (may_lie count q.exit) (tiles f.0 g.0) o g.2 in
      (f.0, g.0, range-to count f.0 f.1, g.1, single (base_at f.0 g.0) o h.0, h.1)

  ends-at-exit : (o : Offer) → may_lie count q.exit o ≡ true → o.to ≡ count → o.map ≡ q.exit
  ends-at-exit o may e = same-map o.map q.exit (either-way (o.to == count) (is_same_map o.map q.exit) may (is-equal o.to count e))

  offer-is : (o : Offer) → Contains q.offers.items o → IsOffer q candidates o
  offer-is o c =
      let f = offer-to o c in
      subst (IsOffer q candidates) f.4 (record {
        onward = omega arith;
        short = omega arith;
        within = (let l = f.2 in omega (arith, l, end));
        map = (maps.each f.1).0 f.3;
        at_end = λ e. ends-at-exit (base_at f.0 f.1) (ap (may_lie count q.exit) f.4 ∙ f.5) (e ∙ end);
        price = low f.0 f.1 f.2 (λ e. ends-at-exit (base_at f.0 f.1) (ap (may_lie count q.exit) f.4 ∙ f.5) e);
        tile = tt;
      })

  base-is : (place : ℕ) (m : Map) → place < last q → IsMapOver candidates m → (place + 1 ≡ last q → m ≡ q.exit)
      → (cost : ℕ) × Contains q.offers.items (record { from = place; to = place + 1; map = m; tile = Base; price = cost })
  base-is place m less over ends =
      let tiles = base_tiles at decoded in
      let may = lies (place + 1 == count) (is_same_map m q.exit) (λ e. ap (is_same_map m) (sym (ends (same-gpr (place + 1) count e ∙ sym end))) ∙ own-map m) in
      let c = filter-from (may_lie count q.exit) (tiles place m) (base_at place m) (first (base_at place m) []) may in
      let d = flat_map-from (λ m. filter (may_lie count q.exit) (tiles place m)) q.maps.items m (base_at place m) ((maps.each m).1 over) c in (
        base_price (get_or decoded place None) (word_address at place) m,
        subst (λ l. Contains l (base_at place m)) (sym offers)
            (flat_map-from (λ place. flat_map (λ m. filter (may_lie count q.exit) (tiles place m)) q.maps.items) (range_with_len 0 count) place (base_at place m) (range-from count place (omega (arith, less, end))) d),
      )

  single-is : (o p : Offer) → Contains q.offers.items o → Contains q.offers.items p → o.from ≡ p.from → o.map ≡ p.map → o.tile ≡ p.tile → o ≡ p
  single-is o p c d ef em et =
      let f = offer-to o c in let g = offer-to p d in
      let from : f.0 ≡ g.0 = ap (λ (x : Offer). x.from) f.4 ∙ ef ∙ sym (ap (λ (x : Offer). x.from) g.4) in
      let m : f.1 ≡ g.1 = ap (λ (x : Offer). x.map) f.4 ∙ em ∙ sym (ap (λ (x : Offer). x.map) g.4) in
      sym f.4 ∙ ap (λ k. base_at k f.1) from ∙ ap (λ n. base_at g.0 n) m ∙ g.4

  pub full : IsFull q
  full = (
    candidates,
    price,
    record {
      low = omega (arith, places, some);
      high = omega (arith, places, short);
      few = few;
      registers = registers;
      maps = maps.each;
      in_order = maps.in_order;
      entry = entry;
      exit = exit;
      prices = λ place g. three-or-none (is_live (live place) g);
      moves = λ move. (move-to move, move-from move);
      offers = offer-is;
      base = base-is;
      single = single-is;
    },
  )
