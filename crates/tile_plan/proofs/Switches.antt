-- A switch from one map to another: at most three Drops and then at most three Takes, and no list of moves costs less.
use Rattle.std.proofs.Common.{◌≡◌, ◌≢◌, ◌⊎◌, inl, inr, ℕ, zero, suc, ◌+◌, ◌<◌, ◌≤◌, Bool, true, false, cond, eqb, eq-eqb, List, [], ◌∷◌, Option, Some, None, refl, sym, subst, ap, ◌∙◌, arith, if◌then◌else◌}
use Rattle.std.proofs.lemmas.Bool.Decides.{nat_tests}
use Rattle.machines.specs.Prelude.{Map, IsMap, IsHeld}
use Rattle.reg_map.specs.declared.moves.Move.{Move}
use Rattle.reg_map.specs.declared.moves.Move.TheVariants.{Drop, Take}
use Rattle.plan_form.specs.declared.problem.Problem.{Problem}
use Rattle.plan_form.specs.declared.problem.Step.{Step}
use Rattle.plan_form.specs.declared.problem.Step.TheVariants.{Go, Lay}
use Rattle.ppc_isa.specs.Map.{AreApart}
use Rattle.reg_map.specs.Prelude.{moved, moved_gpr, held_in, content, with_content, IsPossible, holds, slot_of}
use Rattle.plan_form.specs.Prelude.{IsMapOver, IsContentOf, IsFullOver, Node, IsWalk, last}

unfoldable pub map_of : Option ℕ → Option ℕ → Option ℕ → Map
map_of x y z = record { ebx = x; esi = y; edi = z }

-- what stays of a content that is to become another
abbrev keep_if : Bool → ℕ → Option ℕ
keep_if true g = Some g
keep_if false g = None

abbrev keep : Option ℕ → Option ℕ → Option ℕ
keep None y = None
keep (Some g) None = None
keep (Some g) (Some h) = keep_if (eqb g h) g

-- a slot holds nothing, or what another holds
pub IsSub : Option ℕ → Option ℕ → Type 0
IsSub a x = (a ≡ None) ⊎ (a ≡ x)

sub-keep-from : (x y : Option ℕ) → IsSub (keep x y) x
unfolding IsSub
sub-keep-from None y = inl refl
sub-keep-from (Some g) None = inl refl
sub-keep-from (Some g) (Some h) = go (eqb g h)
  where
    go : (b : Bool) → (keep_if b g ≡ None) ⊎ (keep_if b g ≡ Some g)
    go true = inr refl
    go false = inl refl

same : (g h : ℕ) → eqb g h ≡ true → g ≡ h
same g h e = grind (arith, nat_tests)

sub-keep-to : (x y : Option ℕ) → IsSub (keep x y) y
unfolding IsSub
sub-keep-to None y = inl refl
sub-keep-to (Some g) None = inl refl
sub-keep-to (Some g) (Some h) = go (eqb g h) refl
  where
    go : (b : Bool) → eqb g h ≡ b → (keep_if b g ≡ None) ⊎ (keep_if b g ≡ Some h)
    go true e = inr (ap Some (same g h e))
    go false e = inl refl

pub sub-same : (x : Option ℕ) → IsSub x x
unfolding IsSub
sub-same x = inr refl

pub sub-none : (x : Option ℕ) → IsSub None x
unfolding IsSub
sub-none x = inl refl

apart-none : (x : Option ℕ) → AreApart x None
apart-none None = tt
apart-none (Some g) = tt

sub-apart : (a b x y : Option ℕ) → IsSub a x → IsSub b y → AreApart x y → AreApart a b
unfolding IsSub
sub-apart a b x y (inl e) g h = subst (λ c. AreApart c b) (sym e) tt
sub-apart a b x y (inr e) (inl f) h = subst (λ c. AreApart a c) (sym f) (apart-none a)
sub-apart a b x y (inr e) (inr f) h = subst (λ c. AreApart c b) (sym e) (subst (λ c. AreApart x c) (sym f) h)

sub-held : (a x : Option ℕ) → IsSub a x → IsHeld x → IsHeld a
unfolding IsSub
sub-held a x (inl e) h = subst IsHeld (sym e) tt
sub-held a x (inr e) h = subst IsHeld (sym e) h

sub-content : (candidates : List ℕ) (a x : Option ℕ) → IsSub a x → IsContentOf candidates x → IsContentOf candidates a
unfolding IsSub
sub-content candidates a x (inl e) h = subst (IsContentOf candidates) (sym e) tt
sub-content candidates a x (inr e) h = subst (IsContentOf candidates) (sym e) h

pub map-sub : (candidates : List ℕ) (m : Map) (a b c : Option ℕ) → IsMapOver candidates m → IsSub a m.ebx → IsSub b m.esi → IsSub c m.edi → IsMapOver candidates (map_of a b c)
unfolding map_of
map-sub candidates m a b c h e f g = record {
  is_map = record {
    ebx = sub-held a m.ebx e h.is_map.ebx;
    esi = sub-held b m.esi f h.is_map.esi;
    edi = sub-held c m.edi g h.is_map.edi;
    ebx_esi = sub-apart a b m.ebx m.esi e f h.is_map.ebx_esi;
    ebx_edi = sub-apart a c m.ebx m.edi e g h.is_map.ebx_edi;
    esi_edi = sub-apart b c m.esi m.edi f g h.is_map.esi_edi;
  };
  ebx = sub-content candidates a m.ebx e h.ebx;
  esi = sub-content candidates b m.esi f h.esi;
  edi = sub-content candidates c m.edi g h.edi;
}

pub some-none : (g : ℕ) → Some g ≡ None → ⊥
some-none g e = cc

-- a slot that isn't empty holds something
full-of : (x : Option ℕ) → x ≢ None → (g : ℕ) × (x ≡ Some g)
full-of None h = absurd (h refl)
full-of (Some g) h = (g, refl)

behind-not : (g : ℕ) (x : Option ℕ) → AreApart (Some g) x → holds x g ≡ false
behind-not g None h = refl
behind-not g (Some k) h = grind (arith, nat_tests)

before-not : (g : ℕ) (x : Option ℕ) → AreApart x (Some g) → holds x g ≡ false
before-not g None h = refl
before-not g (Some k) h = grind (arith, nat_tests)

none-not : (g : ℕ) (x : Option ℕ) → x ≡ None → holds x g ≡ false
none-not g x e = ap (λ y. holds y g) e

in-no-slot : (m : Map) (g : ℕ) → holds m.ebx g ≡ false → holds m.esi g ≡ false → holds m.edi g ≡ false → slot_of m g ≡ None
in-no-slot m g a b c =
    ap (λ x. if x then Some 3 else if holds m.esi g then Some 6 else if holds m.edi g then Some 7 else None) a
    ∙ ap (λ x. if x then Some 6 else if holds m.edi g then Some 7 else None) b ∙ ap (λ x. if x then Some 7 else None) c

-- an empty slot may take what makes a map
pub take-possible : (m : Map) (s g : ℕ) → s < 3 → content m s ≡ None → IsMap (with_content m s (Some g)) → IsPossible m (Take s g)
take-possible m zero g h e is = (h, is.ebx, e, in-no-slot m g (none-not g m.ebx e) (behind-not g m.esi is.ebx_esi) (behind-not g m.edi is.ebx_edi))
take-possible m (suc zero) g h e is = (h, is.esi, e, in-no-slot m g (before-not g m.ebx is.ebx_esi) (none-not g m.esi e) (behind-not g m.edi is.esi_edi))
take-possible m (suc (suc zero)) g h e is = (h, is.edi, e, in-no-slot m g (before-not g m.ebx is.ebx_edi) (before-not g m.esi is.esi_edi) (none-not g m.edi e))
take-possible m (suc (suc (suc n))) g h e is = absurd (omega (arith, h))

-- one more move may follow
pub walk-more : (q : Problem) (moves : ℕ) (u : Node) (steps : List Step) (cost : ℕ) → IsWalk q moves u steps cost → IsWalk q (suc moves) u steps cost
walk-more q moves u [] cost h = h
walk-more q moves u (Go go ∷ steps) cost h =
    (h.0, suc h.1, h.2, h.3, h.4, ap suc h.5, walk-more q h.1 h.2 steps h.3 h.6, h.7)
walk-more q moves u (Lay tile ∷ steps) cost h = h

pub record Can (q : Problem) (moves : ℕ) (u : Node) (cost : ℕ) : Type 0 where
  pub steps : List Step
  pub walk : IsWalk q moves u steps cost

can-more : (q : Problem) (moves : ℕ) (u : Node) (cost : ℕ) → Can q moves u cost → Can q (suc moves) u cost
can-more q moves u cost h = record { steps = h.steps; walk = walk-more q moves u h.steps cost h.walk }

-- the price of emptying a slot, and of filling it, on the way from one content to another
module _ (price : ℕ → ℕ) where
  abbrev pub dropped : Option ℕ → Option ℕ → ℕ
  dropped None y = 0
  dropped (Some g) None = price g
  dropped (Some g) (Some h) = cond (eqb g h) 0 (price g)

  abbrev pub taken : Option ℕ → Option ℕ → ℕ
  taken x None = 0
  taken None (Some h) = price h
  taken (Some g) (Some h) = cond (eqb g h) 0 (price h)

  abbrev pub switched : Option ℕ → Option ℕ → ℕ
  switched x y = dropped x y + taken x y

  -- the price of a switch
  abbrev pub switch_price : Map → Map → ℕ
  switch_price m n = switched m.ebx n.ebx + switched m.esi n.esi + switched m.edi n.edi

  switched-same : (x : Option ℕ) → switched x x ≡ 0
  switched-same None = refl
  switched-same (Some g) = ap (λ b. cond b 0 (price g) + cond b 0 (price g)) (eq-eqb g g refl)

  pub switch-same : (m : Map) → switch_price m m ≡ 0
  switch-same m = omega (arith, switched-same m.ebx, switched-same m.esi, switched-same m.edi)

  switched-drop : (x : Option ℕ) (g : ℕ) → switched x None ≤ switched x (Some g) + price g
  switched-drop None g = omega arith
  switched-drop (Some h) g = go (eqb h g) refl
    where
      go : (b : Bool) → eqb h g ≡ b → price h + 0 ≤ cond b 0 (price h) + cond b 0 (price g) + price g
      go true e = let f = ap price (same h g e) in omega (arith, f)
      go false e = omega arith

  switched-take : (x : Option ℕ) (g : ℕ) → switched x (Some g) ≤ switched x None + price g
  switched-take None g = omega arith
  switched-take (Some h) g = go (eqb h g)
    where
      go : (b : Bool) → cond b 0 (price h) + cond b 0 (price g) ≤ price h + 0 + price g
      go true = omega arith
      go false = omega arith

  -- no move is a short cut
  pub switch-on : (from m : Map) (move : Move) → IsPossible m move → switch_price from (moved m move) ≤ switch_price from m + price (moved_gpr m move)
  switch-on from m (Drop zero) h = let k = full-of m.ebx h.1 in let g = k.0 in let e : m.ebx ≡ Some g = k.1 in
      let f = switched-drop from.ebx g in let o = ap (switched from.ebx) e in let l = ap (λ x. price (held_in x)) e in omega (arith, f, o, l)
  switch-on from m (Drop (suc zero)) h = let k = full-of m.esi h.1 in let g = k.0 in let e : m.esi ≡ Some g = k.1 in
      let f = switched-drop from.esi g in let o = ap (switched from.esi) e in let l = ap (λ x. price (held_in x)) e in omega (arith, f, o, l)
  switch-on from m (Drop (suc (suc zero))) h = let k = full-of m.edi h.1 in let g = k.0 in let e : m.edi ≡ Some g = k.1 in
      let f = switched-drop from.edi g in let o = ap (switched from.edi) e in let l = ap (λ x. price (held_in x)) e in omega (arith, f, o, l)
  switch-on from m (Drop (suc (suc (suc n)))) h = absurd (omega (arith, h.0))
  switch-on from m (Take zero g) h = let e : m.ebx ≡ None = h.2 in
      let f = switched-take from.ebx g in let o = ap (switched from.ebx) e in omega (arith, f, o)
  switch-on from m (Take (suc zero) g) h = let e : m.esi ≡ None = h.2 in
      let f = switched-take from.esi g in let o = ap (switched from.esi) e in omega (arith, f, o)
  switch-on from m (Take (suc (suc zero)) g) h = let e : m.edi ≡ None = h.2 in
      let f = switched-take from.edi g in let o = ap (switched from.edi) e in omega (arith, f, o)
  switch-on from m (Take (suc (suc (suc n))) g) h = absurd (omega (arith, h.0))

module _ (q : Problem) (candidates : List ℕ) (price : ℕ → ℕ → ℕ) (full : IsFullOver q candidates price) (place : ℕ) (before : place < last q) where
  at_map : Map → Node
  at_map m = record { place = place; map = m }

  can-move : (moves : ℕ) (m n : Map) (move : Move) (cost : ℕ) → IsMapOver candidates m → IsMapOver candidates n → IsPossible m move → moved m move ≡ n
      → Can q moves (at_map n) cost → Can q (suc moves) (at_map m) (price place (moved_gpr m move) + cost)
  unfolding at_map
  can-move moves m n move cost from to possible is h =
      let inside = (full.moves (record { place = place; map = m; step = move; price = price place (moved_gpr m move) })).1
      (record { place = before; from = from; possible = possible; to = subst (IsMapOver candidates) (sym is) to; price_is = refl }) in
      let there : ◌≡◌ {A = Node} (record { place = place; map = n }) (record { place = place; map = moved m move }) = ap (λ (x : Map). let y : Node = record { place = place; map = x } in y) (sym is) in
      record {
        steps = Go move ∷ h.steps;
        walk = (price place (moved_gpr m move), moves, record { place = place; map = n }, cost, (inside, there), refl, h.walk, refl);
      }

  module _ (F : Option ℕ → Map) (s : ℕ) (slot : s < 3) (get : (x : Option ℕ) → content (F x) s ≡ x) (put : (x y : Option ℕ) → with_content (F x) s y ≡ F y) where
    drop-stage : (moves : ℕ) (x y : Option ℕ) (cost : ℕ) → IsMapOver candidates (F x) → IsMapOver candidates (F None) → Can q moves (at_map (F (keep x y))) cost
        → Can q (suc moves) (at_map (F x)) (dropped (price place) x y + cost)
    drop-stage moves None y cost from to h = subst (Can q (suc moves) (at_map (F None))) (omega arith) (can-more q moves (at_map (F None)) cost h)
    drop-stage moves (Some g) None cost from to h = out g (can-move moves (F (Some g)) (F None) (Drop s) cost from to (slot, λ e. some-none g (sym (get (Some g)) ∙ e)) (put (Some g) None) h)
      where
        out : (g : ℕ) → Can q (suc moves) (at_map (F (Some g))) (price place (held_in (content (F (Some g)) s)) + cost) → Can q (suc moves) (at_map (F (Some g))) (price place g + cost)
        out g w = subst (λ x. Can q (suc moves) (at_map (F (Some g))) (price place (held_in x) + cost)) (get (Some g)) w
    drop-stage moves (Some g) (Some k) cost from to h = go (eqb g k) h
      where
        out : (g : ℕ) → Can q (suc moves) (at_map (F (Some g))) (price place (held_in (content (F (Some g)) s)) + cost) → Can q (suc moves) (at_map (F (Some g))) (price place g + cost)
        out g w = subst (λ x. Can q (suc moves) (at_map (F (Some g))) (price place (held_in x) + cost)) (get (Some g)) w

        go : (b : Bool) → Can q moves (at_map (F (keep_if b g))) cost → Can q (suc moves) (at_map (F (Some g))) (cond b 0 (price place g) + cost)
        go true w = subst (Can q (suc moves) (at_map (F (Some g)))) (omega arith) (can-more q moves (at_map (F (Some g))) cost w)
        go false w = out g (can-move moves (F (Some g)) (F None) (Drop s) cost from to (slot, λ e. some-none g (sym (get (Some g)) ∙ e)) (put (Some g) None) w)

    take-stage : (moves : ℕ) (x y : Option ℕ) (cost : ℕ) → IsMapOver candidates (F y) → IsMapOver candidates (F None) → Can q moves (at_map (F y)) cost
        → Can q (suc moves) (at_map (F (keep x y))) (taken (price place) x y + cost)
    take-stage moves None None cost to from h = subst (Can q (suc moves) (at_map (F None))) (omega arith) (can-more q moves (at_map (F None)) cost h)
    take-stage moves (Some g) None cost to from h = subst (Can q (suc moves) (at_map (F None))) (omega arith) (can-more q moves (at_map (F None)) cost h)
    take-stage moves None (Some k) cost to from h = can-move moves (F None) (F (Some k)) (Take s k) cost from to (take-possible (F None) s k slot (get None) (subst IsMap (sym (put None (Some k))) to.is_map)) (put None (Some k)) h
    take-stage moves (Some g) (Some k) cost to from h = go (eqb g k) refl
      where
        go : (b : Bool) → eqb g k ≡ b → Can q (suc moves) (at_map (F (keep_if b g))) (cond b 0 (price place k) + cost)
        go true e = subst (λ x. Can q (suc moves) (at_map (F (Some x))) (0 + cost)) (sym (same g k e)) (subst (Can q (suc moves) (at_map (F (Some k)))) (omega arith) (can-more q moves (at_map (F (Some k))) cost h))
        go false e = can-move moves (F None) (F (Some k)) (Take s k) cost from to (take-possible (F None) s k slot (get None) (subst IsMap (sym (put None (Some k))) to.is_map)) (put None (Some k)) h

  pub can-switch : (m n : Map) (cost : ℕ) → IsMapOver candidates m → IsMapOver candidates n → Can q 0 (record { place = place; map = n }) cost
      → Can q 6 (record { place = place; map = m }) (switch_price (price place) m n + cost)
  unfolding at_map map_of
  can-switch m n cost from to h =
      let ka = keep m.ebx n.ebx in let kb = keep m.esi n.esi in let kc = keep m.edi n.edi in
      let fa = sub-keep-from m.ebx n.ebx in let fb = sub-keep-from m.esi n.esi in let fc = sub-keep-from m.edi n.edi in
      let ta = sub-keep-to m.ebx n.ebx in let tb = sub-keep-to m.esi n.esi in let tc = sub-keep-to m.edi n.edi in
      let sa = sub-same in let none = sub-none in
      let t2 = take-stage (λ x. map_of n.ebx n.esi x) 2 (omega arith) (λ x. refl) (λ x y. refl) 0 m.edi n.edi cost
      to (map-sub candidates n _ _ _ to (sa n.ebx) (sa n.esi) (none n.edi)) h in
      let t1 = take-stage (λ x. map_of n.ebx x kc) 1 (omega arith) (λ x. refl) (λ x y. refl) 1 m.esi n.esi _
      (map-sub candidates n _ _ _ to (sa n.ebx) (sa n.esi) tc) (map-sub candidates n _ _ _ to (sa n.ebx) (none n.esi) tc) t2 in
      let t0 = take-stage (λ x. map_of x kb kc) 0 (omega arith) (λ x. refl) (λ x y. refl) 2 m.ebx n.ebx _
      (map-sub candidates n _ _ _ to (sa n.ebx) tb tc) (map-sub candidates n _ _ _ to (none n.ebx) tb tc) t1 in
      let d2 = drop-stage (λ x. map_of ka kb x) 2 (omega arith) (λ x. refl) (λ x y. refl) 3 m.edi n.edi _
      (map-sub candidates m _ _ _ from fa fb (sa m.edi)) (map-sub candidates m _ _ _ from fa fb (none m.edi)) t0 in
      let d1 = drop-stage (λ x. map_of ka x m.edi) 1 (omega arith) (λ x. refl) (λ x y. refl) 4 m.esi n.esi _
      (map-sub candidates m _ _ _ from fa (sa m.esi) (sa m.edi)) (map-sub candidates m _ _ _ from fa (none m.esi) (sa m.edi)) d2 in
      let d0 = drop-stage (λ x. map_of x m.esi m.edi) 0 (omega arith) (λ x. refl) (λ x y. refl) 5 m.ebx n.ebx _
      from (map-sub candidates m _ _ _ from (none m.ebx) (sa m.esi) (sa m.edi)) d1 in
      subst (Can q 6 (record { place = place; map = m })) (omega arith) d0
