-- The order of steps tells the steps from a node apart.
use Rattle.std.proofs.Common.{◌≡◌, inl, inr, ℕ, zero, suc, ◌+◌, ◌^◌, ◌<◌, ◌≤◌, Bool, true, false, not, cond, List, [], ◌∷◌, length, get_or, Option, Some, None, refl, sym, subst, ap, ◌∙◌, arith, eqb, eq-eqb}
use Rattle.std.specs.List.{Contains, prefix_len}
use Rattle.std.proofs.lemmas.List.Sums.{prefix_len-le-length, prefix_len_passes}
use Rattle.std.proofs.lemmas.Bool.{cases_lt}
use Rattle.std.proofs.lemmas.List.Elements.{All-contains}
use Rattle.std.proofs.lemmas.List.{get_or_default}
use Rattle.std.proofs.lemmas.Bool.Decides.{nat_tests}
use Rattle.machines.specs.Prelude.{Map}
use Rattle.reg_map.specs.declared.moves.Move.TheVariants.{Drop, Take}
use Rattle.plan_form.specs.declared.problem.Problem.{Problem}
use Rattle.plan_form.specs.declared.problem.Step.{Step}
use Rattle.plan_form.specs.declared.problem.Step.TheVariants.{Go, Lay}
use Rattle.plan_form.specs.declared.problem.Tile.TheVariants.{Base, Rule}
use Rattle.reg_map.specs.Prelude.{with_content}
use Rattle.plan_form.specs.Prelude.{IsMapOver, IsFullOver, Node, Leads, order, rank, is_alone}
use Rattle.plan_form.proofs.Counts.{few-maps}

-- what stands at the first place that passes, passes
passes-first : {X : Type 0} (p : X → Bool) (d : X) (xs : List X) → p d ≡ true → p (get_or xs (prefix_len (λ x. not (p x)) xs) d) ≡ true
passes-first p d [] h = h
passes-first {X} p d (x ∷ xs) h = go (p x) refl (passes-first p d xs h)
  where
    go : (b : Bool) → p x ≡ b → p (get_or xs (prefix_len (λ y. not (p y)) xs) d) ≡ true
        → p (get_or (x ∷ xs) (cond (not (p x)) (1 + prefix_len (λ y. not (p y)) xs) 0) d) ≡ true
    go true e rest = subst (λ c. p (get_or (x ∷ xs) (cond (not c) (1 + prefix_len (λ y. not (p y)) xs) 0) d) ≡ true) (sym e) e
    go false e rest = subst (λ c. p (get_or (x ∷ xs) (cond (not c) (1 + prefix_len (λ y. not (p y)) xs) 0) d) ≡ true) (sym e)
        (subst (λ n. p (get_or (x ∷ xs) n d) ≡ true) (let k : suc (prefix_len (λ y. not (p y)) xs) ≡ 1 + prefix_len (λ y. not (p y)) xs = omega arith in k) rest)

first-within : {X : Type 0} (p : X → Bool) (x : X) (xs : List X) → Contains xs x → p x ≡ true → prefix_len (λ y. not (p y)) xs < length xs
first-within p x xs h e =
    elim (cases_lt h.0 (prefix_len (λ y. not (p y)) xs)) [
      | inl low ↦
          let k = prefix_len_passes (λ y. not (p y)) xs h.0 x low in
          let f : not (p x) ≡ true = ap (λ y. not (p y)) (sym h.2) ∙ k in
          absurd (apart (p x) e f)
      | inr high ↦ omega (arith, high, h.1)
    ]
  where
    apart : (b : Bool) → b ≡ true → not b ≡ true → ⊥
    apart true e f = cc
    apart false e f = cc

alone-is : (g : ℕ) (x y z : Option ℕ) → is_alone g x y z ≡ true → z ≡ Some g
alone-is g None None (Some h) e = ap Some (same h g e)
  where
    same : (h g : ℕ) → eqb h g ≡ true → h ≡ g
    same h g e = grind (arith, nat_tests)
alone-is g None None None e = cc
alone-is g None (Some y) z e = cc
alone-is g (Some x) y z e = cc

lone : ℕ → Map
lone g = record { ebx = None; esi = None; edi = Some g }

abbrev is_lone : ℕ → Map → Bool
is_lone g m = is_alone g m.ebx m.esi m.edi

lone-is : (g : ℕ) → is_alone g None None (Some g) ≡ true
lone-is g = eq-eqb g g refl

candidate-of : (candidates : List ℕ) (m : Map) (s g : ℕ) → s < 3 → IsMapOver candidates (with_content m s (Some g)) → Contains candidates g
candidate-of candidates m zero g h is = is.ebx
candidate-of candidates m (suc zero) g h is = is.esi
candidate-of candidates m (suc (suc zero)) g h is = is.edi
candidate-of candidates m (suc (suc (suc n))) g h is = absurd (omega (arith, h))

rank-once : (q : Problem) (candidates : List ℕ) (price : ℕ → ℕ → ℕ) → IsFullOver q candidates price → (g h : ℕ) → Contains candidates g → Contains candidates h
    → rank q g ≡ rank q h → g ≡ h
unfolding lone
rank-once q candidates price full g h cg ch e =
    let stands = λ (x : ℕ) (c : Contains candidates x). (full.maps (lone x)).1 (record {
      is_map = record { ebx = tt; esi = tt; edi = All-contains (λ y. y < 32) candidates x full.registers c; ebx_esi = tt; ebx_edi = tt; esi_edi = tt };
      ebx = tt;
      esi = tt;
      edi = c;
    }) in
    let within = first-within (is_lone g) (lone g) q.maps.items (stands g cg) (lone-is g) in
    let a = passes-first (is_lone g) (lone g) q.maps.items (lone-is g) in
    let b = passes-first (is_lone h) (lone h) q.maps.items (lone-is h) in
    let same : get_or q.maps.items (rank q g) (lone g) ≡ get_or q.maps.items (rank q h) (lone h)
    = get_or_default q.maps.items (rank q g) (lone g) (lone h) within ∙ ap (λ i. get_or q.maps.items i (lone h)) e in
    let m = get_or q.maps.items (rank q g) (lone g) in
    let n = get_or q.maps.items (rank q h) (lone h) in
    let c : m.edi ≡ Some g = alone-is g m.ebx m.esi m.edi a in
    let d : n.edi ≡ Some h = alone-is h n.ebx n.esi n.edi b in
    let f : m.edi ≡ n.edi = ap (λ (x : Map). x.edi) same in
    let k : Some g ≡ Some h = sym c ∙ f ∙ d in
    cc

pub order-once : (q : Problem) (candidates : List ℕ) (price : ℕ → ℕ → ℕ) → IsFullOver q candidates price → (u : Node) (x y : Step) (c d : ℕ) (v w : Node)
    → Leads q u x c v → Leads q u y d w → order q x ≡ order q y → x ≡ y
order-once q candidates price full u (Lay Base) (Lay Base) c d v w h k e = refl
order-once q candidates price full u (Lay Base) (Lay (Rule n)) c d v w h k e = absurd (omega (arith, e))
order-once q candidates price full u (Lay (Rule n)) (Lay Base) c d v w h k e = absurd (omega (arith, e))
order-once q candidates price full u (Lay (Rule n)) (Lay (Rule m)) c d v w h k e = ap (λ x. Lay (Rule x)) (omega (arith, e))
order-once q candidates price full u (Lay Base) (Go (Drop s)) c d v w h k e = absurd (omega (arith, e))
order-once q candidates price full u (Lay Base) (Go (Take s g)) c d v w h k e = absurd (omega (arith, e))
order-once q candidates price full u (Go (Drop s)) (Lay Base) c d v w h k e = absurd (omega (arith, e))
order-once q candidates price full u (Go (Take s g)) (Lay Base) c d v w h k e = absurd (omega (arith, e))
order-once q candidates price full u (Lay (Rule n)) (Go (Drop s)) c d v w h k e = absurd (let f : n < 2 ^ 32 = (full.offers _ h.0).tile in omega (arith, e, f))
order-once q candidates price full u (Lay (Rule n)) (Go (Take s g)) c d v w h k e = absurd (let f : n < 2 ^ 32 = (full.offers _ h.0).tile in omega (arith, e, f))
order-once q candidates price full u (Go (Drop s)) (Lay (Rule n)) c d v w h k e = absurd (let f : n < 2 ^ 32 = (full.offers _ k.0).tile in omega (arith, e, f))
order-once q candidates price full u (Go (Take s g)) (Lay (Rule n)) c d v w h k e = absurd (let f : n < 2 ^ 32 = (full.offers _ k.0).tile in omega (arith, e, f))
order-once q candidates price full u (Go (Drop s)) (Go (Drop t)) c d v w h k e = ap (λ x. Go (Drop x)) (omega (arith, e))
order-once q candidates price full u (Go (Drop s)) (Go (Take t g)) c d v w h k e = absurd (let f = ((full.moves _).0 h.0).possible.0 in omega (arith, e, f))
order-once q candidates price full u (Go (Take t g)) (Go (Drop s)) c d v w h k e = absurd (let f = ((full.moves _).0 k.0).possible.0 in omega (arith, e, f))
order-once q candidates price full u (Go (Take s f)) (Go (Take t g)) c d v w h k e =
    let a = ((full.moves _).0 h.0) in
    let b = ((full.moves _).0 k.0) in
    let low : rank q f ≤ length q.maps.items = prefix_len-le-length (λ m. not (is_lone f m)) q.maps.items in
    let high : rank q g ≤ length q.maps.items = prefix_len-le-length (λ m. not (is_lone g m)) q.maps.items in
    let same_slot : s ≡ t = omega (arith, low, high, few-maps q candidates price full, e) in
    let same_rank : rank q f ≡ rank q g = omega (arith, low, high, few-maps q candidates price full, e) in
    let is = rank-once q candidates price full f g (candidate-of candidates u.map s f a.possible.0 a.to) (candidate-of candidates u.map t g b.possible.0 b.to) same_rank in
    ap (λ x. Go (Take x f)) same_slot ∙ ap (λ x. Go (Take t x)) is

pub order-small : (q : Problem) (candidates : List ℕ) (price : ℕ → ℕ → ℕ) → IsFullOver q candidates price → (u : Node) (x : Step) (c : ℕ) (v : Node)
    → Leads q u x c v → order q x < 2 ^ 33
order-small q candidates price full u (Lay Base) c v h = omega arith
order-small q candidates price full u (Lay (Rule n)) c v h = let f : n < 2 ^ 32 = (full.offers _ h.0).tile in omega (arith, f)
order-small q candidates price full u (Go (Drop s)) c v h = let f = ((full.moves _).0 h.0).possible.0 in omega (arith, f)
order-small q candidates price full u (Go (Take s g)) c v h =
    let f = ((full.moves _).0 h.0).possible.0 in
    let low : rank q g ≤ length q.maps.items = prefix_len-le-length (λ m. not (is_lone g m)) q.maps.items in
    omega (arith, f, low, few-maps q candidates price full)
