-- Words as they are built from their lowest bit.
use Rattle.std.proofs.Common.{◌≡◌, ◌≢◌, ℕ, zero, suc, ◌+◌, ◌*◌, ◌^◌, ◌<◌, ◌≤◌, Bool, true, false, List, refl, sym, ◌∙◌, ap, length, arith, max, take, slice_index_or, slice_set, get_or-set_other, get_or-set_same, add-one, eqb, ◌&&◌}
use Rattle.std.proofs.lemmas.List.{take_more_set, take_all}
use Rattle.std.proofs.Math.Decide.{dec_le, dec_lt}
use Rattle.std.proofs.Math.Nat.{pow-suc}
use Rattle.std.proofs.lemmas.Bool.Decides.{nat_tests}
use Rattle.word_kit.specs.Prelude.{one_if, same, of_bits}
use Rattle.circuit.specs.Prelude.{lit_truth, lit_reach, word_value, word_reach_below, BitMade, full_made, link_made, at, word_of, word_made, sum_made, equal_made, Lit, Const, Node}

-- one more literal of a word that is taken from others
pub wired_step : (f : ℕ → Lit) (i : ℕ) (out : List Lit) (b : Lit) → i < length out → take i out ≡ word_of f i → b ≡ f i → take (i + 1) (slice_set out i b) ≡ word_of f (i + 1)
unfolding word_of
wired_step f i out b h e g = take_more_set out i b h ∙ rw (e, g, add-one) refl

pub wired_none : (f : ℕ → Lit) (out : List Lit) → take 0 out ≡ word_of f 0
unfolding word_of
wired_none f out = refl

pub whole : (F : ℕ → List Lit) (i : ℕ) (out : List Lit) → i ≡ 32 → length out ≡ 32 → take i out ≡ F i → out ≡ F 32
whole F i out h w e = sym (take_all i out (omega arith)) ∙ e ∙ ap F h

-- what a loop over the bits has made
pub record WordStands (g : List Node → ℕ → BitMade) (i : ℕ) (ns : List Node) (out : List Lit) (now : List Node) : Type 0 where
  pub word_is : take i out ≡ (word_made g i ns).word
  pub held_is : now ≡ (word_made g i ns).held

pub word_stands-zero : (g : List Node → ℕ → BitMade) (ns : List Node) (out : List Lit) → WordStands g 0 ns out ns
unfolding word_made
word_stands-zero g ns out = record { word_is = refl; held_is = refl }

pub word_stands-suc : (g : List Node → ℕ → BitMade) (i : ℕ) (ns : List Node) (out : List Lit) (now : List Node) (bit : Lit) (later : List Node) → i < length out
    → WordStands g i ns out now → bit ≡ (g now i).flag → later ≡ (g now i).held → WordStands g (i + 1) ns (slice_set out i bit) later
unfolding word_made
word_stands-suc g i ns out now bit later h s b l =
    let e = s.word_is in let f = s.held_is in
    record { word_is = take_more_set out i bit h ∙ rw (e, b, f, add-one) refl; held_is = rw (l, f, add-one) refl }

pub record SumStands (eq : Node → Node → Bool) (i : ℕ) (ns : List Node) (x y : List Lit) (carry : Lit) (out : List Lit) (over : Lit) (now : List Node) : Type 0 where
  pub word_is : take i out ≡ (sum_made eq i ns x y carry).word
  pub carry_is : over ≡ (sum_made eq i ns x y carry).carry
  pub held_is : now ≡ (sum_made eq i ns x y carry).held

pub sum_stands-zero : (eq : Node → Node → Bool) (ns : List Node) (x y : List Lit) (carry : Lit) (out : List Lit) → SumStands eq 0 ns x y carry out carry ns
unfolding sum_made
sum_stands-zero eq ns x y carry out = record { word_is = refl; carry_is = refl; held_is = refl }

pub sum_stands-suc : (eq : Node → Node → Bool) (i : ℕ) (ns : List Node) (x y : List Lit) (carry : Lit) (out : List Lit) (over : Lit) (now : List Node) (bit next : Lit) (later : List Node) → i < length out
    → SumStands eq i ns x y carry out over now
    → bit ≡ (full_made eq now (at x i) (at y i) over).word
    → next ≡ (full_made eq now (at x i) (at y i) over).carry
    → later ≡ (full_made eq now (at x i) (at y i) over).held
    → SumStands eq (i + 1) ns x y carry (slice_set out i bit) next later
unfolding sum_made
sum_stands-suc eq i ns x y carry out over now bit next later h s b n l =
    let e = s.word_is in let f = s.carry_is in let g = s.held_is in
    record { word_is = take_more_set out i bit h ∙ rw (e, b, f, g, add-one) refl; carry_is = rw (n, f, g, add-one) refl; held_is = rw (l, f, g, add-one) refl }

pub record EqualStands (eq : Node → Node → Bool) (i : ℕ) (ns : List Node) (x y : List Lit) (alike : Lit) (now : List Node) : Type 0 where
  pub flag_is : alike ≡ (equal_made eq i ns x y).flag
  pub held_is : now ≡ (equal_made eq i ns x y).held

pub equal_stands-zero : (eq : Node → Node → Bool) (ns : List Node) (x y : List Lit) → EqualStands eq 0 ns x y (Const true) ns
unfolding equal_made
equal_stands-zero eq ns x y = record { flag_is = refl; held_is = refl }

pub equal_stands-suc : (eq : Node → Node → Bool) (i : ℕ) (ns : List Node) (x y : List Lit) (alike : Lit) (now : List Node) (next : Lit) (later : List Node)
    → EqualStands eq i ns x y alike now → next ≡ (link_made eq now alike (at x i) (at y i)).flag → later ≡ (link_made eq now alike (at x i) (at y i)).held
    → EqualStands eq (i + 1) ns x y next later
unfolding equal_made
equal_stands-suc eq i ns x y alike now next later s n l = let f = s.flag_is in let g = s.held_is in
    record { flag_is = rw (n, f, g, add-one) refl; held_is = rw (l, f, g, add-one) refl }

-- the number of one more bit
pub word_value-suc : (n : ℕ) (w : List Lit) (v : ℕ → Bool) → word_value (n + 1) w v ≡ word_value n w v + one_if (lit_truth (slice_index_or w n (Const false)) v) * 2 ^ n
unfolding word_value of_bits
word_value-suc n w v = rw add-one refl

pub word_value-below : (n i : ℕ) (w : List Lit) (l : Lit) (v : ℕ → Bool) → n ≤ i → word_value n (slice_set w i l) v ≡ word_value n w v
unfolding word_value of_bits
word_value-below zero i w l v h = refl
word_value-below (suc n) i w l v h = let ne : n ≢ i = omega arith in let r = word_value-below n i w l v (omega arith) in rw (get_or-set_other, r) refl

pub word_value-set : (i : ℕ) (w : List Lit) (l : Lit) (v : ℕ → Bool) → i < length w → word_value (i + 1) (slice_set w i l) v ≡ word_value i w v + one_if (lit_truth l v) * 2 ^ i
word_value-set i w l v h = let r = word_value-below i i w l v (omega arith) in let s = word_value-suc i (slice_set w i l) v in
    s ∙ rw (r, get_or-set_same) refl

pub word_reach-suc : (n : ℕ) (w : List Lit) → word_reach_below (n + 1) w ≡ max (word_reach_below n w) (lit_reach (slice_index_or w n (Const false)))
unfolding word_reach_below
word_reach-suc n w = rw add-one refl

pub word_reach-below : (n i : ℕ) (w : List Lit) (l : Lit) → n ≤ i → word_reach_below n (slice_set w i l) ≡ word_reach_below n w
unfolding word_reach_below
word_reach-below zero i w l h = refl
word_reach-below (suc n) i w l h = let ne : n ≢ i = omega arith in let r = word_reach-below n i w l (omega arith) in rw (get_or-set_other, r) refl

pub word_reach-set : (i : ℕ) (w : List Lit) (l : Lit) → i < length w → word_reach_below (i + 1) (slice_set w i l) ≡ max (word_reach_below i w) (lit_reach l)
word_reach-set i w l h = let r = word_reach-below i i w l (omega arith) in let s = word_reach-suc i (slice_set w i l) in
    s ∙ rw (r, get_or-set_same) refl

pub word_reach-at : (n i : ℕ) (w : List Lit) → i < n → lit_reach (slice_index_or w i (Const false)) ≤ word_reach_below n w
unfolding word_reach_below
word_reach-at zero i w h = omega arith
word_reach-at (suc n) i w h = elim (dec_le n i) [
  | yes le ↦ let e : i ≡ n = omega arith in rw e (omega arith)
  | no not_le ↦ let r = word_reach-at n i w (omega arith) in omega (arith, r)
]

pub word_reach-zero : (w : List Lit) → word_reach_below 0 w ≡ 0
unfolding word_reach_below
word_reach-zero w = refl

pub word_value-zero : (w : List Lit) (v : ℕ → Bool) → word_value 0 w v ≡ 0
unfolding word_value of_bits
word_value-zero w v = refl

-- the reach of one more literal
pub reach_step : (i : ℕ) (out : List Lit) (bit : Lit) (m : ℕ) → i < length out → word_reach_below i out ≤ m → lit_reach bit ≤ m → word_reach_below (i + 1) (slice_set out i bit) ≤ m
reach_step i out bit m h below here = rw (word_reach-set i out bit h) (omega arith)

-- the truths of the literals below a place, and of one more
pub bits_step : (P : ℕ → Bool) (i : ℕ) (out : List Lit) (bit : Lit) (v : ℕ → Bool) → i < length out → ((k : ℕ) → k < i → lit_truth (at out k) v ≡ P k) → lit_truth bit v ≡ P i
    → (k : ℕ) → k < i + 1 → lit_truth (at (slice_set out i bit) k) v ≡ P k
bits_step P i out bit v h below here k l = elim (dec_lt k i) [
  | yes lt ↦ let ne : k ≢ i = omega arith in rw get_or-set_other (below k lt)
  | no ge ↦ let e : k ≡ i = omega arith in rw (e, get_or-set_same) here
]

product_step : (p s n x y c a d e f : ℕ) → a + c * p ≡ d + e + f → s + 2 * n ≡ x + y + c → a + s * p + n * (p * 2) ≡ d + x * p + (e + y * p) + f
product_step p s n x y c a d e f h k = let m : (s + 2 * n) * p ≡ (x + y + c) * p = ap (λ q. q * p) k in omega (arith, m, h)

-- one more bit of a sum
pub sum_step : (i : ℕ) (out x y : List Lit) (v : ℕ → Bool) (over bit next : Lit) (base : ℕ) → i < length out
    → word_value i out v + one_if (lit_truth over v) * 2 ^ i ≡ word_value i x v + word_value i y v + base
    → one_if (lit_truth bit v) + 2 * one_if (lit_truth next v) ≡ one_if (lit_truth (slice_index_or x i (Const false)) v) + one_if (lit_truth (slice_index_or y i (Const false)) v) + one_if (lit_truth over v)
    → word_value (i + 1) (slice_set out i bit) v + one_if (lit_truth next v) * 2 ^ (i + 1) ≡ word_value (i + 1) x v + word_value (i + 1) y v + base
sum_step i out x y v over bit next base h before step =
    let p : 2 ^ (i + 1) ≡ 2 ^ i * 2 = rw add-one (pow-suc 2 i) in
    rw (word_value-set i out bit v h, word_value-suc i x v, word_value-suc i y v, p)
    (product_step (2 ^ i) (one_if (lit_truth bit v)) (one_if (lit_truth next v)) (one_if (lit_truth (slice_index_or x i (Const false)) v)) (one_if (lit_truth (slice_index_or y i (Const false)) v)) (one_if (lit_truth over v)) (word_value i out v) (word_value i x v) (word_value i y v) base before step)

top : (b : Bool) (a p q : ℕ) → a < p → q ≡ p * 2 → a + one_if b * p < q
top true a p q h e = omega arith
top false a p q h e = omega arith

-- a word is below the power of its length
pub word_value-lt : (n : ℕ) (w : List Lit) (v : ℕ → Bool) → word_value n w v < 2 ^ n
unfolding word_value of_bits
word_value-lt zero w v = omega arith
word_value-lt (suc n) w v = let r = word_value-lt n w v in let p : 2 ^ suc n ≡ 2 ^ n * 2 = pow-suc 2 n in top (lit_truth (slice_index_or w n (Const false)) v) (word_value n w v) (2 ^ n) (2 ^ suc n) r p

alike_tops : (b c : Bool) (a d p : ℕ) → a < p → d < p → (eqb a d && same b c) ≡ eqb (a + one_if b * p) (d + one_if c * p)
alike_tops true true a d p h k = grind (arith, nat_tests)
alike_tops true false a d p h k = grind (arith, nat_tests)
alike_tops false true a d p h k = grind (arith, nat_tests)
alike_tops false false a d p h k = grind (arith, nat_tests)

-- one more bit that is to be equal
pub equal_step : (i : ℕ) (x y : List Lit) (v : ℕ → Bool) (n next : Lit) → lit_truth n v ≡ eqb (word_value i x v) (word_value i y v)
    → lit_truth next v ≡ (lit_truth n v && same (lit_truth (slice_index_or x i (Const false)) v) (lit_truth (slice_index_or y i (Const false)) v))
    → lit_truth next v ≡ eqb (word_value (i + 1) x v) (word_value (i + 1) y v)
equal_step i x y v n next h k =
    rw (k, h, word_value-suc i x v, word_value-suc i y v) (alike_tops (lit_truth (slice_index_or x i (Const false)) v) (lit_truth (slice_index_or y i (Const false)) v) (word_value i x v) (word_value i y v) (2 ^ i) (word_value-lt i x v) (word_value-lt i y v))
