-- Each gate, product and division is there once.
use Rattle.std.proofs.Common.{◌≡◌, ◌≢◌, ◌⊎◌, inl, inr, ℕ, zero, suc, ◌<◌, Bool, true, false, cond, List, [], ◌∷◌, ◌++◌, Some, refl, sym, ◌∙◌, ap, subst, arith, length, slice_get, get_or, if◌then◌else◌, length-append}
use Rattle.std.specs.Prelude.{Result, Ok, Err, IfOk, OnErr}
use Rattle.std.specs.List.{list_any, IsDistinct}
use mathlib.Core.Bool.{beq}
use lib.Pointwise.{pointwise}
use Rattle.std.proofs.lemmas.Bool.{cases_order, cases_eq}
use Rattle.std.proofs.lemmas.Option.{slice_get-get_or, slice_get_within, get_or_from_slice_get}
use Rattle.std.proofs.lemmas.List.Folds.{Any-from_list_any, list_any_at}
use Rattle.std.proofs.lemmas.Map.Keys.{apart_from_distinct}
use Rattle.std.proofs.Math.Seq.{get_or-append_seam}
use Rattle.indexmap.specs.IndexSet.{insert_key}
use Rattle.circuit.specs.Prelude.{node_made, swapped_word, swapped, IsThere, IsApart, IsBegun, IsShared, IsOneOfEach, Lit, Const, Var, FreeWord, ProductLow, ProductHigh, Quotient, Remainder, DivideFaults, Node, Input, And, Xor, Free}
use Rattle.circuit.specs.contracts.nodes.NodePartialEq.TheImpl.{ghosts}
use Rattle.circuit.specs.contracts.nodes.FreeWordPartialEq.TheImpl.{ghosts as free_ghosts}
use Rattle.circuit.specs.contracts.literals.LitPartialEq.TheImpl.{ghosts as lit_ghosts}
use Rattle.circuit.proofs.Kept.{kept_at, slice_get-append}
use Rattle.circuit.proofs.Same.{node_same}

swapped_back : (w : FreeWord) → swapped_word (swapped_word w) ≡ w
swapped_back (ProductLow x y) = refl
swapped_back (ProductHigh s x y) = refl
swapped_back (Quotient s x y z) = refl
swapped_back (Remainder s x y z) = refl
swapped_back (DivideFaults s x y z) = refl

abbrev with_node : Bool → List Node → Node → List Node
with_node b xs y = if b then xs else xs ++ y ∷ []

there_cases : (b : Bool) (xs : List Node) (y n : Node) → IsThere (with_node b xs y) n → IsThere xs n ⊎ (n ≡ y)
there_cases b xs y n h = kept_at (λ m k. IsThere xs m ⊎ (m ≡ y)) b xs y (λ k m e. inl (k, e)) (inr refl) h.0 n h.1

there_kept : (b : Bool) (xs : List Node) (y n : Node) → IsThere xs n → IsThere (with_node b xs y) n
there_kept true xs y n h = h
there_kept false xs y n h = (h.0, slice_get-append xs (y ∷ []) h.0 n h.1)

apart_more : (b : Bool) (xs : List Node) (y : Node) → IsShared xs → IsApart xs y → (w : FreeWord) (p q : ℕ) → swapped_word w ≢ w → IsThere (with_node b xs y) (Free w p) → IsThere (with_node b xs y) (Free (swapped_word w) q) → ⊥
apart_more b xs y s a w p q ne h t = elim (there_cases b xs y (Free w p) h) [
  | inl i ↦ elim (there_cases b xs y (Free (swapped_word w) q) t) [
    | inl u ↦ s.apart w p q ne i u
    | inr f ↦ (subst (IsApart xs) (sym f) a) (λ e. ne (sym (sym (swapped_back w) ∙ e))) p (subst (λ z. IsThere xs (Free z p)) (sym (swapped_back w)) i)
  ]
  | inr e ↦ elim (there_cases b xs y (Free (swapped_word w) q) t) [
    | inl u ↦ (subst (IsApart xs) (sym e) a) ne q u
    | inr f ↦ let g : Free (swapped_word w) q ≡ Free w p = f ∙ sym e in ne (cc)
  ]
]

begun_more : (b : Bool) (xs : List Node) (y : Node) → IsShared xs → IsBegun xs y → (w : FreeWord) (p : ℕ) → (IsThere (with_node b xs y) (Free w 0) → ⊥) → IsThere (with_node b xs y) (Free w p) → ⊥
begun_more b xs y s g w p none h = elim (there_cases b xs y (Free w p) h) [
  | inl i ↦ s.begun w p (λ z. none (there_kept b xs y (Free w 0) z)) i
  | inr e ↦ elim (subst (IsBegun xs) (sym e) g) [
    | inl z ↦ none (subst (λ k. IsThere (with_node b xs y) (Free w k)) z h)
    | inr t ↦ none (there_kept b xs y (Free w 0) t)
  ]
]

shared_more : (b : Bool) (xs : List Node) (y : Node) → IsShared xs → IsApart xs y → IsBegun xs y → IsShared (with_node b xs y)
shared_more b xs y s a g = record { apart = apart_more b xs y s a; begun = begun_more b xs y s g }

pub shared_either : {E : Type 0} → (r : Result (ℕ × Bool) E) (eq : Node → Node → Bool) (xs ys : List Node) (y : Node) → IfOk r (λ q. ys ≡ insert_key eq xs y) → OnErr r (ys ≡ xs) → IsShared xs → IsApart xs y → IsBegun xs y → IsShared ys
shared_either (Ok q) eq xs ys y e u s a g = subst IsShared (sym e) (shared_more (list_any (eq y) xs) xs y s a g)
shared_either (Err q) eq xs ys y e u s a g = subst IsShared (sym u) s

-- a node that is found is there
there_found : (xs : List Node) (y : Node) → list_any (ghosts.eq y) xs ≡ true → IsThere xs y
there_found xs y h = let a = Any-from_list_any (ghosts.eq y) xs h in
    let e : y ≡ a.1 = node_same y a.1 a.4 in
    (a.0, slice_get-get_or xs a.0 a.1 a.2 ∙ ap Some (a.3 ∙ sym e))

lit_refl : (l : Lit) → lit_ghosts.eq l l ≡ true
lit_refl (Const true) = refl
lit_refl (Const false) = refl
lit_refl (Var z) = grind arith

bool_refl : (b : Bool) → beq b b ≡ true
bool_refl true = refl
bool_refl false = refl

word_refl : (xs : List Lit) → pointwise lit_ghosts.eq xs xs ≡ true
word_refl [] = refl
word_refl (x ∷ xs) = rw (lit_refl x, word_refl xs) refl

free_refl : (w : FreeWord) → free_ghosts.eq w w ≡ true
free_refl (ProductLow x y) = rw (word_refl x, word_refl y) refl
free_refl (ProductHigh s x y) = rw (bool_refl s, word_refl x, word_refl y) refl
free_refl (Quotient s x y z) = rw (bool_refl s, word_refl x, word_refl y, word_refl z) refl
free_refl (Remainder s x y z) = rw (bool_refl s, word_refl x, word_refl y, word_refl z) refl
free_refl (DivideFaults s x y z) = rw (bool_refl s, word_refl x, word_refl y, word_refl z) refl

pub node_refl : (n : Node) → ghosts.eq n n ≡ true
node_refl (Input i) = grind arith
node_refl (And x y) = grind arith
node_refl (Xor x y) = grind arith
node_refl (Free w p) = let e = free_refl w in grind (arith, e)

found_there : (xs : List Node) (y : Node) → IsThere xs y → list_any (ghosts.eq y) xs ≡ true
found_there xs y h = let w = slice_get_within xs h.0 y h.1 in let g = get_or_from_slice_get xs h.0 y y h.1 in
    list_any_at (ghosts.eq y) xs h.0 y w (ap (ghosts.eq y) g ∙ node_refl y)

-- a word under the order of its factors that came first
pub product_apart : (xs : List Node) (w : FreeWord) (b : Bool) → IsShared xs → list_any (ghosts.eq (Free (swapped_word w) 0)) xs ≡ b → IsApart xs (Free (cond b (swapped_word w) w) 0)
product_apart xs w true s h = λ ne bit t. s.apart (swapped_word w) 0 bit ne (there_found xs (Free (swapped_word w) 0) h) t
product_apart xs w false s h = λ ne bit t. s.begun (swapped_word w) bit (λ z. let f = found_there xs (Free (swapped_word w) 0) z in cc) t

-- the bits of a word that is made
pub word_apart : (xs ys : List Node) (w : FreeWord) (i : ℕ) → ys ≡ insert_key ghosts.eq xs (Free w i) → IsApart xs (Free w 0) → IsApart ys (Free w 0)
word_apart xs ys w i e a = λ ne bit t. elim (there_cases (list_any (ghosts.eq (Free w i)) xs) xs (Free w i) (Free (swapped_word w) bit) (subst (λ z. IsThere z (Free (swapped_word w) bit)) e t)) [
  | inl u ↦ a ne bit u
  | inr f ↦ ne (cc)
]

there_new : (b : Bool) (xs : List Node) (y : Node) → list_any (ghosts.eq y) xs ≡ b → IsThere (with_node b xs y) y
there_new true xs y h = there_found xs y h
there_new false xs y h =
    let l = length-append xs (y ∷ []) in
    let s : slice_get (xs ++ y ∷ []) (length xs) ≡ Some (get_or (xs ++ y ∷ []) (length xs) y) = slice_get-get_or (xs ++ y ∷ []) (length xs) y (omega arith) in
    (length xs, s ∙ ap Some (get_or-append_seam xs y [] y))

pub word_begun : (xs ys : List Node) (w : FreeWord) (i : ℕ) → ys ≡ insert_key ghosts.eq xs (Free w i) → (0 < i → IsThere xs (Free w 0)) → IsThere ys (Free w 0)
word_begun xs ys w zero e h = subst (λ z. IsThere z (Free w 0)) (sym e) (there_new (list_any (ghosts.eq (Free w 0)) xs) xs (Free w 0) refl)
word_begun xs ys w (suc i) e h = subst (λ z. IsThere z (Free w 0)) (sym e) (there_kept (list_any (ghosts.eq (Free w (suc i))) xs) xs (Free w (suc i)) (Free w 0) (h (omega arith)))

pub begun_at : (xs : List Node) (w : FreeWord) (i : ℕ) → (0 < i → IsThere xs (Free w 0)) → IsBegun xs (Free w i)
begun_at xs w zero h = inl refl
begun_at xs w (suc i) h = inr (h (omega arith))

pub made_node : (xs ys : List Node) (y : Node) → ys ≡ (node_made ghosts.eq xs y).held → ys ≡ insert_key ghosts.eq xs y
unfolding node_made
made_node xs ys y e = e

same_place : (xs : List Node) → IsDistinct ghosts.eq xs → (j k : ℕ) (n : Node) → slice_get xs j ≡ Some n → slice_get xs k ≡ Some n → j < k → ⊥
same_place xs d j k n e f h =
    let w = slice_get_within xs k n f in
    let a = apart_from_distinct ghosts.eq xs j k n d h w in
    let p = get_or_from_slice_get xs j n n e in let q = get_or_from_slice_get xs k n n f in
    let r : ghosts.eq n n ≡ false = subst (λ z. ghosts.eq z n ≡ false) p (subst (λ z. ghosts.eq (get_or xs j n) z ≡ false) q a) in
    let t = node_refl n in absurd cc

one_place : (xs : List Node) → IsDistinct ghosts.eq xs → (j k : ℕ) (n : Node) → slice_get xs j ≡ Some n → slice_get xs k ≡ Some n → j ≡ k
one_place xs d j k n e f = elim (cases_order j k) [
  | inl s ↦ s
  | inr t ↦ elim t [ inl l ↦ absurd (same_place xs d j k n e f l) | inr g ↦ absurd (same_place xs d k j n f e g) ]
]

swapped_place : (xs : List Node) → IsDistinct ghosts.eq xs → IsShared xs → (j k : ℕ) (n : Node) → slice_get xs j ≡ Some n → slice_get xs k ≡ Some (swapped n) → j ≡ k
swapped_place xs d s j k (Input i) e f = one_place xs d j k (Input i) e f
swapped_place xs d s j k (And x y) e f = one_place xs d j k (And x y) e f
swapped_place xs d s j k (Xor x y) e f = one_place xs d j k (Xor x y) e f
swapped_place xs d s j k (Free w p) e f = elim (cases_eq j k) [
  | inl g ↦ g
  | inr ne ↦ absurd (s.apart w p p (λ q. ne (one_place xs d j k (Free w p) e (subst (λ z. slice_get xs k ≡ Some (Free z p)) q f))) (j, e) (k, f))
]

pub one_of_each : (xs : List Node) → IsDistinct ghosts.eq xs → IsShared xs → IsOneOfEach xs
one_of_each xs d s j k n m e f h = elim h [
  | inl g ↦ one_place xs d j k n e (subst (λ z. slice_get xs k ≡ Some z) g f)
  | inr g ↦ swapped_place xs d s j k n e (subst (λ z. slice_get xs k ≡ Some z) g f)
]
