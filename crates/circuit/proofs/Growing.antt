-- The nodes that are there stay where they are when differences are made.
use Rattle.std.proofs.Common.{◌≡◌, ℕ, zero, suc, Bool, true, false, cond, List, Some, ℤ, pos, neg_ℤ, unsigned_abs, int_lt, slice_get, length}
use Rattle.std.specs.Ordering.{int_eq}
use Rattle.circuit.specs.Prelude.{BitMade, node_made, xor_node_made, xor_signed_made, xor_vars_made, xor_made, word_made, pair_at, differences_made, Lit, Const, Var, Node, Xor}
use Rattle.circuit.proofs.Kept.{slice_get-insert_key}

abbrev pub Grown : List Node → List Node → Type 0
Grown ns ms = (k : ℕ) (n : Node) → slice_get ns k ≡ Some n → slice_get ms k ≡ Some n

grown_cond : (ns : List Node) (b : Bool) (A B : BitMade) → Grown ns A.held → Grown ns B.held → Grown ns (cond b A B).held
grown_cond ns true A B g h = g
grown_cond ns false A B g h = h

grown_node : (eq : Node → Node → Bool) (ns : List Node) (y : Node) → Grown ns (node_made eq ns y).held
unfolding node_made
grown_node eq ns y k n h = slice_get-insert_key eq ns y k n h

grown_pair : (eq : Node → Node → Bool) (ns : List Node) (x y : ℤ) → Grown ns (xor_node_made eq ns x y).held
grown_pair eq ns x y = grown_cond ns (int_lt x y) (node_made eq ns (Xor x y)) (node_made eq ns (Xor y x)) (grown_node eq ns (Xor x y)) (grown_node eq ns (Xor y x))

grown_signed : (eq : Node → Node → Bool) (ns : List Node) (x y : ℤ) → Grown ns (xor_signed_made eq ns x y).held
unfolding xor_signed_made
grown_signed eq ns x y = grown_pair eq ns (pos (unsigned_abs x)) (pos (unsigned_abs y))

grown_vars : (eq : Node → Node → Bool) (ns : List Node) (x y : ℤ) → Grown ns (xor_vars_made eq ns x y).held
grown_vars eq ns x y =
    grown_cond ns (int_eq x y) (record { flag = Const false; held = ns }) (cond (int_eq x (neg_ℤ y)) (record { flag = Const true; held = ns }) (xor_signed_made eq ns x y)) (λ k n h. h)
    (grown_cond ns (int_eq x (neg_ℤ y)) (record { flag = Const true; held = ns }) (xor_signed_made eq ns x y) (λ k n h. h) (grown_signed eq ns x y))

grown_xor : (eq : Node → Node → Bool) (ns : List Node) (b c : Lit) → Grown ns (xor_made eq ns b c).held
unfolding xor_made
grown_xor eq ns (Const false) c k n h = h
grown_xor eq ns (Const true) c k n h = h
grown_xor eq ns (Var x) (Const false) k n h = h
grown_xor eq ns (Var x) (Const true) k n h = h
grown_xor eq ns (Var x) (Var y) k n h = grown_vars eq ns x y k n h

grown_word : (g : List Node → ℕ → BitMade) → ((ms : List Node) (k : ℕ) → Grown ms (g ms k).held) → (n : ℕ) (ns : List Node) → Grown ns (word_made g n ns).held
unfolding word_made
grown_word g h zero ns k m e = e
grown_word g h (suc n) ns k m e = h (word_made g n ns).held n k m (grown_word g h n ns k m e)

pub grown_differences : (eq : Node → Node → Bool) (ns : List Node) (pairs : List (Lit × Lit)) → Grown ns (differences_made eq ns pairs).held
grown_differences eq ns pairs = grown_word (λ h k. xor_made eq h (pair_at pairs k).0 (pair_at pairs k).1) (λ ms k. grown_xor eq ms (pair_at pairs k).0 (pair_at pairs k).1) (length pairs) ns
