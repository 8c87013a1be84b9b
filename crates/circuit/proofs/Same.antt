-- Nodes that their derived equality calls equal are the same.
use Rattle.std.proofs.Common.{◌≡◌, ℕ, Bool, true, false, List, [], ◌∷◌, ◌&&◌, refl, arith}
use mathlib.Core.Bool.{beq}
use lib.Pointwise.{pointwise}
use Rattle.circuit.specs.Prelude.{Says, GateSays, Lit, FreeWord, ProductLow, ProductHigh, Quotient, Remainder, DivideFaults, Node, Input, And, Xor, Free}
use Rattle.circuit.specs.contracts.nodes.NodePartialEq.TheImpl.{ghosts}
use Rattle.circuit.specs.contracts.nodes.FreeWordPartialEq.TheImpl.{ghosts as free_ghosts}
use Rattle.circuit.specs.contracts.literals.LitPartialEq.TheImpl.{ghosts as lit_ghosts}

both_of : (a b : Bool) → (a && b) ≡ true → (a ≡ true) × (b ≡ true)
both_of true true h = (refl, refl)
both_of true false h = cc
both_of false b h = cc

pub lit_same : (a b : Lit) → lit_ghosts.eq a b ≡ true → a ≡ b
lit_same a b h = grind arith

pub lits_same : (xs ys : List Lit) → pointwise lit_ghosts.eq xs ys ≡ true → xs ≡ ys
lits_same [] [] h = refl
lits_same [] (y ∷ ys) h = cc
lits_same (x ∷ xs) [] h = cc
lits_same (x ∷ xs) (y ∷ ys) h = let p = both_of (lit_ghosts.eq x y) (pointwise lit_ghosts.eq xs ys) h in let a = lit_same x y p.0 in let b = lits_same xs ys p.1 in cc

abbrev words_same : List Lit → List Lit → Bool
words_same xs ys = pointwise lit_ghosts.eq xs ys

low_same : (x y z w : List Lit) → free_ghosts.eq (ProductLow x y) (ProductLow z w) ≡ true → ProductLow x y ≡ ProductLow z w
low_same x y z w h = let a = both_of (words_same x z) (words_same y w) h in let e = lits_same x z a.0 in let f = lits_same y w a.1 in cc

high_same : (s t : Bool) (x y z w : List Lit) → free_ghosts.eq (ProductHigh s x y) (ProductHigh t z w) ≡ true → ProductHigh s x y ≡ ProductHigh t z w
high_same s t x y z w h = let a = both_of (beq s t) (words_same x z && words_same y w) h in let b = both_of (words_same x z) (words_same y w) a.1 in
    let d : s ≡ t = grind (arith, a.0) in let e = lits_same x z b.0 in let f = lits_same y w b.1 in cc

three_same : (s t : Bool) (x y z p q r : List Lit) → (beq s t && (words_same x p && (words_same y q && words_same z r))) ≡ true → (s ≡ t) × ((x ≡ p) × ((y ≡ q) × (z ≡ r)))
three_same s t x y z p q r h = let a = both_of (beq s t) (words_same x p && (words_same y q && words_same z r)) h in
    let b = both_of (words_same x p) (words_same y q && words_same z r) a.1 in let c = both_of (words_same y q) (words_same z r) b.1 in
    (grind (arith, a.0), (lits_same x p b.0, (lits_same y q c.0, lits_same z r c.1)))

pub free_same : (a b : FreeWord) → free_ghosts.eq a b ≡ true → a ≡ b
free_same (ProductLow x y) (ProductLow z w) h = low_same x y z w h
free_same (ProductHigh s x y) (ProductHigh t z w) h = high_same s t x y z w h
free_same (Quotient s x y z) (Quotient t p q r) h = let d = three_same s t x y z p q r h in let e = d.0 in let f = d.1.0 in let g = d.1.1.0 in let k = d.1.1.1 in cc
free_same (Remainder s x y z) (Remainder t p q r) h = let d = three_same s t x y z p q r h in let e = d.0 in let f = d.1.0 in let g = d.1.1.0 in let k = d.1.1.1 in cc
free_same (DivideFaults s x y z) (DivideFaults t p q r) h = let d = three_same s t x y z p q r h in let e = d.0 in let f = d.1.0 in let g = d.1.1.0 in let k = d.1.1.1 in cc
free_same a b h = grind arith

pub node_same : (n m : Node) → ghosts.eq n m ≡ true → n ≡ m
node_same (Input a) (Input b) h = grind arith
node_same (And a b) (And c d) h = grind arith
node_same (Xor a b) (Xor c d) h = grind arith
node_same (Free f a) (Free g b) h = let p = both_of _ _ h in let e = free_same f g p.0 in let q : a ≡ b = grind (arith, p.1) in cc
node_same n m h = grind arith

-- what is said of a node is said of the same node
pub says_at : (node n : Node) (b d : Bool) (v : ℕ → Bool) → node ≡ n → b ≡ d → Says n d v → Says node b v
says_at node n b d v e f h = rw (e, f) h

pub gate_says_at : (node n : Node) (b d : Bool) (v : ℕ → Bool) → node ≡ n → b ≡ d → GateSays n d v → GateSays node b v
gate_says_at node n b d v e f h = rw (e, f) h
