-- Every choice of the inputs extends to an assignment that fits every node, from the first on.
use Rattle.std.proofs.Common.{◌≡◌, ◌≢◌, ℕ, zero, suc, ◌+◌, ◌≤◌, Bool, false, cond, not, ◌&&◌, eqb, List, [], ◌∷◌, Some, refl, sym, ◌∙◌, ap, subst, arith, ℤ, pos, negsuc, slice_get, slice_index_or}
use Rattle.std.proofs.lemmas.Bool.Decides.{nat_tests}
use Rattle.word_kit.specs.Prelude.{same, bit_of, literal_truth}
use Rattle.circuit.specs.Prelude.{signed_reach, lit_truth, lit_reach, word_value, word_reach_below, Says, AllAgree, IsOrdered, node_reach, free_reach, free_value, Extends, GateSays, GatesAgree, Lit, Const, Var, FreeWord, ProductLow, ProductHigh, Quotient, Remainder, DivideFaults, Node, Input, And, Xor, Free}
use Rattle.circuit.proofs.Meanings.{word_is}
use Rattle.circuit.proofs.Values.{word_reach-at}

-- two assignments are the same up to a variable
pub record SameBelow (m : ℕ) (v w : ℕ → Bool) : Type 0 where
  pub same_at : (j : ℕ) → j ≤ m → v j ≡ w j

pub signed_same : (z : ℤ) (m : ℕ) (v w : ℕ → Bool) → SameBelow m v w → signed_reach z ≤ m → literal_truth z v ≡ literal_truth z w
signed_same (pos zero) m v w s h = s.same_at 0 (omega arith)
signed_same (pos (suc n)) m v w s h = s.same_at (suc n) h
signed_same (negsuc n) m v w s h = let e : n + 1 ≡ suc n = omega arith in ap not (s.same_at (suc n) (omega arith))

pub lit_same : (l : Lit) (m : ℕ) (v w : ℕ → Bool) → SameBelow m v w → lit_reach l ≤ m → lit_truth l v ≡ lit_truth l w
lit_same (Const b) m v w s h = refl
lit_same (Var z) m v w s h = signed_same z m v w s h

word_same : (x : List Lit) (m : ℕ) (v w : ℕ → Bool) → SameBelow m v w → word_reach_below 32 x ≤ m → word_value 32 x v ≡ word_value 32 x w
unfolding word_value
word_same x m v w s h = word_is x v (λ k. lit_truth (slice_index_or x k (Const false)) w) (λ k l. let r = word_reach-at 32 k x l in lit_same (slice_index_or x k (Const false)) m v w s (omega (arith, r, h)))

free_same : (f : FreeWord) (m : ℕ) (v w : ℕ → Bool) → SameBelow m v w → free_reach f ≤ m → free_value f v ≡ free_value f w
free_same (ProductLow x y) m v w s h = rw (word_same x m v w s (omega arith), word_same y m v w s (omega arith)) refl
free_same (ProductHigh t x y) m v w s h = rw (word_same x m v w s (omega arith), word_same y m v w s (omega arith)) refl
free_same (Quotient t x y z) m v w s h = rw (word_same x m v w s (omega arith), word_same y m v w s (omega arith), word_same z m v w s (omega arith)) refl
free_same (Remainder t x y z) m v w s h = rw (word_same x m v w s (omega arith), word_same y m v w s (omega arith), word_same z m v w s (omega arith)) refl
free_same (DivideFaults t x y z) m v w s h = rw (word_same x m v w s (omega arith), word_same y m v w s (omega arith), word_same z m v w s (omega arith)) refl

-- the truth that a node gives its variable; an input keeps its own
abbrev pub node_truth : Node → Bool → (ℕ → Bool) → Bool
node_truth (Input n) b v = b
node_truth (And x y) b v = literal_truth x v && literal_truth y v
node_truth (Xor x y) b v = not (same (literal_truth x v) (literal_truth y v))
node_truth (Free word place) b v = bit_of (free_value word v) place

-- the same, where a free word keeps its truths too
abbrev pub gate_truth : Node → Bool → (ℕ → Bool) → Bool
gate_truth (Input n) b v = b
gate_truth (And x y) b v = literal_truth x v && literal_truth y v
gate_truth (Xor x y) b v = not (same (literal_truth x v) (literal_truth y v))
gate_truth (Free word place) b v = b

says_from : (n : Node) (b : Bool) (m : ℕ) (v w : ℕ → Bool) → SameBelow m v w → node_reach n ≤ m → Says n (node_truth n b v) w
says_from (Input i) b m v w s h = tt
says_from (And x y) b m v w s h = let p = signed_same x m v w s (omega arith) in let q = signed_same y m v w s (omega arith) in rw (p, q) refl
says_from (Xor x y) b m v w s h = let p = signed_same x m v w s (omega arith) in let q = signed_same y m v w s (omega arith) in rw (p, q) refl
says_from (Free f place) b m v w s h = ap (λ n. bit_of n place) (free_same f m v w s h)

gate_from : (n : Node) (b : Bool) (m : ℕ) (v w : ℕ → Bool) → SameBelow m v w → node_reach n ≤ m → GateSays n (gate_truth n b v) w
gate_from (Input i) b m v w s h = tt
gate_from (And x y) b m v w s h = let p = signed_same x m v w s (omega arith) in let q = signed_same y m v w s (omega arith) in rw (p, q) refl
gate_from (Xor x y) b m v w s h = let p = signed_same x m v w s (omega arith) in let q = signed_same y m v w s (omega arith) in rw (p, q) refl
gate_from (Free f place) b m v w s h = tt

-- an assignment with one variable replaced
assigned : (ℕ → Bool) → ℕ → Bool → ℕ → Bool
assigned v k b m = cond (eqb m k) b (v m)

assigned_other : (v : ℕ → Bool) (k : ℕ) (b : Bool) (m : ℕ) → m ≢ k → assigned v k b m ≡ v m
unfolding assigned
assigned_other v k b m h = grind (arith, nat_tests)

assigned_same : (v : ℕ → Bool) (k : ℕ) (b : Bool) → assigned v k b k ≡ b
unfolding assigned
assigned_same v k b = grind (arith, nat_tests)

-- the assignment that each node completes in its turn
pub extended : (Node → Bool → (ℕ → Bool) → Bool) → ℕ → List Node → (ℕ → Bool) → (ℕ → Bool)
extended T k [] v = v
extended T k (n ∷ ns) v = extended T (k + 1) ns (assigned v (k + 1) (T n (v (k + 1)) v))

pub extended_kept : (T : Node → Bool → (ℕ → Bool) → Bool) (k : ℕ) (ns : List Node) (v : ℕ → Bool) (j : ℕ) → j ≤ k → extended T k ns v j ≡ v j
unfolding extended
extended_kept T k [] v j h = refl
extended_kept T k (n ∷ ns) v j h = extended_kept T (k + 1) ns (assigned v (k + 1) (T n (v (k + 1)) v)) j (omega arith) ∙ assigned_other v (k + 1) (T n (v (k + 1)) v) j (omega arith)

-- a node's variable gets what the node gives it, and keeps it
pub record Met (T : Node → Bool → (ℕ → Bool) → Bool) (m : ℕ) (n : Node) (w : ℕ → Bool) : Type 0 where
  pub before : ℕ → Bool
  pub own : Bool
  pub alike : SameBelow m before w
  pub gets : w (m + 1) ≡ T n own before

extended_meets : (T : Node → Bool → (ℕ → Bool) → Bool) (k : ℕ) (ns : List Node) (v : ℕ → Bool) (j : ℕ) (n : Node) → slice_get ns j ≡ Some n → Met T (k + j) n (extended T k ns v)
unfolding extended
extended_meets T k [] v j n h = absurd (cc)
extended_meets T k (m ∷ ms) v zero n h =
    let e : m ≡ n = cc in
    let c : k ≡ k + zero = omega arith in
    let b = T m (v (k + 1)) v in
    let u = assigned v (k + 1) b in
    let s : SameBelow k v (extended T (k + 1) ms u) = record { same_at = λ i le. sym (extended_kept T (k + 1) ms u i (omega arith) ∙ assigned_other v (k + 1) b i (omega arith)) } in
    let f : extended T (k + 1) ms u (k + 1) ≡ b = extended_kept T (k + 1) ms u (k + 1) (omega arith) ∙ assigned_same v (k + 1) b in
    let t : Met T k m (extended T (k + 1) ms u) = record { before = v; own = v (k + 1); alike = s; gets = f } in
    subst (λ q. Met T (k + zero) q (extended T (k + 1) ms u)) e (subst (λ q. Met T q m (extended T (k + 1) ms u)) c t)
extended_meets T k (m ∷ ms) v (suc i) n h =
    let u = assigned v (k + 1) (T m (v (k + 1)) v) in
    let t = extended_meets T (k + 1) ms u i n h in
    let c : k + 1 + i ≡ k + suc i = omega arith in
    subst (λ q. Met T q n (extended T (k + 1) ms u)) c t

-- variables whose nodes keep their own truth keep that of the start
pub extended_input : (T : Node → Bool → (ℕ → Bool) → Bool) (k : ℕ) (ns : List Node) (v : ℕ → Bool) (j : ℕ) (n : Node) → ((b : Bool) (u : ℕ → Bool) → T n b u ≡ b) → slice_get ns j ≡ Some n
    → extended T k ns v (k + j + 1) ≡ v (k + j + 1)
unfolding extended
extended_input T k [] v j n t h = absurd (cc)
extended_input T k (m ∷ ms) v zero n t h =
    let e : m ≡ n = cc in
    let c : k + 1 ≡ k + zero + 1 = omega arith in
    let b = T m (v (k + 1)) v in
    let u = assigned v (k + 1) b in
    let f : extended T (k + 1) ms u (k + 1) ≡ b = extended_kept T (k + 1) ms u (k + 1) (omega arith) ∙ assigned_same v (k + 1) b in
    let g : b ≡ v (k + 1) = ap (λ q. T q (v (k + 1)) v) e ∙ t (v (k + 1)) v in
    subst (λ q. extended T (k + 1) ms u q ≡ v q) c (f ∙ g)
extended_input T k (m ∷ ms) v (suc i) n t h =
    let u = assigned v (k + 1) (T m (v (k + 1)) v) in
    let r = extended_input T (k + 1) ms u i n t h in
    let c : k + 1 + i + 1 ≡ k + suc i + 1 = omega arith in
    subst (λ q. extended T (k + 1) ms u q ≡ v q) c (r ∙ assigned_other v (k + 1) (T m (v (k + 1)) v) (k + 1 + i + 1) (omega arith))

says_met : (n : Node) (k : ℕ) (w : ℕ → Bool) → Met node_truth k n w → node_reach n ≤ k → Says n (w (k + 1)) w
says_met n k w m h = subst (λ b. Says n b w) (sym m.gets) (says_from n m.own k m.before w m.alike h)

gate_met : (n : Node) (k : ℕ) (w : ℕ → Bool) → Met gate_truth k n w → node_reach n ≤ k → GateSays n (w (k + 1)) w
gate_met n k w m h = subst (λ b. GateSays n b w) (sym m.gets) (gate_from n m.own k m.before w m.alike h)

-- every choice of the inputs extends
pub extends : (ns : List Node) (v : ℕ → Bool) → IsOrdered ns → Extends ns v (extended node_truth 0 ns v)
unfolding AllAgree
extends ns v o = record {
  agrees = λ k n h. let z : 0 + k ≡ k = omega arith in says_met n k (extended node_truth 0 ns v) (subst (λ q. Met node_truth q n (extended node_truth 0 ns v)) z (extended_meets node_truth 0 ns v k n h)) (o.reads k n h);
  inputs = λ k m h. let z : 0 + k + 1 ≡ k + 1 = omega arith in subst (λ q. extended node_truth 0 ns v q ≡ v q) z (extended_input node_truth 0 ns v k (Input m) (λ b u. refl) h);
}

-- and so does every choice of the inputs and free words, to one that fits the gates
pub gates_extend : (ns : List Node) (v : ℕ → Bool) → IsOrdered ns → GatesAgree ns (extended gate_truth 0 ns v)
unfolding GatesAgree
gates_extend ns v o = λ k n h. let z : 0 + k ≡ k = omega arith in gate_met n k (extended gate_truth 0 ns v) (subst (λ q. Met gate_truth q n (extended gate_truth 0 ns v)) z (extended_meets gate_truth 0 ns v k n h)) (o.reads k n h)
