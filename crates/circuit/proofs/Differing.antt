-- A formula is satisfiable exactly where the gates allow a pair to differ.
use Rattle.std.proofs.Common.{◌≡◌, ◌↔◌, ◌⊎◌, inl, inr, ℕ, zero, suc, ◌+◌, ◌<◌, ◌≤◌, ◌^◌, Bool, true, false, not, List, [], ◌∷◌, ◌++◌, None, Some, refl, sym, ◌∙◌, ap, subst, arith, length, IsTrue, ℤ, pos, negsuc, slice_get, get_or}
use Rattle.std.specs.List.{Any, Contains, list_any, filter_map}
use Rattle.std.proofs.lemmas.List.{get_or_default}
use Rattle.std.proofs.lemmas.Option.{slice_get_within, slice_get-get_or}
use Rattle.std.proofs.lemmas.List.Elements.{All-head, All-cons, All-nil, All-append}
use Rattle.std.proofs.lemmas.List.Folds.{Any-from_list_any, list_any_at}
use Rattle.word_kit.specs.Prelude.{Satisfies, literal_truth, variable}
use Rattle.circuit.specs.Prelude.{signed_reach, lit_truth, lit_reach, is_true, signed_variable, node_reach, IsOrdered, GateSays, GatesAgree, at, inputs_of, IsReached, chosen_clauses, AreClausesFor, pair_at, AreOwned, differs, CanDiffer, final_clause, IsSatisfiable, Lit, Const, Var, Node, Input, And, Xor, Free}
use Rattle.circuit.specs.Clauses.IsReached.{named, read}
use Rattle.circuit.proofs.Extended.{SameBelow, lit_same, gate_truth, extended, extended_kept, extended_input, gates_extend}
use Rattle.circuit.proofs.GateTruths.{gate_from_clauses, clauses_from_gate, chosen_out, chosen_in, satisfies_left, satisfies_right}

-- the elements of a list of two
two : {X : Type 0} → (P : X → Type 0) (x y z : X) (k : ℕ) → k < 2 → get_or (x ∷ y ∷ []) k z ≡ z → P x → P y → P z
two P x y z zero l e p q = subst P e p
two P x y z (suc zero) l e p q = subst P e q
two P x y z (suc (suc k)) l e p q = absurd (omega arith)

pub input_reach : (n : Node) (z : ℤ) → Contains (inputs_of n) z → signed_reach z ≤ node_reach n
input_reach (Input i) z h = let l = h.1 in absurd (omega (arith, l))
input_reach (And x y) z h = two (λ u. signed_reach u ≤ node_reach (And x y)) x y z h.0 h.1 h.2 (omega arith) (omega arith)
input_reach (Xor x y) z h = two (λ u. signed_reach u ≤ node_reach (Xor x y)) x y z h.0 h.1 h.2 (omega arith) (omega arith)
input_reach (Free f place) z h = let l = h.1 in absurd (omega (arith, l))

pub variable_reach : (z : ℤ) → variable z ≤ signed_reach z
variable_reach (pos zero) = omega arith
variable_reach (pos (suc n)) = omega arith
variable_reach (negsuc n) = omega arith

pub literal_alike : (z : ℤ) (v w : ℕ → Bool) → w (variable z) ≡ v (variable z) → literal_truth z w ≡ literal_truth z v
literal_alike (pos n) v w e = e
literal_alike (negsuc n) v w e = ap not e

-- a gate gives its variable one truth where what it reads has the same truths
node_alike : (n : Node) (b c : Bool) (v w : ℕ → Bool) → GateSays n b w → GateSays n c v → ((z : ℤ) → Contains (inputs_of n) z → literal_truth z w ≡ literal_truth z v)
    → (((d : Bool) (u : ℕ → Bool) → gate_truth n d u ≡ d) → b ≡ c) → b ≡ c
node_alike (Input i) b c v w g h r f = f (λ d u. refl)
node_alike (And x y) b c v w g h r f = let p = r x (0, omega arith, refl) in let q = r y (1, omega arith, refl) in g ∙ rw (p, q) (sym h)
node_alike (Xor x y) b c v w g h r f = let p = r x (0, omega arith, refl) in let q = r y (1, omega arith, refl) in g ∙ rw (p, q) (sym h)
node_alike (Free word place) b c v w g h r f = f (λ d u. refl)

pub gate_says : (ns : List Node) (w : ℕ → Bool) → GatesAgree ns w → (j : ℕ) (n : Node) → slice_get ns j ≡ Some n → GateSays n (w (j + 1)) w
unfolding GatesAgree
gate_says ns w h j n e = h j n e

-- An assignment that is completed keeps the truths of a set of variables whose gates fit, where the set has all that its gates
-- read.
module _ (ns : List Node) (P : ℕ → Type 0) (v : ℕ → Bool) (o : IsOrdered ns)
    (says : (j : ℕ) (n : Node) → slice_get ns j ≡ Some n → P (j + 1) → GateSays n (v (j + 1)) v)
    (reads : (j : ℕ) (n : Node) (z : ℤ) → slice_get ns j ≡ Some n → P (j + 1) → Contains (inputs_of n) z → P (variable z))
  where
    pub kept : (m k : ℕ) → k ≤ m → k ≤ length ns → P k → extended gate_truth 0 ns v k ≡ v k
    kept zero k h l p = extended_kept gate_truth 0 ns v k h
    kept (suc m) zero h l p = extended_kept gate_truth 0 ns v zero (omega arith)
    kept (suc m) (suc j) h l p =
        let w = extended gate_truth 0 ns v in
        let n = get_or ns j (Input 0) in
        let e : slice_get ns j ≡ Some n = slice_get-get_or ns j (Input 0) (omega arith) in
        let y : suc j ≡ j + 1 = omega arith in
        let z : 0 + j + 1 ≡ j + 1 = omega arith in
        let q = subst P y p in
        let r = o.reads j n e in
        let g : GateSays n (w (j + 1)) w = gate_says ns w (gates_extend ns v o) j n e in
        subst (λ i. w i ≡ v i) (sym y) (node_alike n (w (j + 1)) (v (j + 1)) v w g (says j n e q)
        (λ u i. let a = input_reach n u i in let b = variable_reach u in literal_alike u v w (kept m (variable u) (omega (arith, a, b, r)) (omega (arith, a, b, r)) (reads j n u e q i)))
        (λ t. subst (λ i. w i ≡ v i) z (extended_input gate_truth 0 ns v j n t e)))

true_lit : (l : Lit) → is_true l ≡ true → l ≡ Const true
true_lit (Const true) h = refl
true_lit (Const false) h = absurd cc
true_lit (Var z) h = absurd cc

-- the place of a constant that is true
true_at : (ls : List Lit) → list_any is_true ls ≡ true → (k : ℕ) × (k < length ls) × (at ls k ≡ Const true)
true_at ls h = let a = Any-from_list_any is_true ls h in
    (a.0, a.2, get_or_default ls a.0 (Const false) a.1 a.2 ∙ a.3 ∙ true_lit a.1 a.4)

-- the place of a signed variable
pub variable_from : (ls : List Lit) (z : ℤ) (i : ℕ) → i < length (filter_map signed_variable ls) → get_or (filter_map signed_variable ls) i z ≡ z → (k : ℕ) × (k < length ls) × (at ls k ≡ Var z)
variable_from [] z i l e = absurd (omega arith)
variable_from (Const b ∷ ls) z i l e = let r = variable_from ls z i l e in let s = r.1 in (suc r.0, omega (arith, s), r.2)
variable_from (Var y ∷ ls) z zero l e = (0, omega arith, ap Var e)
variable_from (Var y ∷ ls) z (suc i) l e = let r = variable_from ls z i (omega arith) e in let s = r.1 in (suc r.0, omega (arith, s), r.2)

variable_to : (ls : List Lit) (z : ℤ) (k : ℕ) → k < length ls → at ls k ≡ Var z → Contains (filter_map signed_variable ls) z
variable_to [] z k l e = absurd (omega arith)
variable_to (Const b ∷ ls) z zero l e = absurd cc
variable_to (Const b ∷ ls) z (suc k) l e = variable_to ls z k (omega arith) e
variable_to (Var y ∷ ls) z zero l e = (0, omega arith, cc)
variable_to (Var y ∷ ls) z (suc k) l e = let r = variable_to ls z k (omega arith) e in let s = r.1 in (suc r.0, omega (arith, s), r.2)

pub final_none : (ls : List Lit) → list_any is_true ls ≡ true → final_clause ls ≡ None
unfolding final_clause
final_none ls h = rw h refl

pub final_some : (ls : List Lit) → list_any is_true ls ≡ false → final_clause ls ≡ Some (filter_map signed_variable ls)
unfolding final_clause
final_some ls h = rw h refl

-- a variable that is reached is there
pub reached_within : (ns : List Node) (final : List ℤ) (o : IsOrdered ns) → ((z : ℤ) → Contains final z → signed_reach z ≤ length ns) → (k : ℕ) → IsReached ns final k → k ≤ length ns
reached_within ns final o h _ (named k a) = let r = h a.1 (a.0, a.2, a.3) in let s = variable_reach a.1 in let e : variable a.1 ≡ k = a.4 in omega (arith, r, s, e)
reached_within ns final o h _ (read k j n p s a) =
    let r = o.reads j n s in let t = input_reach n a.1 (a.0, a.2, a.3) in let u = variable_reach a.1 in let w = slice_get_within ns j n s in let e : variable a.1 ≡ k = a.4 in
    omega (arith, r, t, u, w, e)

differs_alike : (v w : ℕ → Bool) (p : Lit × Lit) (m : ℕ) → SameBelow m w v → lit_reach p.0 ≤ m → lit_reach p.1 ≤ m → differs w p ≡ differs v p
differs_alike v w p m s h k = let a = lit_same p.0 m w v s h in let b = lit_same p.1 m w v s k in rw (a, b) refl

pub two_cases : (b : Bool) → (b ≡ true) ⊎ (b ≡ false)
two_cases true = inl refl
two_cases false = inr refl

-- The differences `ls` of pairs that name the nodes `old` were made, and the nodes are `new` then.
pub record AreDifferences (old new : List Node) (pairs : List (Lit × Lit)) (ls : List Lit) : Type 0 where
  pub ordered : IsOrdered new
  pub small : length new < 2 ^ 31
  pub gates : (v : ℕ → Bool) → GatesAgree new v → GatesAgree old v
  pub means : (v : ℕ → Bool) → GatesAgree new v → (k : ℕ) → k < length pairs → lit_truth (at ls k) v ≡ differs v (pair_at pairs k)
  pub count : length ls ≡ length pairs
  pub owned : (k : ℕ) → k < length pairs → lit_reach (at ls k) ≤ length new
  pub keeps : (k : ℕ) (n : Node) → slice_get old k ≡ Some n → slice_get new k ≡ Some n
  pub grows : length old ≤ length new
  pub pairs_owned : AreOwned (length old) pairs

module _ (old new : List Node) (pairs : List (Lit × Lit)) (ls : List Lit) (d : AreDifferences old new pairs ls) where
  -- a difference that is true where the gates fit
  differ_at : (w : ℕ → Bool) (k : ℕ) → GatesAgree new w → k < length ls → lit_truth (at ls k) w ≡ true → CanDiffer old pairs
  differ_at w k g l t =
      let c = d.count in
      let i : k < length pairs = omega (arith, l, c) in
      (w, d.gates w g, (k, pair_at pairs k, i, get_or_default pairs k (pair_at pairs k) (Const false, Const false) i, sym (d.means w g k i) ∙ t))

  -- a formula without a final clause
  differ_always : list_any is_true ls ≡ true → CanDiffer old pairs
  differ_always h =
      let a = true_at ls h in
      let w = extended gate_truth 0 new (λ n. false) in
      differ_at w a.0 (gates_extend new (λ n. false) d.ordered) a.1 (ap (λ l. lit_truth l w) a.2)

  pub final_reach : (z : ℤ) → Contains (filter_map signed_variable ls) z → signed_reach z ≤ length new
  final_reach z h =
      let a = variable_from ls z h.0 h.1 h.2 in
      let i = a.1 in let c = d.count in
      subst (λ l. lit_reach l ≤ length new) a.2 (d.owned a.0 (omega (arith, i, c)))

  -- from a formula with a final clause to its gates
  differ_from : (v : ℕ → Bool) (reached : ℕ → Bool) → ((k : ℕ) → IsTrue (reached k) ↔ IsReached new (filter_map signed_variable ls) k)
      → Satisfies v (chosen_clauses reached 1 new ++ filter_map signed_variable ls ∷ []) → CanDiffer old pairs
  differ_from v reached iff s =
      let final = filter_map signed_variable ls in
      let w = extended gate_truth 0 new v in
      let o = d.ordered in
      let small = d.small in
      let gates = satisfies_left v (chosen_clauses reached 1 new) (final ∷ []) s in
      let some = All-head (λ c. Any (λ l. IsTrue (literal_truth l v)) c) final [] (satisfies_right v (chosen_clauses reached 1 new) (final ∷ []) s) in
      let z = some.1 in
      let there : Contains final z = (some.0, some.2, some.3) in
      let reach : IsReached new final (variable z) = named (variable z) (some.0, z, some.2, some.3, refl) in
      let within = reached_within new final o final_reach (variable z) reach in
      let same_truth = kept new (λ k. IsReached new final k) v o
      (λ j n e p. let y : 1 + j ≡ j + 1 = omega arith in let r = o.reads j n e in let l = slice_get_within new j n e in
      subst (λ k. GateSays n (v k) v) y (gate_from_clauses n (1 + j) v (omega arith) (omega (arith, r, l, small)) (chosen_out v reached 1 new j n gates e (subst (λ k. reached k ≡ true) (sym y) ((iff (j + 1)).1 p)))))
      (λ j n u e p i. read (variable u) j n p e (i.0, u, i.1, i.2, refl))
      (variable z) (variable z) (omega arith) within reach in
      let at_z = variable_from ls z there.0 there.1 there.2 in
      let t : literal_truth z w ≡ true = literal_alike z v w same_truth ∙ some.4 in
      differ_at w at_z.0 (gates_extend new v o) at_z.1 (ap (λ l. lit_truth l w) at_z.2 ∙ t)

  -- an assignment that fits the earlier gates keeps their variables when it is completed
  old_kept : (v : ℕ → Bool) → GatesAgree old v → SameBelow (length old) (extended gate_truth 0 new v) v
  old_kept v g = record {
    same_at = λ k h. let grows = d.grows in kept new (λ j. j ≤ length old) v d.ordered
        (λ j n e p. let u = get_or old j (Input 0) in
        let f : slice_get old j ≡ Some u = slice_get-get_or old j (Input 0) (omega arith) in
        let q : u ≡ n = let s = d.keeps j u f in cc in
        gate_says old v g j n (subst (λ m. slice_get old j ≡ Some m) q f))
        (λ j n z e p i. let r = d.ordered.reads j n e in let a = input_reach n z i in let b = variable_reach z in omega (arith, r, a, b, p))
        k k (omega arith) (omega arith) h;
  }

  -- what the gates of a formula with a final clause say
  formula_from : (w : ℕ → Bool) (reached : ℕ → Bool) (z : ℤ) → GatesAgree new w → Contains (filter_map signed_variable ls) z → literal_truth z w ≡ true
      → Satisfies w (chosen_clauses reached 1 new ++ filter_map signed_variable ls ∷ [])
  formula_from w reached z g c t =
      let P = λ (c : List ℤ). Any (λ l. IsTrue (literal_truth l w)) c in
      let final = filter_map signed_variable ls in
      let small = d.small in
      All-append P (chosen_clauses reached 1 new) (final ∷ [])
      (chosen_in w reached 1 new (λ j n e r. let y : j + 1 ≡ 1 + j = omega arith in let a = d.ordered.reads j n e in let l = slice_get_within new j n e in
      clauses_from_gate n (1 + j) w (omega arith) (omega (arith, a, l, small)) (subst (λ k. GateSays n (w k) w) y (gate_says new w g j n e))))
      (All-cons P final [] (c.0, z, c.1, c.2, t) (All-nil P))

  literal_of : (l : Lit) (w : ℕ → Bool) (k : ℕ) → k < length ls → at ls k ≡ l → list_any is_true ls ≡ false → lit_truth l w ≡ true → (z : ℤ) × Contains (filter_map signed_variable ls) z × (literal_truth z w ≡ true)
  literal_of (Const true) w k h e f t = let a = list_any_at is_true ls k (Const false) h (ap is_true e) in absurd cc
  literal_of (Const false) w k h e f t = absurd cc
  literal_of (Var z) w k h e f t = (z, variable_to ls z k h e, t)

  clauses_for : (clauses : List (List ℤ)) → AreClausesFor new (final_clause ls) clauses → CanDiffer old pairs → IsSatisfiable clauses
  clauses_for clauses h (v, g, a) =
      let w = extended gate_truth 0 new v in
      let fits = gates_extend new v d.ordered in
      let c = d.count in
      let k = a.0 in
      let l : k < length pairs = a.2 in
      let s = old_kept v g in
      let p : pair_at pairs k ≡ a.1 = get_or_default pairs k (Const false, Const false) a.1 l ∙ a.3 in
      let e = differs_alike v w (pair_at pairs k) (length old) s (d.pairs_owned.first k l) (d.pairs_owned.second k l) in
      let t : lit_truth (at ls k) w ≡ true = d.means w fits k l ∙ e ∙ ap (differs v) p ∙ a.4 in
      elim (two_cases (list_any is_true ls)) [
        | inl y ↦ let n : clauses ≡ [] = subst (λ f. AreClausesFor new f clauses) (final_none ls y) h in
            (w, subst (Satisfies w) (sym n) (All-nil (λ c. Any (λ l. IsTrue (literal_truth l w)) c)))
        | inr f ↦ let n = subst (λ f. AreClausesFor new f clauses) (final_some ls f) h in
            let z = literal_of (at ls k) w k (omega (arith, l, c)) refl f t in
            (w, subst (Satisfies w) (sym n.2) (formula_from w n.0 z.0 fits z.1 z.2))
      ]

  differ_for : (clauses : List (List ℤ)) → AreClausesFor new (final_clause ls) clauses → IsSatisfiable clauses → CanDiffer old pairs
  differ_for clauses h (v, s) =
      elim (two_cases (list_any is_true ls)) [
        | inl y ↦ differ_always y
        | inr f ↦ let n = subst (λ f. AreClausesFor new f clauses) (final_some ls f) h in
            differ_from v n.0 n.1 (subst (Satisfies v) n.2 s)
      ]

  pub satisfiable_where_differing : (clauses : List (List ℤ)) → AreClausesFor new (final_clause ls) clauses → IsSatisfiable clauses ↔ CanDiffer old pairs
  satisfiable_where_differing clauses h = (differ_for clauses h, clauses_for clauses h)
