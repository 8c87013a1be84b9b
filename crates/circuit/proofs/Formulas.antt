-- The clauses of a circuit are those of a formula over its variables.
use Rattle.std.proofs.Common.{inl, inr, ◌≡◌, ℕ, zero, suc, ◌+◌, ◌<◌, ◌≤◌, ◌^◌, Bool, true, false, cond, List, [], ◌∷◌, Option, None, Some, refl, sym, subst, arith, length, ℤ, pos, negsuc, neg_ℤ, slice_get}
use Rattle.std.specs.List.{All, Contains, list_any, filter_map}
use Rattle.std.specs.Option.{IfSome}
use Rattle.std.proofs.lemmas.List.Elements.{All-cons, All-nil, All-append, All-weaker, All-contains_itself}
use Rattle.word_kit.specs.Prelude.{IsFormula, IsLiteral, variable}
use Rattle.word_kit.specs.declared.formulas.Formula.{Formula}
use Rattle.circuit.specs.Prelude.{signed_reach, lit_reach, is_true, signed_variable, IsOrdered, node_reach, at, gate_clauses, chosen_clauses, AreClausesFor, final_clause, Lit, Node, Input, And, Xor, Free}
use Rattle.circuit.proofs.GateTruths.{nonzero}
use Rattle.circuit.proofs.Differing.{two_cases, variable_from, variable_reach, final_none, final_some}
use Rattle.std.proofs.lemmas.Option.{slice_get_within}

-- a literal of a variable up to m
pub record IsNamed (m : ℕ) (z : ℤ) : Type 0 where
  pub some : 0 < variable z
  pub below : variable z ≤ m

variable_neg : (z : ℤ) → variable (neg_ℤ z) ≡ variable z
variable_neg (pos zero) = refl
variable_neg (pos (suc n)) = refl
variable_neg (negsuc n) = refl

named_neg : (m : ℕ) (z : ℤ) → IsNamed m z → IsNamed m (neg_ℤ z)
named_neg m z h = let a = h.some in let b = h.below in let e = variable_neg z in record { some = omega arith; below = omega arith }

named_of : (m : ℕ) (z : ℤ) → signed_reach z ≤ m → m < 2 ^ 31 → IsNamed m z
named_of m z h l = let a = variable_reach z in record { some = nonzero z (omega arith); below = omega arith }

abbrev AllNamed : ℕ → List (List ℤ) → Type 0
AllNamed m clauses = All (λ c. All (λ z. IsNamed m z) c) clauses

pair_named : (m : ℕ) (x y : ℤ) → IsNamed m x → IsNamed m y → All (λ z. IsNamed m z) (x ∷ y ∷ [])
pair_named m x y p q = let P = λ (z : ℤ). IsNamed m z in All-cons P x (y ∷ []) p (All-cons P y [] q (All-nil P))

triple_named : (m : ℕ) (x y z : ℤ) → IsNamed m x → IsNamed m y → IsNamed m z → All (λ z. IsNamed m z) (x ∷ y ∷ z ∷ [])
triple_named m x y z p q r = let P = λ (z : ℤ). IsNamed m z in All-cons P x (y ∷ z ∷ []) p (pair_named m y z q r)

cons_named : (m : ℕ) (c : List ℤ) (cs : List (List ℤ)) → All (λ z. IsNamed m z) c → AllNamed m cs → AllNamed m (c ∷ cs)
cons_named m c cs p q = All-cons (λ k. All (λ z. IsNamed m z) k) c cs p q

and_named : (m : ℕ) (v x y nv nx ny : ℤ) → IsNamed m v → IsNamed m x → IsNamed m y → IsNamed m nv → IsNamed m nx → IsNamed m ny → AllNamed m ((nv ∷ x ∷ []) ∷ (nv ∷ y ∷ []) ∷ (v ∷ nx ∷ ny ∷ []) ∷ [])
and_named m v x y nv nx ny p q r np nq nr =
    cons_named m (nv ∷ x ∷ []) ((nv ∷ y ∷ []) ∷ (v ∷ nx ∷ ny ∷ []) ∷ []) (pair_named m nv x np q)
    (cons_named m (nv ∷ y ∷ []) ((v ∷ nx ∷ ny ∷ []) ∷ []) (pair_named m nv y np r)
    (cons_named m (v ∷ nx ∷ ny ∷ []) [] (triple_named m v nx ny p nq nr) (All-nil (λ k. All (λ z. IsNamed m z) k))))

xor_named : (m : ℕ) (v x y nv nx ny : ℤ) → IsNamed m v → IsNamed m x → IsNamed m y → IsNamed m nv → IsNamed m nx → IsNamed m ny
    → AllNamed m ((nv ∷ x ∷ y ∷ []) ∷ (nv ∷ nx ∷ ny ∷ []) ∷ (v ∷ nx ∷ y ∷ []) ∷ (v ∷ x ∷ ny ∷ []) ∷ [])
xor_named m v x y nv nx ny p q r np nq nr =
    cons_named m (nv ∷ x ∷ y ∷ []) ((nv ∷ nx ∷ ny ∷ []) ∷ (v ∷ nx ∷ y ∷ []) ∷ (v ∷ x ∷ ny ∷ []) ∷ []) (triple_named m nv x y np q r)
    (cons_named m (nv ∷ nx ∷ ny ∷ []) ((v ∷ nx ∷ y ∷ []) ∷ (v ∷ x ∷ ny ∷ []) ∷ []) (triple_named m nv nx ny np nq nr)
    (cons_named m (v ∷ nx ∷ y ∷ []) ((v ∷ x ∷ ny ∷ []) ∷ []) (triple_named m v nx y p nq r)
    (cons_named m (v ∷ x ∷ ny ∷ []) [] (triple_named m v x ny p q nr) (All-nil (λ k. All (λ z. IsNamed m z) k)))))

gate_named : (n : Node) (v m : ℕ) → 0 < v → v ≤ m → node_reach n ≤ m → m < 2 ^ 31 → AllNamed m (gate_clauses (pos v) n)
gate_named (Input i) v m a b c d = All-nil (λ c. All (λ z. IsNamed m z) c)
gate_named (And x y) v m a b c d =
    let p : IsNamed m (pos v) = record { some = a; below = b } in
    let q = named_of m x (omega arith) d in let r = named_of m y (omega arith) d in
    and_named m (pos v) x y (neg_ℤ (pos v)) (neg_ℤ x) (neg_ℤ y) p q r (named_neg m (pos v) p) (named_neg m x q) (named_neg m y r)
gate_named (Xor x y) v m a b c d =
    let p : IsNamed m (pos v) = record { some = a; below = b } in
    let q = named_of m x (omega arith) d in let r = named_of m y (omega arith) d in
    xor_named m (pos v) x y (neg_ℤ (pos v)) (neg_ℤ x) (neg_ℤ y) p q r (named_neg m (pos v) p) (named_neg m x q) (named_neg m y r)
gate_named (Free f place) v m a b c d = All-nil (λ c. All (λ z. IsNamed m z) c)

cond_named : (m : ℕ) (b : Bool) (cs : List (List ℤ)) → AllNamed m cs → AllNamed m (cond b cs [])
cond_named m true cs h = h
cond_named m false cs h = All-nil (λ c. All (λ z. IsNamed m z) c)

chosen_named : (chosen : ℕ → Bool) (v m : ℕ) (ns : List Node) → 0 < v → v + length ns ≤ m + 1 → m < 2 ^ 31 → ((j : ℕ) (n : Node) → slice_get ns j ≡ Some n → node_reach n ≤ m) → AllNamed m (chosen_clauses chosen v ns)
unfolding chosen_clauses
chosen_named chosen v m [] a b c h = All-nil (λ c. All (λ z. IsNamed m z) c)
chosen_named chosen v m (n ∷ ns) a b c h =
    All-append (λ c. All (λ z. IsNamed m z) c) (cond (chosen v) (gate_clauses (pos v) n) []) (chosen_clauses chosen (v + 1) ns)
    (cond_named m (chosen v) (gate_clauses (pos v) n) (gate_named n v m a (omega arith) (h zero n refl) c))
    (chosen_named chosen (v + 1) m ns (omega arith) (omega arith) c (λ j k e. h (suc j) k e))

all_named : (ns : List Node) (last : Option (List ℤ)) (clauses : List (List ℤ)) → IsOrdered ns → length ns < 2 ^ 31 → IfSome last (λ c. All (λ z. signed_reach z ≤ length ns) c) → AreClausesFor ns last clauses → AllNamed (length ns) clauses
all_named ns None clauses o l h a = subst (AllNamed (length ns)) (sym a) (All-nil (λ c. All (λ z. IsNamed (length ns) z) c))
all_named ns (Some final) clauses o l h a =
    let C = λ (k : List ℤ). All (λ z. IsNamed (length ns) z) k in
    subst (AllNamed (length ns)) (sym a.2) (All-append C (chosen_clauses a.0 1 ns) (final ∷ [])
    (chosen_named a.0 1 (length ns) ns (omega arith) (omega arith) l (λ j n e. let r = o.reads j n e in let w = slice_get_within ns j n e in omega (arith, r, w)))
    (All-cons C final [] (All-weaker (λ z. signed_reach z ≤ length ns) (λ z. IsNamed (length ns) z) (λ z k. named_of (length ns) z k l) final h) (All-nil C)))

literals_of : (m : ℕ) (clauses : List (List ℤ)) → m < 2 ^ 31 → AllNamed m clauses → All (λ c. All IsLiteral c) clauses
literals_of m clauses l h = All-weaker (λ c. All (λ z. IsNamed m z) c) (λ c. All IsLiteral c)
    (λ c k. All-weaker (λ z. IsNamed m z) IsLiteral (λ z n. let a = n.some in let b = n.below in record { nonzero = a; within = omega (arith, b, l) }) c k) clauses h

below_of : (m n : ℕ) (clauses : List (List ℤ)) → n ≡ m → AllNamed m clauses → All (λ c. All (λ z. variable z ≤ n) c) clauses
below_of m n clauses e h = All-weaker (λ c. All (λ z. IsNamed m z) c) (λ c. All (λ z. variable z ≤ n) c)
    (λ c k. All-weaker (λ z. IsNamed m z) (λ z. variable z ≤ n) (λ z i. let b = i.below in omega (arith, b, e)) c k) clauses h

pub is_formula : (f : Formula) (ns : List Node) (last : Option (List ℤ)) → IsOrdered ns → length ns < 2 ^ 31 → IfSome last (λ c. All (λ z. signed_reach z ≤ length ns) c) → f.variables ≡ length ns → AreClausesFor ns last f.clauses → IsFormula f
is_formula f ns last o l h e a = let n = all_named ns last f.clauses o l h a in record { literals = literals_of (length ns) f.clauses l n; named = below_of (length ns) f.variables f.clauses e n }

-- the final clause names variables that are there where its literals do
pub final_owned : (ls : List Lit) (m : ℕ) → ((k : ℕ) → k < length ls → lit_reach (at ls k) ≤ m) → IfSome (final_clause ls) (λ c. All (λ z. signed_reach z ≤ m) c)
final_owned ls m h = elim (two_cases (list_any is_true ls)) [
  | inl t ↦ subst (λ o. IfSome o (λ c. All (λ z. signed_reach z ≤ m) c)) (sym (final_none ls t)) tt
  | inr f ↦ let final = filter_map signed_variable ls in
      subst (λ o. IfSome o (λ c. All (λ z. signed_reach z ≤ m) c)) (sym (final_some ls f))
      (All-weaker (Contains final) (λ z. signed_reach z ≤ m) (λ z i. let a = variable_from ls z i.0 i.1 i.2 in subst (λ l. lit_reach l ≤ m) a.2 (h a.0 a.1)) final (All-contains_itself final))
]
