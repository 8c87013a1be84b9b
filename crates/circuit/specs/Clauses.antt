-- The clauses of gates, and the gates that a clause reaches.
use Rattle.std.specs.Prelude.{◌≡◌, ◌↔◌, ℕ, ◌+◌, Bool, true, false, IsTrue, cond, List, [], ◌∷◌, ◌++◌, Option, None, Some, slice_get, ℤ, pos, neg_ℤ}
use Rattle.std.specs.List.{Any}
use Rattle.word_kit.specs.Prelude.{variable, Satisfies}
use Rattle.circuit.specs.Types.{Node, Input, And, Xor, Free}

-- the signed variables that a gate reads; nothing else is a gate
abbrev pub inputs_of : Node → List ℤ
inputs_of (Input n) = []
inputs_of (And x y) = x ∷ y ∷ []
inputs_of (Xor x y) = x ∷ y ∷ []
inputs_of (Free word place) = []

-- a list of literals has one of this variable
abbrev pub Names : List ℤ → ℕ → Type 0
Names literals k = Any (λ literal. variable literal ≡ k) literals

-- what a clause reaches: its variables, and those that the gate of a reached variable reads
pub data IsReached (ns : List Node) (clause : List ℤ) : ℕ → Type 0 where
  named : (k : ℕ) → Names clause k → IsReached ns clause k
  read : (k j : ℕ) (n : Node) → IsReached ns clause (j + 1) → slice_get ns j ≡ Some n → Names (inputs_of n) k → IsReached ns clause k

-- The clauses by which the variable v has the truth of its gate, after Tseitin. None ties an input, a product half or a division.
abbrev pub gate_clauses : ℤ → Node → List (List ℤ)
gate_clauses v (Input n) = []
gate_clauses v (And x y) =
    (neg_ℤ v ∷ x ∷ [])
    ∷ (neg_ℤ v ∷ y ∷ [])
    ∷ (v ∷ neg_ℤ x ∷ neg_ℤ y ∷ [])
    ∷ []
gate_clauses v (Xor x y) =
    (neg_ℤ v ∷ x ∷ y ∷ [])
    ∷ (neg_ℤ v ∷ neg_ℤ x ∷ neg_ℤ y ∷ [])
    ∷ (v ∷ neg_ℤ x ∷ y ∷ [])
    ∷ (v ∷ x ∷ neg_ℤ y ∷ [])
    ∷ []
gate_clauses v (Free word place) = []

-- the clauses of the nodes whose variables are chosen, by rising variable; the first node has the variable v
unfoldable pub chosen_clauses : (ℕ → Bool) → ℕ → List Node → List (List ℤ)
chosen_clauses chosen v [] = []
chosen_clauses chosen v (n ∷ ns) = cond (chosen v) (gate_clauses (pos v) n) [] ++ chosen_clauses chosen (v + 1) ns

-- The clauses of every gate that the final clause reaches, by rising variable, and then the final clause. There are none where
-- there is no final clause.
abbrev pub AreClausesFor : List Node → Option (List ℤ) → List (List ℤ) → Type 0
AreClausesFor ns None clauses = clauses ≡ []
AreClausesFor ns (Some final) clauses =
    (reached : ℕ → Bool) × ((k : ℕ) → IsTrue (reached k) ↔ IsReached ns final k) × (clauses ≡ chosen_clauses reached 1 ns ++ final ∷ [])

abbrev pub is_gate : Node → Bool
is_gate (Input n) = false
is_gate (And x y) = true
is_gate (Xor x y) = true
is_gate (Free word place) = false

-- w satisfies the clauses of every gate, and has the truths of v for all that is no gate
pub record SatisfiesGates (ns : List Node) (v w : ℕ → Bool) : Type 0 where
  pub satisfies : Satisfies w (chosen_clauses (λ k. true) 1 ns)
  pub untied : (k : ℕ) (n : Node) → slice_get ns k ≡ Some n → is_gate n ≡ false → w (k + 1) ≡ v (k + 1)
