-- The variables of new inputs.
use Rattle.std.specs.Prelude.{ℕ, zero, suc, ◌+◌, false, if◌then◌else◌, nat_lt, List, [], ◌∷◌, ◌++◌, length, pos}
use Rattle.circuit.specs.Prelude.{word_of}
use Rattle.circuit.specs.declared.literals.Lit.{Lit}
use Rattle.circuit.specs.declared.literals.Lit.TheVariants.{Const, Var}
use Rattle.circuit.specs.declared.nodes.Node.{Node}
use Rattle.circuit.specs.declared.nodes.Node.TheVariants.{Input}

-- the nodes, and behind them so many inputs
unfoldable pub with_inputs : ℕ → List Node → List Node
with_inputs zero ns = ns
with_inputs (suc n) ns = let before = with_inputs n ns in before ++ Input (length before) ∷ []

-- the literal of a place of a word whose lowest bits are the inputs behind so many variables, and whose other bits are zeros
abbrev pub input_bit : ℕ → ℕ → ℕ → Lit
input_bit before bits k = if nat_lt k bits then Var (pos (before + k + 1)) else Const false

abbrev pub word_of_inputs : ℕ → ℕ → List Lit
word_of_inputs before bits = word_of (input_bit before bits) 32
