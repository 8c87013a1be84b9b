-- Assignments that fit a circuit.
use Rattle.std.specs.Prelude.{◌≡◌, ℕ, ◌+◌, Bool, not, ◌&&◌, List, slice_get, Some}
use Rattle.word_kit.specs.Prelude.{same, literal_truth}
use Rattle.circuit.specs.Nodes.{AllAgree}
use Rattle.circuit.specs.Types.{Node, Input, And, Xor, Free}

-- w fits every node, and has the truths of v for the inputs
pub record Extends (ns : List Node) (v w : ℕ → Bool) : Type 0 where
  pub agrees : AllAgree ns w
  pub inputs : (k m : ℕ) → slice_get ns k ≡ Some (Input m) → w (k + 1) ≡ v (k + 1)

-- what a gate says of the truth of its variable; product halves and divisions are free
abbrev pub GateSays : Node → Bool → (ℕ → Bool) → Type 0
GateSays (Input n) b v = Unit {0}
GateSays (And x y) b v = b ≡ literal_truth x v && literal_truth y v
GateSays (Xor x y) b v = b ≡ not (same (literal_truth x v) (literal_truth y v))
GateSays (Free word place) b v = Unit {0}

unfoldable pub GatesAgree : List Node → (ℕ → Bool) → Type 0
GatesAgree ns v = (k : ℕ) (n : Node) → slice_get ns k ≡ Some n → GateSays n (v (k + 1)) v
