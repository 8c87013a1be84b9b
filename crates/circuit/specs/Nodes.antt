-- What the variables of a circuit stand for: the variable k + 1 has the node at k.
use Rattle.std.specs.Prelude.{◌≡◌, ◌≤◌, ℕ, ◌+◌, Bool, true, false, not, ◌&&◌, List, [], ◌∷◌, max, slice_get, Some}
use Rattle.word_kit.specs.Prelude.{one_if, same, bit_of, product_low, product_high, quotient, remainder, divide_faults, literal_truth}
use Rattle.circuit.specs.Literals.{signed_reach, word_value, word_reach_below}
use Rattle.circuit.specs.Types.{FreeWord, ProductLow, ProductHigh, Quotient, Remainder, DivideFaults, Node, Input, And, Xor, Free}

-- the number that a word free of gates is to be
abbrev pub free_value : FreeWord → (ℕ → Bool) → ℕ
free_value (ProductLow x y) v = product_low (word_value 32 x v) (word_value 32 y v)
free_value (ProductHigh signed x y) v = product_high (word_value 32 x v) (word_value 32 y v) signed
free_value (Quotient signed high low by) v = quotient (word_value 32 high v) (word_value 32 low v) (word_value 32 by v) signed
free_value (Remainder signed high low by) v = remainder (word_value 32 high v) (word_value 32 low v) (word_value 32 by v) signed
free_value (DivideFaults signed high low by) v = one_if (divide_faults (word_value 32 high v) (word_value 32 low v) (word_value 32 by v) signed)

-- the highest variable that its operands name
abbrev pub free_reach : FreeWord → ℕ
free_reach (ProductLow x y) = max (word_reach_below 32 x) (word_reach_below 32 y)
free_reach (ProductHigh signed x y) = max (word_reach_below 32 x) (word_reach_below 32 y)
free_reach (Quotient signed high low by) = max (word_reach_below 32 high) (max (word_reach_below 32 low) (word_reach_below 32 by))
free_reach (Remainder signed high low by) = max (word_reach_below 32 high) (max (word_reach_below 32 low) (word_reach_below 32 by))
free_reach (DivideFaults signed high low by) = max (word_reach_below 32 high) (max (word_reach_below 32 low) (word_reach_below 32 by))

-- what a node says of the truth of its variable
abbrev pub Says : Node → Bool → (ℕ → Bool) → Type 0
Says (Input n) b v = Unit {0}
Says (And x y) b v = b ≡ literal_truth x v && literal_truth y v
Says (Xor x y) b v = b ≡ not (same (literal_truth x v) (literal_truth y v))
Says (Free word place) b v = b ≡ bit_of (free_value word v) place

-- the truths of the variables fit every gate, and each product half and division has its values
unfoldable pub AllAgree : List Node → (ℕ → Bool) → Type 0
AllAgree ns v = (k : ℕ) (n : Node) → slice_get ns k ≡ Some n → Says n (v (k + 1)) v

-- the node of a place is an input
unfoldable pub IsInput : List Node → ℕ → Type 0
IsInput ns k = slice_get ns k ≡ Some (Input k)

-- the highest variable that a node reads
abbrev pub node_reach : Node → ℕ
node_reach (Input n) = 0
node_reach (And x y) = max (signed_reach x) (signed_reach y)
node_reach (Xor x y) = max (signed_reach x) (signed_reach y)
node_reach (Free word place) = free_reach word

-- the place that a node says it has; only an input says one
abbrev pub told_place : Node → ℕ → ℕ
told_place (Input n) k = n
told_place (And x y) k = k
told_place (Xor x y) k = k
told_place (Free word place) k = k

-- each node reads earlier variables alone, and each input knows its place
pub record IsOrdered (ns : List Node) : Type 0 where
  pub reads : (k : ℕ) (n : Node) → slice_get ns k ≡ Some n → node_reach n ≤ k
  pub places : (k : ℕ) (n : Node) → slice_get ns k ≡ Some n → told_place n k ≡ k

-- neither an input nor a gate
abbrev pub is_free : Node → Bool
is_free (Input n) = false
is_free (And x y) = false
is_free (Xor x y) = false
is_free (Free word place) = true

unfoldable pub free_count : List Node → ℕ
free_count [] = 0
free_count (n ∷ ns) = one_if (is_free n) + free_count ns
