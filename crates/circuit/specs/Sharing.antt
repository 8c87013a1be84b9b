-- Each gate, product and division of a circuit is there once.
use Rattle.std.specs.Prelude.{◌≡◌, ◌≢◌, ◌⊎◌, ℕ, List, slice_get, Some}
use Rattle.circuit.specs.Types.{FreeWord, ProductLow, ProductHigh, Quotient, Remainder, DivideFaults, Node, Input, And, Xor, Free}

-- the same word, with the factors of a product in the other order
abbrev pub swapped_word : FreeWord → FreeWord
swapped_word (ProductLow x y) = ProductLow y x
swapped_word (ProductHigh signed x y) = ProductHigh signed y x
swapped_word (Quotient signed high low by) = Quotient signed high low by
swapped_word (Remainder signed high low by) = Remainder signed high low by
swapped_word (DivideFaults signed high low by) = DivideFaults signed high low by

abbrev pub swapped : Node → Node
swapped (Input n) = Input n
swapped (And x y) = And x y
swapped (Xor x y) = Xor x y
swapped (Free word place) = Free (swapped_word word) place

abbrev pub IsThere : List Node → Node → Type 0
IsThere ns n = (k : ℕ) × (slice_get ns k ≡ Some n)

-- where the word with its factors in the other order is another one, no bit of it is there
abbrev pub IsApart : List Node → Node → Type 0
IsApart ns (Input n) = Unit {0}
IsApart ns (And x y) = Unit {0}
IsApart ns (Xor x y) = Unit {0}
IsApart ns (Free word place) = swapped_word word ≢ word → (bit : ℕ) → ¬ IsThere ns (Free (swapped_word word) bit)

-- it is the lowest bit of a word, or that is there
abbrev pub IsBegun : List Node → Node → Type 0
IsBegun ns (Input n) = Unit {0}
IsBegun ns (And x y) = Unit {0}
IsBegun ns (Xor x y) = Unit {0}
IsBegun ns (Free word place) = (place ≡ 0) ⊎ IsThere ns (Free word 0)

-- a product is there in one order of its factors alone, and no bit of a word comes before its lowest
pub record IsShared (ns : List Node) : Type 0 where
  pub apart : (word : FreeWord) (place bit : ℕ) → swapped_word word ≢ word → IsThere ns (Free word place) → ¬ IsThere ns (Free (swapped_word word) bit)
  pub begun : (word : FreeWord) (place : ℕ) → ¬ IsThere ns (Free word 0) → ¬ IsThere ns (Free word place)

-- equal gates, bits of products of the same pair of words in either order, and bits of divisions of the same words have the
-- same variable
abbrev pub IsOneOfEach : List Node → Type 0
IsOneOfEach ns = (j k : ℕ) (n m : Node) → slice_get ns j ≡ Some n → slice_get ns k ≡ Some m → (m ≡ n) ⊎ (m ≡ swapped n) → j ≡ k
