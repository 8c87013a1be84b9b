-- The terms of bytes: of words in either order, of new inputs, and of accesses that are to be the same.
use Rattle.std.specs.Prelude.{ℕ, zero, suc, ◌+◌, ◌-◌, ◌*◌, ◌/◌, ◌%◌, ◌==◌, ◌&&◌, if◌then◌else◌, Bool, true, List, [], ◌∷◌, ◌++◌, length, get_or, slice_index_or}
use Rattle.word_kit.specs.Prelude.{Operations, same}
use Rattle.circuit.specs.Prelude.{at}
use Rattle.circuit.specs.declared.literals.Lit.{Lit}
use Rattle.circuit.specs.declared.nodes.Node.{Node}
use Rattle.chosen_inputs.specs.Inputs.{with_inputs, word_of_inputs}
use Rattle.chosen_inputs.specs.Pairs.{bit_pairs}
use Rattle.access_circuits.specs.Lists.{no_words}
use Rattle.access_circuits.specs.declared.accesses.AccessWords.{AccessWords}

-- the byte of a place
abbrev pub byte_at : List (List Lit) → ℕ → List Lit
byte_at bytes k = slice_index_or bytes k []

module _ {H : Type 0} (ops : Operations (List Lit) Lit H) where
  -- the first byte is the highest one
  abbrev pub big_term : List (List Lit) → ℕ → List Lit
  big_term bytes width =
      if width == 4 then ops.join_of (byte_at bytes 0) (byte_at bytes 1) (byte_at bytes 2) (byte_at bytes 3)
      else if width == 2 then ops.join_of (ops.lit_of 0) (ops.lit_of 0) (byte_at bytes 0) (byte_at bytes 1)
      else ops.join_of (ops.lit_of 0) (ops.lit_of 0) (ops.lit_of 0) (byte_at bytes 0)

  -- the first byte is the lowest one
  abbrev pub little_term : List (List Lit) → ℕ → List Lit
  little_term bytes width =
      if width == 4 then ops.join_of (byte_at bytes 3) (byte_at bytes 2) (byte_at bytes 1) (byte_at bytes 0)
      else if width == 2 then ops.join_of (ops.lit_of 0) (ops.lit_of 0) (byte_at bytes 1) (byte_at bytes 0)
      else ops.join_of (ops.lit_of 0) (ops.lit_of 0) (ops.lit_of 0) (byte_at bytes 0)

  -- the bytes of a word, the lowest first
  abbrev pub bytes_term : List Lit → List (List Lit)
  bytes_term x = ops.byte_of x 0 ∷ ops.byte_of x 1 ∷ ops.byte_of x 2 ∷ ops.byte_of x 3 ∷ []

pub record BytesMade : Type 0 where
  pub bytes : List (List Lit)
  pub held : List Node

abbrev pub input_byte : List Node → List Lit
input_byte h = word_of_inputs (length h) 8

-- four bytes of new inputs, one after another
abbrev pub input_bytes_term : List Node → BytesMade
input_bytes_term h =
    let one = with_inputs 8 h in
    let two = with_inputs 8 one in
    let three = with_inputs 8 two in
    record { bytes = input_byte h ∷ input_byte one ∷ input_byte two ∷ input_byte three ∷ []; held = with_inputs 8 three }

-- the accesses go the same way and are as wide
abbrev pub is_shaped_alike : AccessWords → AccessWords → Bool
is_shaped_alike x y = same x.loads y.loads && x.width == y.width

-- the first n accesses are so
unfoldable pub are_shaped_alike : ℕ → List AccessWords → List AccessWords → Bool
are_shaped_alike zero xs ys = true
are_shaped_alike (suc n) xs ys = are_shaped_alike n xs ys && is_shaped_alike (get_or xs n no_words) (get_or ys n no_words)

abbrev pub have_same_shapes : List AccessWords → List AccessWords → Bool
have_same_shapes xs ys = length xs == length ys && are_shaped_alike (length xs) xs ys

-- The place of the bit that comes as number k where the highest byte comes first, and of each byte the lowest bit.
abbrev pub stored_place : ℕ → ℕ
stored_place k = 24 - k / 8 * 8 + k % 8

-- the pairs of the first n bits that are stored, in the order of their bytes' addresses
unfoldable pub byte_pairs : ℕ → List Lit → List Lit → List (Lit × Lit)
byte_pairs zero x y = []
byte_pairs (suc n) x y = byte_pairs n x y ++ (at x (stored_place n), at y (stored_place n)) ∷ []

-- of each of the first n accesses the pairs of the address and of the stored bytes
abbrev pub pairs_of_access : AccessWords → AccessWords → List (Lit × Lit)
pairs_of_access x y = bit_pairs 32 x.address y.address ++ byte_pairs 32 x.stored y.stored

unfoldable pub access_pairs : ℕ → List AccessWords → List AccessWords → List (Lit × Lit)
access_pairs zero xs ys = []
access_pairs (suc n) xs ys = access_pairs n xs ys ++ pairs_of_access (get_or xs n no_words) (get_or ys n no_words)
