-- The terms of what rows and ops read of places, and of what they put there.
use Rattle.std.specs.Prelude.{ℕ, ◌+◌, ◌-◌, ◌==◌, if◌then◌else◌, true, false, List, [], Option, Some, None, slice_index_or, slice_set}
use Rattle.word_kit.specs.Prelude.{Operations, WordMade}
use Rattle.circuit.specs.declared.literals.Lit.{Lit}
use Rattle.ppc_parts.specs.Prelude.{extended_term}
use Rattle.rule_body.specs.declared.line.Hole.{Hole}
use Rattle.rule_body.specs.declared.line.Hole.TheVariants.{S, Z, H as Upper, N}
use Rattle.access_circuits.specs.Terms.{bytes_term, little_term}
use Rattle.place_circuits.specs.declared.constants.Number.{Number}
use Rattle.place_circuits.specs.declared.constants.Number.TheVariants.{Written, Filled}
use Rattle.place_circuits.specs.declared.fields.Field.{Field}
use Rattle.place_circuits.specs.declared.places.Places.{Places}
use Rattle.place_circuits.specs.declared.results.Results.{Results}
use Rattle.place_circuits.specs.declared.results.Results.TheVariants.{Nowhere, Into, Lowest as LowestOf, Bytes as BytesOf, Both, High, Store}
use Rattle.place_circuits.specs.declared.sources.Address.{Address}
use Rattle.place_circuits.specs.declared.sources.Source.{Source}
use Rattle.place_circuits.specs.declared.sources.Source.TheVariants.{Zero, Place, Lowest, Bytes, Own, Sum}

abbrev pub place_at : Places → ℕ → List Lit
place_at places k = slice_index_or places.words k []

abbrev pub put_term : ℕ → List Lit → Places → Places
put_term k x places = record { words = slice_set places.words k x }

module _ {H : Type 0} (ops : Operations (List Lit) Lit H) where
  -- a number that takes no gate
  abbrev pub as_is : List Lit → H → WordMade (List Lit) H
  as_is x h = record { word = x; held = h }

  -- the lowest 16 bits as they fill a hole: n is 0 less the constant
  abbrev pub filled_term : Hole → List Lit → H → WordMade (List Lit) H
  filled_term S c h = extended_term ops c 16 h
  filled_term Z c h = as_is (ops.join_of (ops.lit_of 0) (ops.lit_of 0) (ops.byte_of c 1) (ops.byte_of c 0)) h
  filled_term Upper c h = as_is (ops.join_of (ops.byte_of c 1) (ops.byte_of c 0) (ops.lit_of 0) (ops.lit_of 0)) h
  filled_term N c h =
      let extended = extended_term ops c 16 h in
      let negated = ops.add_of extended.held (ops.lit_of 0) (ops.not_of extended.word) (ops.flag_of true) in
      as_is negated.word negated.held

  abbrev pub number_term : Number → Places → H → WordMade (List Lit) H
  number_term (Written n) places h = as_is (ops.lit_of n) h
  number_term (Filled hole place) places h = filled_term hole (place_at places place) h

  -- the bits above are shifted out to the left, and those below to the right
  abbrev pub field_term : Field → Places → H → WordMade (List Lit) H
  field_term field places h =
      let raised = ops.shift_left_of h (place_at places field.place) (ops.lit_of (32 - field.low - field.count)) in
      ops.shift_right_of raised.held raised.word (ops.lit_of (32 - field.count))

  abbrev pub sum_of_two : List Lit → List Lit → H → WordMade (List Lit) H
  sum_of_two x y h = let sum = ops.add_of h x y (ops.flag_of false) in as_is sum.word sum.held

  -- the base, and with an index the sum of the base and the index, shifted
  abbrev pub indexed_term : ℕ → Option (ℕ × ℕ) → Places → H → WordMade (List Lit) H
  indexed_term base None places h = as_is (place_at places base) h
  indexed_term base (Some index) places h =
      let shifted = ops.shift_left_of h (place_at places index.0) (ops.lit_of index.1) in
      sum_of_two (place_at places base) shifted.word shifted.held

  -- an address: first the displacement, then the base with the index, then their sum
  abbrev pub address_term : Address → Places → H → WordMade (List Lit) H
  address_term a places h =
      let displacement = number_term a.displacement places h in
      let from = indexed_term a.base a.index places displacement.held in
      sum_of_two from.word displacement.word from.held

  abbrev pub lowest_term : List Lit → ℕ → List Lit
  lowest_term x width = little_term ops (bytes_term ops x) width

  -- bytes at places one after another, the lowest first
  abbrev pub joined_term : ℕ → ℕ → Places → List Lit
  joined_term first width places =
      if width == 1 then ops.join_of (ops.lit_of 0) (ops.lit_of 0) (ops.lit_of 0) (place_at places first)
      else if width == 2 then ops.join_of (ops.lit_of 0) (ops.lit_of 0) (place_at places (first + 1)) (place_at places first)
      else ops.join_of (place_at places (first + 3)) (place_at places (first + 2)) (place_at places (first + 1)) (place_at places first)

  abbrev pub source_term : Source → Places → H → WordMade (List Lit) H
  source_term Zero places h = as_is (ops.lit_of 0) h
  source_term (Place p) places h = as_is (place_at places p) h
  source_term (Lowest p width) places h = as_is (lowest_term (place_at places p) width) h
  source_term (Bytes first width) places h = as_is (joined_term first width places) h
  source_term (Own n) places h = number_term n places h
  source_term (Sum a) places h = address_term a places h

  -- a word with its lowest bytes replaced by those of another
  abbrev pub replaced_term : ℕ → List Lit → List Lit → List Lit
  replaced_term width x old =
      if width == 1 then ops.join_of (ops.byte_of old 3) (ops.byte_of old 2) (ops.byte_of old 1) (ops.byte_of x 0)
      else if width == 2 then ops.join_of (ops.byte_of old 3) (ops.byte_of old 2) (ops.byte_of x 1) (ops.byte_of x 0)
      else x

  -- the lowest bytes of a word at places one after another
  abbrev pub bytes_put_term : ℕ → ℕ → List Lit → Places → Places
  bytes_put_term first width x places =
      let one = put_term first (ops.byte_of x 0) places in
      let two = put_term (first + 1) (ops.byte_of x 1) one in
      if width == 1 then one else if width == 2 then two else put_term (first + 3) (ops.byte_of x 3) (put_term (first + 2) (ops.byte_of x 2) two)

  abbrev pub results_term : Results → List Lit → List Lit → Places → Places
  results_term Nowhere x high places = places
  results_term (Into p) x high places = put_term p x places
  results_term (LowestOf p width) x high places = put_term p (replaced_term width x (place_at places p)) places
  results_term (BytesOf first width) x high places = bytes_put_term first width x places
  results_term (Both p q) x high places = put_term q high (put_term p x places)
  results_term (High q) x high places = put_term q high places
  results_term (Store a width) x high places = places
