-- The terms of accesses.
use Rattle.std.specs.Prelude.{ℕ, false}
use Rattle.word_kit.specs.Prelude.{Operations}
use Rattle.ppc_parts.specs.Prelude.{RowMade, unchanged_term}
use Rattle.ppc_parts.specs.declared.given.Access.TheVariants.{Load, Store}
use Rattle.ppc_parts.specs.declared.given.GuestIn.{GuestIn}

module _ {W B H : Type 0} (ops : Operations W B H) where
  abbrev pub reversed_term : W → W
  reversed_term x = ops.join_of (ops.byte_of x 0) (ops.byte_of x 1) (ops.byte_of x 2) (ops.byte_of x 3)

  abbrev pub half_reversed_term : W → W
  half_reversed_term x = ops.join_of (ops.lit_of 0) (ops.lit_of 0) (ops.byte_of x 0) (ops.byte_of x 1)

  abbrev pub low_byte_term : W → W
  low_byte_term x = ops.join_of (ops.lit_of 0) (ops.lit_of 0) (ops.lit_of 0) (ops.byte_of x 0)

  abbrev pub low_half_term : W → W
  low_half_term x = ops.join_of (ops.lit_of 0) (ops.lit_of 0) (ops.byte_of x 1) (ops.byte_of x 0)

module _ {A W B H : Type 0} (ops : Operations W B H) where
  abbrev pub load_term : ℕ → W → W → H → GuestIn A W B → RowMade A W B H
  load_term width base result h g =
      let address = ops.add_of h base g.b (ops.flag_of false) in
      record { effect = record (unchanged_term ops g) { d = result; address = address.word; width = width; kind = Load }; held = address.held }

  abbrev pub store_term : ℕ → W → W → H → GuestIn A W B → RowMade A W B H
  store_term width base number h g =
      let address = ops.add_of h base g.b (ops.flag_of false) in
      record { effect = record (unchanged_term ops g) { address = address.word; stored = number; width = width; kind = Store }; held = address.held }

  -- rA gets the address
  abbrev pub update_term : RowMade A W B H → RowMade A W B H
  update_term made = record made { effect = record made.effect { a = made.effect.address } }
