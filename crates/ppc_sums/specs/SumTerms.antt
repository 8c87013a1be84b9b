-- The terms of sums.
use Rattle.std.specs.Prelude.{Bool}
use Rattle.word_kit.specs.Prelude.{Operations}
use Rattle.ppc_parts.specs.Prelude.{RowMade, gives_d_term, with_xer}
use Rattle.ppc_parts.specs.declared.given.GuestIn.{GuestIn}

module _ {A W B H : Type 0} (ops : Operations W B H) where
  abbrev pub sum_term : Bool → W → W → B → H → GuestIn A W B → RowMade A W B H
  sum_term records x y c h g = let sum = ops.add_of h x y c in gives_d_term ops records sum.word sum.held g

  abbrev pub sum_carrying_term : Bool → W → W → B → H → GuestIn A W B → RowMade A W B H
  sum_carrying_term records x y c h g =
      let sum = ops.add_of h x y c in
      with_xer ops (ops.put_bit_of g.xer 29 sum.carry) (gives_d_term ops records sum.word sum.held g)

  abbrev pub ca_term : GuestIn A W B → B
  ca_term g = ops.bit_of g.xer 29
