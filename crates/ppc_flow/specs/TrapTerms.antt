-- The terms of traps.
use Rattle.std.specs.Prelude.{ℕ, Bool, true, false}
use Rattle.word_kit.specs.Prelude.{bit_of, Operations, FlagMade}
use Rattle.ppc_parts.specs.Prelude.{RowMade, unchanged_term}
use Rattle.ppc_parts.specs.declared.given.GuestIn.{GuestIn}

module _ {W B H : Type 0} (ops : Operations W B H) where
  -- a test counts where it is chosen
  abbrev pub chosen_term : Bool → B → H → FlagMade B H
  chosen_term chosen test h = ops.both_of h (ops.flag_of chosen) test

  abbrev pub chosen_less_term : Bool → W → W → Bool → H → FlagMade B H
  chosen_less_term chosen x y as_signed h = let less = ops.less_of h x y as_signed in chosen_term chosen less.flag less.held

  abbrev pub chosen_equal_term : Bool → W → W → H → FlagMade B H
  chosen_equal_term chosen x y h = let eq = ops.equal_of h x y in chosen_term chosen eq.flag eq.held

  abbrev pub trap_test_term : ℕ → W → W → H → FlagMade B H
  trap_test_term to x y h =
      let less = chosen_less_term (bit_of to 4) x y true h in
      let greater = chosen_less_term (bit_of to 3) y x true less.held in
      let either = ops.either_of greater.held less.flag greater.flag in
      let eq = chosen_equal_term (bit_of to 2) x y either.held in
      let three = ops.either_of eq.held either.flag eq.flag in
      let below = chosen_less_term (bit_of to 1) x y false three.held in
      let four = ops.either_of below.held three.flag below.flag in
      let above = chosen_less_term (bit_of to 0) y x false four.held in
      ops.either_of above.held four.flag above.flag

module _ {A W B H : Type 0} (ops : Operations W B H) where
  abbrev pub trap_term : ℕ → H → GuestIn A W B → RowMade A W B H
  trap_term to h g = let test = trap_test_term ops to g.a g.b h in record { effect = record (unchanged_term ops g) { taken = test.flag }; held = test.held }
