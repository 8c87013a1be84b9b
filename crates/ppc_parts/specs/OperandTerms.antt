-- The terms of operands that several rows make.
use Rattle.std.specs.Prelude.{ℕ, cond, eqb}
use Rattle.word_kit.specs.Prelude.{Operations, WordMade}
use Rattle.ppc_parts.specs.declared.given.GuestIn.{GuestIn}

module _ {W B H : Type 0} (ops : Operations W B H) where
  -- the bytes above come from the sign: to the left and back
  abbrev pub extended_term : W → ℕ → H → WordMade W H
  extended_term x count h =
      let up = ops.shift_left_of h x (ops.lit_of count) in
      ops.shift_arith_of up.held up.word (ops.lit_of count)

module _ {A W B H : Type 0} (ops : Operations W B H) where
  abbrev pub base_term : ℕ → GuestIn A W B → W
  base_term a g = cond (eqb a 0) (ops.lit_of 0) g.a
