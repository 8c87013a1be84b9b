-- The terms of shifts, rotates, counts and extensions. An amount of six bits: bit 5 is looked at apart.
use Rattle.std.specs.Prelude.{ℕ, zero, suc, ◌-◌, Bool}
use Rattle.word_kit.specs.Prelude.{mask, Operations, WordMade, FlagMade, complement}
use Rattle.ppc_isa.specs.declared.instr.LogicUnaryOp.{LogicUnaryOp}
use Rattle.ppc_isa.specs.declared.instr.LogicUnaryOp.TheVariants.{Cntlzw, Extsb, Extsh}
use Rattle.ppc_isa.specs.declared.instr.RotateOp.{RotateOp}
use Rattle.ppc_isa.specs.declared.instr.RotateOp.TheVariants.{Rlwinm, Rlwnm, Rlwimi}
use Rattle.ppc_parts.specs.Prelude.{RowMade, extended_term, gives_a_term, with_xer}
use Rattle.ppc_parts.specs.declared.given.GuestIn.{GuestIn}

module _ {W B H : Type 0} (ops : Operations W B H) where
  -- by six bits of an amount
  abbrev pub left_term : W → W → H → WordMade W H
  left_term x by h = let near = ops.shift_left_of h x by in ops.pick_of near.held (ops.bit_of by 5) (ops.lit_of 0) near.word

  abbrev pub right_term : W → W → H → WordMade W H
  right_term x by h = let near = ops.shift_right_of h x by in ops.pick_of near.held (ops.bit_of by 5) (ops.lit_of 0) near.word

  abbrev pub arith_term : W → W → H → WordMade W H
  arith_term x by h =
      let near = ops.shift_arith_of h x by in
      let signs = ops.shift_arith_of near.held x (ops.lit_of 31) in
      ops.pick_of signs.held (ops.bit_of by 5) signs.word near.word

  -- left and right again by n loses ones of a negative word
  abbrev pub lost_term : W → W → H → FlagMade B H
  lost_term s kept h = let eq = ops.equal_of h kept s in ops.both_of eq.held (ops.bit_of s 31) (ops.flip_of eq.flag)

  -- from the lowest place up, each 1 stands for 31 less its place
  unfoldable pub zeros_term : ℕ → W → H → WordMade W H
  zeros_term zero x h = record { word = ops.lit_of 32; held = h }
  zeros_term (suc n) x h = let below = zeros_term n x h in ops.pick_of below.held (ops.bit_of x n) (ops.lit_of (31 - n)) below.word

module _ {A W B H : Type 0} (ops : Operations W B H) where
  abbrev pub slw_term : Bool → H → GuestIn A W B → RowMade A W B H
  slw_term records h g = let made = left_term ops g.s g.b h in gives_a_term ops records made.word made.held g

  abbrev pub srw_term : Bool → H → GuestIn A W B → RowMade A W B H
  srw_term records h g = let made = right_term ops g.s g.b h in gives_a_term ops records made.word made.held g

  -- a shifted word, and the word that was shifted back
  abbrev pub algebraic_term : Bool → W → W → H → GuestIn A W B → RowMade A W B H
  algebraic_term records shifted kept h g =
      let lost = lost_term ops g.s kept h in
      with_xer ops (ops.put_bit_of g.xer 29 lost.flag) (gives_a_term ops records shifted lost.held g)

  abbrev pub srawi_term : ℕ → Bool → H → GuestIn A W B → RowMade A W B H
  srawi_term by records h g =
      let shifted = ops.shift_arith_of h g.s (ops.lit_of by) in
      let kept = ops.shift_left_of shifted.held shifted.word (ops.lit_of by) in
      algebraic_term records shifted.word kept.word kept.held g

  abbrev pub sraw_term : Bool → H → GuestIn A W B → RowMade A W B H
  sraw_term records h g =
      let shifted = arith_term ops g.s g.b h in
      let kept = left_term ops shifted.word g.b shifted.held in
      algebraic_term records shifted.word kept.word kept.held g

  abbrev pub masked_term : W → ℕ → ℕ → Bool → H → GuestIn A W B → RowMade A W B H
  masked_term by mb me records h g =
      let turned = ops.rotate_of h g.s by in
      let made = ops.and_of turned.held turned.word (ops.lit_of (mask mb me)) in
      gives_a_term ops records made.word made.held g

  abbrev pub inserted_term : W → ℕ → ℕ → Bool → H → GuestIn A W B → RowMade A W B H
  inserted_term by mb me records h g =
      let turned = ops.rotate_of h g.s by in
      let inside = ops.and_of turned.held turned.word (ops.lit_of (mask mb me)) in
      let outside = ops.and_of inside.held g.a (ops.lit_of (complement (mask mb me))) in
      let made = ops.or_of outside.held inside.word outside.word in
      gives_a_term ops records made.word made.held g

  abbrev pub rotate_term : RotateOp → ℕ → ℕ → ℕ → Bool → H → GuestIn A W B → RowMade A W B H
  rotate_term Rlwinm by mb me records h g = masked_term (ops.lit_of by) mb me records h g
  rotate_term Rlwnm by mb me records h g = masked_term g.b mb me records h g
  rotate_term Rlwimi by mb me records h g = inserted_term (ops.lit_of by) mb me records h g

  abbrev pub cntlzw_term : Bool → H → GuestIn A W B → RowMade A W B H
  cntlzw_term records h g = let made = zeros_term ops 32 g.s h in gives_a_term ops records made.word made.held g

  abbrev pub exts_term : ℕ → Bool → H → GuestIn A W B → RowMade A W B H
  exts_term count records h g = let made = extended_term ops g.s count h in gives_a_term ops records made.word made.held g

  abbrev pub logic_unary_term : LogicUnaryOp → Bool → H → GuestIn A W B → RowMade A W B H
  logic_unary_term Cntlzw records h g = cntlzw_term records h g
  logic_unary_term Extsb records h g = exts_term 24 records h g
  logic_unary_term Extsh records h g = exts_term 16 records h g
