-- The terms of products and quotients. The dividend's high word is copies of its sign, or 0.
use Rattle.std.specs.Prelude.{Bool, true, false}
use Rattle.word_kit.specs.Prelude.{Operations, WordMade}
use Rattle.ppc_isa.specs.declared.instr.ArithmeticOp.{ArithmeticOp}
use Rattle.ppc_isa.specs.declared.instr.ArithmeticOp.TheVariants.{Mullw, Mulhw, Mulhwu, Divw, Divwu}
use Rattle.ppc_isa.specs.declared.instr.ImmediateOp.{ImmediateOp}
use Rattle.ppc_isa.specs.declared.instr.ImmediateOp.TheVariants.{Mulli}
use Rattle.ppc_parts.specs.Prelude.{RowMade, gives_d_term}
use Rattle.ppc_parts.specs.declared.given.GuestIn.{GuestIn}

-- the rows whose results nothing ties to their operands
abbrev pub is_product : ArithmeticOp → Bool
is_product Mullw = true
is_product Mulhw = true
is_product Mulhwu = true
is_product Divw = true
is_product Divwu = true
is_product _ = false

abbrev pub is_immediate_product : ImmediateOp → Bool
is_immediate_product Mulli = true
is_immediate_product _ = false

module _ {W B H : Type 0} (ops : Operations W B H) where
  abbrev pub signed_quotient_term : W → W → H → WordMade W H
  signed_quotient_term x y h =
      let signs = ops.shift_arith_of h x (ops.lit_of 31) in
      let made = ops.div_of signs.held signs.word x y true in
      record { word = made.quotient; held = made.held }

  abbrev pub unsigned_quotient_term : W → W → H → WordMade W H
  unsigned_quotient_term x y h = let made = ops.div_of h (ops.lit_of 0) x y false in record { word = made.quotient; held = made.held }

module _ {A W B H : Type 0} (ops : Operations W B H) where
  abbrev pub product_term : Bool → H → GuestIn A W B → RowMade A W B H
  product_term records h g = let made = ops.mul_low_of h g.a g.b in gives_d_term ops records made.word made.held g

  abbrev pub high_product_term : Bool → Bool → H → GuestIn A W B → RowMade A W B H
  high_product_term as_signed records h g = let made = ops.mul_high_of h g.a g.b as_signed in gives_d_term ops records made.word made.held g

  abbrev pub divw_term : Bool → H → GuestIn A W B → RowMade A W B H
  divw_term records h g = let made = signed_quotient_term ops g.a g.b h in gives_d_term ops records made.word made.held g

  abbrev pub divwu_term : Bool → H → GuestIn A W B → RowMade A W B H
  divwu_term records h g = let made = unsigned_quotient_term ops g.a g.b h in gives_d_term ops records made.word made.held g
