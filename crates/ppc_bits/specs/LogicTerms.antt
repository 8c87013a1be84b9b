-- The terms of logic. Complements come after the operation, or before it of rB alone.
use Rattle.std.specs.Prelude.{Bool, true, false}
use Rattle.word_kit.specs.Prelude.{Operations}
use Rattle.ppc_isa.specs.declared.instr.LogicImmediateOp.{LogicImmediateOp}
use Rattle.ppc_isa.specs.declared.instr.LogicImmediateOp.TheVariants.{Ori, Oris, Xori, Xoris, Andi, Andis}
use Rattle.ppc_isa.specs.declared.instr.LogicOp.{LogicOp}
use Rattle.ppc_isa.specs.declared.instr.LogicOp.TheVariants.{And, Or, Xor, Nand, Nor, Eqv, Andc, Orc, Slw, Srw, Sraw}
use Rattle.ppc_parts.specs.Prelude.{RowMade, gives_a_term}
use Rattle.ppc_parts.specs.declared.given.GuestIn.{GuestIn}
use Rattle.ppc_bits.specs.ShiftTerms.{slw_term, srw_term, sraw_term}

module _ {A W B H : Type 0} (ops : Operations W B H) where
  abbrev pub and_term : Bool → W → W → H → GuestIn A W B → RowMade A W B H
  and_term records x y h g = let made = ops.and_of h x y in gives_a_term ops records made.word made.held g

  abbrev pub or_term : Bool → W → W → H → GuestIn A W B → RowMade A W B H
  or_term records x y h g = let made = ops.or_of h x y in gives_a_term ops records made.word made.held g

  abbrev pub xor_term : Bool → W → W → H → GuestIn A W B → RowMade A W B H
  xor_term records x y h g = let made = ops.xor_of h x y in gives_a_term ops records made.word made.held g

  abbrev pub nand_term : Bool → H → GuestIn A W B → RowMade A W B H
  nand_term records h g = let made = ops.and_of h g.s g.b in gives_a_term ops records (ops.not_of made.word) made.held g

  abbrev pub nor_term : Bool → H → GuestIn A W B → RowMade A W B H
  nor_term records h g = let made = ops.or_of h g.s g.b in gives_a_term ops records (ops.not_of made.word) made.held g

  abbrev pub eqv_term : Bool → H → GuestIn A W B → RowMade A W B H
  eqv_term records h g = let made = ops.xor_of h g.s g.b in gives_a_term ops records (ops.not_of made.word) made.held g

  abbrev pub logic_immediate_term : LogicImmediateOp → H → GuestIn A W B → RowMade A W B H
  logic_immediate_term Ori h g = or_term false g.s g.b h g
  logic_immediate_term Oris h g = or_term false g.s g.b h g
  logic_immediate_term Xori h g = xor_term false g.s g.b h g
  logic_immediate_term Xoris h g = xor_term false g.s g.b h g
  logic_immediate_term Andi h g = and_term true g.s g.b h g
  logic_immediate_term Andis h g = and_term true g.s g.b h g

module _ {A W B H : Type 0} (ops : Operations W B H) where
  abbrev pub logic_term : LogicOp → Bool → H → GuestIn A W B → RowMade A W B H
  logic_term And records h g = and_term ops records g.s g.b h g
  logic_term Or records h g = or_term ops records g.s g.b h g
  logic_term Xor records h g = xor_term ops records g.s g.b h g
  logic_term Nand records h g = nand_term ops records h g
  logic_term Nor records h g = nor_term ops records h g
  logic_term Eqv records h g = eqv_term ops records h g
  logic_term Andc records h g = and_term ops records g.s (ops.not_of g.b) h g
  logic_term Orc records h g = or_term ops records g.s (ops.not_of g.b) h g
  logic_term Slw records h g = slw_term ops records h g
  logic_term Srw records h g = srw_term ops records h g
  logic_term Sraw records h g = sraw_term ops records h g
