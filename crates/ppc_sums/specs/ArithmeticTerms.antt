-- The terms of arithmetic: what each row makes of its operands over any operations, in the order in which it makes it.
use Rattle.std.specs.Prelude.{ℕ, Bool, true, false}
use Rattle.word_kit.specs.Prelude.{Operations}
use Rattle.ppc_isa.specs.SumRows.{ones}
use Rattle.ppc_isa.specs.declared.instr.ArithmeticOp.{ArithmeticOp}
use Rattle.ppc_isa.specs.declared.instr.ArithmeticOp.TheVariants.{Add, Addc, Adde, Subf, Subfc, Subfe, Mullw, Mulhw, Mulhwu, Divw, Divwu}
use Rattle.ppc_isa.specs.declared.instr.ArithmeticUnaryOp.{ArithmeticUnaryOp}
use Rattle.ppc_isa.specs.declared.instr.ArithmeticUnaryOp.TheVariants.{Addze, Addme, Subfze, Subfme, Neg}
use Rattle.ppc_isa.specs.declared.instr.ImmediateOp.{ImmediateOp}
use Rattle.ppc_isa.specs.declared.instr.ImmediateOp.TheVariants.{Addi, Addis, Addic, AddicRecord, Subfic, Mulli}
use Rattle.ppc_parts.specs.Prelude.{RowMade, base_term}
use Rattle.ppc_parts.specs.declared.given.GuestIn.{GuestIn}
use Rattle.ppc_sums.specs.ProductTerms.{product_term, high_product_term, divw_term, divwu_term}
use Rattle.ppc_sums.specs.SumTerms.{sum_term, sum_carrying_term, ca_term}

module _ {A W B H : Type 0} (ops : Operations W B H) where
  abbrev pub immediate_term : ImmediateOp → ℕ → H → GuestIn A W B → RowMade A W B H
  immediate_term Addi a h g = sum_term ops false (base_term ops a g) g.b (ops.flag_of false) h g
  immediate_term Addis a h g = sum_term ops false (base_term ops a g) g.b (ops.flag_of false) h g
  immediate_term Addic a h g = sum_carrying_term ops false g.a g.b (ops.flag_of false) h g
  immediate_term AddicRecord a h g = sum_carrying_term ops true g.a g.b (ops.flag_of false) h g
  immediate_term Subfic a h g = sum_carrying_term ops false (ops.not_of g.a) g.b (ops.flag_of true) h g
  immediate_term Mulli a h g = product_term ops false h g

  abbrev pub arithmetic_term : ArithmeticOp → Bool → H → GuestIn A W B → RowMade A W B H
  arithmetic_term Add records h g = sum_term ops records g.a g.b (ops.flag_of false) h g
  arithmetic_term Addc records h g = sum_carrying_term ops records g.a g.b (ops.flag_of false) h g
  arithmetic_term Adde records h g = sum_carrying_term ops records g.a g.b (ca_term ops g) h g
  arithmetic_term Subf records h g = sum_term ops records (ops.not_of g.a) g.b (ops.flag_of true) h g
  arithmetic_term Subfc records h g = sum_carrying_term ops records (ops.not_of g.a) g.b (ops.flag_of true) h g
  arithmetic_term Subfe records h g = sum_carrying_term ops records (ops.not_of g.a) g.b (ca_term ops g) h g
  arithmetic_term Mullw records h g = product_term ops records h g
  arithmetic_term Mulhw records h g = high_product_term ops true records h g
  arithmetic_term Mulhwu records h g = high_product_term ops false records h g
  arithmetic_term Divw records h g = divw_term ops records h g
  arithmetic_term Divwu records h g = divwu_term ops records h g

  abbrev pub arithmetic_unary_term : ArithmeticUnaryOp → Bool → H → GuestIn A W B → RowMade A W B H
  arithmetic_unary_term Addze records h g = sum_carrying_term ops records g.a (ops.lit_of 0) (ca_term ops g) h g
  arithmetic_unary_term Addme records h g = sum_carrying_term ops records g.a (ops.lit_of ones) (ca_term ops g) h g
  arithmetic_unary_term Subfze records h g = sum_carrying_term ops records (ops.not_of g.a) (ops.lit_of 0) (ca_term ops g) h g
  arithmetic_unary_term Subfme records h g = sum_carrying_term ops records (ops.not_of g.a) (ops.lit_of ones) (ca_term ops g) h g
  arithmetic_unary_term Neg records h g = sum_term ops records (ops.not_of g.a) (ops.lit_of 0) (ops.flag_of true) h g
