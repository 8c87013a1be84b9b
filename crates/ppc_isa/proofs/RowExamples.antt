-- The rows compute their worked examples.
use Rattle.std.proofs.Common.{refl}
use Rattle.word_kit.specs.Prelude.{of_bits, word_and, word_or, word_xor, mask}
use Rattle.ppc_isa.specs.ShiftRows.{leading_zeros}
use Rattle.ppc_isa.specs.FieldRows.{fields_mask}
use Rattle.ppc_isa.specs.Examples.{SumsCompute, LogicCompute, ShiftsCompute, RotatesCompute, ProductsCompute, ComparesCompute, FieldsCompute, AccessesCompute, BranchesCompute, TrapsCompute}

pub sums_compute : SumsCompute
unfolding word_and word_or word_xor mask of_bits fields_mask leading_zeros
sums_compute = (refl, refl, refl, refl, refl, refl, refl, refl, refl, refl, refl, refl, refl, refl, refl, refl, refl, refl, refl, refl, refl, refl, refl, refl, refl, refl, refl)

pub logic_compute : LogicCompute
unfolding word_and word_or word_xor mask of_bits fields_mask leading_zeros
logic_compute = (refl, refl, refl, refl, refl, refl, refl, refl, refl, refl, refl, refl, refl, refl, refl, refl, refl, refl, refl, refl, refl, refl)

pub shifts_compute : ShiftsCompute
unfolding word_and word_or word_xor mask of_bits fields_mask leading_zeros
shifts_compute = (refl, refl, refl, refl, refl, refl, refl, refl, refl, refl, refl, refl, refl, refl)

pub rotates_compute : RotatesCompute
unfolding word_and word_or word_xor mask of_bits fields_mask leading_zeros
rotates_compute = (refl, refl, refl, refl, refl, refl)

pub products_compute : ProductsCompute
unfolding word_and word_or word_xor mask of_bits fields_mask leading_zeros
products_compute = (refl, refl, refl, refl, refl, refl, refl, refl, refl, refl, refl)

pub compares_compute : ComparesCompute
unfolding word_and word_or word_xor mask of_bits fields_mask leading_zeros
compares_compute = (refl, refl, refl, refl)

pub fields_compute : FieldsCompute
unfolding word_and word_or word_xor mask of_bits fields_mask leading_zeros
fields_compute = (refl, refl, refl, refl, refl, refl, refl, refl, refl, refl, refl, refl, refl, refl, refl, refl, refl)

pub accesses_compute : AccessesCompute
unfolding word_and word_or word_xor mask of_bits fields_mask leading_zeros
accesses_compute = (refl, refl, refl, refl, refl, refl, refl, refl, refl, refl, refl, refl, refl, refl, refl, refl, refl)

pub branches_compute : BranchesCompute
unfolding word_and word_or word_xor mask of_bits fields_mask leading_zeros
branches_compute = (refl, refl, refl, refl, refl, refl, refl, refl, refl, refl, refl, refl)

pub traps_compute : TrapsCompute
unfolding word_and word_or word_xor mask of_bits fields_mask leading_zeros
traps_compute = (refl, refl, refl, refl, refl, refl, refl, refl, refl, refl, refl, refl)
