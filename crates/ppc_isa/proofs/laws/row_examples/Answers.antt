use Rattle.ppc_isa.proofs.RowExamples.{sums_compute, logic_compute, shifts_compute, rotates_compute, products_compute, compares_compute, fields_compute, accesses_compute, branches_compute, traps_compute}
use Rattle.ppc_isa.proofs.laws.row_examples.Goals as goal

pub returns : goal.returns
returns c = record {
  sums = sums_compute;
  logic = logic_compute;
  shifts = shifts_compute;
  rotates = rotates_compute;
  products = products_compute;
  compares = compares_compute;
  fields = fields_compute;
  accesses = accesses_compute;
  branches = branches_compute;
  traps = traps_compute;
}
