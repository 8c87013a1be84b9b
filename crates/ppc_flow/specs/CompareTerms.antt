-- The terms of compares.
use Rattle.std.specs.Prelude.{ℕ, Bool, true, false}
use Rattle.word_kit.specs.Prelude.{Operations}
use Rattle.ppc_isa.specs.declared.instr.CompareImmediateOp.{CompareImmediateOp}
use Rattle.ppc_isa.specs.declared.instr.CompareImmediateOp.TheVariants.{Cmpi, Cmpli}
use Rattle.ppc_isa.specs.declared.instr.CompareOp.{CompareOp}
use Rattle.ppc_isa.specs.declared.instr.CompareOp.TheVariants.{Cmp, Cmpl}
use Rattle.ppc_parts.specs.Prelude.{RowMade, compared_term, unchanged_term}
use Rattle.ppc_parts.specs.declared.given.GuestIn.{GuestIn}

module _ {A W B H : Type 0} (ops : Operations W B H) where
  abbrev pub compare_term : Bool → ℕ → H → GuestIn A W B → RowMade A W B H
  compare_term as_signed field h g =
      let cr = compared_term ops as_signed field g.a g.b h g in
      record { effect = record (unchanged_term ops g) { cr = cr.word }; held = cr.held }

  abbrev pub compare_row_term : CompareOp → ℕ → H → GuestIn A W B → RowMade A W B H
  compare_row_term Cmp field h g = compare_term true field h g
  compare_row_term Cmpl field h g = compare_term false field h g

  abbrev pub compare_immediate_term : CompareImmediateOp → ℕ → H → GuestIn A W B → RowMade A W B H
  compare_immediate_term Cmpi field h g = compare_term true field h g
  compare_immediate_term Cmpli field h g = compare_term false field h g
