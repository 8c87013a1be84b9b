-- The terms of loads.
use Rattle.std.specs.Prelude.{ℕ}
use Rattle.word_kit.specs.Prelude.{Operations}
use Rattle.ppc_isa.specs.declared.instr.LoadIndexedOp.{LoadIndexedOp}
use Rattle.ppc_isa.specs.declared.instr.LoadIndexedOp.TheVariants.{Lwzx, Lbzx, Lhzx, Lhax, Lwbrx, Lhbrx}
use Rattle.ppc_isa.specs.declared.instr.LoadIndexedUpdateOp.{LoadIndexedUpdateOp}
use Rattle.ppc_isa.specs.declared.instr.LoadIndexedUpdateOp.TheVariants.{Lwzux, Lbzux, Lhzux, Lhaux}
use Rattle.ppc_isa.specs.declared.instr.LoadOp.{LoadOp}
use Rattle.ppc_isa.specs.declared.instr.LoadOp.TheVariants.{Lwz, Lbz, Lhz, Lha}
use Rattle.ppc_isa.specs.declared.instr.LoadUpdateOp.{LoadUpdateOp}
use Rattle.ppc_isa.specs.declared.instr.LoadUpdateOp.TheVariants.{Lwzu, Lbzu, Lhzu, Lhau}
use Rattle.ppc_parts.specs.Prelude.{RowMade, extended_term, base_term}
use Rattle.ppc_parts.specs.declared.given.GuestIn.{GuestIn}
use Rattle.ppc_memory.specs.AccessTerms.{reversed_term, half_reversed_term, load_term, update_term}

module _ {A W B H : Type 0} (ops : Operations W B H) where
  -- a half read as signed: first the number, then the address
  abbrev pub load_extended_term : W → H → GuestIn A W B → RowMade A W B H
  load_extended_term base h g = let number = extended_term ops g.loaded 16 h in load_term ops 2 base number.word number.held g

  abbrev pub load_row_term : LoadOp → ℕ → H → GuestIn A W B → RowMade A W B H
  load_row_term Lwz a h g = load_term ops 4 (base_term ops a g) g.loaded h g
  load_row_term Lbz a h g = load_term ops 1 (base_term ops a g) g.loaded h g
  load_row_term Lhz a h g = load_term ops 2 (base_term ops a g) g.loaded h g
  load_row_term Lha a h g = load_extended_term (base_term ops a g) h g

  abbrev pub load_update_row_term : LoadUpdateOp → H → GuestIn A W B → RowMade A W B H
  load_update_row_term Lwzu h g = update_term ops (load_term ops 4 g.a g.loaded h g)
  load_update_row_term Lbzu h g = update_term ops (load_term ops 1 g.a g.loaded h g)
  load_update_row_term Lhzu h g = update_term ops (load_term ops 2 g.a g.loaded h g)
  load_update_row_term Lhau h g = update_term ops (load_extended_term g.a h g)

  abbrev pub load_indexed_row_term : LoadIndexedOp → ℕ → H → GuestIn A W B → RowMade A W B H
  load_indexed_row_term Lwzx a h g = load_term ops 4 (base_term ops a g) g.loaded h g
  load_indexed_row_term Lbzx a h g = load_term ops 1 (base_term ops a g) g.loaded h g
  load_indexed_row_term Lhzx a h g = load_term ops 2 (base_term ops a g) g.loaded h g
  load_indexed_row_term Lhax a h g = load_extended_term (base_term ops a g) h g
  load_indexed_row_term Lwbrx a h g = load_term ops 4 (base_term ops a g) (reversed_term ops g.loaded) h g
  load_indexed_row_term Lhbrx a h g = load_term ops 2 (base_term ops a g) (half_reversed_term ops g.loaded) h g

  abbrev pub load_indexed_update_row_term : LoadIndexedUpdateOp → H → GuestIn A W B → RowMade A W B H
  load_indexed_update_row_term Lwzux h g = update_term ops (load_term ops 4 g.a g.loaded h g)
  load_indexed_update_row_term Lbzux h g = update_term ops (load_term ops 1 g.a g.loaded h g)
  load_indexed_update_row_term Lhzux h g = update_term ops (load_term ops 2 g.a g.loaded h g)
  load_indexed_update_row_term Lhaux h g = update_term ops (load_extended_term g.a h g)
