-- The terms of stores, and of accesses of many registers.
use Rattle.std.specs.Prelude.{ℕ, false}
use Rattle.word_kit.specs.Prelude.{Operations}
use Rattle.ppc_isa.specs.AccessRows.{multiple_width}
use Rattle.ppc_isa.specs.declared.instr.MultipleOp.{MultipleOp}
use Rattle.ppc_isa.specs.declared.instr.MultipleOp.TheVariants.{Lmw, Stmw}
use Rattle.ppc_isa.specs.declared.instr.StoreIndexedOp.{StoreIndexedOp}
use Rattle.ppc_isa.specs.declared.instr.StoreIndexedOp.TheVariants.{Stwx, Stbx, Sthx, Stwbrx, Sthbrx}
use Rattle.ppc_isa.specs.declared.instr.StoreIndexedUpdateOp.{StoreIndexedUpdateOp}
use Rattle.ppc_isa.specs.declared.instr.StoreIndexedUpdateOp.TheVariants.{Stwux, Stbux, Sthux}
use Rattle.ppc_isa.specs.declared.instr.StoreOp.{StoreOp}
use Rattle.ppc_isa.specs.declared.instr.StoreOp.TheVariants.{Stw, Stb, Sth}
use Rattle.ppc_isa.specs.declared.instr.StoreUpdateOp.{StoreUpdateOp}
use Rattle.ppc_isa.specs.declared.instr.StoreUpdateOp.TheVariants.{Stwu, Stbu, Sthu}
use Rattle.ppc_parts.specs.Prelude.{RowMade, base_term, unchanged_term}
use Rattle.ppc_parts.specs.declared.given.Access.{Access}
use Rattle.ppc_parts.specs.declared.given.Access.TheVariants.{Load, Store}
use Rattle.ppc_parts.specs.declared.given.GuestIn.{GuestIn}
use Rattle.ppc_memory.specs.AccessTerms.{reversed_term, half_reversed_term, low_byte_term, low_half_term, store_term, update_term}

module _ {A W B H : Type 0} (ops : Operations W B H) where
  abbrev pub store_row_term : StoreOp → ℕ → H → GuestIn A W B → RowMade A W B H
  store_row_term Stw a h g = store_term ops 4 (base_term ops a g) g.s h g
  store_row_term Stb a h g = store_term ops 1 (base_term ops a g) (low_byte_term ops g.s) h g
  store_row_term Sth a h g = store_term ops 2 (base_term ops a g) (low_half_term ops g.s) h g

  abbrev pub store_update_row_term : StoreUpdateOp → H → GuestIn A W B → RowMade A W B H
  store_update_row_term Stwu h g = update_term ops (store_term ops 4 g.a g.s h g)
  store_update_row_term Stbu h g = update_term ops (store_term ops 1 g.a (low_byte_term ops g.s) h g)
  store_update_row_term Sthu h g = update_term ops (store_term ops 2 g.a (low_half_term ops g.s) h g)

  abbrev pub store_indexed_row_term : StoreIndexedOp → ℕ → H → GuestIn A W B → RowMade A W B H
  store_indexed_row_term Stwx a h g = store_term ops 4 (base_term ops a g) g.s h g
  store_indexed_row_term Stbx a h g = store_term ops 1 (base_term ops a g) (low_byte_term ops g.s) h g
  store_indexed_row_term Sthx a h g = store_term ops 2 (base_term ops a g) (low_half_term ops g.s) h g
  store_indexed_row_term Stwbrx a h g = store_term ops 4 (base_term ops a g) (reversed_term ops g.s) h g
  store_indexed_row_term Sthbrx a h g = store_term ops 2 (base_term ops a g) (half_reversed_term ops g.s) h g

  abbrev pub store_indexed_update_row_term : StoreIndexedUpdateOp → H → GuestIn A W B → RowMade A W B H
  store_indexed_update_row_term Stwux h g = update_term ops (store_term ops 4 g.a g.s h g)
  store_indexed_update_row_term Stbux h g = update_term ops (store_term ops 1 g.a (low_byte_term ops g.s) h g)
  store_indexed_update_row_term Sthux h g = update_term ops (store_term ops 2 g.a (low_half_term ops g.s) h g)

  -- the bytes of all registers from one on
  abbrev pub many_term : Access → W → ℕ → H → GuestIn A W B → RowMade A W B H
  many_term kind base d h g =
      let address = ops.add_of h base g.b (ops.flag_of false) in
      record { effect = record (unchanged_term ops g) { address = address.word; width = multiple_width d; kind = kind }; held = address.held }

  abbrev pub multiple_term : MultipleOp → ℕ → ℕ → H → GuestIn A W B → RowMade A W B H
  multiple_term Lmw d a h g = many_term Load (base_term ops a g) d h g
  multiple_term Stmw d a h g = many_term Store (base_term ops a g) d h g
