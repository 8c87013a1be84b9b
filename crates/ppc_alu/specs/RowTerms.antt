-- The term of each row over any operations, and which rows are products and divisions.
use Rattle.std.specs.Prelude.{Bool, false}
use Rattle.word_kit.specs.Prelude.{Operations}
use Rattle.ppc_isa.specs.declared.instr.Instr.{Instr}
use Rattle.ppc_isa.specs.declared.instr.Instr.TheVariants.{Immediate, LogicImmediate, Load, Store, LoadUpdate, StoreUpdate, Multiple, TrapImmediate, CompareImmediate, Rotate, Branch, BranchConditional, SystemCall, Arithmetic, ArithmeticUnary, Logic, ShiftImmediate, LogicUnary, Compare, Trap, MoveFromCr, MoveToCr, MoveFromSpr, MoveToSpr, Sync, LoadIndexed, StoreIndexed, LoadIndexedUpdate, StoreIndexedUpdate, MoveCrField, CrLogic, Isync, BranchRegister}
use Rattle.ppc_parts.specs.Prelude.{RowMade, unchanged_term}
use Rattle.ppc_parts.specs.declared.given.GuestIn.{GuestIn}
use Rattle.ppc_bits.specs.LogicTerms.{logic_term, logic_immediate_term}
use Rattle.ppc_bits.specs.ShiftTerms.{rotate_term, srawi_term, logic_unary_term}
use Rattle.ppc_flow.specs.BranchTerms.{branch_term, jump_term}
use Rattle.ppc_flow.specs.CompareTerms.{compare_row_term, compare_immediate_term}
use Rattle.ppc_flow.specs.FieldTerms.{cr_read_term, fields_put_term, special_read_term, special_put_term, field_moved_term, cr_logic_row_term}
use Rattle.ppc_flow.specs.TrapTerms.{trap_term}
use Rattle.ppc_memory.specs.LoadTerms.{load_row_term, load_update_row_term, load_indexed_row_term, load_indexed_update_row_term}
use Rattle.ppc_memory.specs.StoreTerms.{store_row_term, store_update_row_term, store_indexed_row_term, store_indexed_update_row_term, multiple_term}
use Rattle.ppc_sums.specs.ArithmeticTerms.{immediate_term, arithmetic_term, arithmetic_unary_term}
use Rattle.ppc_sums.specs.ProductTerms.{is_product, is_immediate_product}

-- mulli, mullw, mulhw, mulhwu, divw and divwu
abbrev pub is_product_row : Instr → Bool
is_product_row (Immediate op d a imm) = is_immediate_product op
is_product_row (Arithmetic op d a b records) = is_product op
is_product_row _ = false

module _ {A W B H : Type 0} (ops : Operations W B H) where
  abbrev pub row_term : Instr → H → GuestIn A W B → RowMade A W B H
  row_term (Immediate op d a imm) h g = immediate_term ops op a h g
  row_term (LogicImmediate op s a imm) h g = logic_immediate_term ops op h g
  row_term (Load op d a imm) h g = load_row_term ops op a h g
  row_term (Store op s a imm) h g = store_row_term ops op a h g
  row_term (LoadUpdate op d a imm) h g = load_update_row_term ops op h g
  row_term (StoreUpdate op s a imm) h g = store_update_row_term ops op h g
  row_term (Multiple op d a imm) h g = multiple_term ops op d a h g
  row_term (TrapImmediate to a imm) h g = trap_term ops to h g
  row_term (CompareImmediate op field a imm) h g = compare_immediate_term ops op field h g
  row_term (Rotate op s a by mask_begin mask_end records) h g = rotate_term ops op by mask_begin mask_end records h g
  row_term (Branch target absolute link) h g = record { effect = jump_term ops g; held = h }
  row_term (BranchConditional bo bi target absolute link) h g = branch_term ops bo bi h g
  row_term SystemCall h g = record { effect = unchanged_term ops g; held = h }
  row_term (Arithmetic op d a b records) h g = arithmetic_term ops op records h g
  row_term (ArithmeticUnary op d a records) h g = arithmetic_unary_term ops op records h g
  row_term (Logic op s a b records) h g = logic_term ops op records h g
  row_term (ShiftImmediate s a by records) h g = srawi_term ops by records h g
  row_term (LogicUnary op s a records) h g = logic_unary_term ops op records h g
  row_term (Compare op field a b) h g = compare_row_term ops op field h g
  row_term (Trap to a b) h g = trap_term ops to h g
  row_term (MoveFromCr d) h g = record { effect = cr_read_term ops g; held = h }
  row_term (MoveToCr s chosen) h g = fields_put_term ops chosen h g
  row_term (MoveFromSpr d spr) h g = record { effect = special_read_term ops spr g; held = h }
  row_term (MoveToSpr s spr) h g = special_put_term ops spr h g
  row_term Sync h g = record { effect = unchanged_term ops g; held = h }
  row_term (LoadIndexed op d a b) h g = load_indexed_row_term ops op a h g
  row_term (StoreIndexed op s a b) h g = store_indexed_row_term ops op a h g
  row_term (LoadIndexedUpdate op d a b) h g = load_indexed_update_row_term ops op h g
  row_term (StoreIndexedUpdate op s a b) h g = store_indexed_update_row_term ops op h g
  row_term (MoveCrField to from) h g = record { effect = field_moved_term ops to from g; held = h }
  row_term (CrLogic op d a b) h g = cr_logic_row_term ops op d a b h g
  row_term Isync h g = record { effect = unchanged_term ops g; held = h }
  row_term (BranchRegister op bo bi link) h g = branch_term ops bo bi h g
