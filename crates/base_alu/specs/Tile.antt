-- The tile of each instruction that is no flow word and has no access (this project's own): ops that do to the places of its
-- locations, under any register map, what the instruction does to the locations.
use Rattle.std.specs.Prelude.{List, [], ◌++◌}
use Rattle.machines.specs.Prelude.{mask, Map, Instr, Op, immediate_records, logic_immediate_records}
use Rattle.symbolic_tiles.specs.declared.symbolic_op.SymbolicOp.{SymbolicOp}
use Rattle.symbolic_tiles.specs.Prelude.{ops_of, record_ops}
use Rattle.ppc_isa.specs.declared.instr.Instr.TheVariants as instr
use Rattle.base_alu.specs.Immediates.{immediate_ops, logic_immediate_ops}
use Rattle.base_alu.specs.Arithmetic.{arithmetic_ops, unary_ops}
use Rattle.base_alu.specs.Logic.{logic_ops, logic_unary_ops}
use Rattle.base_alu.specs.Shifts.{srawi_ops, rotate_ops}
use Rattle.base_alu.specs.Compares.{compare_immediate_ops, compare_ops}
use Rattle.base_alu.specs.Conditions.{cr_ops, mcrf_ops, mfcr_ops, mtcrf_ops}
use Rattle.base_alu.specs.Specials.{mfspr_ops, mtspr_ops}

-- the instructions without a flow word or an access
abbrev pub IsBuilt : Instr → Type 0
IsBuilt (instr.Immediate op d a imm) = Unit {0}
IsBuilt (instr.LogicImmediate op s a imm) = Unit {0}
IsBuilt (instr.Arithmetic op d a b records) = Unit {0}
IsBuilt (instr.ArithmeticUnary op d a records) = Unit {0}
IsBuilt (instr.Logic op s a b records) = Unit {0}
IsBuilt (instr.LogicUnary op s a records) = Unit {0}
IsBuilt (instr.ShiftImmediate s a by records) = Unit {0}
IsBuilt (instr.Rotate op s a by mask_begin mask_end records) = Unit {0}
IsBuilt (instr.CompareImmediate op field a imm) = Unit {0}
IsBuilt (instr.Compare op field a b) = Unit {0}
IsBuilt (instr.CrLogic op d a b) = Unit {0}
IsBuilt (instr.MoveCrField to from) = Unit {0}
IsBuilt (instr.MoveFromCr d) = Unit {0}
IsBuilt (instr.MoveToCr s fxm) = Unit {0}
IsBuilt (instr.MoveFromSpr d spr) = Unit {0}
IsBuilt (instr.MoveToSpr s spr) = Unit {0}
IsBuilt instr.Sync = Unit {0}
IsBuilt instr.Isync = Unit {0}
IsBuilt _ = ⊥

-- those that have no Rc
abbrev pub IsWithoutRecord : Instr → Type 0
IsWithoutRecord (instr.Immediate op d a imm) = ⊥
IsWithoutRecord (instr.LogicImmediate op s a imm) = ⊥
IsWithoutRecord (instr.Arithmetic op d a b records) = ⊥
IsWithoutRecord (instr.ArithmeticUnary op d a records) = ⊥
IsWithoutRecord (instr.Logic op s a b records) = ⊥
IsWithoutRecord (instr.LogicUnary op s a records) = ⊥
IsWithoutRecord (instr.ShiftImmediate s a by records) = ⊥
IsWithoutRecord (instr.Rotate op s a by mask_begin mask_end records) = ⊥
IsWithoutRecord _ = Unit {0}

-- Their tiles, told without a map. Where a form records, its result is in eax.
abbrev pub symbolic_tile : Instr → List SymbolicOp
symbolic_tile (instr.Immediate op d a imm) = immediate_ops op d a imm ++ record_ops (immediate_records op)
symbolic_tile (instr.LogicImmediate op s a imm) = logic_immediate_ops op s a imm ++ record_ops (logic_immediate_records op)
symbolic_tile (instr.Arithmetic op d a b records) = arithmetic_ops op d a b ++ record_ops records
symbolic_tile (instr.ArithmeticUnary op d a records) = unary_ops op d a ++ record_ops records
symbolic_tile (instr.Logic op s a b records) = logic_ops op s a b ++ record_ops records
symbolic_tile (instr.LogicUnary op s a records) = logic_unary_ops op s a ++ record_ops records
symbolic_tile (instr.ShiftImmediate s a by records) = srawi_ops s a by ++ record_ops records
symbolic_tile (instr.Rotate op s a by mask_begin mask_end records) = rotate_ops op s a by (mask mask_begin mask_end) ++ record_ops records
symbolic_tile (instr.CompareImmediate op field a imm) = compare_immediate_ops op field a imm
symbolic_tile (instr.Compare op field a b) = compare_ops op field a b
symbolic_tile (instr.CrLogic op d a b) = cr_ops op d a b
symbolic_tile (instr.MoveCrField to from) = mcrf_ops to from
symbolic_tile (instr.MoveFromCr d) = mfcr_ops d
symbolic_tile (instr.MoveToCr s fxm) = mtcrf_ops s fxm
symbolic_tile (instr.MoveFromSpr d spr) = mfspr_ops d spr
symbolic_tile (instr.MoveToSpr s spr) = mtspr_ops s spr
symbolic_tile _ = []

-- their ops under a map
abbrev pub tile : Instr → Map → List Op
tile i m = ops_of (symbolic_tile i) m
