-- The instructions of a rule's window where it is laid. This project's own.
use Rattle.std.specs.Prelude.{ℕ, ◌+◌, ◌==◌, if◌then◌else◌, List, [], ◌∷◌}
use Rattle.machines.specs.Prelude.{Instr, Immediate, LogicImmediate, Load, Store, LoadUpdate, StoreUpdate, CompareImmediate, Rotate, Arithmetic, ArithmeticUnary, Logic, ShiftImmediate, LogicUnary, Compare, MoveFromCr, MoveToCr, MoveFromSpr, MoveToSpr, LoadIndexed, StoreIndexed, LoadIndexedUpdate, StoreIndexedUpdate, BranchConditional, RotateOp, Rlwnm}
use Rattle.rule_body.specs.declared.goal.Guest.{Guest}
use Rattle.rule_soundness.specs.Matches.{Match}

-- the register of a field; 0 stays 0
abbrev pub register_field : (ℕ → ℕ) → ℕ → ℕ
register_field gpr p = if p == 0 then 0 else gpr p

-- of the rotates rlwnm alone has a register there
abbrev pub count_field : (ℕ → ℕ) → RotateOp → ℕ → ℕ
count_field gpr Rlwnm by = register_field gpr by
count_field gpr op by = by

-- an instruction with registers in the place of parameters
abbrev pub bound : (ℕ → ℕ) → Instr → Instr
bound gpr (Immediate op d a imm) = Immediate op (register_field gpr d) (register_field gpr a) imm
bound gpr (LogicImmediate op s a imm) = LogicImmediate op (register_field gpr s) (register_field gpr a) imm
bound gpr (Load op d a imm) = Load op (register_field gpr d) (register_field gpr a) imm
bound gpr (Store op s a imm) = Store op (register_field gpr s) (register_field gpr a) imm
bound gpr (LoadUpdate op d a imm) = LoadUpdate op (register_field gpr d) (register_field gpr a) imm
bound gpr (StoreUpdate op s a imm) = StoreUpdate op (register_field gpr s) (register_field gpr a) imm
bound gpr (CompareImmediate op field a imm) = CompareImmediate op field (register_field gpr a) imm
bound gpr (Rotate op s a by mask_begin mask_end records) = Rotate op (register_field gpr s) (register_field gpr a) (count_field gpr op by) mask_begin mask_end records
bound gpr (Arithmetic op d a b records) = Arithmetic op (register_field gpr d) (register_field gpr a) (register_field gpr b) records
bound gpr (ArithmeticUnary op d a records) = ArithmeticUnary op (register_field gpr d) (register_field gpr a) records
bound gpr (Logic op s a b records) = Logic op (register_field gpr s) (register_field gpr a) (register_field gpr b) records
bound gpr (ShiftImmediate s a by records) = ShiftImmediate (register_field gpr s) (register_field gpr a) by records
bound gpr (LogicUnary op s a records) = LogicUnary op (register_field gpr s) (register_field gpr a) records
bound gpr (Compare op field a b) = Compare op field (register_field gpr a) (register_field gpr b)
bound gpr (MoveFromCr d) = MoveFromCr (register_field gpr d)
bound gpr (MoveToCr s mask) = MoveToCr (register_field gpr s) mask
bound gpr (MoveFromSpr d spr) = MoveFromSpr (register_field gpr d) spr
bound gpr (MoveToSpr s spr) = MoveToSpr (register_field gpr s) spr
bound gpr (LoadIndexed op d a b) = LoadIndexed op (register_field gpr d) (register_field gpr a) (register_field gpr b)
bound gpr (StoreIndexed op s a b) = StoreIndexed op (register_field gpr s) (register_field gpr a) (register_field gpr b)
bound gpr (LoadIndexedUpdate op d a b) = LoadIndexedUpdate op (register_field gpr d) (register_field gpr a) (register_field gpr b)
bound gpr (StoreIndexedUpdate op s a b) = StoreIndexedUpdate op (register_field gpr s) (register_field gpr a) (register_field gpr b)
bound gpr i = i

-- word j is free: its immediate is the constant of the match, or its target the match's
abbrev pub filled : Match → ℕ → Instr → Instr
filled m j (Immediate op d a imm) = Immediate op d a (m.constant j)
filled m j (LogicImmediate op s a imm) = LogicImmediate op s a (m.constant j)
filled m j (Load op d a imm) = Load op d a (m.constant j)
filled m j (Store op s a imm) = Store op s a (m.constant j)
filled m j (LoadUpdate op d a imm) = LoadUpdate op d a (m.constant j)
filled m j (StoreUpdate op s a imm) = StoreUpdate op s a (m.constant j)
filled m j (CompareImmediate op field a imm) = CompareImmediate op field a (m.constant j)
filled m j (BranchConditional bo bi target absolute link) = BranchConditional bo bi m.target m.absolute link
filled m j i = i

-- word j of a window
abbrev pub laid_word : Match → ℕ → Guest → Instr → Instr
laid_word m j guest i = bound m.gpr (if guest.free then filled m j i else i)

-- the words of a window from word j on, which are those of these instructions over parameters
unfoldable pub laid_words : Match → ℕ → List Guest → List Instr → List Instr
laid_words m j (guest ∷ guests) (i ∷ is) = laid_word m j guest i ∷ laid_words m (j + 1) guests is
laid_words m j guests is = []
