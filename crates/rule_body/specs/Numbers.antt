-- The parameters of a window: its register fields have their numbers.
use Rattle.std.specs.Prelude.{ℕ, ◌+◌, ◌≤◌, ◌++◌, List, [], ◌∷◌, max, fold}
use Rattle.ppc_isa.specs.declared.instr.Instr.{Instr}
use Rattle.ppc_isa.specs.declared.instr.Instr.TheVariants.{Immediate, LogicImmediate, Load, Store, LoadUpdate, StoreUpdate, CompareImmediate, Rotate, Arithmetic, ArithmeticUnary, Logic, ShiftImmediate, LogicUnary, Compare, MoveFromCr, MoveToCr, MoveFromSpr, MoveToSpr, LoadIndexed, StoreIndexed, LoadIndexedUpdate, StoreIndexedUpdate}
use Rattle.ppc_isa.specs.declared.instr.RotateOp.{RotateOp}
use Rattle.ppc_isa.specs.declared.instr.RotateOp.TheVariants.{Rlwnm}
use Rattle.ppc_isa.specs.Locations.{base, immediate_operand}

-- the fields of a rotation: rlwnm has its count in a register
abbrev pub rotated : RotateOp → ℕ → ℕ → ℕ → List ℕ
rotated Rlwnm s a b = s ∷ a ∷ b ∷ []
rotated op s a by = s ∷ a ∷ []

-- the numbers in the fields that name general registers, from the left; where 0 in the place of a base stands for the number
-- 0, it names none
abbrev pub numbers : Instr → List ℕ
numbers (Immediate op d a imm) = d ∷ immediate_operand op a
numbers (LogicImmediate op s a imm) = s ∷ a ∷ []
numbers (Load op d a imm) = d ∷ base a
numbers (Store op s a imm) = s ∷ base a
numbers (LoadUpdate op d a imm) = d ∷ a ∷ []
numbers (StoreUpdate op s a imm) = s ∷ a ∷ []
numbers (CompareImmediate op field a imm) = a ∷ []
numbers (Rotate op s a by mask_begin mask_end records) = rotated op s a by
numbers (Arithmetic op d a b records) = d ∷ a ∷ b ∷ []
numbers (ArithmeticUnary op d a records) = d ∷ a ∷ []
numbers (Logic op s a b records) = s ∷ a ∷ b ∷ []
numbers (ShiftImmediate s a by records) = s ∷ a ∷ []
numbers (LogicUnary op s a records) = s ∷ a ∷ []
numbers (Compare op field a b) = a ∷ b ∷ []
numbers (MoveFromCr d) = d ∷ []
numbers (MoveToCr s mask) = s ∷ []
numbers (MoveFromSpr d spr) = d ∷ []
numbers (MoveToSpr s spr) = s ∷ []
numbers (LoadIndexed op d a b) = d ∷ (base a ++ b ∷ [])
numbers (StoreIndexed op s a b) = s ∷ (base a ++ b ∷ [])
numbers (LoadIndexedUpdate op d a b) = d ∷ a ∷ b ∷ []
numbers (StoreIndexedUpdate op s a b) = s ∷ a ∷ b ∷ []
numbers _ = []

-- The numbers are 1 to 6 in the order in which they first appear: each is one of the `seen` that came before it, or the next.
abbrev pub AreNumbered : ℕ → List ℕ → Type 0
AreNumbered seen [] = Unit {0}
AreNumbered seen (k ∷ ks) = (1 ≤ k) × (k ≤ 6) × (k ≤ seen + 1) × AreNumbered (max seen k) ks

abbrev pub highest : List ℕ → ℕ
highest ks = fold max 0 ks
