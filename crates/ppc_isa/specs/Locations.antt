-- The locations that each instruction reads and writes: what its description in Power ISA Book I names, with CR by
-- fields and XER by its parts.
use Rattle.std.specs.Prelude.{ℕ, ◌+◌, ◌-◌, ◌/◌, ◌%◌, ◌^◌, ◌<◌, ◌↔◌, List, [], ◌∷◌, ◌++◌, Bool, true, false, ◌==◌, if◌then◌else◌, fold, filter, map, Contains, IsBitSet, bit_or}
use Rattle.std.specs.List.{range_with_len}
use Rattle.ppc_isa.specs.Legal.{bo_0, bo_2}
use Rattle.ppc_isa.specs.declared.locs.Locs.{Locs}
use Rattle.ppc_isa.specs.Instruction.{Instr, Immediate, LogicImmediate, Load, Store, LoadUpdate, StoreUpdate, Multiple, TrapImmediate, CompareImmediate, Rotate, Branch, BranchConditional, SystemCall, Arithmetic, ArithmeticUnary, Logic, ShiftImmediate, LogicUnary, Compare, Trap, MoveFromCr, MoveToCr, MoveFromSpr, MoveToSpr, Sync, LoadIndexed, StoreIndexed, LoadIndexedUpdate, StoreIndexedUpdate, MoveCrField, CrLogic, Isync, BranchRegister, ImmediateOp, Addi, Addis, Addic, AddicRecord, Subfic, LogicImmediateOp, Andi, Andis, Lmw, Stmw, RotateOp, Rlwinm, Rlwnm, Rlwimi, ArithmeticOp, Addc, Adde, Subfc, Subfe, ArithmeticUnaryOp, Neg, LogicOp, Sraw, BranchRegisterOp, Bclr, Bcctr}

-- The locations have numbers, an order of this project's own: GPR 0 to 31, LR, CTR, CR field 0 to 7, CA, SO, OV and
-- XC, the count of XER.
abbrev pub lr : ℕ
lr = 32

abbrev pub ctr : ℕ
ctr = 33

abbrev pub cr : ℕ → ℕ
cr field = 34 + field

abbrev pub ca : ℕ
ca = 42

abbrev pub so : ℕ
so = 43

abbrev pub ov : ℕ
ov = 44

abbrev pub xc : ℕ
xc = 45

-- The set has the locations of the list and no others.
pub record IsSetOf (set : Locs) (locations : List ℕ) : Type 0 where
  pub within : set.bits < 2 ^ 46
  pub each : (k : ℕ) → IsBitSet set.bits k ↔ Contains locations k

-- the location, if the test says so
abbrev pub when : Bool → ℕ → List ℕ
when true k = k ∷ []
when false k = []

-- (rA|0): register 0 in the place of a base stands for the number 0
abbrev pub base : ℕ → List ℕ
base a = if a == 0 then [] else a ∷ []

-- the field of a bit of CR
abbrev pub field_of : ℕ → ℕ
field_of bit = cr (bit / 4)

-- GPR first and those after it
unfoldable pub registers_from : ℕ → List ℕ
registers_from first = range_with_len first (32 - first)

-- those of some fields of CR that FXM chooses, field 0 by its leftmost bit
abbrev pub chosen_of : ℕ → List ℕ → List ℕ
chosen_of mask fields = map cr (filter (λ f. mask / 2 ^ (7 - f) % 2 == 1) fields)

unfoldable pub chosen_fields : ℕ → List ℕ
chosen_fields mask = chosen_of mask (range_with_len 0 8)

-- the parts of XER, LR or CTR
abbrev pub special : ℕ → List ℕ
special spr = if spr == 1 then ca ∷ so ∷ ov ∷ xc ∷ [] else if spr == 8 then lr ∷ [] else if spr == 9 then ctr ∷ [] else []

-- what a branch looks at under BO: a bit of CR, and the count in CTR
abbrev pub condition : ℕ → ℕ → List ℕ
condition bo bi = when (bo_0 bo == 0) (field_of bi)

abbrev pub count : ℕ → List ℕ
count bo = when (bo_2 bo == 0) ctr

-- addic. records, though it has no bit Rc; addic, addic. and subfic set CA
abbrev pub immediate_records : ImmediateOp → Bool
immediate_records AddicRecord = true
immediate_records _ = false

abbrev pub immediate_carries : ImmediateOp → Bool
immediate_carries Addic = true
immediate_carries AddicRecord = true
immediate_carries Subfic = true
immediate_carries _ = false

-- addi and addis take (rA|0)
abbrev pub immediate_operand : ImmediateOp → ℕ → List ℕ
immediate_operand Addi a = base a
immediate_operand Addis a = base a
immediate_operand _ a = a ∷ []

-- andi. and andis. record
abbrev pub logic_immediate_records : LogicImmediateOp → Bool
logic_immediate_records Andi = true
logic_immediate_records Andis = true
logic_immediate_records _ = false

-- adde and subfe add CA; they, addc and subfc set it
abbrev pub carry_in : ArithmeticOp → Bool
carry_in Adde = true
carry_in Subfe = true
carry_in _ = false

abbrev pub carry_out : ArithmeticOp → Bool
carry_out Addc = true
carry_out Adde = true
carry_out Subfc = true
carry_out Subfe = true
carry_out _ = false

-- all but neg add CA and set it
abbrev pub unary_carry : ArithmeticUnaryOp → Bool
unary_carry Neg = false
unary_carry _ = true

-- sraw sets CA
abbrev pub logic_carries : LogicOp → Bool
logic_carries Sraw = true
logic_carries _ = false

-- rlwnm takes the count from rB; rlwimi keeps the bits of rA outside the mask
abbrev pub rotate_operands : RotateOp → ℕ → ℕ → ℕ → List ℕ
rotate_operands Rlwinm s a b = s ∷ []
rotate_operands Rlwnm s a b = s ∷ b ∷ []
rotate_operands Rlwimi s a b = s ∷ a ∷ []

-- the register that holds the target
abbrev pub target_of : BranchRegisterOp → ℕ
target_of Bclr = lr
target_of Bcctr = ctr

-- A form that records writes CR field 0 and takes its bit SO from XER; so does a compare, for its field. A form that writes
-- one bit of CR keeps the other bits of the field. A system call, by the convention of Linux, takes its number and arguments
-- from GPR 0, 3, 4 and 5, and answers in GPR 3 and the bit SO of CR field 0.
abbrev pub locations_read : Instr → List ℕ
locations_read (Immediate op d a imm) = immediate_operand op a ++ when (immediate_records op) so
locations_read (LogicImmediate op s a imm) = s ∷ when (logic_immediate_records op) so
locations_read (Load op d a imm) = base a
locations_read (Store op s a imm) = s ∷ base a
locations_read (LoadUpdate op d a imm) = a ∷ []
locations_read (StoreUpdate op s a imm) = s ∷ a ∷ []
locations_read (Multiple Lmw d a imm) = base a
locations_read (Multiple Stmw s a imm) = registers_from s ++ base a
locations_read (TrapImmediate to a imm) = a ∷ []
locations_read (CompareImmediate op field a imm) = a ∷ so ∷ []
locations_read (Rotate op s a by mask_begin mask_end records) = rotate_operands op s a by ++ when records so
locations_read (Branch target absolute link) = []
locations_read (BranchConditional bo bi target absolute link) = condition bo bi ++ count bo
locations_read SystemCall = 0 ∷ 3 ∷ 4 ∷ 5 ∷ cr 0 ∷ []
locations_read (Arithmetic op d a b records) = a ∷ b ∷ (when (carry_in op) ca ++ when records so)
locations_read (ArithmeticUnary op d a records) = a ∷ (when (unary_carry op) ca ++ when records so)
locations_read (Logic op s a b records) = s ∷ b ∷ when records so
locations_read (ShiftImmediate s a by records) = s ∷ when records so
locations_read (LogicUnary op s a records) = s ∷ when records so
locations_read (Compare op field a b) = a ∷ b ∷ so ∷ []
locations_read (Trap to a b) = a ∷ b ∷ []
locations_read (MoveFromCr d) = cr 0 ∷ cr 1 ∷ cr 2 ∷ cr 3 ∷ cr 4 ∷ cr 5 ∷ cr 6 ∷ cr 7 ∷ []
locations_read (MoveToCr s mask) = s ∷ []
locations_read (MoveFromSpr d spr) = special spr
locations_read (MoveToSpr s spr) = s ∷ []
locations_read Sync = []
locations_read (LoadIndexed op d a b) = b ∷ base a
locations_read (StoreIndexed op s a b) = s ∷ b ∷ base a
locations_read (LoadIndexedUpdate op d a b) = a ∷ b ∷ []
locations_read (StoreIndexedUpdate op s a b) = s ∷ a ∷ b ∷ []
locations_read (MoveCrField to from) = cr from ∷ []
locations_read (CrLogic op d a b) = field_of a ∷ field_of b ∷ field_of d ∷ []
locations_read Isync = []
locations_read (BranchRegister op bo bi link) = target_of op ∷ (condition bo bi ++ count bo)

abbrev pub locations_written : Instr → List ℕ
locations_written (Immediate op d a imm) = d ∷ (when (immediate_carries op) ca ++ when (immediate_records op) (cr 0))
locations_written (LogicImmediate op s a imm) = a ∷ when (logic_immediate_records op) (cr 0)
locations_written (Load op d a imm) = d ∷ []
locations_written (Store op s a imm) = []
locations_written (LoadUpdate op d a imm) = d ∷ a ∷ []
locations_written (StoreUpdate op s a imm) = a ∷ []
locations_written (Multiple Lmw d a imm) = registers_from d
locations_written (Multiple Stmw s a imm) = []
locations_written (TrapImmediate to a imm) = []
locations_written (CompareImmediate op field a imm) = cr field ∷ []
locations_written (Rotate op s a by mask_begin mask_end records) = a ∷ when records (cr 0)
locations_written (Branch target absolute link) = when link lr
locations_written (BranchConditional bo bi target absolute link) = count bo ++ when link lr
locations_written SystemCall = 3 ∷ cr 0 ∷ []
locations_written (Arithmetic op d a b records) = d ∷ (when (carry_out op) ca ++ when records (cr 0))
locations_written (ArithmeticUnary op d a records) = d ∷ (when (unary_carry op) ca ++ when records (cr 0))
locations_written (Logic op s a b records) = a ∷ (when (logic_carries op) ca ++ when records (cr 0))
locations_written (ShiftImmediate s a by records) = a ∷ ca ∷ when records (cr 0)
locations_written (LogicUnary op s a records) = a ∷ when records (cr 0)
locations_written (Compare op field a b) = cr field ∷ []
locations_written (Trap to a b) = []
locations_written (MoveFromCr d) = d ∷ []
locations_written (MoveToCr s mask) = chosen_fields mask
locations_written (MoveFromSpr d spr) = d ∷ []
locations_written (MoveToSpr s spr) = special spr
locations_written Sync = []
locations_written (LoadIndexed op d a b) = d ∷ []
locations_written (StoreIndexed op s a b) = []
locations_written (LoadIndexedUpdate op d a b) = d ∷ a ∷ []
locations_written (StoreIndexedUpdate op s a b) = a ∷ []
locations_written (MoveCrField to from) = cr to ∷ []
locations_written (CrLogic op d a b) = field_of d ∷ []
locations_written Isync = []
locations_written (BranchRegister op bo bi link) = count bo ++ when link lr

-- The number whose bits are the locations of the list.
abbrev pub with_bit : ℕ → ℕ → ℕ
with_bit bits k = bit_or bits (2 ^ k)

abbrev pub bits_of : List ℕ → ℕ
bits_of locations = fold with_bit 0 locations
