-- Which registers the rows of a window read and write, and how many bytes they load: the fields of the machine's rows, as a
-- table. This project's own.
use Rattle.std.specs.Prelude.{◌≡◌, ℕ, ◌*◌, ◌==◌, if◌then◌else◌, Bool, true, false, not, ◌||◌, Option, Some, None}
use Rattle.machines.specs.Prelude.{sign_extended, Outside, Goes, Ends, Instr, Immediate, LogicImmediate, Load, Store, LoadUpdate, StoreUpdate, TrapImmediate, CompareImmediate, Rotate, BranchConditional, Arithmetic, ArithmeticUnary, Logic, ShiftImmediate, LogicUnary, Compare, Trap, MoveFromCr, MoveToCr, MoveFromSpr, MoveToSpr, LoadIndexed, StoreIndexed, LoadIndexedUpdate, StoreIndexedUpdate, MoveCrField, CrLogic, Rlwnm, Addis, Ori, Xori, Andi, Cmpli, LoadOp, Lwz, Lbz, Lhz, Lha, LoadUpdateOp, Lwzu, Lbzu, Lhzu, Lhau, LoadIndexedOp, Lwzx, Lbzx, Lhzx, Lhax, Lwbrx, Lhbrx, LoadIndexedUpdateOp, Lwzux, Lbzux, Lhzux, Lhaux, immediate_carries, immediate_records, carry_out, unary_carry, logic_immediate_records, logic_carries, Effect, GuestValues, LoadAccess, guest_row, Rights, update, store_big, each_byte, Guest, lr, ctr, puts_cr, puts_xer, branches, at_next, guest_acts, value_a, value_b, value_s}
use Rattle.rule_body.specs.Prelude.{is_plain, has_access}
use Rattle.rule_soundness.specs.Laid.{target_at}

-- the register of bits 11 to 15
abbrev pub a_field : Instr → Option ℕ
a_field (Immediate op d a imm) = Some a
a_field (LogicImmediate op s a imm) = Some a
a_field (Load op d a imm) = Some a
a_field (Store op s a imm) = Some a
a_field (LoadUpdate op d a imm) = Some a
a_field (StoreUpdate op s a imm) = Some a
a_field (TrapImmediate to a imm) = Some a
a_field (CompareImmediate op field a imm) = Some a
a_field (Rotate op s a by mask_begin mask_end records) = Some a
a_field (Arithmetic op d a b records) = Some a
a_field (ArithmeticUnary op d a records) = Some a
a_field (Logic op s a b records) = Some a
a_field (ShiftImmediate s a by records) = Some a
a_field (LogicUnary op s a records) = Some a
a_field (Compare op field a b) = Some a
a_field (Trap to a b) = Some a
a_field (LoadIndexed op d a b) = Some a
a_field (StoreIndexed op s a b) = Some a
a_field (LoadIndexedUpdate op d a b) = Some a
a_field (StoreIndexedUpdate op s a b) = Some a
a_field i = None

-- the register of bits 16 to 20
abbrev pub b_field : Instr → Option ℕ
b_field (Rotate Rlwnm s a by mask_begin mask_end records) = Some by
b_field (Arithmetic op d a b records) = Some b
b_field (Logic op s a b records) = Some b
b_field (Compare op field a b) = Some b
b_field (Trap to a b) = Some b
b_field (LoadIndexed op d a b) = Some b
b_field (StoreIndexed op s a b) = Some b
b_field (LoadIndexedUpdate op d a b) = Some b
b_field (StoreIndexedUpdate op s a b) = Some b
b_field i = None

-- the register of bits 6 to 10
abbrev pub s_field : Instr → Option ℕ
s_field (Immediate op d a imm) = Some d
s_field (LogicImmediate op s a imm) = Some s
s_field (Load op d a imm) = Some d
s_field (Store op s a imm) = Some s
s_field (LoadUpdate op d a imm) = Some d
s_field (StoreUpdate op s a imm) = Some s
s_field (Rotate op s a by mask_begin mask_end records) = Some s
s_field (Arithmetic op d a b records) = Some d
s_field (ArithmeticUnary op d a records) = Some d
s_field (Logic op s a b records) = Some s
s_field (ShiftImmediate s a by records) = Some s
s_field (LogicUnary op s a records) = Some s
s_field (MoveFromCr d) = Some d
s_field (MoveToCr s mask) = Some s
s_field (MoveFromSpr d spr) = Some d
s_field (MoveToSpr s spr) = Some s
s_field (LoadIndexed op d a b) = Some d
s_field (StoreIndexed op s a b) = Some s
s_field (LoadIndexedUpdate op d a b) = Some d
s_field (StoreIndexedUpdate op s a b) = Some s
s_field i = None

-- how a row reads an immediate of 16 bits: as signed, as unsigned, or as the upper half of a word
pub data Reading : Type 0 where
  Signed : (imm : ℕ) → Reading
  Unsigned : (imm : ℕ) → Reading
  Upper : (imm : ℕ) → Reading

abbrev pub immediate : Instr → Option Reading
immediate (Immediate Addis d a imm) = Some (Upper imm)
immediate (Immediate op d a imm) = Some (Signed imm)
immediate (LogicImmediate Ori s a imm) = Some (Unsigned imm)
immediate (LogicImmediate Xori s a imm) = Some (Unsigned imm)
immediate (LogicImmediate Andi s a imm) = Some (Unsigned imm)
immediate (LogicImmediate op s a imm) = Some (Upper imm)
immediate (Load op d a imm) = Some (Signed imm)
immediate (Store op s a imm) = Some (Signed imm)
immediate (LoadUpdate op d a imm) = Some (Signed imm)
immediate (StoreUpdate op s a imm) = Some (Signed imm)
immediate (CompareImmediate Cmpli field a imm) = Some (Unsigned imm)
immediate (CompareImmediate op field a imm) = Some (Signed imm)
immediate i = None

abbrev pub number_read : Reading → ℕ
number_read (Signed imm) = sign_extended 16 imm
number_read (Unsigned imm) = imm
number_read (Upper imm) = 65536 * imm

-- how many bytes a load has
abbrev pub load_bytes : LoadOp → ℕ
load_bytes Lwz = 4
load_bytes Lbz = 1
load_bytes Lhz = 2
load_bytes Lha = 2

abbrev pub load_update_bytes : LoadUpdateOp → ℕ
load_update_bytes Lwzu = 4
load_update_bytes Lbzu = 1
load_update_bytes Lhzu = 2
load_update_bytes Lhau = 2

abbrev pub load_indexed_bytes : LoadIndexedOp → ℕ
load_indexed_bytes Lwzx = 4
load_indexed_bytes Lbzx = 1
load_indexed_bytes Lhzx = 2
load_indexed_bytes Lhax = 2
load_indexed_bytes Lwbrx = 4
load_indexed_bytes Lhbrx = 2

abbrev pub load_indexed_update_bytes : LoadIndexedUpdateOp → ℕ
load_indexed_update_bytes Lwzux = 4
load_indexed_update_bytes Lbzux = 1
load_indexed_update_bytes Lhzux = 2
load_indexed_update_bytes Lhaux = 2

abbrev pub load_width : Instr → ℕ
load_width (Load op d a imm) = load_bytes op
load_width (LoadUpdate op d a imm) = load_update_bytes op
load_width (LoadIndexed op d a b) = load_indexed_bytes op
load_width (LoadIndexedUpdate op d a b) = load_indexed_update_bytes op
load_width i = 0

-- what a row writes: the registers that get its results, and which of CR, XER, LR and CTR it puts
pub record Written : Type 0 where
  pub d : Option ℕ
  pub a : Option ℕ
  pub cr : Bool
  pub xer : Bool
  pub lr : Bool
  pub ctr : Bool

abbrev pub gets : Option ℕ → Option ℕ → Bool → Bool → Written
gets d a cr xer = record { d = d; a = a; cr = cr; xer = xer; lr = false; ctr = false }

abbrev pub written : Instr → Written
written (Immediate op d a imm) = gets (Some d) None (immediate_records op) (immediate_carries op)
written (LogicImmediate op s a imm) = gets None (Some a) (logic_immediate_records op) false
written (Load op d a imm) = gets (Some d) None false false
written (LoadUpdate op d a imm) = gets (Some d) (Some a) false false
written (StoreUpdate op s a imm) = gets None (Some a) false false
written (CompareImmediate op field a imm) = gets None None true false
written (Rotate op s a by mask_begin mask_end records) = gets None (Some a) records false
written (BranchConditional bo bi target absolute link) = record (gets None None false false) { ctr = true }
written (Arithmetic op d a b records) = gets (Some d) None records (carry_out op)
written (ArithmeticUnary op d a records) = gets (Some d) None records (unary_carry op)
written (Logic op s a b records) = gets None (Some a) records (logic_carries op)
written (ShiftImmediate s a by records) = gets None (Some a) records true
written (LogicUnary op s a records) = gets None (Some a) records false
written (Compare op field a b) = gets None None true false
written (MoveFromCr d) = gets (Some d) None false false
written (MoveToCr s mask) = gets None None true false
written (MoveFromSpr d spr) = gets (Some d) None false false
written (MoveToSpr s spr) = record (gets None None false (spr == 1)) { lr = spr == 8; ctr = not (spr == 1 || spr == 8) }
written (LoadIndexed op d a b) = gets (Some d) None false false
written (LoadIndexedUpdate op d a b) = gets (Some d) (Some a) false false
written (StoreIndexedUpdate op s a b) = gets None (Some a) false false
written (MoveCrField to from) = gets None None true false
written (CrLogic op d a b) = gets None None true false
written i = gets None None false false

-- stores
abbrev pub is_store : Instr → Bool
is_store (Store op s a imm) = true
is_store (StoreUpdate op s a imm) = true
is_store (StoreIndexed op s a b) = true
is_store (StoreIndexedUpdate op s a b) = true
is_store i = false

-- the value of a field, and 0 where there is none; a result put there, if it goes anywhere
abbrev pub read_field : (ℕ → ℕ) → Option ℕ → ℕ
read_field locs None = 0
read_field locs (Some r) = locs r

abbrev pub put_field : Option ℕ → ℕ → (ℕ → ℕ) → ℕ → ℕ
put_field None v locs = locs
put_field (Some r) v locs = update locs r v

-- the immediate, or else the register of bits 16 to 20
abbrev pub read_second : (ℕ → ℕ) → Option Reading → Option ℕ → ℕ
read_second locs None field = read_field locs field
read_second locs (Some reading) field = number_read reading

-- the locations behind a row with its effect
abbrev pub put_written : Written → Effect → (ℕ → ℕ) → ℕ → ℕ
put_written w e locs =
    let results = puts_xer w.xer e (puts_cr w.cr e (put_field w.a e.a (put_field w.d e.d locs))) in
    let linked = if w.lr then update results lr e.lr else results in
    if w.ctr then update linked ctr e.ctr else linked

-- whether the row may make its access
abbrev pub reaches : Rights → Instr → Effect → Bool
reaches rights i e = each_byte (if is_store i then rights.writable else rights.held) e.width e.address

-- memory behind it
abbrev pub stored_bytes : Instr → Effect → (ℕ → ℕ) → ℕ → ℕ
stored_bytes i e bytes = if is_store i then store_big e.width e.address e.stored bytes else bytes

-- A row of a window reads its fields and its immediate.
pub record ReadsFields (i : Instr) (locs : ℕ → ℕ) : Type 0 where
  pub a : value_a i locs ≡ read_field locs (a_field i)
  pub b : value_b i locs ≡ read_second locs (immediate i) (b_field i)
  pub s : value_s i locs ≡ read_field locs (s_field i)

abbrev pub RowsReadFields : Type 0
RowsReadFields = (i : Instr) (locs : ℕ → ℕ) → is_plain i ≡ true → ReadsFields i locs

-- It puts what the table says and goes on to the next word; an access that it may not make ends the run.
abbrev pub RowsPutFields : Type 0
RowsPutFields = (rights : Rights) (i : Instr) (e : Effect) (g : Guest) → is_plain i ≡ true → has_access i ≡ false → guest_acts rights i e g ≡ Goes (at_next (put_written (written i) e g.locs) g)

abbrev pub AccessesPutFields : Type 0
AccessesPutFields =
    (rights : Rights) (i : Instr) (e : Effect) (g : Guest) → is_plain i ≡ true → has_access i ≡ true →
    guest_acts rights i e g ≡ (if reaches rights i e then Goes (record (at_next (put_written (written i) e g.locs) g) { bytes = stored_bytes i e g.bytes }) else Ends Outside)

-- The branch that ends a window puts what the table says, and goes to its target or to the next word.
abbrev pub BranchesPutFields : Type 0
BranchesPutFields =
    (rights : Rights) (bo bi target : ℕ) (absolute : Bool) (e : Effect) (g : Guest) →
    let i = BranchConditional bo bi target absolute false in guest_acts rights i e g ≡ Goes (branches (put_written (written i) e g.locs) e.taken (target_at i g.next) g)

-- A load has as many bytes as the table says.
abbrev pub LoadsHaveWidths : Type 0
LoadsHaveWidths = (i : Instr) (v : GuestValues) → is_plain i ≡ true → (guest_row i v).kind ≡ LoadAccess → (guest_row i v).width ≡ load_width i
