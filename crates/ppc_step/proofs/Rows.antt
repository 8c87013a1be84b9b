-- What a row gives doesn't depend on what is loaded, but for the loads of one number, and theirs in rD alone.
use Rattle.std.proofs.Common.{◌≡◌, ℕ, ◌≤◌, Bool, true, false, Some, None, refl, sym, ◌∙◌, ap, arith}
use Rattle.machines.specs.Prelude.{Instr, Immediate, LogicImmediate, Load, Store, LoadUpdate, StoreUpdate, Multiple, TrapImmediate, CompareImmediate, Rotate, Branch, BranchConditional, SystemCall, Arithmetic, ArithmeticUnary, Logic, ShiftImmediate, LogicUnary, Compare, Trap, MoveFromCr, MoveToCr, MoveFromSpr, MoveToSpr, Sync, LoadIndexed, StoreIndexed, LoadIndexedUpdate, StoreIndexedUpdate, MoveCrField, CrLogic, Isync, BranchRegister, Addi, Addis, Addic, AddicRecord, Subfic, Mulli, Lwz, Lbz, Lhz, Lha, Stw, Stb, Sth, Lwzu, Lbzu, Lhzu, Lhau, Stwu, Stbu, Sthu, Lmw, Stmw, Cmpi, Cmpli, Rlwinm, Rlwnm, Rlwimi, Add, Addc, Adde, Subf, Subfc, Subfe, Mullw, Mulhw, Mulhwu, Divw, Divwu, Addze, Addme, Subfze, Subfme, Neg, And, Or, Xor, Nand, Nor, Eqv, Andc, Orc, Slw, Srw, Sraw, Cntlzw, Extsb, Extsh, Cmp, Cmpl, Lwzx, Lbzx, Lhzx, Lhax, Lwbrx, Lhbrx, Stwx, Stbx, Sthx, Stwbrx, Sthbrx, Lwzux, Lbzux, Lhzux, Lhaux, Stwux, Stbux, Sthux, GuestValues, Effect, LoadAccess, guest_row, Guest, guest_values, loaded_in, effect_of, Program, load_big, each_byte, rights_of}
use Rattle.std.specs.Prelude.{if◌then◌else◌}
use Rattle.ppc_step.specs.Prelude.{is_load, is_store}

unloaded : (i : Instr) (v : GuestValues) (n : ℕ) → is_load i ≡ false → guest_row i (record v { loaded = n }) ≡ guest_row i v
unloaded (Immediate Addi d a imm) v n other = refl
unloaded (Immediate Addis d a imm) v n other = refl
unloaded (Immediate Addic d a imm) v n other = refl
unloaded (Immediate AddicRecord d a imm) v n other = refl
unloaded (Immediate Subfic d a imm) v n other = refl
unloaded (Immediate Mulli d a imm) v n other = refl
unloaded (LogicImmediate op s a imm) v n other = refl
unloaded (Load op d a imm) v n other = absurd cc
unloaded (Store Stw s a imm) v n other = refl
unloaded (Store Stb s a imm) v n other = refl
unloaded (Store Sth s a imm) v n other = refl
unloaded (LoadUpdate op d a imm) v n other = absurd cc
unloaded (StoreUpdate Stwu s a imm) v n other = refl
unloaded (StoreUpdate Stbu s a imm) v n other = refl
unloaded (StoreUpdate Sthu s a imm) v n other = refl
unloaded (Multiple Lmw d a imm) v n other = refl
unloaded (Multiple Stmw d a imm) v n other = refl
unloaded (TrapImmediate to a imm) v n other = refl
unloaded (CompareImmediate Cmpi field a imm) v n other = refl
unloaded (CompareImmediate Cmpli field a imm) v n other = refl
unloaded (Rotate Rlwinm s a by mask_begin mask_end records) v n other = refl
unloaded (Rotate Rlwnm s a by mask_begin mask_end records) v n other = refl
unloaded (Rotate Rlwimi s a by mask_begin mask_end records) v n other = refl
unloaded (Branch target absolute link) v n other = refl
unloaded (BranchConditional bo bi target absolute link) v n other = refl
unloaded SystemCall v n other = refl
unloaded (Arithmetic Add d a b records) v n other = refl
unloaded (Arithmetic Addc d a b records) v n other = refl
unloaded (Arithmetic Adde d a b records) v n other = refl
unloaded (Arithmetic Subf d a b records) v n other = refl
unloaded (Arithmetic Subfc d a b records) v n other = refl
unloaded (Arithmetic Subfe d a b records) v n other = refl
unloaded (Arithmetic Mullw d a b records) v n other = refl
unloaded (Arithmetic Mulhw d a b records) v n other = refl
unloaded (Arithmetic Mulhwu d a b records) v n other = refl
unloaded (Arithmetic Divw d a b records) v n other = refl
unloaded (Arithmetic Divwu d a b records) v n other = refl
unloaded (ArithmeticUnary Addze d a records) v n other = refl
unloaded (ArithmeticUnary Addme d a records) v n other = refl
unloaded (ArithmeticUnary Subfze d a records) v n other = refl
unloaded (ArithmeticUnary Subfme d a records) v n other = refl
unloaded (ArithmeticUnary Neg d a records) v n other = refl
unloaded (Logic And s a b records) v n other = refl
unloaded (Logic Or s a b records) v n other = refl
unloaded (Logic Xor s a b records) v n other = refl
unloaded (Logic Nand s a b records) v n other = refl
unloaded (Logic Nor s a b records) v n other = refl
unloaded (Logic Eqv s a b records) v n other = refl
unloaded (Logic Andc s a b records) v n other = refl
unloaded (Logic Orc s a b records) v n other = refl
unloaded (Logic Slw s a b records) v n other = refl
unloaded (Logic Srw s a b records) v n other = refl
unloaded (Logic Sraw s a b records) v n other = refl
unloaded (ShiftImmediate s a by records) v n other = refl
unloaded (LogicUnary Cntlzw s a records) v n other = refl
unloaded (LogicUnary Extsb s a records) v n other = refl
unloaded (LogicUnary Extsh s a records) v n other = refl
unloaded (Compare Cmp field a b) v n other = refl
unloaded (Compare Cmpl field a b) v n other = refl
unloaded (Trap to a b) v n other = refl
unloaded (MoveFromCr d) v n other = refl
unloaded (MoveToCr s mask) v n other = refl
unloaded (MoveFromSpr d spr) v n other = refl
unloaded (MoveToSpr s spr) v n other = refl
unloaded Sync v n other = refl
unloaded (LoadIndexed op d a b) v n other = absurd cc
unloaded (StoreIndexed Stwx s a b) v n other = refl
unloaded (StoreIndexed Stbx s a b) v n other = refl
unloaded (StoreIndexed Sthx s a b) v n other = refl
unloaded (StoreIndexed Stwbrx s a b) v n other = refl
unloaded (StoreIndexed Sthbrx s a b) v n other = refl
unloaded (LoadIndexedUpdate op d a b) v n other = absurd cc
unloaded (StoreIndexedUpdate Stwux s a b) v n other = refl
unloaded (StoreIndexedUpdate Stbux s a b) v n other = refl
unloaded (StoreIndexedUpdate Sthux s a b) v n other = refl
unloaded (MoveCrField to from) v n other = refl
unloaded (CrLogic op d a b) v n other = refl
unloaded Isync v n other = refl
unloaded (BranchRegister op bo bi link) v n other = refl

-- where a load reaches, and that it loads
pub record SameAccess (e made : Effect) : Type 0 where
  pub address : made.address ≡ e.address
  pub width : made.width ≡ e.width
  pub kind : e.kind ≡ LoadAccess
  pub short : e.width ≤ 4

pub reaches : (i : Instr) (v : GuestValues) (n : ℕ) → is_load i ≡ true → SameAccess (guest_row i v) (guest_row i (record v { loaded = n }))
reaches (Immediate op d a imm) v n load = absurd cc
reaches (LogicImmediate op s a imm) v n load = absurd cc
reaches (Load Lwz d a imm) v n load = record { address = refl; width = refl; kind = refl; short = omega arith }
reaches (Load Lbz d a imm) v n load = record { address = refl; width = refl; kind = refl; short = omega arith }
reaches (Load Lhz d a imm) v n load = record { address = refl; width = refl; kind = refl; short = omega arith }
reaches (Load Lha d a imm) v n load = record { address = refl; width = refl; kind = refl; short = omega arith }
reaches (Store op s a imm) v n load = absurd cc
reaches (LoadUpdate Lwzu d a imm) v n load = record { address = refl; width = refl; kind = refl; short = omega arith }
reaches (LoadUpdate Lbzu d a imm) v n load = record { address = refl; width = refl; kind = refl; short = omega arith }
reaches (LoadUpdate Lhzu d a imm) v n load = record { address = refl; width = refl; kind = refl; short = omega arith }
reaches (LoadUpdate Lhau d a imm) v n load = record { address = refl; width = refl; kind = refl; short = omega arith }
reaches (StoreUpdate op s a imm) v n load = absurd cc
reaches (Multiple op d a imm) v n load = absurd cc
reaches (TrapImmediate to a imm) v n load = absurd cc
reaches (CompareImmediate op field a imm) v n load = absurd cc
reaches (Rotate op s a by mask_begin mask_end records) v n load = absurd cc
reaches (Branch target absolute link) v n load = absurd cc
reaches (BranchConditional bo bi target absolute link) v n load = absurd cc
reaches SystemCall v n load = absurd cc
reaches (Arithmetic op d a b records) v n load = absurd cc
reaches (ArithmeticUnary op d a records) v n load = absurd cc
reaches (Logic op s a b records) v n load = absurd cc
reaches (ShiftImmediate s a by records) v n load = absurd cc
reaches (LogicUnary op s a records) v n load = absurd cc
reaches (Compare op field a b) v n load = absurd cc
reaches (Trap to a b) v n load = absurd cc
reaches (MoveFromCr d) v n load = absurd cc
reaches (MoveToCr s mask) v n load = absurd cc
reaches (MoveFromSpr d spr) v n load = absurd cc
reaches (MoveToSpr s spr) v n load = absurd cc
reaches Sync v n load = absurd cc
reaches (LoadIndexed Lwzx d a b) v n load = record { address = refl; width = refl; kind = refl; short = omega arith }
reaches (LoadIndexed Lbzx d a b) v n load = record { address = refl; width = refl; kind = refl; short = omega arith }
reaches (LoadIndexed Lhzx d a b) v n load = record { address = refl; width = refl; kind = refl; short = omega arith }
reaches (LoadIndexed Lhax d a b) v n load = record { address = refl; width = refl; kind = refl; short = omega arith }
reaches (LoadIndexed Lwbrx d a b) v n load = record { address = refl; width = refl; kind = refl; short = omega arith }
reaches (LoadIndexed Lhbrx d a b) v n load = record { address = refl; width = refl; kind = refl; short = omega arith }
reaches (StoreIndexed op s a b) v n load = absurd cc
reaches (LoadIndexedUpdate Lwzux d a b) v n load = record { address = refl; width = refl; kind = refl; short = omega arith }
reaches (LoadIndexedUpdate Lbzux d a b) v n load = record { address = refl; width = refl; kind = refl; short = omega arith }
reaches (LoadIndexedUpdate Lhzux d a b) v n load = record { address = refl; width = refl; kind = refl; short = omega arith }
reaches (LoadIndexedUpdate Lhaux d a b) v n load = record { address = refl; width = refl; kind = refl; short = omega arith }
reaches (StoreIndexedUpdate op s a b) v n load = absurd cc
reaches (MoveCrField to from) v n load = absurd cc
reaches (CrLogic op d a b) v n load = absurd cc
reaches Isync v n load = absurd cc
reaches (BranchRegister op bo bi link) v n load = absurd cc

pub store_width : (i : Instr) (v : GuestValues) → is_store i ≡ true → (guest_row i v).width ≤ 4
store_width (Immediate op d a imm) v store = absurd cc
store_width (LogicImmediate op s a imm) v store = absurd cc
store_width (Load op d a imm) v store = absurd cc
store_width (Store Stw s a imm) v store = omega arith
store_width (Store Stb s a imm) v store = omega arith
store_width (Store Sth s a imm) v store = omega arith
store_width (LoadUpdate op d a imm) v store = absurd cc
store_width (StoreUpdate Stwu s a imm) v store = omega arith
store_width (StoreUpdate Stbu s a imm) v store = omega arith
store_width (StoreUpdate Sthu s a imm) v store = omega arith
store_width (Multiple op d a imm) v store = absurd cc
store_width (TrapImmediate to a imm) v store = absurd cc
store_width (CompareImmediate op field a imm) v store = absurd cc
store_width (Rotate op s a by mask_begin mask_end records) v store = absurd cc
store_width (Branch target absolute link) v store = absurd cc
store_width (BranchConditional bo bi target absolute link) v store = absurd cc
store_width SystemCall v store = absurd cc
store_width (Arithmetic op d a b records) v store = absurd cc
store_width (ArithmeticUnary op d a records) v store = absurd cc
store_width (Logic op s a b records) v store = absurd cc
store_width (ShiftImmediate s a by records) v store = absurd cc
store_width (LogicUnary op s a records) v store = absurd cc
store_width (Compare op field a b) v store = absurd cc
store_width (Trap to a b) v store = absurd cc
store_width (MoveFromCr d) v store = absurd cc
store_width (MoveToCr s mask) v store = absurd cc
store_width (MoveFromSpr d spr) v store = absurd cc
store_width (MoveToSpr s spr) v store = absurd cc
store_width Sync v store = absurd cc
store_width (LoadIndexed op d a b) v store = absurd cc
store_width (StoreIndexed Stwx s a b) v store = omega arith
store_width (StoreIndexed Stbx s a b) v store = omega arith
store_width (StoreIndexed Sthx s a b) v store = omega arith
store_width (StoreIndexed Stwbrx s a b) v store = omega arith
store_width (StoreIndexed Sthbrx s a b) v store = omega arith
store_width (LoadIndexedUpdate op d a b) v store = absurd cc
store_width (StoreIndexedUpdate Stwux s a b) v store = omega arith
store_width (StoreIndexedUpdate Stbux s a b) v store = omega arith
store_width (StoreIndexedUpdate Sthux s a b) v store = omega arith
store_width (MoveCrField to from) v store = absurd cc
store_width (CrLogic op d a b) v store = absurd cc
store_width Isync v store = absurd cc
store_width (BranchRegister op bo bi link) v store = absurd cc

pub no_load : (i : Instr) → is_store i ≡ true → is_load i ≡ false
no_load (Immediate op d a imm) store = refl
no_load (LogicImmediate op s a imm) store = refl
no_load (Load op d a imm) store = absurd cc
no_load (Store op s a imm) store = refl
no_load (LoadUpdate op d a imm) store = absurd cc
no_load (StoreUpdate op s a imm) store = refl
no_load (Multiple op d a imm) store = refl
no_load (TrapImmediate to a imm) store = refl
no_load (CompareImmediate op field a imm) store = refl
no_load (Rotate op s a by mask_begin mask_end records) store = refl
no_load (Branch target absolute link) store = refl
no_load (BranchConditional bo bi target absolute link) store = refl
no_load SystemCall store = refl
no_load (Arithmetic op d a b records) store = refl
no_load (ArithmeticUnary op d a records) store = refl
no_load (Logic op s a b records) store = refl
no_load (ShiftImmediate s a by records) store = refl
no_load (LogicUnary op s a records) store = refl
no_load (Compare op field a b) store = refl
no_load (Trap to a b) store = refl
no_load (MoveFromCr d) store = refl
no_load (MoveToCr s mask) store = refl
no_load (MoveFromSpr d spr) store = refl
no_load (MoveToSpr s spr) store = refl
no_load Sync store = refl
no_load (LoadIndexed op d a b) store = absurd cc
no_load (StoreIndexed op s a b) store = refl
no_load (LoadIndexedUpdate op d a b) store = absurd cc
no_load (StoreIndexedUpdate op s a b) store = refl
no_load (MoveCrField to from) store = refl
no_load (CrLogic op d a b) store = refl
no_load Isync store = refl
no_load (BranchRegister op bo bi link) store = refl

-- the effect before anything is loaded
abbrev pub first : Instr → Guest → Effect
first i g = guest_row i (guest_values i 0 g.locs)

pub effect_is : (i : Instr) (g : Guest) → is_load i ≡ false → first i g ≡ effect_of i g
effect_is i g other = sym (unloaded i (guest_values i 0 g.locs) (loaded_in (first i g) g.bytes) other)

pub short : (i : Instr) (v : GuestValues) → is_load i ≡ true → (guest_row i v).width ≤ 4
short i v load = (reaches i v 0 load).short

-- what was loaded, or that a byte of it isn't held, in a test's words
none_of : (b : Bool) (n : ℕ) → None ≡ (if b then Some n else None) → b ≡ false
none_of true n e = absurd cc
none_of false n e = refl

some_of : (b : Bool) (m n : ℕ) → Some m ≡ (if b then Some n else None) → (b ≡ true) × (m ≡ n)
some_of true m n e = (refl, cc)
some_of false m n e = absurd cc

module _ (p : Program) (i : Instr) (g : Guest) (a : Effect) (load : is_load i ≡ true) (is : a ≡ first i g) where
  same : SameAccess (first i g) (effect_of i g)
  same = reaches i (guest_values i 0 g.locs) (loaded_in (first i g) g.bytes) load

  held_is : each_byte (rights_of p).held a.width a.address ≡ each_byte (rights_of p).held (effect_of i g).width (effect_of i g).address
  held_is = rw (is, same.width, same.address) refl

  pub none_loaded : None ≡ (if each_byte (rights_of p).held a.width a.address then Some (load_big a.width a.address g.bytes) else None)
      → each_byte (rights_of p).held (effect_of i g).width (effect_of i g).address ≡ false
  none_loaded none = sym held_is ∙ none_of (each_byte (rights_of p).held a.width a.address) (load_big a.width a.address g.bytes) none

  pub some_loaded : (n : ℕ) (made : Effect) → Some n ≡ (if each_byte (rights_of p).held a.width a.address then Some (load_big a.width a.address g.bytes) else None)
      → made ≡ guest_row i (guest_values i n g.locs)
      → (each_byte (rights_of p).held (effect_of i g).width (effect_of i g).address ≡ true) × (made ≡ effect_of i g)
  some_loaded n made some made_is =
      let s = some_of (each_byte (rights_of p).held a.width a.address) n (load_big a.width a.address g.bytes) some in
      let number : load_big a.width a.address g.bytes ≡ loaded_in (first i g) g.bytes = rw (is, same.kind) refl in
      (sym held_is ∙ s.0, made_is ∙ ap (λ k. guest_row i (guest_values i k g.locs)) (s.1 ∙ number))
