-- The rows of a rule's words: they go on, or load, or store, and the next word is known. This project's own.
use Rattle.std.proofs.Common.{◌≡◌, ℕ, Bool, true, false, not, cond, refl}
use Rattle.machines.specs.Prelude.{Outside, Goes, Ends, GuestValues, NoAccess, LoadAccess, StoreAccess, guest_row, each_byte, Rights, Guest, effect_of, guest_acts, behind, Instr, Immediate, LogicImmediate, Load, Store, LoadUpdate, StoreUpdate, CompareImmediate, Rotate, Arithmetic, ArithmeticUnary, Logic, ShiftImmediate, LogicUnary, Compare, MoveFromCr, MoveToCr, MoveFromSpr, MoveToSpr, Sync, LoadIndexed, StoreIndexed, LoadIndexedUpdate, StoreIndexedUpdate, MoveCrField, CrLogic, Isync, Multiple, TrapImmediate, Branch, BranchConditional, SystemCall, Trap, BranchRegister, ArithmeticOp, ArithmeticUnaryOp, CompareImmediateOp, CompareOp, ImmediateOp, LoadIndexedOp, LoadIndexedUpdateOp, LoadOp, LoadUpdateOp, LogicOp, LogicUnaryOp, StoreIndexedOp, StoreIndexedUpdateOp, StoreOp, StoreUpdateOp, Addi, Addis, Addic, AddicRecord, Subfic, Mulli, Lwz, Lbz, Lhz, Lha, Stw, Stb, Sth, Lwzu, Lbzu, Lhzu, Lhau, Stwu, Stbu, Sthu, Cmpi, Cmpli, Add, Addc, Adde, Subf, Subfc, Subfe, Mullw, Mulhw, Mulhwu, Divw, Divwu, Addze, Addme, Subfze, Subfme, Neg, And, Or, Xor, Nand, Nor, Eqv, Andc, Orc, Slw, Srw, Sraw, Cntlzw, Extsb, Extsh, Cmp, Cmpl, Lwzx, Lbzx, Lhzx, Lhax, Lwbrx, Lhbrx, Stwx, Stbx, Sthx, Stwbrx, Sthbrx, Lwzux, Lbzux, Lhzux, Lhaux, Stwux, Stbux, Sthux}
use Rattle.rule_body.specs.Prelude.{is_plain}
use Rattle.rule_soundness.specs.Prelude.{target_at}

-- What an instruction's row does, whatever the rights: it goes on; or it loads, or stores, and goes on where its bytes are
-- inside, else it ends outside. Behind it the next word is at this address.
pub data RowShape (i : Instr) (g : Guest) (next : ℕ) : Type 0 where
  calm : (after : Guest) → after.next ≡ next → (effect_of i g).kind ≡ NoAccess → ((rights : Rights) → guest_acts rights i (effect_of i g) g ≡ Goes after) → RowShape i g next
  loading : (after : Guest) → after.next ≡ next → (effect_of i g).kind ≡ LoadAccess → ((rights : Rights) → guest_acts rights i (effect_of i g) g ≡ cond (each_byte rights.held (effect_of i g).width (effect_of i g).address) (Goes after) (Ends Outside)) → RowShape i g next
  storing : (after : Guest) → after.next ≡ next → (effect_of i g).kind ≡ StoreAccess → ((rights : Rights) → guest_acts rights i (effect_of i g) g ≡ cond (each_byte rights.writable (effect_of i g).width (effect_of i g).address) (Goes after) (Ends Outside)) → RowShape i g next

pub immediate_kind : (op : ImmediateOp) (d : ℕ) (a : ℕ) (imm : ℕ) (v : GuestValues) → (guest_row (Immediate op d a imm) v).kind ≡ NoAccess
immediate_kind Addi d a imm v = refl
immediate_kind Addis d a imm v = refl
immediate_kind Addic d a imm v = refl
immediate_kind AddicRecord d a imm v = refl
immediate_kind Subfic d a imm v = refl
immediate_kind Mulli d a imm v = refl

load_kind : (op : LoadOp) (d : ℕ) (a : ℕ) (imm : ℕ) (v : GuestValues) → (guest_row (Load op d a imm) v).kind ≡ LoadAccess
load_kind Lwz d a imm v = refl
load_kind Lbz d a imm v = refl
load_kind Lhz d a imm v = refl
load_kind Lha d a imm v = refl

pub store_kind : (op : StoreOp) (s : ℕ) (a : ℕ) (imm : ℕ) (v : GuestValues) → (guest_row (Store op s a imm) v).kind ≡ StoreAccess
store_kind Stw s a imm v = refl
store_kind Stb s a imm v = refl
store_kind Sth s a imm v = refl

load_update_kind : (op : LoadUpdateOp) (d : ℕ) (a : ℕ) (imm : ℕ) (v : GuestValues) → (guest_row (LoadUpdate op d a imm) v).kind ≡ LoadAccess
load_update_kind Lwzu d a imm v = refl
load_update_kind Lbzu d a imm v = refl
load_update_kind Lhzu d a imm v = refl
load_update_kind Lhau d a imm v = refl

pub store_update_kind : (op : StoreUpdateOp) (s : ℕ) (a : ℕ) (imm : ℕ) (v : GuestValues) → (guest_row (StoreUpdate op s a imm) v).kind ≡ StoreAccess
store_update_kind Stwu s a imm v = refl
store_update_kind Stbu s a imm v = refl
store_update_kind Sthu s a imm v = refl

pub compare_immediate_kind : (op : CompareImmediateOp) (field : ℕ) (a : ℕ) (imm : ℕ) (v : GuestValues) → (guest_row (CompareImmediate op field a imm) v).kind ≡ NoAccess
compare_immediate_kind Cmpi field a imm v = refl
compare_immediate_kind Cmpli field a imm v = refl

pub arithmetic_kind : (op : ArithmeticOp) (d : ℕ) (a : ℕ) (b : ℕ) (records : Bool) (v : GuestValues) → (guest_row (Arithmetic op d a b records) v).kind ≡ NoAccess
arithmetic_kind Add d a b records v = refl
arithmetic_kind Addc d a b records v = refl
arithmetic_kind Adde d a b records v = refl
arithmetic_kind Subf d a b records v = refl
arithmetic_kind Subfc d a b records v = refl
arithmetic_kind Subfe d a b records v = refl
arithmetic_kind Mullw d a b records v = refl
arithmetic_kind Mulhw d a b records v = refl
arithmetic_kind Mulhwu d a b records v = refl
arithmetic_kind Divw d a b records v = refl
arithmetic_kind Divwu d a b records v = refl

pub arithmetic_unary_kind : (op : ArithmeticUnaryOp) (d : ℕ) (a : ℕ) (records : Bool) (v : GuestValues) → (guest_row (ArithmeticUnary op d a records) v).kind ≡ NoAccess
arithmetic_unary_kind Addze d a records v = refl
arithmetic_unary_kind Addme d a records v = refl
arithmetic_unary_kind Subfze d a records v = refl
arithmetic_unary_kind Subfme d a records v = refl
arithmetic_unary_kind Neg d a records v = refl

pub logic_kind : (op : LogicOp) (s : ℕ) (a : ℕ) (b : ℕ) (records : Bool) (v : GuestValues) → (guest_row (Logic op s a b records) v).kind ≡ NoAccess
logic_kind And s a b records v = refl
logic_kind Or s a b records v = refl
logic_kind Xor s a b records v = refl
logic_kind Nand s a b records v = refl
logic_kind Nor s a b records v = refl
logic_kind Eqv s a b records v = refl
logic_kind Andc s a b records v = refl
logic_kind Orc s a b records v = refl
logic_kind Slw s a b records v = refl
logic_kind Srw s a b records v = refl
logic_kind Sraw s a b records v = refl

pub logic_unary_kind : (op : LogicUnaryOp) (s : ℕ) (a : ℕ) (records : Bool) (v : GuestValues) → (guest_row (LogicUnary op s a records) v).kind ≡ NoAccess
logic_unary_kind Cntlzw s a records v = refl
logic_unary_kind Extsb s a records v = refl
logic_unary_kind Extsh s a records v = refl

pub compare_kind : (op : CompareOp) (field : ℕ) (a : ℕ) (b : ℕ) (v : GuestValues) → (guest_row (Compare op field a b) v).kind ≡ NoAccess
compare_kind Cmp field a b v = refl
compare_kind Cmpl field a b v = refl

load_indexed_kind : (op : LoadIndexedOp) (d : ℕ) (a : ℕ) (b : ℕ) (v : GuestValues) → (guest_row (LoadIndexed op d a b) v).kind ≡ LoadAccess
load_indexed_kind Lwzx d a b v = refl
load_indexed_kind Lbzx d a b v = refl
load_indexed_kind Lhzx d a b v = refl
load_indexed_kind Lhax d a b v = refl
load_indexed_kind Lwbrx d a b v = refl
load_indexed_kind Lhbrx d a b v = refl

pub store_indexed_kind : (op : StoreIndexedOp) (s : ℕ) (a : ℕ) (b : ℕ) (v : GuestValues) → (guest_row (StoreIndexed op s a b) v).kind ≡ StoreAccess
store_indexed_kind Stwx s a b v = refl
store_indexed_kind Stbx s a b v = refl
store_indexed_kind Sthx s a b v = refl
store_indexed_kind Stwbrx s a b v = refl
store_indexed_kind Sthbrx s a b v = refl

load_indexed_update_kind : (op : LoadIndexedUpdateOp) (d : ℕ) (a : ℕ) (b : ℕ) (v : GuestValues) → (guest_row (LoadIndexedUpdate op d a b) v).kind ≡ LoadAccess
load_indexed_update_kind Lwzux d a b v = refl
load_indexed_update_kind Lbzux d a b v = refl
load_indexed_update_kind Lhzux d a b v = refl
load_indexed_update_kind Lhaux d a b v = refl

pub store_indexed_update_kind : (op : StoreIndexedUpdateOp) (s : ℕ) (a : ℕ) (b : ℕ) (v : GuestValues) → (guest_row (StoreIndexedUpdate op s a b) v).kind ≡ StoreAccess
store_indexed_update_kind Stwux s a b v = refl
store_indexed_update_kind Stbux s a b v = refl
store_indexed_update_kind Sthux s a b v = refl

pub plain_shape : (i : Instr) → is_plain i ≡ true → (g : Guest) → RowShape i g (behind g.next)
plain_shape (Immediate op d a imm) plain g = calm _ refl (immediate_kind op d a imm _) (λ rights. refl)
plain_shape (LogicImmediate op s a imm) plain g = calm _ refl refl (λ rights. refl)
plain_shape (Load op d a imm) plain g = loading _ refl (load_kind op d a imm _) (λ rights. refl)
plain_shape (Store op s a imm) plain g = storing _ refl (store_kind op s a imm _) (λ rights. refl)
plain_shape (LoadUpdate op d a imm) plain g = loading _ refl (load_update_kind op d a imm _) (λ rights. refl)
plain_shape (StoreUpdate op s a imm) plain g = storing _ refl (store_update_kind op s a imm _) (λ rights. refl)
plain_shape (CompareImmediate op field a imm) plain g = calm _ refl (compare_immediate_kind op field a imm _) (λ rights. refl)
plain_shape (Rotate op s a by mask_begin mask_end records) plain g = calm _ refl refl (λ rights. refl)
plain_shape (Arithmetic op d a b records) plain g = calm _ refl (arithmetic_kind op d a b records _) (λ rights. refl)
plain_shape (ArithmeticUnary op d a records) plain g = calm _ refl (arithmetic_unary_kind op d a records _) (λ rights. refl)
plain_shape (Logic op s a b records) plain g = calm _ refl (logic_kind op s a b records _) (λ rights. refl)
plain_shape (ShiftImmediate s a by records) plain g = calm _ refl refl (λ rights. refl)
plain_shape (LogicUnary op s a records) plain g = calm _ refl (logic_unary_kind op s a records _) (λ rights. refl)
plain_shape (Compare op field a b) plain g = calm _ refl (compare_kind op field a b _) (λ rights. refl)
plain_shape (MoveFromCr d) plain g = calm _ refl refl (λ rights. refl)
plain_shape (MoveToCr s mask) plain g = calm _ refl refl (λ rights. refl)
plain_shape (MoveFromSpr d spr) plain g = calm _ refl refl (λ rights. refl)
plain_shape (MoveToSpr s spr) plain g = calm _ refl refl (λ rights. refl)
plain_shape Sync plain g = calm _ refl refl (λ rights. refl)
plain_shape (LoadIndexed op d a b) plain g = loading _ refl (load_indexed_kind op d a b _) (λ rights. refl)
plain_shape (StoreIndexed op s a b) plain g = storing _ refl (store_indexed_kind op s a b _) (λ rights. refl)
plain_shape (LoadIndexedUpdate op d a b) plain g = loading _ refl (load_indexed_update_kind op d a b _) (λ rights. refl)
plain_shape (StoreIndexedUpdate op s a b) plain g = storing _ refl (store_indexed_update_kind op s a b _) (λ rights. refl)
plain_shape (MoveCrField to from) plain g = calm _ refl refl (λ rights. refl)
plain_shape (CrLogic op d a b) plain g = calm _ refl refl (λ rights. refl)
plain_shape Isync plain g = calm _ refl refl (λ rights. refl)
plain_shape (Multiple op d a imm) plain g = absurd cc
plain_shape (TrapImmediate to a imm) plain g = absurd cc
plain_shape (Branch target absolute link) plain g = absurd cc
plain_shape (BranchConditional bo bi target absolute link) plain g = absurd cc
plain_shape SystemCall plain g = absurd cc
plain_shape (Trap to a b) plain g = absurd cc
plain_shape (BranchRegister op bo bi link) plain g = absurd cc

-- a conditional branch without a link
abbrev pub is_fork : Instr → Bool
is_fork (BranchConditional bo bi target absolute link) = not link
is_fork _ = false

pub fork_shape : (i : Instr) → is_fork i ≡ true → (g : Guest) → RowShape i g (cond (effect_of i g).taken (target_at i g.next) (behind g.next))
fork_shape (BranchConditional bo bi target absolute link) fork g = calm _ refl refl (λ rights. refl)
fork_shape Sync fork g = absurd cc
fork_shape Isync fork g = absurd cc
fork_shape SystemCall fork g = absurd cc
fork_shape _ fork g = absurd cc
