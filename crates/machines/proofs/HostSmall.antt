-- Small host programs that make no call.
use Rattle.std.proofs.Common.{◌≡◌, ℕ, suc, ◌+◌, ◌-◌, ◌%◌, ◌^◌, Bool, true, false, cond, leb, List, length, take, drop, Option, Some, None, refl, ap, ◌∙◌, arith}
use Rattle.machines.specs.Prelude.{Program, End, Exit, Trap, Illegal, Outside, ended, Goes, Ends, Op, AluImm, MovTo, MovImm, Extend, Jcc, Jmp, Int80, Int3, Ud2, Cmp, MovzxByte, Equal, Reg, Abs, spelling, IsReg, IsInProfile, modrm_at, plain_at, plain_op, is_code, each_byte, load, store, is_held, is_writable, rights_of, code_of, Fetched, ReadsOps, Choice, Host, op_bytes, host_acts, host_executes, host_machine, host_start}
use Rattle.ia_codec.specs.Reading.{read, byte_at}
use Rattle.ia_codec.proofs.Spelt.{read-spelt}
use Rattle.machines.specs.HostExamples.{host_program, HostEndsAt, HostEndsBy, host_exit, host_unknown, host_branch, host_no_branch, host_memory, host_code_write, host_trap, host_ud2, host_nothing, host_off}
use Rattle.machines.proofs.Tests.{upto}
use Rattle.machines.proofs.Traces.{Silent, last, more, trace_of, traced, not_over}

module _ {ops : List ℕ → Option Fetched} (reads : ReadsOps ops) (p : Program) where
  stepped : (h : Host) (op : Op) (len : ℕ) → is_code (code_of p) h.eip ≡ true → IsInProfile op → leb len (length (op_bytes (code_of p) h.eip)) ≡ true → take len (op_bytes (code_of p) h.eip) ≡ spelling op → host_machine ops p h ≡ host_acts (rights_of p) op ((h.eip + len) % 2 ^ 32) h
  stepped h op len inside profile long front =
      let f : Fetched = record { op = op; len = len } in
      ap (λ (b : Bool). cond b (host_executes (rights_of p) (ops (op_bytes (code_of p) h.eip)) h) (Ends Outside)) inside
      ∙ ap (λ (o : Option Fetched). host_executes (rights_of p) o h) (reads.only (op_bytes (code_of p) h.eip) f (record { profile = profile; within = upto len _ long; front = front }))

  pub op_more : {h : Host} {k : ℕ} {e : End} {t : Host} (op : Op) (len : ℕ) → is_code (code_of p) h.eip ≡ true → IsInProfile op → leb len (length (op_bytes (code_of p) h.eip)) ≡ true → take len (op_bytes (code_of p) h.eip) ≡ spelling op → host_acts (rights_of p) op ((h.eip + len) % 2 ^ 32) h ≡ Goes t → Silent (host_machine ops p) k t e → Silent (host_machine ops p) (suc k) h e
  op_more {h = h} op len inside profile long front goes rest = more (stepped h op len inside profile long front ∙ goes) rest

  pub op_last : {h : Host} (e : End) (op : Op) (len : ℕ) → is_code (code_of p) h.eip ≡ true → IsInProfile op → leb len (length (op_bytes (code_of p) h.eip)) ≡ true → take len (op_bytes (code_of p) h.eip) ≡ spelling op → host_acts (rights_of p) op ((h.eip + len) % 2 ^ 32) h ≡ Ends e → Silent (host_machine ops p) 1 h e
  op_last {h = h} e op len inside profile long front ends = last (stepped h op len inside profile long front ∙ ends)

  -- bytes that are read as no op from the left begin with no spelling
  unread : (bytes : List ℕ) → read bytes ≡ None → ops bytes ≡ None
  unread bytes n = by_value (ops bytes) refl
    where
      by_value : (o : Option Fetched) → ops bytes ≡ o → ops bytes ≡ None
      by_value None e = e
      by_value (Some f) e = absurd (let h : read bytes ≡ Some (f.op, drop f.len bytes) = read-spelt f.op bytes f.len (reads.found bytes f e) in let g : (o : Option (Op × List ℕ)) → o ≡ None → o ≡ Some (f.op, drop f.len bytes) → ⊥ = λ o p q. absurd cc in g (read bytes) n h)

  unread_last : {h : Host} → is_code (code_of p) h.eip ≡ true → read (op_bytes (code_of p) h.eip) ≡ None → Silent (host_machine ops p) 1 h Illegal
  unread_last {h = h} inside n =
      last (ap (λ (b : Bool). cond b (host_executes (rights_of p) (ops (op_bytes (code_of p) h.eip)) h) (Ends Outside)) inside
      ∙ ap (λ (o : Option Fetched). host_executes (rights_of p) o h) (unread (op_bytes (code_of p) h.eip) n))

  off_last : {h : Host} → is_code (code_of p) h.eip ≡ false → Silent (host_machine ops p) 1 h Outside
  off_last {h = h} outside = last (ap (λ (b : Bool). cond b (host_executes (rights_of p) (ops (op_bytes (code_of p) h.eip)) h) (Ends Outside)) outside)

abbrev pub EndsSilentlyBy : List ℕ → ℕ → (List Choice → End) → Type 0
EndsSilentlyBy code k how = (ops : List ℕ → Option Fetched) → ReadsOps ops → (choices : List Choice) → Silent (host_machine ops (host_program code)) k (host_start (host_program code) choices) (how choices)

pub ends_by : (code : List ℕ) (k : ℕ) (how : List Choice → End) → EndsSilentlyBy code k how → HostEndsBy code k how
ends_by code k how silent = record {
  before = λ n h ops reads answers choices. not_over (host_machine ops (host_program code)) n k answers (host_start (host_program code) choices) (how choices) (silent ops reads choices) h;
  after = λ n h ops reads answers choices. traced (host_machine ops (host_program code)) n k answers (host_start (host_program code) choices) (ended (how choices)) (trace_of (host_machine ops (host_program code)) k answers (host_start (host_program code) choices) (how choices) (silent ops reads choices)) h;
}

abbrev pub HostEndsSilently : List ℕ → ℕ → End → Type 0
HostEndsSilently code k e = EndsSilentlyBy code k (λ choices. e)

pub ends_at : (code : List ℕ) (k : ℕ) (e : End) → HostEndsSilently code k e → HostEndsAt code k e
ends_at code k e silent = ends_by code k (λ choices. e) silent

pub reg_eax : IsReg 0
reg_eax = (omega arith, omega arith, omega arith)

pub reg_ebx : IsReg 3
reg_ebx = (omega arith, omega arith, omega arith)

exits : HostEndsSilently host_exit 3 (Exit 7)
exits ops reads choices =
    let p = host_program host_exit in
    op_more reads p (MovImm 0 1) 5 refl (reg_eax, omega arith) refl refl refl (
    op_more reads p (MovImm 3 7) 5 refl (reg_ebx, omega arith) refl refl refl (
    op_last reads p (Exit 7) Int80 2 refl tt refl refl refl))

unknown : HostEndsSilently host_unknown 5 (Exit (2 ^ 32 - 38))
unknown ops reads choices =
    let p = host_program host_unknown in
    op_more reads p (MovImm 0 99) 5 refl (reg_eax, omega arith) refl refl refl (
    op_more reads p Int80 2 refl tt refl refl refl (
    op_more reads p (MovTo (Reg 3) 0) 2 refl (reg_ebx, reg_eax) refl refl refl (
    op_more reads p (MovImm 0 1) 5 refl (reg_eax, omega arith) refl refl refl (
    op_last reads p (Exit (2 ^ 32 - 38)) Int80 2 refl tt refl refl refl))))

branches : HostEndsSilently host_branch 5 (Exit 7)
branches ops reads choices =
    let p = host_program host_branch in
    op_more reads p (MovImm 0 1) 5 refl (reg_eax, omega arith) refl refl refl (
    op_more reads p (AluImm Cmp (Reg 0) 1) 6 refl (reg_eax, omega arith) refl refl refl (
    op_more reads p (Jcc Equal 10) 6 refl (omega arith) refl refl refl (
    op_more reads p (MovImm 3 7) 5 refl (reg_ebx, omega arith) refl refl refl (
    op_last reads p (Exit 7) Int80 2 refl tt refl refl refl))))

falls_through : HostEndsSilently host_no_branch 6 (Exit 9)
falls_through ops reads choices =
    let p = host_program host_no_branch in
    op_more reads p (MovImm 0 1) 5 refl (reg_eax, omega arith) refl refl refl (
    op_more reads p (AluImm Cmp (Reg 0) 2) 6 refl (reg_eax, omega arith) refl refl refl (
    op_more reads p (Jcc Equal 10) 6 refl (omega arith) refl refl refl (
    op_more reads p (MovImm 3 9) 5 refl (reg_ebx, omega arith) refl refl refl (
    op_more reads p (Jmp 5) 5 refl (omega arith) refl refl refl (
    op_last reads p (Exit 9) Int80 2 refl tt refl refl refl)))))

remembers : HostEndsSilently host_memory 5 (Exit 0x33)
unfolding each_byte load store is_held is_writable
remembers ops reads choices =
    let p = host_program host_memory in
    op_more reads p (MovImm 0 0x11223344) 5 refl (reg_eax, omega arith) refl refl refl (
    op_more reads p (MovTo (Abs 0x09000000) 0) 6 refl (omega arith, reg_eax) refl refl refl (
    op_more reads p (Extend MovzxByte 3 (Abs 0x09000001)) 7 refl (reg_ebx, omega arith) refl refl refl (
    op_more reads p (MovImm 0 1) 5 refl (reg_eax, omega arith) refl refl refl (
    op_last reads p (Exit 0x33) Int80 2 refl tt refl refl refl))))

writes_no_code : HostEndsSilently host_code_write 1 Outside
unfolding each_byte is_writable
writes_no_code ops reads choices =
    let p = host_program host_code_write in
    op_last reads p Outside (MovTo (Abs 0x08048000) 0) 6 refl (omega arith, reg_eax) refl refl refl

pub host_exits : HostEndsAt host_exit 3 (Exit 7)
host_exits = ends_at host_exit 3 (Exit 7) exits

pub host_unknowns : HostEndsAt host_unknown 5 (Exit (2 ^ 32 - 38))
host_unknowns = ends_at host_unknown 5 (Exit (2 ^ 32 - 38)) unknown

pub host_branches : HostEndsAt host_branch 5 (Exit 7)
host_branches = ends_at host_branch 5 (Exit 7) branches

pub host_falls_through : HostEndsAt host_no_branch 6 (Exit 9)
host_falls_through = ends_at host_no_branch 6 (Exit 9) falls_through

pub host_remembers : HostEndsAt host_memory 5 (Exit 0x33)
host_remembers = ends_at host_memory 5 (Exit 0x33) remembers

pub host_writes_no_code : HostEndsAt host_code_write 1 Outside
host_writes_no_code = ends_at host_code_write 1 Outside writes_no_code

traps : HostEndsSilently host_trap 1 Trap
traps ops reads choices = op_last reads (host_program host_trap) Trap Int3 1 refl tt refl refl refl

ud2s : HostEndsSilently host_ud2 1 Illegal
ud2s ops reads choices = op_last reads (host_program host_ud2) Illegal Ud2 2 refl tt refl refl refl

nothing : HostEndsSilently host_nothing 1 Illegal
unfolding read byte_at plain_at plain_op modrm_at
nothing ops reads choices = unread_last reads (host_program host_nothing) refl refl

runs_off : HostEndsSilently host_off 2 Outside
runs_off ops reads choices =
    let p = host_program host_off in
    op_more reads p (MovTo (Reg 0) 0) 2 refl (reg_eax, reg_eax) refl refl refl (off_last reads p refl)

pub host_traps : HostEndsAt host_trap 1 Trap
host_traps = ends_at host_trap 1 Trap traps

pub host_ud2s : HostEndsAt host_ud2 1 Illegal
host_ud2s = ends_at host_ud2 1 Illegal ud2s

pub host_has_nothing : HostEndsAt host_nothing 1 Illegal
host_has_nothing = ends_at host_nothing 1 Illegal nothing

pub host_runs_off : HostEndsAt host_off 2 Outside
host_runs_off = ends_at host_off 2 Outside runs_off
