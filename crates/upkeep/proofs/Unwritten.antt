-- A step of the host keeps the bytes that may not be written.
use Rattle.std.proofs.Common.{◌≡◌, ℕ, zero, suc, ◌+◌, ◌/◌, ◌%◌, ◌^◌, ◌≤◌, min, Bool, true, false, cond, ◌||◌, eqb, List, [], ◌∷◌, length, take, Option, Some, None, refl, sym, ap, ◌∙◌, subst, arith}
use Rattle.std.proofs.lemmas.List.{length-take-le}
use Rattle.machines.specs.Prelude.{Read, Write, Close, AnswerValue, Got, Took, Error, Given, Gives, Fails, given, Outside, Exit, DivideFault, Outcome, Goes, Ends, Op, AluTo, AluFrom, AluImm, TestReg, TestImm, Unary, Imul, MovTo, MovFrom, MovImm, MovToImm, MovHalfTo, MovByteTo, MovByteFrom, Shift, ShiftByCl, Lea, Extend, Bswap, Set, Cmov, Bsr, Cdq, Jcc, Jmp, JmpTo, Int80, Int3, Ud2, UnaryOp, Not, Neg, Div, Idiv, Operand, Reg, HostEffect, host_row, eax, ecx, edx, ebx, update, store, block, put_block, each_byte, Rights, is_code, Fetched, Choice, Core, Host, Place, Register, place_of, choice_at, has_result, extend_size, address_in, byte_for, puts_both, bind, host_values, reads, puts, put_at, leaves, gives_to, changes, sets, sets_byte, multiplies, unary_does, does, goes_to, plain, jumps, jumps_to, faults_on, divides, unary_acts, after_host_call, host_asks, host_system_call, host_acts, host_executes, op_bytes}
use Rattle.machines.specs.Host.{Memory}
use Rattle.machines.proofs.Tests.{first_of_both, second_of_both}
use Rattle.symbolic_tiles.proofs.Memory.{update_other}
use Rattle.simulation.specs.Prelude.{KeepsUnwritten, StepKeepsUnwritten}
use Rattle.upkeep.specs.Steps.{HostKeepsUnwritten, ContextKeepsUnwritten}

clash : (b : Bool) → b ≡ true → b ≡ false → ⊥
clash true p q = cc
clash false p q = cc

-- a byte that fails the test isn't at an address that passes it
module _ (test : ℕ → Bool) (x : ℕ) (off : test x ≡ false) where
  elsewhere : (a : ℕ) → test a ≡ true → x ≡ a → ⊥
  elsewhere a on e = clash (test a) on (ap test (sym e) ∙ off)

  store_keeps : (n a v : ℕ) (bytes : ℕ → ℕ) → each_byte test n a ≡ true → store n a v bytes x ≡ bytes x
  unfolding store each_byte
  store_keeps zero a v bytes each = refl
  store_keeps (suc n) a v bytes each =
      let here : test (a % 2 ^ 32) ≡ true = first_of_both (test (a % 2 ^ 32)) (each_byte test n (a + 1)) each in
      let rest : each_byte test n (a + 1) ≡ true = second_of_both (test (a % 2 ^ 32)) (each_byte test n (a + 1)) each in
      store_keeps n (a + 1) (v / 256) (update bytes (a % 2 ^ 32) (v % 256)) rest ∙ update_other bytes (a % 2 ^ 32) (v % 256) x (elsewhere (a % 2 ^ 32) here)

  -- as many bytes as were tested, or fewer
  put_keeps : (bs : List ℕ) (n a : ℕ) (bytes : ℕ → ℕ) → length bs ≤ n → each_byte test n a ≡ true → put_block a bs bytes x ≡ bytes x
  unfolding put_block each_byte
  put_keeps [] n a bytes le each = refl
  put_keeps (b ∷ bs) zero a bytes le each = absurd (omega arith)
  put_keeps (b ∷ bs) (suc n) a bytes le each =
      let here : test (a % 2 ^ 32) ≡ true = first_of_both (test (a % 2 ^ 32)) (each_byte test n (a + 1)) each in
      let rest : each_byte test n (a + 1) ≡ true = second_of_both (test (a % 2 ^ 32)) (each_byte test n (a + 1)) each in
      put_keeps bs n (a + 1) (update bytes (a % 2 ^ 32) (b % 256)) (omega arith) rest ∙ update_other bytes (a % 2 ^ 32) (b % 256) x (elsewhere (a % 2 ^ 32) here)

-- what an answer puts into a buffer is no longer than the call's count
abbrev IsNoLonger : ℕ → Given → Type 0
IsNoLonger count (Gives result to_buffer) = length to_buffer ≤ count
IsNoLonger count (Fails error) = Unit {0}

read_gives : (fd count : ℕ) (a : AnswerValue) → IsNoLonger count (given (Read fd count) a)
read_gives fd count (Got bytes) =
    let e : length (take (min (length bytes) count) bytes) ≡ min (length bytes) count = length-take-le (min (length bytes) count) bytes (omega arith) in
    omega (arith, e)
read_gives fd count (Took taken) = omega arith
read_gives fd count (Error code) = tt

write_gives : (fd : ℕ) (bytes : List ℕ) (a : AnswerValue) → IsNoLonger 0 (given (Write fd bytes) a)
write_gives fd bytes (Got got) = omega arith
write_gives fd bytes (Took taken) = omega arith
write_gives fd bytes (Error code) = tt

close_gives : (fd : ℕ) (a : AnswerValue) → IsNoLonger 0 (given (Close fd) a)
close_gives fd (Got got) = omega arith
close_gives fd (Took taken) = omega arith
close_gives fd (Error code) = tt

module _ (rights : Rights) where
  abbrev Keeps : Core → Option Core → Type 0
  Keeps before None = Unit {0}
  Keeps before (Some after) = KeepsUnwritten rights before after

  puts_keep : (core : Core) (place : Place) (v : ℕ) → Keeps core (puts rights core place v)
  puts_keep core (Register r) v = λ a off. refl
  puts_keep core (Memory size address) v = by_test (each_byte rights.writable size address) refl
    where
      by_test : (b : Bool) → each_byte rights.writable size address ≡ b → Keeps core (cond b (Some (put_at core (Memory size address) v)) None)
      by_test true e = λ a off. store_keeps rights.writable a off size address v core.bytes e
      by_test false e = tt

  leaves_keep : (result : Bool) (e : HostEffect) (place : Place) (core : Core) → Keeps core (leaves rights result e place core)
  leaves_keep true e place core = puts_keep (record core { flags = e.flags }) place e.result
  leaves_keep false e place core = λ a off. refl

  gives_keep : (op : Op) (c : Choice) (result : Bool) (place : Place) (core : Core) (x y : ℕ) → Keeps core (gives_to rights op c result place core x y)
  gives_keep op c result place core x y = leaves_keep result (host_row op (host_values c core x y)) place core

  bind_keeps : (core : Core) (x : Option ℕ) (f : ℕ → Option Core) → ((v : ℕ) → Keeps core (f v)) → Keeps core (bind x f)
  bind_keeps core None f keeps = tt
  bind_keeps core (Some v) f keeps = keeps v

  changes_keep : (op : Op) (c : Choice) (result : Bool) (place : Place) (core : Core) (y : Option ℕ) → Keeps core (changes rights op c result place core y)
  changes_keep op c result place core y =
      bind_keeps core (reads rights core place) (λ x. bind y (gives_to rights op c result place core x)) (λ x.
      bind_keeps core y (gives_to rights op c result place core x) (gives_keep op c result place core x))

  sets_keep : (op : Op) (c : Choice) (place : Place) (core : Core) (y : Option ℕ) → Keeps core (sets rights op c place core y)
  sets_keep op c place core y = bind_keeps core y (gives_to rights op c true place core 0) (gives_keep op c true place core 0)

  sets_byte_keeps : (op : Op) (c : Choice) (to : Operand) (core : Core) (y : Option ℕ) → Keeps core (sets_byte rights op c to core y)
  sets_byte_keeps op c to core y =
      let byte : ℕ → ℕ = λ v. byte_for to core (host_row op (host_values c core 0 v)).result in
      bind_keeps core y (λ v. puts rights core (place_of 1 to core.regs) (byte v)) (λ v. puts_keep core (place_of 1 to core.regs) (byte v))

  multiplies_keep : (op : Op) (c : Choice) (core : Core) (y : Option ℕ) → Keeps core (multiplies rights op c core y)
  multiplies_keep op c core y = bind_keeps core y (λ v. Some (puts_both (host_row op (host_values c core (core.regs eax) v)) core)) (λ v a off. refl)

  unary_keeps : (op : UnaryOp) (on : Operand) (c : Choice) (core : Core) → Keeps core (unary_does rights op on c core)
  unary_keeps Not on c core = sets_keep (Unary Not on) c (place_of 4 on core.regs) core (reads rights core (place_of 4 on core.regs))
  unary_keeps Neg on c core = sets_keep (Unary Neg on) c (place_of 4 on core.regs) core (reads rights core (place_of 4 on core.regs))
  unary_keeps op on c core = multiplies_keep (Unary op on) c core (reads rights core (place_of 4 on core.regs))

  does_keeps : (op : Op) (c : Choice) (core : Core) → Keeps core (does rights op c core)
  does_keeps (AluTo op to from) c core = changes_keep (AluTo op to from) c (has_result op) (place_of 4 to core.regs) core (Some (core.regs from))
  does_keeps (AluFrom op to from) c core = changes_keep (AluFrom op to from) c (has_result op) (Register to) core (reads rights core (place_of 4 from core.regs))
  does_keeps (AluImm op to imm) c core = changes_keep (AluImm op to imm) c (has_result op) (place_of 4 to core.regs) core (Some imm)
  does_keeps (TestReg a b) c core = changes_keep (TestReg a b) c false (place_of 4 a core.regs) core (Some (core.regs b))
  does_keeps (TestImm a imm) c core = changes_keep (TestImm a imm) c false (place_of 4 a core.regs) core (Some imm)
  does_keeps (Unary op on) c core = unary_keeps op on c core
  does_keeps (Imul to from) c core = changes_keep (Imul to from) c true (Register to) core (reads rights core (place_of 4 from core.regs))
  does_keeps (MovTo to from) c core = sets_keep (MovTo to from) c (place_of 4 to core.regs) core (Some (core.regs from))
  does_keeps (MovFrom to from) c core = sets_keep (MovFrom to from) c (Register to) core (reads rights core (place_of 4 from core.regs))
  does_keeps (MovImm to imm) c core = sets_keep (MovImm to imm) c (Register to) core (Some imm)
  does_keeps (MovToImm to imm) c core = sets_keep (MovToImm to imm) c (place_of 4 to core.regs) core (Some imm)
  does_keeps (MovHalfTo to from) c core = sets_keep (MovHalfTo to from) c (place_of 2 to core.regs) core (Some (core.regs from))
  does_keeps (MovByteTo to from) c core = sets_keep (MovByteTo to from) c (place_of 1 to core.regs) core (Some (core.regs from))
  does_keeps (MovByteFrom to from) c core = sets_byte_keeps (MovByteFrom to from) c (Reg to) core (reads rights core (place_of 1 from core.regs))
  does_keeps (Shift op to by) c core = changes_keep (Shift op to by) c true (place_of 4 to core.regs) core (Some by)
  does_keeps (ShiftByCl op to) c core = changes_keep (ShiftByCl op to) c true (place_of 4 to core.regs) core (Some (core.regs ecx % 2 ^ 8))
  does_keeps (Lea to from) c core = sets_keep (Lea to from) c (Register to) core (Some (address_in (place_of 4 from core.regs)))
  does_keeps (Extend op to from) c core = sets_keep (Extend op to from) c (Register to) core (reads rights core (place_of (extend_size op) from core.regs))
  does_keeps (Bswap reg) c core = sets_keep (Bswap reg) c (Register reg) core (Some (core.regs reg))
  does_keeps (Set condition to) c core = sets_byte_keeps (Set condition to) c to core (Some 0)
  does_keeps (Cmov condition to from) c core = changes_keep (Cmov condition to from) c true (Register to) core (reads rights core (place_of 4 from core.regs))
  does_keeps (Bsr to from) c core = changes_keep (Bsr to from) c true (Register to) core (reads rights core (place_of 4 from core.regs))
  does_keeps Cdq c core = λ a off. refl
  does_keeps _ c core = tt

  goes_keep : (next : ℕ) (h : Host) (o : Option Core) → Keeps h.core o → StepKeepsUnwritten rights h.core (goes_to rights next h o)
  goes_keep next h None keeps = tt
  goes_keep next h (Some core) keeps = keeps

  given_keeps : (next n : ℕ) (h : Host) (g : Given) → IsNoLonger n g → each_byte rights.writable n (h.core.regs ecx) ≡ true → KeepsUnwritten rights h.core (after_host_call rights next g h).core
  given_keeps next n h (Gives result to_buffer) le each = λ a off. put_keeps rights.writable a off to_buffer n (h.core.regs ecx) h.core.bytes le each
  given_keeps next n h (Fails error) le each = λ a off. refl

  none_tested : (a : ℕ) → each_byte rights.writable 0 a ≡ true
  unfolding each_byte
  none_tested a = refl

  module _ (next : ℕ) (h : Host) where
    abbrev count : ℕ
    count = h.core.regs edx

    abbrev buffer : ℕ
    buffer = h.core.regs ecx

    abbrev closing : Bool → Outcome Host
    closing b = cond b (host_asks rights (Close (h.core.regs ebx)) next h) (Goes (after_host_call rights next (Fails 38) h))

    abbrev writing : Bool → Bool → Bool → Outcome Host
    writing b held rest = cond b (cond held (host_asks rights (Write (h.core.regs ebx) (block count buffer h.core.bytes)) next h) (Ends Outside)) (closing rest)

    abbrev reading : Bool → Bool → Bool → Bool → Bool → Outcome Host
    reading b writable rest held last = cond b (cond writable (host_asks rights (Read (h.core.regs ebx) count) next h) (Ends Outside)) (writing rest held last)

    by_close : (b : Bool) → StepKeepsUnwritten rights h.core (closing b)
    by_close true = λ a. given_keeps next 0 h (given (Close (h.core.regs ebx)) a) (close_gives (h.core.regs ebx) a) (none_tested buffer)
    by_close false = λ a off. refl

    by_write : (b held rest : Bool) → StepKeepsUnwritten rights h.core (writing b held rest)
    by_write true true rest = λ a. given_keeps next 0 h (given (Write (h.core.regs ebx) (block count buffer h.core.bytes)) a) (write_gives (h.core.regs ebx) (block count buffer h.core.bytes) a) (none_tested buffer)
    by_write true false rest = tt
    by_write false held rest = by_close rest

    by_read : (b writable rest held last : Bool) → each_byte rights.writable count buffer ≡ writable → StepKeepsUnwritten rights h.core (reading b writable rest held last)
    by_read true true rest held last e = λ a. given_keeps next count h (given (Read (h.core.regs ebx) count) a) (read_gives (h.core.regs ebx) count a) e
    by_read true false rest held last e = tt
    by_read false writable rest held last e = by_write rest held last

    by_exit : (b number writable rest held last : Bool) → each_byte rights.writable count buffer ≡ writable → StepKeepsUnwritten rights h.core (cond b (Ends (Exit (h.core.regs ebx))) (reading number writable rest held last))
    by_exit true number writable rest held last e = tt
    by_exit false number writable rest held last e = by_read number writable rest held last e

    system_keeps : StepKeepsUnwritten rights h.core (host_system_call rights next h)
    system_keeps = by_exit (eqb (h.core.regs eax) 1 || eqb (h.core.regs eax) 252) (eqb (h.core.regs eax) 3) (each_byte rights.writable count buffer) (eqb (h.core.regs eax) 4) (each_byte rights.held count buffer) (eqb (h.core.regs eax) 6) refl

  jumps_keep : (op : Op) (rel next : ℕ) (h : Host) → StepKeepsUnwritten rights h.core (jumps rights op rel next h)
  jumps_keep op rel next h = λ a off. refl

  abbrev first : Host → Choice
  first h = choice_at h.choices 0

  plain_keeps : (op : Op) (next : ℕ) (h : Host) → StepKeepsUnwritten rights h.core (plain rights op next h)
  plain_keeps op next h = goes_keep next h (does rights op (first h) h.core) (does_keeps op (first h) h.core)

  divides_keep : (op : Op) (on : Operand) (next : ℕ) (h : Host) → StepKeepsUnwritten rights h.core (divides rights op on next h)
  divides_keep op on next h = by_fault (faults_on rights op (first h) h.core (reads rights h.core (place_of 4 on h.core.regs)))
    where
      by_fault : (b : Bool) → StepKeepsUnwritten rights h.core (cond b (Ends DivideFault) (plain rights op next h))
      by_fault true = tt
      by_fault false = plain_keeps op next h

  unary_acts_keep : (op : UnaryOp) (on : Operand) (next : ℕ) (h : Host) → StepKeepsUnwritten rights h.core (unary_acts rights op on next h)
  unary_acts_keep Div on next h = divides_keep (Unary Div on) on next h
  unary_acts_keep Idiv on next h = divides_keep (Unary Idiv on) on next h
  unary_acts_keep op on next h = plain_keeps (Unary op on) next h

  jumps_to_keep : (target : Option ℕ) (h : Host) → StepKeepsUnwritten rights h.core (jumps_to rights target h)
  jumps_to_keep None h = tt
  jumps_to_keep (Some target) h = λ a off. refl

  acts_keep : (op : Op) (next : ℕ) (h : Host) → StepKeepsUnwritten rights h.core (host_acts rights op next h)
  acts_keep (Unary op on) next h = unary_acts_keep op on next h
  acts_keep (Jcc condition rel) next h = jumps_keep (Jcc condition rel) rel next h
  acts_keep (Jmp rel) next h = jumps_keep (Jmp rel) rel next h
  acts_keep (JmpTo to) next h = jumps_to_keep (reads rights h.core (place_of 4 to h.core.regs)) h
  acts_keep Int80 next h = system_keeps next h
  acts_keep Int3 next h = tt
  acts_keep Ud2 next h = tt
  acts_keep op next h = plain_keeps op next h

  executes_keep : (f : Option Fetched) (h : Host) → StepKeepsUnwritten rights h.core (host_executes rights f h)
  executes_keep None h = tt
  executes_keep (Some f) h = acts_keep f.op ((h.eip + f.len) % 2 ^ 32) h

pub host_keeps : HostKeepsUnwritten
host_keeps rights code reading h = by_code (is_code code h.eip)
  where
    by_code : (b : Bool) → StepKeepsUnwritten rights h.core (cond b (host_executes rights (reading (op_bytes code h.eip)) h) (Ends Outside))
    by_code true = executes_keep rights (reading (op_bytes code h.eip)) h
    by_code false = tt

pub context_keeps : ContextKeepsUnwritten
context_keeps s code reading is h = subst (StepKeepsUnwritten s.host h.core) (sym (is h)) (host_keeps s.host code reading h)
