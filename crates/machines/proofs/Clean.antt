-- With no right to read the code a step is the same, and clean, or goes outside; and a clean step is the same.
use Rattle.std.proofs.Common.{◌≡◌, ℕ, zero, suc, ◌+◌, ◌%◌, ◌^◌, ◌⊎◌, inl, inr, Bool, true, false, cond, not, ◌&&◌, eqb, List, [], ◌∷◌, Option, Some, None, refl, ap}
use Rattle.machines.specs.Prelude.{Outside, DivideFault, AnswerValue, Outcome, Goes, Asks, Ends, After, Along, AgreesFrom, IsNarrower, StaysIn, Op, AluTo, AluFrom, AluImm, TestReg, TestImm, Unary, Imul, MovFrom, MovByteFrom, Shift, ShiftByCl, Extend, Cmov, Bsr, JmpTo, Int80, UnaryOp, Not, Neg, Div, Idiv, Operand, Reg, eax, ecx, edx, each_byte, Rights, Code, is_code, Fetched, Core, Host, Place, Register, place_of, choice_at, has_result, extend_size, bind, reads, gives_to, changes, sets, sets_byte, multiplies, goes_to, jumps_to, faults_on, unary_acts, host_system_call, host_acts, host_executes, op_bytes, host_step, is_apart, reads_apart, fetched_apart, IsClean, without}
use Rattle.machines.specs.Host.{Memory}
use Rattle.machines.proofs.Tests.{both, first_of_both, second_of_both, equal}

each_of_both : (p q : ℕ → Bool) (n a : ℕ) → each_byte (λ x. p x && q x) n a ≡ true → (each_byte p n a ≡ true) × (each_byte q n a ≡ true)
unfolding each_byte
each_of_both p q zero a h = (refl, refl)
each_of_both p q (suc n) a h =
    let here : (p (a % 2 ^ 32) && q (a % 2 ^ 32)) ≡ true = first_of_both _ (each_byte (λ x. p x && q x) n (a + 1)) h in
    let rest = each_of_both p q n (a + 1) (second_of_both (p (a % 2 ^ 32) && q (a % 2 ^ 32)) _ h) in
    (both (p (a % 2 ^ 32)) (each_byte p n (a + 1)) (first_of_both _ (q (a % 2 ^ 32)) here) rest.0, both (q (a % 2 ^ 32)) (each_byte q n (a + 1)) (second_of_both (p (a % 2 ^ 32)) _ here) rest.1)

both_of_each : (p q : ℕ → Bool) (n a : ℕ) → each_byte p n a ≡ true → each_byte q n a ≡ true → each_byte (λ x. p x && q x) n a ≡ true
unfolding each_byte
both_of_each p q zero a h k = refl
both_of_each p q (suc n) a h k =
    both (p (a % 2 ^ 32) && q (a % 2 ^ 32)) (each_byte (λ x. p x && q x) n (a + 1))
    (both (p (a % 2 ^ 32)) (q (a % 2 ^ 32)) (first_of_both _ (each_byte p n (a + 1)) h) (first_of_both _ (each_byte q n (a + 1)) k))
    (both_of_each p q n (a + 1) (second_of_both (p (a % 2 ^ 32)) _ h) (second_of_both (q (a % 2 ^ 32)) _ k))

module _ (rights : Rights) (code : Code) where
  abbrev narrow : Rights
  narrow = without code rights

  -- all is held, also in the larger space, and none of it is code; or not all is held, also there if none of it is code
  abbrev HeldLess : ℕ → ℕ → Type 0
  HeldLess n a = ((each_byte narrow.held n a ≡ true) × (each_byte rights.held n a ≡ true) × (each_byte (λ x. not (is_code code x)) n a ≡ true)) ⊎ ((each_byte narrow.held n a ≡ false) × (each_byte (λ x. not (is_code code x)) n a ≡ true → each_byte rights.held n a ≡ false))

  held_less : (n a : ℕ) → HeldLess n a
  held_less n a = by_test (each_byte narrow.held n a) refl
    where
      by_wide : (b : Bool) → each_byte rights.held n a ≡ b → each_byte narrow.held n a ≡ false → each_byte (λ x. not (is_code code x)) n a ≡ true → each_byte rights.held n a ≡ false
      by_wide true w e apart = let all = both_of_each rights.held (λ x. not (is_code code x)) n a w apart in cc
      by_wide false w e apart = w

      by_test : (b : Bool) → each_byte narrow.held n a ≡ b → HeldLess n a
      by_test true e = let parts = each_of_both rights.held (λ x. not (is_code code x)) n a e in inl (e, parts.0, parts.1)
      by_test false e = inr (e, by_wide (each_byte rights.held n a) refl e)

  abbrev ReadsLess : Core → Place → Type 0
  ReadsLess core place = ((reads narrow core place ≡ reads rights core place) × (is_apart code place ≡ true)) ⊎ ((reads narrow core place ≡ None) × (is_apart code place ≡ true → reads narrow core place ≡ reads rights core place))

  reads_less : (core : Core) (place : Place) → ReadsLess core place
  reads_less core (Register r) = inl (refl, refl)
  reads_less core (Memory size address) = by_held (held_less size address)
    where
      by_held : HeldLess size address → ReadsLess core (Memory size address)
      by_held (inl h) = inl (rw (h.0, h.1) refl, h.2)
      by_held (inr e) = inr (rw (e.0) refl, λ apart. rw (e.0, e.1 apart) refl)

  -- the same in both spaces, with the fact that it is apart; or outside in the smaller, and the same if it is apart
  abbrev Less : Outcome Host → Outcome Host → Bool → Type 0
  Less small large apart = ((small ≡ large) × (apart ≡ true)) ⊎ ((small ≡ Ends Outside) × (apart ≡ true → small ≡ large))

  -- an op that reads at one place
  one_read : (next : ℕ) (h : Host) (place : Place) (then : ℕ → Option Core) → ReadsLess h.core place → Less (goes_to rights next h (bind (reads narrow h.core place) then)) (goes_to rights next h (bind (reads rights h.core place) then)) (is_apart code place)
  one_read next h place then (inl e) = inl (ap (λ (o : Option ℕ). goes_to rights next h (bind o then)) e.0, e.1)
  one_read next h place then (inr e) = inr (ap (λ (o : Option ℕ). goes_to rights next h (bind o then)) e.0, λ apart. ap (λ (o : Option ℕ). goes_to rights next h (bind o then)) (e.1 apart))

  system_less : (next : ℕ) (h : Host) → Less (host_system_call narrow next h) (host_system_call rights next h) (reads_apart code Int80 h.core)
  system_less next h = by_number (eqb (h.core.regs eax) 4) refl
    where
      by_write : h.core.regs 0 ≡ 4 → HeldLess (h.core.regs edx) (h.core.regs ecx) → Less (host_system_call narrow next h) (host_system_call rights next h) (reads_apart code Int80 h.core)
      by_write e (inl held) = inl (rw (e, held.0, held.1) refl, rw (e, held.2) refl)
      by_write e (inr held) = inr (rw (e, held.0) refl, λ apart. rw (e, held.0, held.1 (rw e at apart)) refl)

      by_number : (b : Bool) → eqb (h.core.regs eax) 4 ≡ b → Less (host_system_call narrow next h) (host_system_call rights next h) (reads_apart code Int80 h.core)
      by_number true e = by_write (equal (h.core.regs 0) 4 e) (held_less (h.core.regs edx) (h.core.regs ecx))
      by_number false e = inl (rw e refl, rw e refl)

  -- the forms of ops: one that changes a place, one that changes a register by a place, one that sets a place or byte
  changes_less : (op : Op) (result : Bool) (to : Place) (y next : ℕ) (h : Host) → Less (goes_to rights next h (changes narrow op (choice_at h.choices 0) result to h.core (Some y))) (goes_to rights next h (changes rights op (choice_at h.choices 0) result to h.core (Some y))) (is_apart code to)
  changes_less op result to y next h = one_read next h to (λ x. gives_to rights op (choice_at h.choices 0) result to h.core x y) (reads_less h.core to)

  takes_less : (op : Op) (result : Bool) (to : ℕ) (from : Place) (next : ℕ) (h : Host) → Less (goes_to rights next h (changes narrow op (choice_at h.choices 0) result (Register to) h.core (reads narrow h.core from))) (goes_to rights next h (changes rights op (choice_at h.choices 0) result (Register to) h.core (reads rights h.core from))) (is_apart code from)
  takes_less op result to from next h = one_read next h from (gives_to rights op (choice_at h.choices 0) result (Register to) h.core (h.core.regs to)) (reads_less h.core from)

  sets_less : (op : Op) (to from : Place) (next : ℕ) (h : Host) → Less (goes_to rights next h (sets narrow op (choice_at h.choices 0) to h.core (reads narrow h.core from))) (goes_to rights next h (sets rights op (choice_at h.choices 0) to h.core (reads rights h.core from))) (is_apart code from)
  sets_less op to from next h = one_read next h from (gives_to rights op (choice_at h.choices 0) true to h.core 0) (reads_less h.core from)

  sets_byte_less : (op : Op) (to : Operand) (from : Place) (next : ℕ) (h : Host) → Less (goes_to rights next h (sets_byte narrow op (choice_at h.choices 0) to h.core (reads narrow h.core from))) (goes_to rights next h (sets_byte rights op (choice_at h.choices 0) to h.core (reads rights h.core from))) (is_apart code from)
  sets_byte_less op to from next h = one_read next h from (λ y. sets_byte rights op (choice_at h.choices 0) to h.core (Some y)) (reads_less h.core from)

  -- products, and divisions, which may fault
  multiplies_less : (op : Op) (from : Place) (next : ℕ) (h : Host) → Less (goes_to rights next h (multiplies narrow op (choice_at h.choices 0) h.core (reads narrow h.core from))) (goes_to rights next h (multiplies rights op (choice_at h.choices 0) h.core (reads rights h.core from))) (is_apart code from)
  multiplies_less op from next h = one_read next h from (λ y. multiplies rights op (choice_at h.choices 0) h.core (Some y)) (reads_less h.core from)

  divides_less : (op : Op) (from : Place) (next : ℕ) (h : Host) → ReadsLess h.core from → Less (cond (faults_on narrow op (choice_at h.choices 0) h.core (reads narrow h.core from)) (Ends DivideFault) (goes_to rights next h (multiplies narrow op (choice_at h.choices 0) h.core (reads narrow h.core from)))) (cond (faults_on rights op (choice_at h.choices 0) h.core (reads rights h.core from)) (Ends DivideFault) (goes_to rights next h (multiplies rights op (choice_at h.choices 0) h.core (reads rights h.core from)))) (is_apart code from)
  divides_less op from next h (inl e) = inl (ap (λ (o : Option ℕ). cond (faults_on rights op (choice_at h.choices 0) h.core o) (Ends DivideFault) (goes_to rights next h (multiplies rights op (choice_at h.choices 0) h.core o))) e.0, e.1)
  divides_less op from next h (inr e) = inr (ap (λ (o : Option ℕ). cond (faults_on rights op (choice_at h.choices 0) h.core o) (Ends DivideFault) (goes_to rights next h (multiplies rights op (choice_at h.choices 0) h.core o))) e.0, λ apart. ap (λ (o : Option ℕ). cond (faults_on rights op (choice_at h.choices 0) h.core o) (Ends DivideFault) (goes_to rights next h (multiplies rights op (choice_at h.choices 0) h.core o))) (e.1 apart))

  unary_less : (op : UnaryOp) (on : Operand) (next : ℕ) (h : Host) → Less (unary_acts narrow op on next h) (unary_acts rights op on next h) (is_apart code (place_of 4 on h.core.regs))
  unary_less Not on next h = sets_less (Unary Not on) (place_of 4 on h.core.regs) (place_of 4 on h.core.regs) next h
  unary_less Neg on next h = sets_less (Unary Neg on) (place_of 4 on h.core.regs) (place_of 4 on h.core.regs) next h
  unary_less Div on next h = divides_less (Unary Div on) (place_of 4 on h.core.regs) next h (reads_less h.core (place_of 4 on h.core.regs))
  unary_less Idiv on next h = divides_less (Unary Idiv on) (place_of 4 on h.core.regs) next h (reads_less h.core (place_of 4 on h.core.regs))
  unary_less op on next h = multiplies_less (Unary op on) (place_of 4 on h.core.regs) next h

  jumps_to_less : (to : Place) (h : Host) → ReadsLess h.core to → Less (jumps_to narrow (reads narrow h.core to) h) (jumps_to rights (reads rights h.core to) h) (is_apart code to)
  jumps_to_less to h (inl e) = inl (ap (λ (o : Option ℕ). jumps_to rights o h) e.0, e.1)
  jumps_to_less to h (inr e) = inr (ap (λ (o : Option ℕ). jumps_to rights o h) e.0, λ apart. ap (λ (o : Option ℕ). jumps_to rights o h) (e.1 apart))

  acts_less : (op : Op) (next : ℕ) (h : Host) → Less (host_acts narrow op next h) (host_acts rights op next h) (reads_apart code op h.core)
  acts_less (AluTo op to from) next h = changes_less (AluTo op to from) (has_result op) (place_of 4 to h.core.regs) (h.core.regs from) next h
  acts_less (AluFrom op to from) next h = takes_less (AluFrom op to from) (has_result op) to (place_of 4 from h.core.regs) next h
  acts_less (AluImm op to imm) next h = changes_less (AluImm op to imm) (has_result op) (place_of 4 to h.core.regs) imm next h
  acts_less (TestReg a b) next h = changes_less (TestReg a b) false (place_of 4 a h.core.regs) (h.core.regs b) next h
  acts_less (TestImm a imm) next h = changes_less (TestImm a imm) false (place_of 4 a h.core.regs) imm next h
  acts_less (Unary op on) next h = unary_less op on next h
  acts_less (Imul to from) next h = takes_less (Imul to from) true to (place_of 4 from h.core.regs) next h
  acts_less (MovFrom to from) next h = sets_less (MovFrom to from) (Register to) (place_of 4 from h.core.regs) next h
  acts_less (MovByteFrom to from) next h = sets_byte_less (MovByteFrom to from) (Reg to) (place_of 1 from h.core.regs) next h
  acts_less (Shift op to by) next h = changes_less (Shift op to by) true (place_of 4 to h.core.regs) by next h
  acts_less (ShiftByCl op to) next h = changes_less (ShiftByCl op to) true (place_of 4 to h.core.regs) (h.core.regs ecx % 2 ^ 8) next h
  acts_less (Extend op to from) next h = sets_less (Extend op to from) (Register to) (place_of (extend_size op) from h.core.regs) next h
  acts_less (Cmov condition to from) next h = takes_less (Cmov condition to from) true to (place_of 4 from h.core.regs) next h
  acts_less (Bsr to from) next h = takes_less (Bsr to from) true to (place_of 4 from h.core.regs) next h
  acts_less (JmpTo to) next h = jumps_to_less (place_of 4 to h.core.regs) h (reads_less h.core (place_of 4 to h.core.regs))
  acts_less Int80 next h = system_less next h
  -- the others read no memory
  acts_less _ next h = inl (refl, refl)

  executes_less : (f : Option Fetched) (h : Host) → Less (host_executes narrow f h) (host_executes rights f h) (fetched_apart code f h.core)
  executes_less None h = inl (refl, refl)
  executes_less (Some f) h = acts_less f.op ((h.eip + f.len) % 2 ^ 32) h

  module _ (ops : List ℕ → Option Fetched) where
    step_less : (h : Host) (b : Bool) → Less (host_executes narrow (ops (op_bytes code h.eip)) h) (host_executes rights (ops (op_bytes code h.eip)) h) (fetched_apart code (ops (op_bytes code h.eip)) h.core) → Less (cond b (host_executes narrow (ops (op_bytes code h.eip)) h) (Ends Outside)) (cond b (host_executes rights (ops (op_bytes code h.eip)) h) (Ends Outside)) (fetched_apart code (ops (op_bytes code h.eip)) h.core)
    step_less h true less = less
    step_less h false less = inr (refl, λ _. refl)

    host_less : (h : Host) → Less (host_step narrow code ops h) (host_step rights code ops h) (fetched_apart code (ops (op_bytes code h.eip)) h.core)
    host_less h = step_less h (is_code code h.eip) (executes_less (ops (op_bytes code h.eip)) h)

    pub is_narrower : IsNarrower (host_step narrow code ops) (host_step rights code ops)
    is_narrower h = by_less (host_less h)
      where
        by_less : Less (host_step narrow code ops h) (host_step rights code ops h) (fetched_apart code (ops (op_bytes code h.eip)) h.core) → (host_step narrow code ops h ≡ host_step rights code ops h) ⊎ (host_step narrow code ops h ≡ Ends Outside)
        by_less (inl e) = inl e.0
        by_less (inr e) = inr e.0

    pub stays_is_clean : (h : Host) → StaysIn (host_step narrow code ops) (host_step rights code ops) h → IsClean code ops h
    stays_is_clean h stays = by_less (host_less h)
      where
        by_less : Less (host_step narrow code ops h) (host_step rights code ops h) (fetched_apart code (ops (op_bytes code h.eip)) h.core) → IsClean code ops h
        by_less (inl e) = e.1
        by_less (inr e) = absurd (stays.inside e.0)

    pub clean_is_same : (h : Host) → IsClean code ops h → host_step narrow code ops h ≡ host_step rights code ops h
    clean_is_same h clean = by_less (host_less h)
      where
        by_less : Less (host_step narrow code ops h) (host_step rights code ops h) (fetched_apart code (ops (op_bytes code h.eip)) h.core) → host_step narrow code ops h ≡ host_step rights code ops h
        by_less (inl e) = e.0
        by_less (inr e) = e.1 clean

-- what follows from P at each step
module _ {S : Type 0} (P Q : S → Type 0) (follows : (s : S) → P s → Q s) (step : S → Outcome S) where
  along_behind : (n : ℕ) (answers : List AnswerValue) (o : Outcome S) → ((later : List AnswerValue) (t : S) → Along P step n later t → Along Q step n later t) → After (Along P step n) answers o → After (Along Q step n) answers o
  along_behind n answers (Goes t) rest h = rest answers t h
  along_behind n [] (Asks call next) rest h = tt
  along_behind n (a ∷ later) (Asks call next) rest h = rest later (next a) h
  along_behind n answers (Ends e) rest h = tt

  along : (n : ℕ) (answers : List AnswerValue) (s : S) → Along P step n answers s → Along Q step n answers s
  along zero answers s h = tt
  along (suc n) answers s h = (follows s h.0, along_behind n answers (step s) (λ later t. along n later t) h.1)

  pub agrees_too : {G : Type 0} (guest : G → Outcome G) (g : G) (s : S) → AgreesFrom guest step P g s → AgreesFrom guest step Q g s
  agrees_too guest g s agrees answers n =
      let r = agrees answers n in
      record { m = r.m; soon = r.soon; clean = along r.m answers s r.clean; agrees = r.agrees }
