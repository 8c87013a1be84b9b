-- A host run depends on the choices of its steps alone.
use Rattle.std.proofs.Common.{◌≡◌, ℕ, zero, suc, ◌+◌, ◌%◌, ◌^◌, ◌<◌, Bool, true, false, cond, ◌||◌, eqb, ltb, List, [], ◌∷◌, drop, Option, Some, None, refl, sym, ap, ◌∙◌, subst, arith}
use Rattle.std.proofs.Math.Path.{fun_ext}
use Rattle.std.proofs.lemmas.List.{get_or-drop}
use Rattle.std.proofs.lemmas.Grind.{get_or_after_one}
use Rattle.machines.specs.Prelude.{End, Exit, Trap, Illegal, Outside, DivideFault, ListedCall, Read, Write, Close, AnswerValue, Given, Gives, Fails, given, listed, Outcome, Goes, Asks, Ends, run, reported, Op, Unary, Jcc, Jmp, JmpTo, Int80, Int3, Ud2, UnaryOp, Div, Idiv, Operand, Flags, host_row, eax, ecx, edx, ebx, Rights, Code, is_code, each_byte, block, rights_of, code_of, first_bytes, Fetched, Choice, Core, Host, no_choice, choice_at, chosen_word, chosen_flags, place_of, host_values, reads, does, goes_to, plain, jumps, jumps_to, faults_on, divides, unary_acts, after_host_call, host_asks, host_system_call, host_acts, host_executes, op_bytes, host_step, host_machine, host_start, UsesFirstChoices}
use Rattle.machines.proofs.Tests.{below}

abbrev state : Core → ℕ → List Choice → Host
state core eip choices = record { core = core; eip = eip; choices = choices }

-- two outcomes that differ in the choices still to come alone
data Similar (c d : List Choice) : Outcome Host → Outcome Host → Type 0 where
  both_go : (core : Core) (eip : ℕ) → Similar c d (Goes (state core eip (drop 1 c))) (Goes (state core eip (drop 1 d)))
  both_ask : (call : ListedCall) (p q : AnswerValue → Host) → ((a : AnswerValue) → (core : Core) × (eip : ℕ) × (p a ≡ state core eip (drop 1 c)) × (q a ≡ state core eip (drop 1 d))) → Similar c d (Asks call p) (Asks call q)
  both_end : (e : End) → Similar c d (Ends e) (Ends e)

module _ (c d : List Choice) where
  similar_cond : (b : Bool) (x y x' y' : Outcome Host) → Similar c d x x' → Similar c d y y' → Similar c d (cond b x y) (cond b x' y')
  similar_cond true x y x' y' p q = p
  similar_cond false x y x' y' p q = q

  similar_reports : (step : Host → Outcome Host) (m : ℕ) (answers : List AnswerValue) (o o' : Outcome Host) → Similar c d o o' → ((later : List AnswerValue) (core : Core) (eip : ℕ) → run step m later (state core eip (drop 1 c)) ≡ run step m later (state core eip (drop 1 d))) → reported (run step m) answers o ≡ reported (run step m) answers o'
  similar_reports step m answers _ _ (both_go core eip) rest = rest answers core eip
  similar_reports step m [] _ _ (both_ask call p q same) rest = refl
  similar_reports step m (a ∷ later) _ _ (both_ask call p q same) rest =
      let s = same a in
      ap (listed call) (ap (run step m later) s.2 ∙ rest later s.0 s.1 ∙ ap (run step m later) (sym s.3))
  similar_reports step m answers _ _ (both_end e) rest = refl

  module _ (rights : Rights) (same : choice_at c 0 ≡ choice_at d 0) where
    goes_similar : (next : ℕ) (core : Core) (eip : ℕ) (o : Option Core) → Similar c d (goes_to rights next (state core eip c) o) (goes_to rights next (state core eip d) o)
    goes_similar next core eip None = both_end Outside
    goes_similar next core eip (Some after) = both_go after next

    plain_similar : (op : Op) (next : ℕ) (core : Core) (eip : ℕ) → Similar c d (plain rights op next (state core eip c)) (plain rights op next (state core eip d))
    plain_similar op next core eip =
        subst (λ (x : Choice). Similar c d (plain rights op next (state core eip c)) (goes_to rights next (state core eip d) (does rights op x core))) same (goes_similar next core eip (does rights op (choice_at c 0) core))

    jumps_similar : (op : Op) (rel next : ℕ) (core : Core) (eip : ℕ) → Similar c d (jumps rights op rel next (state core eip c)) (jumps rights op rel next (state core eip d))
    jumps_similar op rel next core eip =
        subst (λ (x : Choice). Similar c d (jumps rights op rel next (state core eip c)) (Goes (state core (cond (host_row op (host_values x core 0 0)).holds ((next + rel) % 2 ^ 32) next) (drop 1 d)))) same (both_go core (cond (host_row op (host_values (choice_at c 0) core 0 0)).holds ((next + rel) % 2 ^ 32) next))

    given_similar : (next : ℕ) (core : Core) (eip : ℕ) (x : Given) → (after : Core) × (eip' : ℕ) × (after_host_call rights next x (state core eip c) ≡ state after eip' (drop 1 c)) × (after_host_call rights next x (state core eip d) ≡ state after eip' (drop 1 d))
    given_similar next core eip (Gives result buffer) = ((after_host_call rights next (Gives result buffer) (state core eip c)).core, next, refl, refl)
    given_similar next core eip (Fails error) = ((after_host_call rights next (Fails error) (state core eip c)).core, next, refl, refl)

    asks_similar : (call : ListedCall) (next : ℕ) (core : Core) (eip : ℕ) → Similar c d (host_asks rights call next (state core eip c)) (host_asks rights call next (state core eip d))
    asks_similar call next core eip = both_ask call _ _ (λ a. given_similar next core eip (given call a))

    system_similar : (next : ℕ) (core : Core) (eip : ℕ) → Similar c d (host_system_call rights next (state core eip c)) (host_system_call rights next (state core eip d))
    system_similar next core eip =
        similar_cond (eqb (core.regs eax) 1 || eqb (core.regs eax) 252) _ _ _ _ (both_end (Exit (core.regs ebx))) (
        similar_cond (eqb (core.regs eax) 3) _ _ _ _ (similar_cond (each_byte rights.writable (core.regs edx) (core.regs ecx)) _ _ _ _ (asks_similar (Read (core.regs ebx) (core.regs edx)) next core eip) (both_end Outside)) (
        similar_cond (eqb (core.regs eax) 4) _ _ _ _ (similar_cond (each_byte rights.held (core.regs edx) (core.regs ecx)) _ _ _ _ (asks_similar (Write (core.regs ebx) (block (core.regs edx) (core.regs ecx) core.bytes)) next core eip) (both_end Outside)) (
        similar_cond (eqb (core.regs eax) 6) _ _ _ _ (asks_similar (Close (core.regs ebx)) next core eip) (both_go (after_host_call rights next (Fails 38) (state core eip c)).core next))))

    jumps_to_similar : (target : Option ℕ) (core : Core) (eip : ℕ) → Similar c d (jumps_to rights target (state core eip c)) (jumps_to rights target (state core eip d))
    jumps_to_similar None core eip = both_end Outside
    jumps_to_similar (Some target) core eip = both_go core target

    divides_similar : (op : Op) (on : Operand) (next : ℕ) (core : Core) (eip : ℕ) → Similar c d (divides rights op on next (state core eip c)) (divides rights op on next (state core eip d))
    divides_similar op on next core eip =
        subst (λ (x : Choice). Similar c d (divides rights op on next (state core eip c)) (cond (faults_on rights op x core (reads rights core (place_of 4 on core.regs))) (Ends DivideFault) (plain rights op next (state core eip d)))) same
        (similar_cond (faults_on rights op (choice_at c 0) core (reads rights core (place_of 4 on core.regs))) _ _ _ _ (both_end DivideFault) (plain_similar op next core eip))

    unary_similar : (op : UnaryOp) (on : Operand) (next : ℕ) (core : Core) (eip : ℕ) → Similar c d (unary_acts rights op on next (state core eip c)) (unary_acts rights op on next (state core eip d))
    unary_similar Div on next core eip = divides_similar (Unary Div on) on next core eip
    unary_similar Idiv on next core eip = divides_similar (Unary Idiv on) on next core eip
    unary_similar op on next core eip = plain_similar (Unary op on) next core eip

    acts_similar : (op : Op) (next : ℕ) (core : Core) (eip : ℕ) → Similar c d (host_acts rights op next (state core eip c)) (host_acts rights op next (state core eip d))
    acts_similar (Unary op on) next core eip = unary_similar op on next core eip
    acts_similar (Jcc condition rel) next core eip = jumps_similar (Jcc condition rel) rel next core eip
    acts_similar (Jmp rel) next core eip = jumps_similar (Jmp rel) rel next core eip
    acts_similar (JmpTo to) next core eip = jumps_to_similar (reads rights core (place_of 4 to core.regs)) core eip
    acts_similar Int80 next core eip = system_similar next core eip
    acts_similar Int3 next core eip = both_end Trap
    acts_similar Ud2 next core eip = both_end Illegal
    acts_similar op next core eip = plain_similar op next core eip

    executes_similar : (f : Option Fetched) (core : Core) (eip : ℕ) → Similar c d (host_executes rights f (state core eip c)) (host_executes rights f (state core eip d))
    executes_similar None core eip = both_end Illegal
    executes_similar (Some f) core eip = acts_similar f.op ((eip + f.len) % 2 ^ 32) core eip

    step_similar : (code : Code) (reading : List ℕ → Option Fetched) (core : Core) (eip : ℕ) → Similar c d (host_step rights code reading (state core eip c)) (host_step rights code reading (state core eip d))
    step_similar code reading core eip = similar_cond (is_code code eip) _ _ _ _ (executes_similar (reading (op_bytes code eip)) core eip) (both_end Outside)

module _ (rights : Rights) (code : Code) (reading : List ℕ → Option Fetched) where
  same_run : (m : ℕ) (answers : List AnswerValue) (core : Core) (eip : ℕ) (c d : List Choice) → ((k : ℕ) → k < m → choice_at c k ≡ choice_at d k) → run (host_step rights code reading) m answers (state core eip c) ≡ run (host_step rights code reading) m answers (state core eip d)
  same_run zero answers core eip c d agree = refl
  same_run (suc m) answers core eip c d agree =
      let now : choice_at c 0 ≡ choice_at d 0 = agree 0 (omega arith) in
      let later : (k : ℕ) → k < m → choice_at (drop 1 c) k ≡ choice_at (drop 1 d) k = λ k lt. get_or_after_one c k no_choice ∙ agree (1 + k) (omega arith) ∙ sym (get_or_after_one d k no_choice) in
      similar_reports c d (host_step rights code reading) m answers _ _ (step_similar c d rights now code reading core eip) (λ rest next_core next. same_run m rest next_core next (drop 1 c) (drop 1 d) later)

first_registers : (c d : List Choice) → ((k : ℕ) → k < 9 → choice_at c k ≡ choice_at d k) → (r : ℕ) → cond (ltb r 8) (chosen_word (choice_at c r)) 0 ≡ cond (ltb r 8) (chosen_word (choice_at d r)) 0
first_registers c d agree r = by_test (ltb r 8) refl
  where
    by_test : (b : Bool) → ltb r 8 ≡ b → cond b (chosen_word (choice_at c r)) 0 ≡ cond b (chosen_word (choice_at d r)) 0
    by_test true e = let lt : r < 8 = below r 8 e in ap chosen_word (agree r (omega arith))
    by_test false e = refl

pub uses_first_choices : UsesFirstChoices
uses_first_choices ops p answers choices others m agree =
    let step = host_machine ops p in
    let bytes = first_bytes p.segments in
    let rest = drop 9 choices in
    let flags : Flags = chosen_flags (choice_at choices 8) in
    let first : (k : ℕ) → k < 9 → choice_at choices k ≡ choice_at others k = λ k lt. agree k (omega arith) in
    let regs = fun_ext (first_registers choices others first) in
    let later : (k : ℕ) → k < m → choice_at (drop 9 choices) k ≡ choice_at (drop 9 others) k = λ k lt. get_or-drop 9 choices k no_choice ∙ agree (9 + k) (omega arith) ∙ sym (get_or-drop 9 others k no_choice) in
    ap (λ (f : ℕ → ℕ). run step m answers (state (record { regs = f; flags = flags; bytes = bytes }) p.entry rest)) regs
    ∙ ap (λ (c : Choice). run step m answers (state (record { regs = (host_start p others).core.regs; flags = chosen_flags c; bytes = bytes }) p.entry rest)) (first 8 (omega arith))
    ∙ same_run (rights_of p) (code_of p) ops m answers (host_start p others).core p.entry (drop 9 choices) (drop 9 others) later
