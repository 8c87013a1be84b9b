-- Under every map a flow tile does to the host what its items do to the state.
use Rattle.std.proofs.Common.{◌≡◌, ◌≢◌, ℕ, zero, suc, ◌+◌, ◌-◌, ◌%◌, ◌^◌, ◌<◌, ◌≤◌, min, Bool, true, false, cond, ◌||◌, eqb, List, [], ◌∷◌, length, drop, Option, Some, None, refl, sym, ap, ◌∙◌, subst, arith}
use Rattle.std.proofs.lemmas.Bool.Decides.{nat_tests}
use Rattle.std.proofs.lemmas.List.{length-take}
use Rattle.space.specs.declared.call.End.TheVariants as endings
use Rattle.machines.specs.Prelude.{ListedCall, Read, Write, Close, AnswerValue, Got, Took, Error, Given, Gives, Fails, given, error_of, Map, IsMap, Op, Condition, Below, NotBelow, Equal, NotEqual, NotAbove, Above, Sign, NotSign, Less, NotLess, NotGreater, Greater, Flags, Outcome, Goes, Ends, update, block, put_block, each_byte, Rights, Choice, choice_at, Core, Host, value_at, does, host_acts, after_host_call, host_asks, host_system_call, goes_to as host_goes_to}
use Rattle.reg_map.specs.Prelude.{home, home_size, slot_of, place, mov_from, in_slot, IsHomePage, HasSegments}
use Rattle.machines.specs.Host.{Memory}
use Rattle.symbolic_tiles.specs.Prelude.{is_jump, op_at, WritesHeld, Location, SymbolicOp, op_of, IsWellFormed, is_taken, Exit, Leaves, Leaps, Stops, Calls, Falls, behind_op, flow, AreItems, TileItem, Do, JumpIf, Label, LoadEbx, BranchTo, BranchIndirect, Interrupt, Trap, Undefined, code_of, flows_of, IsFree, SymbolicState, with_reg, execute_op, SymbolicExit, Out, Indirect, Stopped, Called, Unknown, goes_on, then_exit, with_given, asks_for, calls, execute}
use Rattle.symbolic_tiles.proofs.Small.{both_true}
use Rattle.symbolic_tiles.proofs.Memory.{update_other, update_keeps, load_same}
use Rattle.symbolic_tiles.proofs.Places.{free_low, home_within}
use Rattle.machines.proofs.Stack.{each_true as each_of}
use Rattle.symbolic_tiles.proofs.Shows.{Shows, Kept, shows_op, shows_reg, fetched, read_operand, operand_word, op_acts, no_jump, fetch_plain, fetch_no_jump}

-- the number of a condition says what the condition says
taken_is : (c : Option Condition) (f : Flags) → is_taken (code_of c) f ≡ goes_on c f
taken_is None f = refl
taken_is (Some Below) f = refl
taken_is (Some NotBelow) f = refl
taken_is (Some Equal) f = refl
taken_is (Some NotEqual) f = refl
taken_is (Some NotAbove) f = refl
taken_is (Some Above) f = refl
taken_is (Some Sign) f = refl
taken_is (Some NotSign) f = refl
taken_is (Some Less) f = refl
taken_is (Some NotLess) f = refl
taken_is (Some NotGreater) f = refl
taken_is (Some Greater) f = refl

-- bytes put in both memories
put_block_same : (a x : ℕ) (bs : List ℕ) (f g : ℕ → ℕ) → f x ≡ g x → put_block a bs f x ≡ put_block a bs g x
unfolding put_block
put_block_same a x [] f g e = e
put_block_same a x (b ∷ bs) f g e = put_block_same (a + 1) x bs (update f (a % 2 ^ 32) (b % 256)) (update g (a % 2 ^ 32) (b % 256)) (ap (λ y. cond (eqb x (a % 2 ^ 32)) (b % 256) y) e)

put_block_other : (a x : ℕ) (bs : List ℕ) (f : ℕ → ℕ) → ((i : ℕ) → i < length bs → x ≢ (a + i) % 2 ^ 32) → put_block a bs f x ≡ f x
unfolding put_block
put_block_other a x [] f far = refl
put_block_other a x (b ∷ bs) f far =
    let e : a % 2 ^ 32 ≡ (a + 0) % 2 ^ 32 = ap (λ k. k % 2 ^ 32) (omega arith) in
    let here : x ≢ a % 2 ^ 32 = λ h. far 0 (omega arith) (h ∙ e) in
    put_block_other (a + 1) x bs (update f (a % 2 ^ 32) (b % 256)) (λ i lt h. far (i + 1) (omega arith) (h ∙ ap (λ k. k % 2 ^ 32) (omega arith))) ∙ update_other f (a % 2 ^ 32) (b % 256) x here

put_block_byte : (a x : ℕ) (bs : List ℕ) (f : ℕ → ℕ) → f x < 256 → put_block a bs f x < 256
unfolding put_block
put_block_byte a x [] f lt = lt
put_block_byte a x (b ∷ bs) f lt = put_block_byte (a + 1) x bs (update f (a % 2 ^ 32) (b % 256)) (update_keeps (λ y. y < 256) f (a % 2 ^ 32) (b % 256) x (omega arith) lt)

pub each_at : (test : ℕ → Bool) (n a i : ℕ) → each_byte test n a ≡ true → i < n → test ((a + i) % 2 ^ 32) ≡ true
unfolding each_byte
each_at test zero a i h lt = absurd (omega arith)
each_at test (suc n) a zero h lt = let e : a ≡ a + 0 = omega arith in subst (λ k. test (k % 2 ^ 32) ≡ true) e (both_true (test (a % 2 ^ 32)) (each_byte test n (a + 1)) h).0
each_at test (suc n) a (suc k) h lt = let e : a + 1 + k ≡ a + suc k = omega arith in subst (λ j. test (j % 2 ^ 32) ≡ true) e (each_at test n (a + 1) k (both_true (test (a % 2 ^ 32)) (each_byte test n (a + 1)) h).1 (omega arith))

block_same : (held : ℕ → Bool) (n a : ℕ) (f g : ℕ → ℕ) → ((x : ℕ) → held x ≡ true → f x ≡ g x) → each_byte held n a ≡ true → block n a f ≡ block n a g
unfolding block each_byte
block_same held zero a f g same h = refl
block_same held (suc n) a f g same h =
    let p = both_true (held (a % 2 ^ 32)) (each_byte held n (a + 1)) h in
    rw (same (a % 2 ^ 32) p.0, block_same held n (a + 1) f g same p.1) refl

pub length_block : (n a : ℕ) (f : ℕ → ℕ) → length (block n a f) ≡ n
unfolding block
length_block zero a f = refl
length_block (suc n) a f = let e = length_block n (a + 1) f in omega (arith, e)

-- an error's number is from 1 to 4095
pub error_bounds : (code : ℕ) → (1 ≤ error_of code) × (error_of code ≤ 4095)
error_bounds code = grind (arith, nat_tests)

module _ (m : Map) (area : ℕ) (guest host : Rights) (is_map : IsMap m) (page : IsHomePage area guest host) (segments : HasSegments guest host) (writes_held : WritesHeld guest) (start : Core) where
  abbrev Now : SymbolicState → Core → Type 0
  Now s core = Shows m area guest.held start s core

  -- the host's exit is the state's
  abbrev pub Relates : SymbolicExit → Exit → Type 0
  Relates (Out target s) exit = (core : Core) × (exit ≡ Leaves target core) × Now s core
  Relates (Indirect s) exit = (core : Core) × (exit ≡ Leaps core) × Now s core
  Relates (Stopped e) exit = exit ≡ Stops e
  Relates (Called call symbolic_exits) exit = (exits : AnswerValue → Exit) × (exit ≡ Calls call exits) × ((a : AnswerValue) → Relates (symbolic_exits a) (exits a))
  Relates Unknown exit = Unit {0}

  -- an answer that fits: a word, and bytes for the guest's own memory
  abbrev pub IsGiven : SymbolicState → Given → Type 0
  IsGiven s (Gives result to_buffer) = (result < 2 ^ 32) × ((i : ℕ) → i < length to_buffer → guest.held ((s.regs 1 + i) % 2 ^ 32) ≡ true)
  IsGiven s (Fails error) = 1 ≤ error

  abbrev host_given : Given → List Choice → Core → Host
  host_given x choices core = after_host_call host 0 x (record { core = core; eip = 0; choices = choices })

  clash : (b : Bool) → b ≡ true → b ≡ false → ⊥
  clash true p q = cc
  clash false p q = cc

  shows_given : (x : Given) (s : SymbolicState) (core : Core) (choices : List Choice) → IsGiven s x → Now s core → Now (with_given x s) (host_given x choices core).core
  shows_given (Fails error) s core choices ok sh = shows_reg m area guest host is_map page start 0 (2 ^ 32 - error) s core (free_low m 0 (omega arith)) (omega arith) sh
  shows_given (Gives result bs) s core choices ok sh = record {
    is_core = record { words = λ q. update_keeps (λ k. k < 2 ^ 32) core.regs 0 result q ok.0 (sh.is_core.words q); bytes = λ a. put_block_byte (core.regs 1) a bs core.bytes (sh.is_core.bytes a) };
    regs = λ q lq. ap (λ y. cond (eqb q 0) result y) (sh.regs q lq);
    locs = λ y ly. by_slot y ly (slot_of m y) refl ∙ sh.locs y ly;
    fits = sh.fits;
    flags = sh.flags;
    bytes = λ a held. ap (λ k. put_block k bs core.bytes a) ecx ∙ put_block_same (s.regs 1) a bs core.bytes s.bytes (sh.bytes a held);
    kept = λ a un. put_block_other (core.regs 1) a bs core.bytes (λ i li e. clash (guest.held a) (subst (λ k. guest.held k ≡ true) (sym (e ∙ ap (λ k. (k + i) % 2 ^ 32) ecx)) (ok.1 i li)) un.no_guest) ∙ sh.kept a un;
  }
    where
      ecx : core.regs 1 ≡ s.regs 1
      ecx = sh.regs 1 (free_low m 1 (omega arith))

      far : (y i j : ℕ) → y < 46 → i < home_size y → j < length bs → (area + home y + i) % 2 ^ 32 ≢ (core.regs 1 + j) % 2 ^ 32
      far y i j ly li lj e =
          let w = home_within y i ly li in
          let held : guest.held ((core.regs 1 + j) % 2 ^ 32) ≡ true = subst (λ k. guest.held ((k + j) % 2 ^ 32) ≡ true) (sym ecx) (ok.1 j lj) in
          let a = page.apart ((core.regs 1 + j) % 2 ^ 32) held in
          let l = page.low in
          omega (arith, w, a, l, e)

      by_slot : (y : ℕ) → y < 46 → (o : Option ℕ) → slot_of m y ≡ o → value_at (record core { regs = update core.regs 0 result; bytes = put_block (core.regs 1) bs core.bytes }) (in_slot o (Memory (home_size y) (area + home y))) ≡ value_at core (in_slot o (Memory (home_size y) (area + home y)))
      by_slot y ly None e = load_same (home_size y) (area + home y) (put_block (core.regs 1) bs core.bytes) core.bytes (λ i li. put_block_other (core.regs 1) ((area + home y + i) % 2 ^ 32) bs core.bytes (λ j lj. far y i j ly li lj))
      by_slot y ly (Some t) e = update_other core.regs 0 result t (λ q. free_low m 0 (omega arith) y (e ∙ ap Some q))

  -- what each call's answer gives fits
  read_given : (fd count : ℕ) (a : AnswerValue) (s : SymbolicState) → count < 2 ^ 32 → each_byte guest.writable count (s.regs 1) ≡ true → IsGiven s (given (Read fd count) a)
  read_given fd count (Got bytes) s lt all = (omega arith, λ i li. writes_held ((s.regs 1 + i) % 2 ^ 32) (each_at guest.writable count (s.regs 1) i all (let e = length-take (min (length bytes) count) bytes in omega (arith, e, li))))
  read_given fd count (Took taken) s lt all = (omega arith, λ i li. absurd (omega arith))
  read_given fd count (Error code) s lt all = (error_bounds code).0

  write_given : (fd : ℕ) (bytes : List ℕ) (a : AnswerValue) (s : SymbolicState) → length bytes < 2 ^ 32 → IsGiven s (given (Write fd bytes) a)
  write_given fd bytes (Got got) s lt = (omega arith, λ i li. absurd (omega arith))
  write_given fd bytes (Took taken) s lt = (omega arith, λ i li. absurd (omega arith))
  write_given fd bytes (Error code) s lt = (error_bounds code).0

  close_given : (fd : ℕ) (a : AnswerValue) (s : SymbolicState) → IsGiven s (given (Close fd) a)
  close_given fd (Got got) s = (omega arith, λ i li. absurd (omega arith))
  close_given fd (Took taken) s = (omega arith, λ i li. absurd (omega arith))
  close_given fd (Error code) s = (error_bounds code).0

  -- int 0x80
  calls_relate : (rest : SymbolicState → SymbolicExit) (rest' : List Choice → Core → Exit) (choices : List Choice) (s : SymbolicState) (core : Core) → IsFree m 3 → Now s core → ((s1 : SymbolicState) (core1 : Core) → Now s1 core1 → Relates (rest s1) (rest' (drop 1 choices) core1)) →
      Relates (calls guest host rest s) (behind_op rest' (host_system_call host 0 (record { core = core; eip = 0; choices = choices })))
  calls_relate rest rest' choices s core free sh on = by_exit (eqb (s.regs 0) 1 || eqb (s.regs 0) 252) refl
    where
      h : Host
      h = record { core = core; eip = 0; choices = choices }

      r0 : core.regs 0 ≡ s.regs 0
      r0 = sh.regs 0 (free_low m 0 (omega arith))

      r1 : core.regs 1 ≡ s.regs 1
      r1 = sh.regs 1 (free_low m 1 (omega arith))

      r2 : core.regs 2 ≡ s.regs 2
      r2 = sh.regs 2 (free_low m 2 (omega arith))

      r3 : core.regs 3 ≡ s.regs 3
      r3 = sh.regs 3 free

      count_word : s.regs 2 < 2 ^ 32
      count_word = subst (λ k. k < 2 ^ 32) r2 (sh.is_core.words 2)

      Host_does : Outcome Host → Type 0
      Host_does o = host_system_call host 0 (record { core = core; eip = 0; choices = choices }) ≡ o

      asked : (call : ListedCall) → host_system_call host 0 (record { core = core; eip = 0; choices = choices }) ≡ host_asks host call 0 (record { core = core; eip = 0; choices = choices }) → ((a : AnswerValue) → IsGiven s (given call a)) → Relates (asks_for rest call s) (behind_op rest' (host_system_call host 0 (record { core = core; eip = 0; choices = choices })))
      asked call e ok = (_, ap (behind_op rest') e, λ a. on_given (given call a) (ok a))
        where
          on_given : (x : Given) → IsGiven s x → Relates (rest (with_given x s)) (rest' (host_given x choices core).choices (host_given x choices core).core)
          on_given (Gives result bs) good = on _ _ (shows_given (Gives result bs) s core choices good sh)
          on_given (Fails error) good = on _ _ (shows_given (Fails error) s core choices good sh)

      by_close : (b : Bool) → eqb (s.regs 0) 6 ≡ b → (eqb (s.regs 0) 1 || eqb (s.regs 0) 252) ≡ false → eqb (s.regs 0) 3 ≡ false → eqb (s.regs 0) 4 ≡ false →
          Relates (cond b (asks_for rest (Close (s.regs 3)) s) (rest (with_given (Fails 38) s))) (behind_op rest' (host_system_call host 0 (record { core = core; eip = 0; choices = choices })))
      by_close true c x r w = asked (Close (s.regs 3)) (rw (r0, x, r, w, c, r3) refl) (λ a. close_given (s.regs 3) a s)
      by_close false c x r w =
          let goes : host_system_call host 0 (record { core = core; eip = 0; choices = choices }) ≡ Goes (host_given (Fails 38) choices core) = rw (r0, x, r, w, c) refl in
          subst (Relates (rest (with_given (Fails 38) s))) (sym (ap (behind_op rest') goes)) (on _ _ (shows_given (Fails 38) s core choices (omega arith) sh))

      by_write : (b : Bool) → eqb (s.regs 0) 4 ≡ b → (eqb (s.regs 0) 1 || eqb (s.regs 0) 252) ≡ false → eqb (s.regs 0) 3 ≡ false →
          Relates (cond b (cond (each_byte guest.held (s.regs 2) (s.regs 1)) (asks_for rest (Write (s.regs 3) (block (s.regs 2) (s.regs 1) s.bytes)) s) Unknown) (cond (eqb (s.regs 0) 6) (asks_for rest (Close (s.regs 3)) s) (rest (with_given (Fails 38) s)))) (behind_op rest' (host_system_call host 0 (record { core = core; eip = 0; choices = choices })))
      by_write false w x r = by_close (eqb (s.regs 0) 6) refl x r w
      by_write true w x r = by_held (each_byte guest.held (s.regs 2) (s.regs 1)) refl
        where
          by_held : (b : Bool) → each_byte guest.held (s.regs 2) (s.regs 1) ≡ b → Relates (cond b (asks_for rest (Write (s.regs 3) (block (s.regs 2) (s.regs 1) s.bytes)) s) Unknown) (behind_op rest' (host_system_call host 0 (record { core = core; eip = 0; choices = choices })))
          by_held false hh = tt
          by_held true hh =
              let all : each_byte host.held (s.regs 2) (s.regs 1) ≡ true = each_of host.held (s.regs 2) (s.regs 1) (λ i li. segments.held ((s.regs 1 + i) % 2 ^ 32) (each_at guest.held (s.regs 2) (s.regs 1) i hh li)) in
              let same = block_same guest.held (s.regs 2) (s.regs 1) core.bytes s.bytes sh.bytes hh in
              let long = length_block (s.regs 2) (s.regs 1) s.bytes in
              asked (Write (s.regs 3) (block (s.regs 2) (s.regs 1) s.bytes)) (rw (r0, x, r, w, r1, r2, r3, all, same) refl) (λ a. write_given (s.regs 3) (block (s.regs 2) (s.regs 1) s.bytes) a s (subst (λ k. k < 2 ^ 32) (sym long) count_word))

      by_read : (b : Bool) → eqb (s.regs 0) 3 ≡ b → (eqb (s.regs 0) 1 || eqb (s.regs 0) 252) ≡ false →
          Relates (cond b (cond (each_byte guest.writable (s.regs 2) (s.regs 1)) (asks_for rest (Read (s.regs 3) (s.regs 2)) s) Unknown) (cond (eqb (s.regs 0) 4) (cond (each_byte guest.held (s.regs 2) (s.regs 1)) (asks_for rest (Write (s.regs 3) (block (s.regs 2) (s.regs 1) s.bytes)) s) Unknown) (cond (eqb (s.regs 0) 6) (asks_for rest (Close (s.regs 3)) s) (rest (with_given (Fails 38) s))))) (behind_op rest' (host_system_call host 0 (record { core = core; eip = 0; choices = choices })))
      by_read false r x = by_write (eqb (s.regs 0) 4) refl x r
      by_read true r x = by_writable (each_byte guest.writable (s.regs 2) (s.regs 1)) refl
        where
          by_writable : (b : Bool) → each_byte guest.writable (s.regs 2) (s.regs 1) ≡ b → Relates (cond b (asks_for rest (Read (s.regs 3) (s.regs 2)) s) Unknown) (behind_op rest' (host_system_call host 0 (record { core = core; eip = 0; choices = choices })))
          by_writable false hw = tt
          by_writable true hw =
              let all : each_byte host.writable (s.regs 2) (s.regs 1) ≡ true = each_of host.writable (s.regs 2) (s.regs 1) (λ i li. let w = each_at guest.writable (s.regs 2) (s.regs 1) i hw li in segments.writable ((s.regs 1 + i) % 2 ^ 32) (writes_held ((s.regs 1 + i) % 2 ^ 32) w) ∙ w) in
              asked (Read (s.regs 3) (s.regs 2)) (rw (r0, x, r, r1, r2, r3, all) refl) (λ a. read_given (s.regs 3) (s.regs 2) a s count_word hw)

      by_exit : (b : Bool) → (eqb (s.regs 0) 1 || eqb (s.regs 0) 252) ≡ b → Relates (cond b (Stopped (endings.Exit (s.regs 3))) (cond (eqb (s.regs 0) 3) (cond (each_byte guest.writable (s.regs 2) (s.regs 1)) (asks_for rest (Read (s.regs 3) (s.regs 2)) s) Unknown) (cond (eqb (s.regs 0) 4) (cond (each_byte guest.held (s.regs 2) (s.regs 1)) (asks_for rest (Write (s.regs 3) (block (s.regs 2) (s.regs 1) s.bytes)) s) Unknown) (cond (eqb (s.regs 0) 6) (asks_for rest (Close (s.regs 3)) s) (rest (with_given (Fails 38) s)))))) (behind_op rest' (host_system_call host 0 (record { core = core; eip = 0; choices = choices })))
      by_exit true x =
          let ends : host_system_call host 0 (record { core = core; eip = 0; choices = choices }) ≡ Ends (endings.Exit (s.regs 3)) = rw (r0, x, r3) refl in
          ap (behind_op rest') ends
      by_exit false x = by_read (eqb (s.regs 0) 3) refl x

  -- an op of a tile is no jump
  not_falling : (op : Op) (symbolic_exit : SymbolicExit) (exit : Exit) → is_jump (op_at area op) ≡ false → Relates symbolic_exit exit → Relates symbolic_exit (cond (is_jump (op_at area op)) Falls exit)
  not_falling op symbolic_exit exit n r = subst (λ b. Relates symbolic_exit (cond b Falls exit)) (sym n) r

  by_core : (rest : SymbolicState → SymbolicExit) (rest' : List Choice → Core → Exit) (h : Host) (s1 : SymbolicState) (o : Option Core) → Kept m area guest host is_map page start (Some s1) o → ((s1 : SymbolicState) (core1 : Core) → Now s1 core1 → Relates (rest s1) (rest' (drop 1 h.choices) core1)) → Relates (rest s1) (behind_op rest' (host_goes_to host 0 h o))
  by_core rest rest' h s1 None k on = absurd k
  by_core rest rest' h s1 (Some core1) k on = on s1 core1 k

  by_test : (b : Bool) (x y : SymbolicExit) (x' y' : Exit) → Relates x x' → Relates y y' → Relates (cond b x y) (cond b x' y')
  by_test true x y x' y' hx hy = hx
  by_test false x y x' y' hx hy = hy

  -- what the line leads to, if it leads on
  by_line : (l : SymbolicOp) (rest : SymbolicState → SymbolicExit) (rest' : List Choice → Core → Exit) (choices : List Choice) (s : SymbolicState) (core : Core) → IsWellFormed l → Now s core → ((s1 : SymbolicState) (core1 : Core) → Now s1 core1 → Relates (rest s1) (rest' (drop 1 choices) core1)) →
      (o : Option SymbolicState) → execute_op guest host l (choice_at choices 0) s ≡ o → Kept m area guest host is_map page start o (does host (op_at area (op_of m l)) (choice_at choices 0) core) →
      Relates (then_exit rest o) (behind_op rest' (host_acts host (op_at area (op_of m l)) 0 (record { core = core; eip = 0; choices = choices })))
  by_line l rest rest' choices s core ok sh on None e k = tt
  by_line l rest rest' choices s core ok sh on (Some s1) e k =
      subst (λ (o : Outcome Host). Relates (rest s1) (behind_op rest' o)) (sym (op_acts m area guest host is_map page start l choices s s1 core ok sh e))
      (by_core rest rest' (record { core = core; eip = 0; choices = choices }) s1 (does host (op_at area (op_of m l)) (choice_at choices 0) core) k on)

  pub items_relate : (items : List TileItem) (skip : Option ℕ) (choices : List Choice) (s : SymbolicState) (core : Core) → AreItems m items → Now s core → Relates (execute guest host items skip choices s) (flow host area (flows_of items m) skip choices core)
  items_relate [] skip choices s core ok sh = tt
  items_relate (Do l ∷ items) None choices s core ok sh =
      not_falling (op_of m l) (then_exit (execute guest host items None (drop 1 choices)) (execute_op guest host l (choice_at choices 0) s)) (behind_op (flow host area (flows_of items m) None) (host_acts host (op_at area (op_of m l)) 0 (record { core = core; eip = 0; choices = choices }))) (no_jump m area host l)
      (by_line l (execute guest host items None (drop 1 choices)) (flow host area (flows_of items m) None) choices s core ok.0 sh (λ s1 core1 sh1. items_relate items None (drop 1 choices) s1 core1 ok.1 sh1)
      (execute_op guest host l (choice_at choices 0) s) refl (shows_op m area guest host is_map page start l (choice_at choices 0) s core ok.0 sh))
  items_relate (Do l ∷ items) (Some mark) choices s core ok sh = items_relate items (Some mark) choices s core ok.1 sh
  items_relate (JumpIf c mark ∷ items) None choices s core ok sh =
      subst (λ b. Relates (cond (goes_on c s.flags) (execute guest host items (Some mark) (drop 1 choices) s) (execute guest host items None (drop 1 choices) s)) (cond b (flow host area (flows_of items m) (Some mark) (drop 1 choices) core) (flow host area (flows_of items m) None (drop 1 choices) core))) (sym (taken_is c core.flags ∙ ap (goes_on c) sh.flags))
      (by_test (goes_on c s.flags) _ _ _ _ (items_relate items (Some mark) (drop 1 choices) s core ok sh) (items_relate items None (drop 1 choices) s core ok sh))
  items_relate (JumpIf c k ∷ items) (Some mark) choices s core ok sh = items_relate items (Some mark) choices s core ok sh
  items_relate (Label k ∷ items) None choices s core ok sh = items_relate items None choices s core ok sh
  items_relate (Label k ∷ items) (Some mark) choices s core ok sh = by_test (eqb k mark) _ _ _ _ (items_relate items None choices s core ok sh) (items_relate items (Some mark) choices s core ok sh)
  items_relate (LoadEbx x ∷ items) None choices s core ok sh =
      let e = fetched m area guest host is_map page start (choice_at choices 0) core 3 (s.locs x) (place m x) (read_operand m area guest host is_map page start (Location x) s core ok.1 sh) in
      let d : host_acts host (op_at area (mov_from 3 (place m x))) 0 (record { core = core; eip = 0; choices = choices }) ≡ Goes (record { core = record core { regs = update core.regs 3 (s.locs x) }; eip = 0; choices = drop 1 choices }) = fetch_plain m area host 3 (place m x) (record { core = core; eip = 0; choices = choices }) ∙ ap (host_goes_to host 0 (record { core = core; eip = 0; choices = choices })) e in
      not_falling (mov_from 3 (place m x)) (execute guest host items None (drop 1 choices) (with_reg 3 (s.locs x) s)) (behind_op (flow host area (flows_of items m) None) (host_acts host (op_at area (mov_from 3 (place m x))) 0 (record { core = core; eip = 0; choices = choices }))) (fetch_no_jump m area host 3 (place m x))
      (subst (λ (o : Outcome Host). Relates (execute guest host items None (drop 1 choices) (with_reg 3 (s.locs x) s)) (behind_op (flow host area (flows_of items m) None) o)) (sym d)
      (items_relate items None (drop 1 choices) _ _ ok.2 (shows_reg m area guest host is_map page start 3 (s.locs x) s core ok.0 (operand_word m area guest host is_map page start (Location x) s core ok.1 sh) sh)))
  items_relate (LoadEbx x ∷ items) (Some mark) choices s core ok sh = items_relate items (Some mark) choices s core ok.2 sh
  items_relate (BranchTo target ∷ items) None choices s core ok sh = (core, refl, sh)
  items_relate (BranchTo target ∷ items) (Some mark) choices s core ok sh = items_relate items (Some mark) choices s core ok sh
  items_relate (BranchIndirect ∷ items) None choices s core ok sh = (core, refl, sh)
  items_relate (BranchIndirect ∷ items) (Some mark) choices s core ok sh = items_relate items (Some mark) choices s core ok sh
  items_relate (Interrupt ∷ items) None choices s core ok sh = calls_relate (execute guest host items None (drop 1 choices)) (flow host area (flows_of items m) None) choices s core ok.0 sh (λ s1 core1 sh1. items_relate items None (drop 1 choices) s1 core1 ok.1 sh1)
  items_relate (Interrupt ∷ items) (Some mark) choices s core ok sh = items_relate items (Some mark) choices s core ok.1 sh
  items_relate (Trap ∷ items) None choices s core ok sh = refl
  items_relate (Trap ∷ items) (Some mark) choices s core ok sh = items_relate items (Some mark) choices s core ok sh
  items_relate (Undefined ∷ items) None choices s core ok sh = refl
  items_relate (Undefined ∷ items) (Some mark) choices s core ok sh = items_relate items (Some mark) choices s core ok sh
