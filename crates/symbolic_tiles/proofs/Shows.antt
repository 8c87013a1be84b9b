-- Under every map the op of a line does to the host what the line does to the state.
use Rattle.std.proofs.Common.{◌≡◌, ◌≢◌, ℕ, zero, suc, ◌+◌, ◌*◌, ◌%◌, ◌^◌, ◌<◌, ◌≤◌, Bool, true, false, cond, eqb, ltb, ◌⊎◌, List, [], ◌∷◌, map, drop, Option, Some, None, refl, sym, ap, ◌∙◌, subst, ⊎_elim, arith}
use Rattle.symbolic_tiles.proofs.Small.{both_true}
use Rattle.std.proofs.lemmas.Bool.Decides.{nat_tests}
use Rattle.machines.specs.Prelude.{one_if, divide_faults, Map, IsMap, AluTo, AluFrom, Unary, Imul, MovTo, MovFrom, Extend, Bswap, Cmov, Bsr, AluOp, Not, Neg, Mul, Imul1, Div, Idiv, MovzxByte, MovzxHalf, MovsxByte, MovsxHalf, Operand, Reg, Abs, Base, Pair, Flags, HostValues, HostEffect, host_row, alu_row, unary_row, test_row, shift_row, mul_row, imul1_row, divide_row, imul_row, scan_row, sign_copies, condition_holds, update, load, store, each_byte, Rights, Choice, choice_at, Core, Register, place_of, value_at, put_at, bind, host_values, puts_both, multiplies, has_result, reads, puts, leaves, gives_to, does, Host, plain, host_acts, goes_to as goes_to_next, DivideFault, Outcome, Ends}
use Rattle.reg_map.specs.Prelude.{home, home_size, slot_of, place, place_in, mov_from, alu_from, in_slot, location_place, IsHomePage}
use Rattle.machines.specs.Host.{Memory}
use Rattle.symbolic_tiles.specs.Prelude.{is_jump, core_behind, perform, operand_at, op_at, GoesThrough, IsUnowned, IsCore, IsFree, Holds, IsTemporary, IsSymbolicOperand, IsByte, IsWellFormed, AreWellFormed, SymbolicOperand, Temporary, Location, AccessSize, Byte, Half, Word, SymbolicOp, Mov, MovImmediate, Put, PutImmediate, Alu, AluImmediate, Test, TestImmediate, Invert, Negate, Multiply, MultiplyWide, Divide, ShiftBy, ShiftCl, Widen, SwapBytes, MoveIf, Scan, Signs, FetchByte, PutByte, SetByte, Load, Store, operand_of, load_op, store_op, op_of, SymbolicState, at, with_reg, with_location, symbolic_values, with_effect, with_both, size_of, loaded_word, stored_number, can_load, can_store, execute_op, then_ops, execute_ops}
use Rattle.symbolic_tiles.proofs.Memory.{update_same, update_other, update_keeps, store_byte, store_other, store_same, load_same, load_apart}
use Rattle.symbolic_tiles.proofs.Places.{slot_gpr, free_low, home_within, put_same, put_other, place_apart, place_fits, place_bytes, place_unowned, place_registers, place_flags, read_place, write_place}
use Rattle.symbolic_tiles.proofs.Products.{high_word, parts_words}
use Rattle.symbolic_tiles.proofs.Rooms.{alu_word, shift_word, product_word, swapped_word, copies_word, scan_word, widened_word}

-- the core has what the symbolic state says, and beside it the memory with which the ops began
pub record Shows (m : Map) (area : ℕ) (held : ℕ → Bool) (start : Core) (s : SymbolicState) (core : Core) : Type 0 where
  pub is_core : IsCore core
  pub regs : (r : ℕ) → IsFree m r → core.regs r ≡ s.regs r
  pub locs : (x : ℕ) → x < 46 → value_at core (location_place m area x) ≡ s.locs x
  pub fits : (x : ℕ) → x < 46 → s.locs x < 256 ^ home_size x
  pub flags : core.flags ≡ s.flags
  pub bytes : (a : ℕ) → held a ≡ true → core.bytes a ≡ s.bytes a
  pub kept : (a : ℕ) → IsUnowned m area held a → core.bytes a ≡ start.bytes a

is_same : (y x : ℕ) → (y ≡ x) ⊎ (y ≢ x)
is_same y x = grind arith

pub word_size : (x : ℕ) → x < 34 → home_size x ≡ 4
word_size x lx = grind (arith, nat_tests)

pub byte_size : (x : ℕ) → 34 ≤ x → home_size x ≡ 1
byte_size x lx = grind (arith, nat_tests)

is_word : (x : ℕ) → x < 34 → ltb x 34 ≡ true
is_word x lx = grind (arith, nat_tests)

holds_true : (b : Bool) → Holds b → b ≡ true
holds_true true h = refl
holds_true false h = absurd h

pub is_temporary : (r : ℕ) → IsTemporary r → r < 3
is_temporary r h = let e = holds_true (ltb r 3) h in grind (arith, nat_tests)

free : (m : Map) (r : ℕ) → IsTemporary r → IsFree m r
free m r h = free_low m r (is_temporary r h)

byte_word : (b : Bool) → one_if b < 2 ^ 32
byte_word true = omega arith
byte_word false = omega arith

byte_small : (b : Bool) → one_if b < 256
byte_small true = omega arith
byte_small false = omega arith

pick_word : (b : Bool) (x y : ℕ) → x < 2 ^ 32 → y < 2 ^ 32 → cond b x y < 2 ^ 32
pick_word true x y hx hy = hx
pick_word false x y hx hy = hy

module _ (m : Map) (area : ℕ) (host : Rights) where
  -- an op of a line is no jump and no call
  pub fetch_plain : (r : ℕ) (o : Operand) (h : Host) → host_acts host (op_at area (mov_from r o)) 0 h ≡ plain host (op_at area (mov_from r o)) 0 h
  fetch_plain r (Reg t) h = refl
  fetch_plain r (Abs d) h = refl
  fetch_plain r (Base b d) h = refl
  fetch_plain r (Pair b x t d) h = refl

  operate_plain : (op : AluOp) (r : ℕ) (o : Operand) (h : Host) → host_acts host (op_at area (alu_from op r o)) 0 h ≡ plain host (op_at area (alu_from op r o)) 0 h
  operate_plain op r (Reg t) h = refl
  operate_plain op r (Abs d) h = refl
  operate_plain op r (Base b d) h = refl
  operate_plain op r (Pair b x t d) h = refl

  -- a division acts so where it doesn't fault
  abbrev IsPlain : SymbolicOp → Type 0
  IsPlain (Divide signed r) = ⊥
  IsPlain _ = Unit {0}

  pub op_plain : (l : SymbolicOp) (h : Host) → IsPlain l → host_acts host (op_at area (op_of m l)) 0 h ≡ plain host (op_at area (op_of m l)) 0 h
  op_plain (Mov r source) h p = fetch_plain r (operand_of m source) h
  op_plain (Alu op r source) h p = operate_plain op r (operand_of m source) h
  op_plain (MultiplyWide true source) h p = refl
  op_plain (MultiplyWide false source) h p = refl
  op_plain (Load Byte r b d) h p = refl
  op_plain (Load Half r b d) h p = refl
  op_plain (Load Word r b d) h p = refl
  op_plain (Store Byte b d r) h p = refl
  op_plain (Store Half b d r) h p = refl
  op_plain (Store Word b d r) h p = refl
  op_plain (Divide signed r) h p = absurd p
  op_plain _ h p = refl

  pub fetch_no_jump : (r : ℕ) (o : Operand) → is_jump (op_at area (mov_from r o)) ≡ false
  fetch_no_jump r (Reg t) = refl
  fetch_no_jump r (Abs d) = refl
  fetch_no_jump r (Base b d) = refl
  fetch_no_jump r (Pair b x t d) = refl

  operate_no_jump : (op : AluOp) (r : ℕ) (o : Operand) → is_jump (op_at area (alu_from op r o)) ≡ false
  operate_no_jump op r (Reg t) = refl
  operate_no_jump op r (Abs d) = refl
  operate_no_jump op r (Base b d) = refl
  operate_no_jump op r (Pair b x t d) = refl

  pub no_jump : (l : SymbolicOp) → is_jump (op_at area (op_of m l)) ≡ false
  no_jump (Mov r source) = fetch_no_jump r (operand_of m source)
  no_jump (Alu op r source) = operate_no_jump op r (operand_of m source)
  no_jump (Load Byte r b d) = refl
  no_jump (Load Half r b d) = refl
  no_jump (Load Word r b d) = refl
  no_jump (Store Byte b d r) = refl
  no_jump (Store Half b d r) = refl
  no_jump (Store Word b d r) = refl
  no_jump _ = refl

pub bytes_held : (test : ℕ → Bool) (n a : ℕ) → each_byte test n a ≡ true → (i : ℕ) → i < n → test ((a + i) % 2 ^ 32) ≡ true
unfolding each_byte
bytes_held test zero a h i lt = absurd (omega arith)
bytes_held test (suc n) a h zero lt = ap (λ k. test (k % 2 ^ 32)) (omega arith) ∙ (both_true (test (a % 2 ^ 32)) (each_byte test n (a + 1)) h).0
bytes_held test (suc n) a h (suc i) lt = ap (λ k. test (k % 2 ^ 32)) (omega arith) ∙ bytes_held test n (a + 1) (both_true (test (a % 2 ^ 32)) (each_byte test n (a + 1)) h).1 i (omega arith)

pub loaded_small : (size : AccessSize) (a : ℕ) (f : ℕ → ℕ) → ((k : ℕ) → f k < 256) → loaded_word size (load (size_of size) a f) < 2 ^ 32
unfolding load
loaded_small Byte a f h = omega arith
loaded_small Half a f h = omega arith
loaded_small Word a f h = let b0 = h (a % 2 ^ 32) in let b1 = h ((a + 1) % 2 ^ 32) in let b2 = h ((a + 1 + 1) % 2 ^ 32) in let b3 = h ((a + 1 + 1 + 1) % 2 ^ 32) in omega (arith, b0, b1, b2, b3)

module _ (m : Map) (area : ℕ) (guest host : Rights) (is_map : IsMap m) (page : IsHomePage area guest host) (start : Core) where
  abbrev pub Now : SymbolicState → Core → Type 0
  Now s core = Shows m area guest.held start s core

  pub core_put : (core : Core) (x v : ℕ) → v < 2 ^ 32 → IsCore core → IsCore (put_at core (location_place m area x) v)
  core_put core x v lt is = record { words = λ r. by_regs r (slot_of m x); bytes = λ a. by_bytes a (slot_of m x) }
    where
      by_regs : (r : ℕ) (o : Option ℕ) → (put_at core (in_slot o (Memory (home_size x) (area + home x))) v).regs r < 2 ^ 32
      by_regs r None = is.words r
      by_regs r (Some t) = update_keeps (λ k. k < 2 ^ 32) core.regs t v r lt (is.words r)

      by_bytes : (a : ℕ) (o : Option ℕ) → (put_at core (in_slot o (Memory (home_size x) (area + home x))) v).bytes a < 256
      by_bytes a None = store_byte (home_size x) (area + home x) v core.bytes a (is.bytes a)
      by_bytes a (Some t) = is.bytes a

  pub shows_reg : (r v : ℕ) (s : SymbolicState) (core : Core) → IsFree m r → v < 2 ^ 32 → Now s core → Now (with_reg r v s) (record core { regs = update core.regs r v })
  shows_reg r v s core free lt sh = record {
    is_core = record { words = λ q. update_keeps (λ k. k < 2 ^ 32) core.regs r v q lt (sh.is_core.words q); bytes = sh.is_core.bytes };
    regs = λ q lq. ap (λ y. cond (eqb q r) v y) (sh.regs q lq);
    locs = λ y ly. by_slot y (slot_of m y) refl ∙ sh.locs y ly;
    fits = sh.fits;
    flags = sh.flags;
    bytes = sh.bytes;
    kept = sh.kept;
  }
    where
      by_slot : (y : ℕ) (o : Option ℕ) → slot_of m y ≡ o → value_at (record core { regs = update core.regs r v }) (in_slot o (Memory (home_size y) (area + home y))) ≡ value_at core (in_slot o (Memory (home_size y) (area + home y)))
      by_slot y None e = refl
      by_slot y (Some t) e = update_other core.regs r v t (λ q. free y (e ∙ ap Some q))

  shows_location : (x v : ℕ) (s : SymbolicState) (core : Core) → x < 46 → v < 256 ^ home_size x → v < 2 ^ 32 → Now s core → Now (with_location x v s) (put_at core (location_place m area x) v)
  shows_location x v s core lx fit lt sh = record {
    is_core = core_put core x v lt sh.is_core;
    regs = λ q lq. place_registers m area page.low x v q core (lq x) ∙ sh.regs q lq;
    locs = λ y ly. ⊎_elim (same y) (λ ne. put_other core (location_place m area x) (location_place m area y) v (place_apart m area page.low y x ly lx ne) ∙ sh.locs y ly ∙ sym (update_other s.locs x v y ne)) (is_same y x);
    fits = λ y ly. ⊎_elim (λ e. subst (λ z. update s.locs x v z < 256 ^ home_size z) (sym e) (subst (λ k. k < 256 ^ home_size x) (sym (update_same s.locs x v)) fit)) (λ ne. subst (λ k. k < 256 ^ home_size y) (sym (update_other s.locs x v y ne)) (sh.fits y ly)) (is_same y x);
    flags = place_flags m area page.low x v core ∙ sh.flags;
    bytes = λ a held. place_bytes m area page.low x v a core lx (page.apart a held) ∙ sh.bytes a held;
    kept = λ a un. place_unowned m area page.low guest.held x v a core lx un ∙ sh.kept a un;
  }
    where
      same : (y : ℕ) → y ≡ x → value_at (put_at core (location_place m area x) v) (location_place m area y) ≡ update s.locs x v y
      same y e = subst (λ z. value_at (put_at core (location_place m area x) v) (location_place m area z) ≡ update s.locs x v z) (sym e) (put_same core (location_place m area x) v (place_fits m area page.low x v lx fit) ∙ sym (update_same s.locs x v))

  shows_flags : (f : Flags) (s : SymbolicState) (core : Core) → Now s core → Now (record s { flags = f }) (record core { flags = f })
  shows_flags f s core sh = record {
    is_core = record { words = sh.is_core.words; bytes = sh.is_core.bytes };
    regs = sh.regs;
    locs = λ y ly. by_slot y (slot_of m y) ∙ sh.locs y ly;
    fits = sh.fits;
    flags = refl;
    bytes = sh.bytes;
    kept = sh.kept;
  }
    where
      by_slot : (y : ℕ) (o : Option ℕ) → value_at (record core { flags = f }) (in_slot o (Memory (home_size y) (area + home y))) ≡ value_at core (in_slot o (Memory (home_size y) (area + home y)))
      by_slot y None = refl
      by_slot y (Some t) = refl

  -- a store to bytes that the guest has
  shows_store : (n a v : ℕ) (s : SymbolicState) (core : Core) → each_byte guest.held n a ≡ true → Now s core → Now (record s { bytes = store n a v s.bytes }) (record core { bytes = store n a v core.bytes })
  shows_store n a v s core inside sh = record {
    is_core = record { words = sh.is_core.words; bytes = λ k. store_byte n a v core.bytes k (sh.is_core.bytes k) };
    regs = sh.regs;
    locs = λ y ly. by_slot y ly (slot_of m y) ∙ sh.locs y ly;
    fits = sh.fits;
    flags = sh.flags;
    bytes = λ k held. store_same n a v core.bytes s.bytes k (sh.bytes k held);
    kept = λ k un. store_other n a v core.bytes k (λ i lt e. no_byte k i lt e un.no_guest) ∙ sh.kept k un;
  }
    where
      no_byte : (k i : ℕ) → i < n → k ≡ (a + i) % 2 ^ 32 → guest.held k ≡ false → ⊥
      no_byte k i lt e un = let h = bytes_held guest.held n a inside i lt in let q : guest.held k ≡ true = ap guest.held e ∙ h in let c : true ≡ false = sym q ∙ un in cc

      by_slot : (y : ℕ) → y < 46 → (o : Option ℕ) → value_at (record core { bytes = store n a v core.bytes }) (in_slot o (Memory (home_size y) (area + home y))) ≡ value_at core (in_slot o (Memory (home_size y) (area + home y)))
      by_slot y ly None = load_apart (home_size y) n (area + home y) a v core.bytes (λ i j li lj e. let w = home_within y i ly li in let p = page.apart ((a + j) % 2 ^ 32) (bytes_held guest.held n a inside j lj) in omega (arith, page.low, w, p, e))
      by_slot y ly (Some t) = refl

  -- the operand of a location that is a word is its place
  operand_place : (x : ℕ) (regs : ℕ → ℕ) → x < 34 → place_of 4 (operand_at area (place m x)) regs ≡ location_place m area x
  operand_place x regs lx = by_slot (slot_of m x)
    where
      by_slot : (o : Option ℕ) → place_of 4 (operand_at area (place_in o x)) regs ≡ in_slot o (Memory (home_size x) (area + home x))
      by_slot (Some r) = refl
      by_slot None = ap (λ b. Memory (cond b 4 1) (area + cond b (4 * x) (102 + x))) (sym (is_word x lx))

  -- a location that is a byte stands at its home
  home_place_of : (x : ℕ) (regs : ℕ → ℕ) → 34 ≤ x → place_of 1 (operand_at area (Abs (home x))) regs ≡ location_place m area x
  home_place_of x regs lx = by_slot (slot_of m x) refl
    where
      by_slot : (o : Option ℕ) → slot_of m x ≡ o → Memory 1 (area + home x) ≡ in_slot o (Memory (home_size x) (area + home x))
      by_slot (Some r) e = absurd (let h = slot_gpr m x r is_map e in omega arith)
      by_slot None e = ap (λ n. Memory n (area + home x)) (sym (byte_size x lx))

  reg_same : (r : ℕ) (s : SymbolicState) (core : Core) → IsTemporary r → Now s core → core.regs r ≡ s.regs r
  reg_same r s core h sh = sh.regs r (free m r h)

  reg_word : (r : ℕ) (s : SymbolicState) (core : Core) → IsTemporary r → Now s core → s.regs r < 2 ^ 32
  reg_word r s core h sh = subst (λ k. k < 2 ^ 32) (reg_same r s core h sh) (sh.is_core.words r)

  pub operand_word : (source : SymbolicOperand) (s : SymbolicState) (core : Core) → IsSymbolicOperand source → Now s core → at s source < 2 ^ 32
  operand_word (Temporary r) s core ok sh = reg_word r s core ok sh
  operand_word (Location x) s core ok sh = subst (λ n. s.locs x < 256 ^ n) (word_size x ok) (sh.fits x (omega arith))

  read_location : (x : ℕ) (s : SymbolicState) (core : Core) → x < 46 → Now s core → reads host core (location_place m area x) ≡ Some (s.locs x)
  read_location x s core lx sh = read_place m area guest host page x core lx ∙ ap Some (sh.locs x lx)

  pub read_operand : (source : SymbolicOperand) (s : SymbolicState) (core : Core) → IsSymbolicOperand source → Now s core → reads host core (place_of 4 (operand_at area (operand_of m source)) core.regs) ≡ Some (at s source)
  read_operand (Temporary r) s core ok sh = ap Some (reg_same r s core ok sh)
  read_operand (Location x) s core ok sh = ap (reads host core) (operand_place x core.regs ok) ∙ read_location x s core (omega arith) sh

  -- mov and alu with any operand
  pub fetched : (c : Choice) (core : Core) (r v : ℕ) (o : Operand) → reads host core (place_of 4 (operand_at area o) core.regs) ≡ Some v → does host (op_at area (mov_from r o)) c core ≡ Some (record core { regs = update core.regs r v })
  fetched c core r v (Reg t) e = ap (λ k. bind k (gives_to host (MovTo (Reg r) t) c true (Register r) core 0)) e
  fetched c core r v (Abs d) e = ap (λ k. bind k (gives_to host (MovFrom r (Abs (area + d))) c true (Register r) core 0)) e
  fetched c core r v (Base b d) e = ap (λ k. bind k (gives_to host (MovFrom r (Base b d)) c true (Register r) core 0)) e
  fetched c core r v (Pair b x t d) e = ap (λ k. bind k (gives_to host (MovFrom r (Pair b x t d)) c true (Register r) core 0)) e

  operated : (c : Choice) (core : Core) (op : AluOp) (r v : ℕ) (o : Operand) → reads host core (place_of 4 (operand_at area o) core.regs) ≡ Some v → does host (op_at area (alu_from op r o)) c core ≡ leaves host (has_result op) (alu_row op (host_values c core (core.regs r) v)) (Register r) core
  operated c core op r v (Reg t) e = ap (λ k. bind k (gives_to host (AluTo op (Reg r) t) c (has_result op) (Register r) core (core.regs r))) e
  operated c core op r v (Abs d) e = ap (λ k. bind k (gives_to host (AluFrom op r (Abs (area + d))) c (has_result op) (Register r) core (core.regs r))) e
  operated c core op r v (Base b d) e = ap (λ k. bind k (gives_to host (AluFrom op r (Base b d)) c (has_result op) (Register r) core (core.regs r))) e
  operated c core op r v (Pair b x t d) e = ap (λ k. bind k (gives_to host (AluFrom op r (Pair b x t d)) c (has_result op) (Register r) core (core.regs r))) e

  -- an effect in a register and the flags
  shows_effect : (b : Bool) (e : HostEffect) (r : ℕ) (s : SymbolicState) (core : Core) → IsFree m r → e.result < 2 ^ 32 → Now s core → GoesThrough (leaves host b e (Register r) core) (Now (with_effect b e r s))
  shows_effect true e r s core free lt sh = shows_reg r e.result (record s { flags = e.flags }) (record core { flags = e.flags }) free lt (shows_flags e.flags s core sh)
  shows_effect false e r s core free lt sh = shows_flags e.flags s core sh

  values_same : (c : Choice) (s : SymbolicState) (core : Core) {x x' y y' : ℕ} → x' ≡ x → y' ≡ y → Now s core → host_values c core x' y' ≡ symbolic_values c s x y
  values_same c s core {x} {x'} {y} {y'} p q sh =
      let d = sh.regs 2 (free_low m 2 (omega arith)) in
      let f = sh.flags in
      rw (p, q, d, f) refl

  -- a row on values that the state has
  shows_row : (F : HostValues → HostEffect) (b : Bool) (c : Choice) (r x x' y y' : ℕ) (s : SymbolicState) (core : Core) → IsTemporary r → x' ≡ x → y' ≡ y → (F (symbolic_values c s x y)).result < 2 ^ 32 → Now s core → GoesThrough (leaves host b (F (host_values c core x' y')) (Register r) core) (Now (with_effect b (F (symbolic_values c s x y)) r s))
  shows_row F b c r x x' y y' s core t p q lt sh =
      subst (λ v. GoesThrough (leaves host b (F v) (Register r) core) (Now (with_effect b (F (symbolic_values c s x y)) r s))) (sym (values_same c s core p q sh))
      (shows_effect b (F (symbolic_values c s x y)) r s core (free m r t) lt sh)

  -- two results
  shows_both : (F : HostValues → HostEffect) (c : Choice) (x x' y y' : ℕ) (s : SymbolicState) (core : Core) → x' ≡ x → y' ≡ y → (F (symbolic_values c s x y)).result < 2 ^ 32 → (F (symbolic_values c s x y)).high < 2 ^ 32 → Now s core → Now (with_both (F (symbolic_values c s x y)) s) (puts_both (F (host_values c core x' y')) core)
  shows_both F c x x' y y' s core p q lt lt' sh =
      let e = F (symbolic_values c s x y) in
      subst (λ v. Now (with_both (F (symbolic_values c s x y)) s) (puts_both (F v) core)) (sym (values_same c s core p q sh))
      (shows_reg 2 e.high (with_reg 0 e.result (record s { flags = e.flags })) (record core { regs = update core.regs 0 e.result; flags = e.flags }) (free_low m 2 (omega arith)) lt'
      (shows_reg 0 e.result (record s { flags = e.flags }) (record core { flags = e.flags }) (free_low m 0 (omega arith)) lt (shows_flags e.flags s core sh)))

  -- what is known behind an op, where the line goes on
  abbrev pub Kept : Option SymbolicState → Option Core → Type 0
  Kept None o = Unit {0}
  Kept (Some s) o = GoesThrough o (Now s)

  along : (s : SymbolicState) (o o' : Option Core) → o ≡ o' → GoesThrough o' (Now s) → GoesThrough o (Now s)
  along s o o' e sh = subst (λ k. GoesThrough k (Now s)) (sym e) sh

  through : (s : SymbolicState) (core : Core) (o : Option Core) → o ≡ Some core → Now s core → GoesThrough o (Now s)
  through s core o e sh = along s o (Some core) e sh

  abbrev address_of : SymbolicState → ℕ → ℕ → ℕ
  address_of s b d = (s.regs b + d) % 2 ^ 32

  -- a load, where guest and host have its bytes
  load_read : (size : AccessSize) (b d : ℕ) (s : SymbolicState) (core : Core) → IsTemporary b → can_load guest host (size_of size) (address_of s b d) ≡ true → Now s core →
      reads host core (Memory (size_of size) ((core.regs b + d) % 2 ^ 32)) ≡ Some (load (size_of size) (address_of s b d) s.bytes)
  load_read size b d s core t ok sh =
      let both = both_true (each_byte guest.held (size_of size) (address_of s b d)) (each_byte host.held (size_of size) (address_of s b d)) ok in
      ap (λ k. reads host core (Memory (size_of size) ((k + d) % 2 ^ 32))) (reg_same b s core t sh)
      ∙ ap (λ k. cond k (Some (load (size_of size) (address_of s b d) core.bytes)) None) both.1
      ∙ ap Some (load_same (size_of size) (address_of s b d) core.bytes s.bytes (λ i lt. sh.bytes ((address_of s b d + i) % 2 ^ 32) (bytes_held guest.held (size_of size) (address_of s b d) both.0 i lt)))

  shows_load : (size : AccessSize) (r b d : ℕ) (c : Choice) (s : SymbolicState) (core : Core) → IsTemporary r → IsTemporary b → Now s core → (k : Bool) → can_load guest host (size_of size) (address_of s b d) ≡ k →
      Kept (cond k (Some (with_reg r (loaded_word size (load (size_of size) (address_of s b d) s.bytes)) s)) None) (does host (load_op size r (Base b d)) c core)
  shows_load size r b d c s core tr tb sh false e = tt
  shows_load Byte r b d c s core tr tb sh true e = through _ _ _ (ap (λ k. bind k (gives_to host (Extend MovzxByte r (Base b d)) c true (Register r) core 0)) (load_read Byte b d s core tb e sh)) (shows_reg r _ s core (free m r tr) (omega arith) sh)
  shows_load Half r b d c s core tr tb sh true e = through _ _ _ (ap (λ k. bind k (gives_to host (Extend MovzxHalf r (Base b d)) c true (Register r) core 0)) (load_read Half b d s core tb e sh)) (shows_reg r _ s core (free m r tr) (omega arith) sh)
  shows_load Word r b d c s core tr tb sh true e = through _ _ _ (ap (λ k. bind k (gives_to host (MovFrom r (Base b d)) c true (Register r) core 0)) (load_read Word b d s core tb e sh)) (shows_reg r _ s core (free m r tr) (four_small (core.bytes) sh.is_core.bytes) sh)
    where
      four_small : (f : ℕ → ℕ) → ((k : ℕ) → f k < 256) → load 4 (address_of s b d) s.bytes < 2 ^ 32
      four_small f h =
          let both = both_true (each_byte guest.held 4 (address_of s b d)) (each_byte host.held 4 (address_of s b d)) e in
          let same = load_same 4 (address_of s b d) core.bytes s.bytes (λ i lt. sh.bytes ((address_of s b d + i) % 2 ^ 32) (bytes_held guest.held 4 (address_of s b d) both.0 i lt)) in
          subst (λ v. v < 2 ^ 32) same (loaded_small Word (address_of s b d) core.bytes sh.is_core.bytes)

  -- a store likewise
  put_memory : (n a v : ℕ) (core : Core) → each_byte host.writable n a ≡ true → puts host core (Memory n a) v ≡ Some (record core { bytes = store n a v core.bytes })
  put_memory n a v core e = ap (λ k. cond k (Some (record core { bytes = store n a v core.bytes })) None) e

  stored_at : (size : AccessSize) (b d r : ℕ) (c : Choice) (core : Core) → does host (store_op size (Base b d) r) c core ≡ puts host core (Memory (size_of size) ((core.regs b + d) % 2 ^ 32)) (stored_number size (core.regs r))
  stored_at Byte b d r c core = refl
  stored_at Half b d r c core = refl
  stored_at Word b d r c core = refl

  shows_stored : (size : AccessSize) (b d r : ℕ) (c : Choice) (s : SymbolicState) (core : Core) → IsTemporary b → IsTemporary r → Now s core → (k : Bool) → can_store guest host (size_of size) (address_of s b d) ≡ k →
      Kept (cond k (Some (record s { bytes = store (size_of size) (address_of s b d) (stored_number size (s.regs r)) s.bytes })) None) (does host (store_op size (Base b d) r) c core)
  shows_stored size b d r c s core tb tr sh false e = tt
  shows_stored size b d r c s core tb tr sh true e =
      let both = both_true (each_byte guest.held (size_of size) (address_of s b d)) (each_byte host.writable (size_of size) (address_of s b d)) e in
      through _ _ _ (stored_at size b d r c core
      ∙ ap (λ k. puts host core (Memory (size_of size) ((k + d) % 2 ^ 32)) (stored_number size (core.regs r))) (reg_same b s core tb sh)
      ∙ ap (λ k. puts host core (Memory (size_of size) (address_of s b d)) (stored_number size k)) (reg_same r s core tr sh)
      ∙ put_memory (size_of size) (address_of s b d) (stored_number size (s.regs r)) core both.1)
      (shows_store (size_of size) (address_of s b d) (stored_number size (s.regs r)) s core both.0 sh)

  put_word : (x v : ℕ) (s : SymbolicState) (core : Core) → x < 34 → v < 2 ^ 32 → Now s core → GoesThrough (puts host core (place_of 4 (operand_at area (place m x)) core.regs) v) (Now (with_location x v s))
  put_word x v s core lx lt sh =
      let fit : v < 256 ^ home_size x = subst (λ n. v < 256 ^ n) (sym (word_size x lx)) lt in
      through _ _ _ (ap (λ p. puts host core p v) (operand_place x core.regs lx) ∙ write_place m area guest host page x v core (omega arith)) (shows_location x v s core (omega arith) fit lt sh)

  put_byte : (x v : ℕ) (s : SymbolicState) (core : Core) → IsByte x → v < 256 → Now s core → GoesThrough (puts host core (place_of 1 (operand_at area (Abs (home x))) core.regs) v) (Now (with_location x v s))
  put_byte x v s core lx lt sh =
      let fit : v < 256 ^ home_size x = subst (λ n. v < 256 ^ n) (sym (byte_size x lx.0)) (omega arith) in
      through _ _ _ (ap (λ p. puts host core p v) (home_place_of x core.regs lx.0) ∙ write_place m area guest host page x v core lx.1) (shows_location x v s core lx.1 fit (omega arith) sh)

  shows_division : (signed : Bool) (r : ℕ) (c : Choice) (s : SymbolicState) (core : Core) → IsTemporary r → Now s core → (o : Option Core) → o ≡ Some (puts_both (divide_row signed (host_values c core (core.regs 0) (core.regs r))) core) → (k : Bool) → divide_faults (s.regs 2) (s.regs 0) (s.regs r) signed ≡ k →
      Kept (cond k None (Some (with_both (divide_row signed (symbolic_values c s (s.regs 0) (s.regs r))) s))) o
  shows_division signed r c s core t sh o e true f = tt
  shows_division signed r c s core t sh o e false f =
      let w = parts_words (s.regs 2) (s.regs 0) (s.regs r) signed (reg_word r s core t sh) f in
      along _ _ _ e (shows_both (divide_row signed) c (s.regs 0) (core.regs 0) (s.regs r) (core.regs r) s core (reg_same 0 s core tt sh) (reg_same r s core t sh) w.0 w.1 sh)

  pub shows_op : (l : SymbolicOp) (c : Choice) (s : SymbolicState) (core : Core) → IsWellFormed l → Now s core → Kept (execute_op guest host l c s) (does host (op_at area (op_of m l)) c core)
  shows_op (Mov r source) c s core ok sh =
      through _ _ _ (fetched c core r (at s source) (operand_of m source) (read_operand source s core ok.1 sh)) (shows_reg r (at s source) s core (free m r ok.0) (operand_word source s core ok.1 sh) sh)
  shows_op (MovImmediate r v) c s core ok sh = shows_reg r v s core (free m r ok.0) ok.1 sh
  shows_op (Put x r) c s core ok sh =
      along _ _ _ (ap (λ k. puts host core (place_of 4 (operand_at area (place m x)) core.regs) k) (reg_same r s core ok.1 sh)) (put_word x (s.regs r) s core ok.0 (reg_word r s core ok.1 sh) sh)
  shows_op (PutImmediate x v) c s core ok sh = put_word x v s core ok.1 ok.2 sh
  shows_op (Alu op r source) c s core ok sh =
      along _ _ _ (operated c core op r (at s source) (operand_of m source) (read_operand source s core ok.1 sh))
      (shows_row (alu_row op) (has_result op) c r (s.regs r) (core.regs r) (at s source) (at s source) s core ok.0 (reg_same r s core ok.0 sh) refl (alu_word op (symbolic_values c s (s.regs r) (at s source)) (reg_word r s core ok.0 sh) (operand_word source s core ok.1 sh)) sh)
  shows_op (AluImmediate op r v) c s core ok sh =
      shows_row (alu_row op) (has_result op) c r (s.regs r) (core.regs r) v v s core ok.0 (reg_same r s core ok.0 sh) refl (alu_word op (symbolic_values c s (s.regs r) v) (reg_word r s core ok.0 sh) ok.1) sh
  shows_op (Test r q) c s core ok sh = shows_row test_row false c r (s.regs r) (core.regs r) (s.regs q) (core.regs q) s core ok.0 (reg_same r s core ok.0 sh) (reg_same q s core ok.1 sh) (reg_word r s core ok.0 sh) sh
  shows_op (TestImmediate r v) c s core ok sh = shows_row test_row false c r (s.regs r) (core.regs r) v v s core ok.0 (reg_same r s core ok.0 sh) refl (reg_word r s core ok.0 sh) sh
  shows_op (Invert r) c s core ok sh = shows_row (unary_row Not) true c r 0 0 (s.regs r) (core.regs r) s core ok refl (reg_same r s core ok sh) (omega arith) sh
  shows_op (Negate r) c s core ok sh = shows_row (unary_row Neg) true c r 0 0 (s.regs r) (core.regs r) s core ok refl (reg_same r s core ok sh) (omega arith) sh
  shows_op (Multiply r source) c s core ok sh =
      along _ _ _ (ap (λ k. bind k (gives_to host (Imul r (operand_at area (operand_of m source))) c true (Register r) core (core.regs r))) (read_operand source s core ok.1 sh))
      (shows_row imul_row true c r (s.regs r) (core.regs r) (at s source) (at s source) s core ok.0 (reg_same r s core ok.0 sh) refl (product_word (s.regs r) (at s source)) sh)
  shows_op (MultiplyWide true source) c s core ok sh =
      along _ _ _ (ap (multiplies host (Unary Imul1 (operand_at area (operand_of m source))) c core) (read_operand source s core ok sh))
      (shows_both imul1_row c (s.regs 0) (core.regs 0) (at s source) (at s source) s core (reg_same 0 s core tt sh) refl (product_word (s.regs 0) (at s source)) (high_word (s.regs 0) (at s source) true (reg_word 0 s core tt sh) (operand_word source s core ok sh)) sh)
  shows_op (MultiplyWide false source) c s core ok sh =
      along _ _ _ (ap (multiplies host (Unary Mul (operand_at area (operand_of m source))) c core) (read_operand source s core ok sh))
      (shows_both mul_row c (s.regs 0) (core.regs 0) (at s source) (at s source) s core (reg_same 0 s core tt sh) refl (product_word (s.regs 0) (at s source)) (high_word (s.regs 0) (at s source) false (reg_word 0 s core tt sh) (operand_word source s core ok sh)) sh)
  shows_op (Divide true r) c s core ok sh = shows_division true r c s core ok sh (does host (Unary Idiv (Reg r)) c core) refl (divide_faults (s.regs 2) (s.regs 0) (s.regs r) true) refl
  shows_op (Divide false r) c s core ok sh = shows_division false r c s core ok sh (does host (Unary Div (Reg r)) c core) refl (divide_faults (s.regs 2) (s.regs 0) (s.regs r) false) refl
  shows_op (ShiftBy op r n) c s core ok sh = shows_row (shift_row op n) true c r (s.regs r) (core.regs r) n n s core ok.0 (reg_same r s core ok.0 sh) refl (shift_word op (s.regs r) (n % 32) (reg_word r s core ok.0 sh)) sh
  shows_op (ShiftCl op r) c s core ok sh =
      let q = ap (λ k. k % 2 ^ 8) (reg_same 1 s core tt sh) in
      shows_row (λ v. shift_row op v.y v) true c r (s.regs r) (core.regs r) (s.regs 1 % 2 ^ 8) (core.regs 1 % 2 ^ 8) s core ok (reg_same r s core ok sh) q (shift_word op (s.regs r) (s.regs 1 % 2 ^ 8 % 32) (reg_word r s core ok sh)) sh
  shows_op (Widen MovzxByte r q) c s core ok sh = shows_row (λ v. host_row (Extend MovzxByte r (Reg q)) v) true c r 0 0 (s.regs q) (core.regs q) s core ok.0 refl (reg_same q s core ok.1 sh) (widened_word MovzxByte r q (symbolic_values c s 0 (s.regs q))) sh
  shows_op (Widen MovzxHalf r q) c s core ok sh = shows_row (λ v. host_row (Extend MovzxHalf r (Reg q)) v) true c r 0 0 (s.regs q) (core.regs q) s core ok.0 refl (reg_same q s core ok.1 sh) (widened_word MovzxHalf r q (symbolic_values c s 0 (s.regs q))) sh
  shows_op (Widen MovsxByte r q) c s core ok sh = shows_row (λ v. host_row (Extend MovsxByte r (Reg q)) v) true c r 0 0 (s.regs q) (core.regs q) s core ok.0 refl (reg_same q s core ok.1 sh) (widened_word MovsxByte r q (symbolic_values c s 0 (s.regs q))) sh
  shows_op (Widen MovsxHalf r q) c s core ok sh = shows_row (λ v. host_row (Extend MovsxHalf r (Reg q)) v) true c r 0 0 (s.regs q) (core.regs q) s core ok.0 refl (reg_same q s core ok.1 sh) (widened_word MovsxHalf r q (symbolic_values c s 0 (s.regs q))) sh
  shows_op (SwapBytes r) c s core ok sh = shows_row (λ v. host_row (Bswap r) v) true c r 0 0 (s.regs r) (core.regs r) s core ok refl (reg_same r s core ok sh) (swapped_word (s.regs r)) sh
  shows_op (MoveIf condition r q) c s core ok sh = shows_row (λ v. host_row (Cmov condition r (Reg q)) v) true c r (s.regs r) (core.regs r) (s.regs q) (core.regs q) s core ok.0 (reg_same r s core ok.0 sh) (reg_same q s core ok.1 sh) (pick_word (condition_holds condition s.flags) (s.regs q) (s.regs r) (reg_word q s core ok.1 sh) (reg_word r s core ok.0 sh)) sh
  shows_op (Scan r source) c s core ok sh =
      along _ _ _ (ap (λ k. bind k (gives_to host (Bsr r (operand_at area (operand_of m source))) c true (Register r) core (core.regs r))) (read_operand source s core ok.1 sh))
      (shows_row scan_row true c r (s.regs r) (core.regs r) (at s source) (at s source) s core ok.0 (reg_same r s core ok.0 sh) refl (scan_word (eqb (at s source) 0) (c.value % 2 ^ 32) (at s source) (omega arith)) sh)
  shows_op Signs c s core ok sh = along _ _ _ (ap (λ k. Some (record core { regs = update core.regs 2 (sign_copies k) })) (reg_same 0 s core tt sh)) (shows_reg 2 (sign_copies (s.regs 0)) s core (free_low m 2 (omega arith)) (copies_word (s.regs 0)) sh)
  shows_op (FetchByte r x) c s core ok sh =
      let e = ap (reads host core) (home_place_of x core.regs ok.1.0) ∙ read_location x s core ok.1.1 sh in
      through _ _ _ (ap (λ k. bind k (gives_to host (Extend MovzxByte r (Abs (area + home x))) c true (Register r) core 0)) e) (shows_reg r (s.locs x % 256) s core (free m r ok.0) (omega arith) sh)
  shows_op (PutByte x r) c s core ok sh =
      along _ _ _ (ap (λ k. puts host core (place_of 1 (operand_at area (Abs (home x))) core.regs) (k % 256)) (reg_same r s core ok.1 sh)) (put_byte x (s.regs r % 256) s core ok.0 (omega arith) sh)
  shows_op (SetByte condition x) c s core ok sh =
      along _ _ _ (ap (λ f. puts host core (place_of 1 (operand_at area (Abs (home x))) core.regs) (one_if (condition_holds condition f))) sh.flags) (put_byte x (one_if (condition_holds condition s.flags)) s core ok (byte_small (condition_holds condition s.flags)) sh)
  shows_op (Load Byte r b d) c s core ok sh = shows_load Byte r b d c s core ok.0 ok.1 sh (can_load guest host 1 (address_of s b d)) refl
  shows_op (Load Half r b d) c s core ok sh = shows_load Half r b d c s core ok.0 ok.1 sh (can_load guest host 2 (address_of s b d)) refl
  shows_op (Load Word r b d) c s core ok sh = shows_load Word r b d c s core ok.0 ok.1 sh (can_load guest host 4 (address_of s b d)) refl
  shows_op (Store Byte b d r) c s core ok sh = shows_stored Byte b d r c s core ok.0 ok.1 sh (can_store guest host 1 (address_of s b d)) refl
  shows_op (Store Half b d r) c s core ok sh = shows_stored Half b d r c s core ok.0 ok.1 sh (can_store guest host 2 (address_of s b d)) refl
  shows_op (Store Word b d r) c s core ok sh = shows_stored Word b d r c s core ok.0 ok.1 sh (can_store guest host 4 (address_of s b d)) refl

  -- where the state goes on, a division doesn't fault
  some_goes : (k : Bool) (t u : SymbolicState) → cond k None (Some t) ≡ Some u → k ≡ false
  some_goes true t u e = absurd cc
  some_goes false t u e = refl

  abbrev pub standing : Core → List Choice → Host
  standing core choices = record { core = core; eip = 0; choices = choices }

  pub op_acts : (l : SymbolicOp) (choices : List Choice) (s s1 : SymbolicState) (core : Core) → IsWellFormed l → Now s core → execute_op guest host l (choice_at choices 0) s ≡ Some s1 → host_acts host (op_at area (op_of m l)) 0 (standing core choices) ≡ plain host (op_at area (op_of m l)) 0 (standing core choices)
  op_acts (Divide true r) choices s s1 core ok sh e =
      let f = some_goes (divide_faults (s.regs 2) (s.regs 0) (s.regs r) true) _ s1 e in
      let p = sh.regs 2 (free_low m 2 (omega arith)) in
      let q = reg_same 0 s core tt sh in
      let t = reg_same r s core ok sh in
      let g : divide_faults (core.regs 2) (core.regs 0) (core.regs r) true ≡ false = rw (p, q, t) f in
      ap (λ (k : Bool). cond k (Ends DivideFault) (plain host (Unary Idiv (Reg r)) 0 (standing core choices))) g
  op_acts (Divide false r) choices s s1 core ok sh e =
      let f = some_goes (divide_faults (s.regs 2) (s.regs 0) (s.regs r) false) _ s1 e in
      let p = sh.regs 2 (free_low m 2 (omega arith)) in
      let q = reg_same 0 s core tt sh in
      let t = reg_same r s core ok sh in
      let g : divide_faults (core.regs 2) (core.regs 0) (core.regs r) false ≡ false = rw (p, q, t) f in
      ap (λ (k : Bool). cond k (Ends DivideFault) (plain host (Unary Div (Reg r)) 0 (standing core choices))) g
  op_acts l choices s s1 core ok sh e = op_plain m area host l (standing core choices) tt

  -- and ops one after another
  pub shows_ops : (ops : List SymbolicOp) (choices : List Choice) (s : SymbolicState) (core : Core) → AreWellFormed ops → Now s core → Kept (execute_ops guest host ops choices s) (perform host (map (op_at area) (map (op_of m) ops)) choices core)
  shows_ops [] choices s core ok sh = sh
  shows_ops (l ∷ ops) choices s core ok sh =
      let rest : SymbolicState → Option SymbolicState = execute_ops guest host ops (drop 1 choices) in
      subst (λ (b : Bool). Kept (then_ops rest (execute_op guest host l (choice_at choices 0) s)) (cond b None (core_behind (perform host (map (op_at area) (map (op_of m) ops))) (host_acts host (op_at area (op_of m l)) 0 (standing core choices))))) (sym (no_jump m area host l))
      (by_state (λ s1 core1 sh1. shows_ops ops (drop 1 choices) s1 core1 ok.1 sh1) (execute_op guest host l (choice_at choices 0) s) refl (shows_op l (choice_at choices 0) s core ok.0 sh))
    where
      by_core : ((s1 : SymbolicState) (core1 : Core) → Now s1 core1 → Kept (execute_ops guest host ops (drop 1 choices) s1) (perform host (map (op_at area) (map (op_of m) ops)) (drop 1 choices) core1)) → (s1 : SymbolicState) (o' : Option Core) → Kept (Some s1) o' → Kept (execute_ops guest host ops (drop 1 choices) s1) (core_behind (perform host (map (op_at area) (map (op_of m) ops))) (goes_to_next host 0 (standing core choices) o'))
      by_core rest s1 None k = absurd k
      by_core rest s1 (Some core1) k = rest s1 core1 k

      by_state : ((s1 : SymbolicState) (core1 : Core) → Now s1 core1 → Kept (execute_ops guest host ops (drop 1 choices) s1) (perform host (map (op_at area) (map (op_of m) ops)) (drop 1 choices) core1)) → (o : Option SymbolicState) → execute_op guest host l (choice_at choices 0) s ≡ o → Kept o (does host (op_at area (op_of m l)) (choice_at choices 0) core) →
          Kept (then_ops (execute_ops guest host ops (drop 1 choices)) o) (core_behind (perform host (map (op_at area) (map (op_of m) ops))) (host_acts host (op_at area (op_of m l)) 0 (standing core choices)))
      by_state rest None e k = tt
      by_state rest (Some s1) e k =
          subst (λ (out : Outcome Host). Kept (execute_ops guest host ops (drop 1 choices) s1) (core_behind (perform host (map (op_at area) (map (op_of m) ops))) out)) (sym (op_acts l choices s s1 core ok.0 sh e))
          (by_core rest s1 (does host (op_at area (op_of m l)) (choice_at choices 0) core) k)
