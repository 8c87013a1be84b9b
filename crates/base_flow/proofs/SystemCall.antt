-- The tile of sc does what its row does, part by part.
use Rattle.std.proofs.Common.{◌≡◌, ◌≢◌, ℕ, ◌+◌, ◌-◌, ◌%◌, ◌^◌, ◌<◌, ◌≤◌, Bool, true, false, eqb, ltb, inl, inr, List, length, Some, None, bit_and, bit_or, refl, sym, ap, ◌∙◌, subst, arith}
use Rattle.std.proofs.lemmas.Bool.{eqb-true}
use Rattle.std.proofs.lemmas.Bool.Decides.{nat_tests}
use Rattle.space.specs.declared.call.End.TheVariants as endings
use Rattle.machines.specs.Prelude.{ListedCall, Read, Write, Close, AnswerValue, Got, Took, Error, Given, Gives, Fails, given, error_of, Map, Flags, difference_word, update, block, put_block, each_byte, Rights, Guest, behind, after_guest_call, guest_asks, guest_system_call, without_so, with_so, Choice}
use Rattle.ppc_isa.specs.declared.instr.Instr.TheVariants as instr
use Rattle.base_flow.specs.Prelude.{done_items, error_items, failure_items, success_items, answer_items, request_items, selection_items, items_of}
use Rattle.reg_map.specs.Prelude.{AreInRange}
use Rattle.symbolic_tiles.specs.Prelude.{WritesHeld, IsFree, AreItems, SymbolicState, Out, Stopped, with_given, execute}
use Rattle.symbolic_tiles.proofs.Small.{each_true}
use Rattle.machines.proofs.Stack.{each_true as each_of}
use Rattle.symbolic_tiles.proofs.Shows.{bytes_held}
use Rattle.symbolic_tiles.proofs.Done.{state_of}
use Rattle.symbolic_tiles.proofs.Signed.{zero_test}
use Rattle.symbolic_tiles.proofs.Relates.{error_bounds, length_block}
use Rattle.symbolic_tiles.proofs.FlowDone.{IsOut, FitsExit, AreShort, ItemsDo, update_in_range}

-- small facts on numbers
not_eq : (x y : ℕ) → x ≢ y → eqb x y ≡ false
not_eq x y ne = grind (arith, nat_tests)

differs : (v k n : ℕ) → eqb v k ≡ true → k ≢ n → eqb v n ≡ false
differs v k n h ne = let e = eqb-true v k h in not_eq v n (λ q. ne (sym e ∙ q))

so_cleared : (x : ℕ) → x < 16 → bit_and (x % 256) 14 % 256 ≡ without_so x
so_cleared x lt = eqb-true (bit_and (x % 256) 14 % 256) (without_so x) (each_true (λ y. eqb (bit_and (y % 256) 14 % 256) (without_so y)) 16 x refl lt)

so_set : (x : ℕ) → x < 16 → bit_or (x % 256) 1 % 256 ≡ with_so x
so_set x lt = eqb-true (bit_or (x % 256) 1 % 256) (with_so x) (each_true (λ y. eqb (bit_or (y % 256) 1 % 256) (with_so y)) 16 x refl lt)

-- what an answer gives that is told from an error
abbrev IsTold : Given → Type 0
IsTold (Gives result to_buffer) = result < 0xFFFFF001
IsTold (Fails error) = (1 ≤ error) × (error ≤ 4095)

given_in_range : (x : Given) (g : Guest) → IsTold x → AreInRange g → AreInRange (after_guest_call x g)
given_in_range (Gives result bs) g told range = let f = range 34 (omega arith) in update_in_range (update g.locs 3 result) 34 (without_so (g.locs 34)) (omega (arith, f)) (update_in_range g.locs 3 result (omega arith) range)
given_in_range (Fails error) g told range = let f = range 34 (omega arith) in update_in_range (update g.locs 3 error) 34 (with_so (g.locs 34)) (omega (arith, f)) (update_in_range g.locs 3 error (omega arith) range)

module _ (guest host : Rights) where
  -- an error's number in ecx
  error_here : (g : Guest) (regs : ℕ → ℕ) (flags : Flags) (choices : List Choice) → AreInRange g → AreInRange (after_guest_call (Fails (regs 1)) g) → IsOut guest (after_guest_call (Fails (regs 1)) g) (execute guest host (error_items (behind g.next)) None choices (state_of g regs flags))
  unfolding error_items done_items
  error_here g regs flags choices range after = (refl, (λ x lx. ap (λ w. update (update g.locs 3 (regs 1)) 34 w x) (so_set (g.locs 34) (range 34 (omega arith))), λ a held. refl), after)

  error_from_mark : (g : Guest) (regs : ℕ → ℕ) (flags : Flags) (choices : List Choice) → AreInRange g → AreInRange (after_guest_call (Fails (regs 1)) g) → IsOut guest (after_guest_call (Fails (regs 1)) g) (execute guest host (error_items (behind g.next)) (Some 3) choices (state_of g regs flags))
  unfolding error_items done_items
  error_from_mark g regs flags choices range after = (refl, (λ x lx. ap (λ w. update (update g.locs 3 (regs 1)) 34 w x) (so_set (g.locs 34) (range 34 (omega arith))), λ a held. refl), after)

  -- an error's number, negated, in eax
  failure_from_mark : (g : Guest) (regs : ℕ → ℕ) (flags : Flags) (choices : List Choice) (error : ℕ) → regs 0 ≡ 2 ^ 32 - error → (1 ≤ error) × (error ≤ 4095) → AreInRange g → IsOut guest (after_guest_call (Fails error) g) (execute guest host (failure_items (behind g.next)) (Some 2) choices (state_of g regs flags))
  unfolding failure_items
  failure_from_mark g regs flags choices error e told range =
      let same : difference_word 0 (regs 0) false ≡ error = omega (arith, e, told) in
      let after = given_in_range (Fails error) g told range in
      subst (λ k. IsOut guest (after_guest_call (Fails k) g) (execute guest host (failure_items (behind g.next)) (Some 2) choices (state_of g regs flags))) same
      (error_here g _ _ _ range (subst (λ k. AreInRange (after_guest_call (Fails k) g)) (sym same) after))

  failure_to_done : (next : ℕ) (s : SymbolicState) (choices : List Choice) → execute guest host (failure_items next) (Some 4) choices s ≡ Out next s
  unfolding failure_items error_items done_items
  failure_to_done next s choices = refl

  -- a result in eax
  success_here : (g : Guest) (regs : ℕ → ℕ) (flags : Flags) (bytes : ℕ → ℕ) (choices : List Choice) (bs : List ℕ) → bytes ≡ put_block (g.locs 4) bs g.bytes → regs 0 < 0xFFFFF001 → AreInRange g → IsOut guest (after_guest_call (Gives (regs 0) bs) g) (execute guest host (success_items (behind g.next)) None choices (record { regs = regs; locs = g.locs; flags = flags; bytes = bytes }))
  unfolding success_items
  success_here g regs flags bytes choices bs e told range =
      rw failure_to_done (refl, (λ x lx. ap (λ w. update (update g.locs 3 (regs 0)) 34 w x) (so_cleared (g.locs 34) (range 34 (omega arith))), λ a held. ap (λ f. f a) e), given_in_range (Gives (regs 0) bs) g told range)

  success_to_failure : (next : ℕ) (s : SymbolicState) (choices : List Choice) → execute guest host (success_items next) (Some 2) choices s ≡ execute guest host (failure_items next) (Some 2) choices s
  unfolding success_items
  success_to_failure next s choices = refl

  -- the answer is told apart by its number
  answered : (x : Given) (g : Guest) (regs : ℕ → ℕ) (flags : Flags) (choices : List Choice) → regs 1 ≡ g.locs 4 → IsTold x → AreInRange g → IsOut guest (after_guest_call x g) (execute guest host (answer_items (behind g.next)) None choices (with_given x (state_of g regs flags)))
  unfolding answer_items
  answered (Gives result bs) g regs flags choices e told range =
      let t : ltb result 0xFFFFF001 ≡ true = grind (arith, nat_tests) in
      rw t (success_here g (update regs 0 result) _ _ _ bs (ap (λ k. put_block k bs g.bytes) e) told range)
  answered (Fails error) g regs flags choices e told range =
      let t : ltb (2 ^ 32 - error) 0xFFFFF001 ≡ false = grind (arith, nat_tests) in
      rw (t, success_to_failure) (failure_from_mark g (update regs 0 (2 ^ 32 - error)) _ _ error refl told range)

  -- every other number
  request_to_error : (next : ℕ) (s : SymbolicState) (choices : List Choice) → execute guest host (request_items next) (Some 3) choices s ≡ execute guest host (error_items next) (Some 3) choices s
  unfolding request_items answer_items success_items failure_items
  request_to_error next s choices = refl

  -- exit_group, and exit
  request_from_0 : (g : Guest) (regs : ℕ → ℕ) (flags : Flags) (choices : List Choice) → execute guest host (request_items (behind g.next)) (Some 0) choices (state_of g regs flags) ≡ Stopped (endings.Exit (g.locs 3))
  unfolding request_items
  request_from_0 g regs flags choices = refl

  request_exit : (g : Guest) (regs : ℕ → ℕ) (flags : Flags) (choices : List Choice) → eqb (regs 0) 1 ≡ true → execute guest host (request_items (behind g.next)) (Some 1) choices (state_of g regs flags) ≡ Stopped (endings.Exit (g.locs 3))
  unfolding request_items
  request_exit g regs flags choices e = rw e refl

  -- the calls
  abbrev Asked : Guest → (ℕ → ℕ) → Flags → List Choice → ListedCall → Type 0
  Asked g regs flags choices call = FitsExit guest (guest_asks call g) (execute guest host (request_items (behind g.next)) (Some 1) choices (state_of g regs flags))

  request_read : (g : Guest) (regs : ℕ → ℕ) (flags : Flags) (choices : List Choice) → eqb (regs 0) 3 ≡ true → each_byte guest.writable (g.locs 5) (g.locs 4) ≡ true → ((a : AnswerValue) → IsTold (given (Read (g.locs 3) (g.locs 5)) a)) → AreInRange g → Asked g regs flags choices (Read (g.locs 3) (g.locs 5))
  unfolding request_items
  request_read g regs flags choices e w told range =
      let n1 = differs (regs 0) 3 1 e (omega arith) in
      let n252 = differs (regs 0) 3 252 e (omega arith) in
      rw (n1, n252, e, w) (refl, λ a. answered (given (Read (g.locs 3) (g.locs 5)) a) g _ flags _ refl (told a) range)

  request_write : (g : Guest) (regs : ℕ → ℕ) (flags : Flags) (choices : List Choice) → eqb (regs 0) 4 ≡ true → each_byte guest.held (g.locs 5) (g.locs 4) ≡ true → ((a : AnswerValue) → IsTold (given (Write (g.locs 3) (block (g.locs 5) (g.locs 4) g.bytes)) a)) → AreInRange g → Asked g regs flags choices (Write (g.locs 3) (block (g.locs 5) (g.locs 4) g.bytes))
  unfolding request_items
  request_write g regs flags choices e w told range =
      let n1 = differs (regs 0) 4 1 e (omega arith) in
      let n252 = differs (regs 0) 4 252 e (omega arith) in
      let n3 = differs (regs 0) 4 3 e (omega arith) in
      rw (n1, n252, n3, e, w) (refl, λ a. answered (given (Write (g.locs 3) (block (g.locs 5) (g.locs 4) g.bytes)) a) g _ flags _ refl (told a) range)

  request_close : (g : Guest) (regs : ℕ → ℕ) (flags : Flags) (choices : List Choice) → eqb (regs 0) 6 ≡ true → ((a : AnswerValue) → IsTold (given (Close (g.locs 3)) a)) → AreInRange g → Asked g regs flags choices (Close (g.locs 3))
  unfolding request_items
  request_close g regs flags choices e told range =
      let n1 = differs (regs 0) 6 1 e (omega arith) in
      let n252 = differs (regs 0) 6 252 e (omega arith) in
      let n3 = differs (regs 0) 6 3 e (omega arith) in
      let n4 = differs (regs 0) 6 4 e (omega arith) in
      rw (n1, n252, n3, n4, e) (refl, λ a. answered (given (Close (g.locs 3)) a) g _ flags _ refl (told a) range)

  Right : Guest → (ℕ → ℕ) → Flags → List Choice → Type 0
  Right g regs flags choices = FitsExit guest (guest_system_call guest g) (execute guest host (selection_items (behind g.next)) None choices (state_of g regs flags))

  -- what cmp tells of the number
  told_by : (g : Guest) (k : ℕ) (b : Bool) → AreInRange g → k < 2 ^ 32 → eqb (g.locs 0) k ≡ b → eqb (difference_word (g.locs 0) k false) 0 ≡ b
  told_by g k b range lk e = zero_test (g.locs 0) k (range 0 (omega arith)) lk ∙ e

  fits_234 : (g : Guest) (regs : ℕ → ℕ) (flags : Flags) (choices : List Choice) → AreInRange g → eqb (g.locs 0) 234 ≡ true → Right g regs flags choices
  unfolding Right selection_items
  fits_234 g regs flags choices range x =
      let t = told_by g 234 true range (omega arith) x in
      let n1 = differs (g.locs 0) 234 1 x (omega arith) in
      rw (t, x, n1, request_from_0) (inr refl)

  fits_1 : (g : Guest) (regs : ℕ → ℕ) (flags : Flags) (choices : List Choice) → AreInRange g → eqb (g.locs 0) 1 ≡ true → Right g regs flags choices
  unfolding Right selection_items
  fits_1 g regs flags choices range x =
      let t = told_by g 1 true range (omega arith) x in
      let t234 = told_by g 234 false range (omega arith) (differs (g.locs 0) 1 234 x (omega arith)) in
      rw (t234, t, x) (inr (request_exit g _ _ _ x))

  fits_3 : (g : Guest) (regs : ℕ → ℕ) (flags : Flags) (choices : List Choice) → AreInRange g → eqb (g.locs 0) 3 ≡ true → each_byte guest.writable (g.locs 5) (g.locs 4) ≡ true → ((a : AnswerValue) → IsTold (given (Read (g.locs 3) (g.locs 5)) a)) → Right g regs flags choices
  unfolding Right selection_items
  fits_3 g regs flags choices range x w told =
      let t = told_by g 3 true range (omega arith) x in
      let t234 = told_by g 234 false range (omega arith) (differs (g.locs 0) 3 234 x (omega arith)) in
      let t1 = told_by g 1 false range (omega arith) (differs (g.locs 0) 3 1 x (omega arith)) in
      let n234 = differs (g.locs 0) 3 234 x (omega arith) in
      let n1 = differs (g.locs 0) 3 1 x (omega arith) in
      rw (t234, t1, t, n1, n234, x, w) (request_read g _ _ _ x w told range)

  not_3 : (g : Guest) (regs : ℕ → ℕ) (flags : Flags) (choices : List Choice) → eqb (g.locs 0) 3 ≡ true → each_byte guest.writable (g.locs 5) (g.locs 4) ≡ false → Right g regs flags choices
  unfolding Right
  not_3 g regs flags choices x w =
      let n234 = differs (g.locs 0) 3 234 x (omega arith) in
      let n1 = differs (g.locs 0) 3 1 x (omega arith) in
      rw (n1, n234, x, w) (inl refl)

  fits_4 : (g : Guest) (regs : ℕ → ℕ) (flags : Flags) (choices : List Choice) → AreInRange g → eqb (g.locs 0) 4 ≡ true → each_byte guest.held (g.locs 5) (g.locs 4) ≡ true → ((a : AnswerValue) → IsTold (given (Write (g.locs 3) (block (g.locs 5) (g.locs 4) g.bytes)) a)) → Right g regs flags choices
  unfolding Right selection_items
  fits_4 g regs flags choices range x w told =
      let t = told_by g 4 true range (omega arith) x in
      let n234 = differs (g.locs 0) 4 234 x (omega arith) in
      let n1 = differs (g.locs 0) 4 1 x (omega arith) in
      let n3 = differs (g.locs 0) 4 3 x (omega arith) in
      let t234 = told_by g 234 false range (omega arith) n234 in
      let t1 = told_by g 1 false range (omega arith) n1 in
      let t3 = told_by g 3 false range (omega arith) n3 in
      rw (t234, t1, t3, t, n1, n234, n3, x, w) (request_write g _ _ _ x w told range)

  not_4 : (g : Guest) (regs : ℕ → ℕ) (flags : Flags) (choices : List Choice) → eqb (g.locs 0) 4 ≡ true → each_byte guest.held (g.locs 5) (g.locs 4) ≡ false → Right g regs flags choices
  unfolding Right
  not_4 g regs flags choices x w =
      let n234 = differs (g.locs 0) 4 234 x (omega arith) in
      let n1 = differs (g.locs 0) 4 1 x (omega arith) in
      let n3 = differs (g.locs 0) 4 3 x (omega arith) in
      rw (n1, n234, n3, x, w) (inl refl)

  fits_6 : (g : Guest) (regs : ℕ → ℕ) (flags : Flags) (choices : List Choice) → AreInRange g → eqb (g.locs 0) 6 ≡ true → ((a : AnswerValue) → IsTold (given (Close (g.locs 3)) a)) → Right g regs flags choices
  unfolding Right selection_items
  fits_6 g regs flags choices range x told =
      let t = told_by g 6 true range (omega arith) x in
      let n234 = differs (g.locs 0) 6 234 x (omega arith) in
      let n1 = differs (g.locs 0) 6 1 x (omega arith) in
      let n3 = differs (g.locs 0) 6 3 x (omega arith) in
      let n4 = differs (g.locs 0) 6 4 x (omega arith) in
      let t234 = told_by g 234 false range (omega arith) n234 in
      let t1 = told_by g 1 false range (omega arith) n1 in
      let t3 = told_by g 3 false range (omega arith) n3 in
      let t4 = told_by g 4 false range (omega arith) n4 in
      rw (t234, t1, t3, t4, t, n1, n234, n3, n4, x) (request_close g _ _ _ x told range)

  fits_other : (g : Guest) (regs : ℕ → ℕ) (flags : Flags) (choices : List Choice) → AreInRange g → eqb (g.locs 0) 234 ≡ false → eqb (g.locs 0) 1 ≡ false → eqb (g.locs 0) 3 ≡ false → eqb (g.locs 0) 4 ≡ false → eqb (g.locs 0) 6 ≡ false → Right g regs flags choices
  unfolding Right selection_items
  fits_other g regs flags choices range n234 n1 n3 n4 n6 =
      let t234 = told_by g 234 false range (omega arith) n234 in
      let t1 = told_by g 1 false range (omega arith) n1 in
      let t3 = told_by g 3 false range (omega arith) n3 in
      let t4 = told_by g 4 false range (omega arith) n4 in
      let t6 = told_by g 6 false range (omega arith) n6 in
      rw (t234, t1, t3, t4, t6, n1, n234, n3, n4, n6, request_to_error) (error_from_mark g _ _ _ range (given_in_range (Fails 38) g (omega arith, omega arith) range))

  told_error : (code : ℕ) → (1 ≤ error_of code) × (error_of code ≤ 4095)
  told_error code = error_bounds code

  read_told : (fd count : ℕ) (a : AnswerValue) → count < 0xFFFFF001 → IsTold (given (Read fd count) a)
  read_told fd count (Got bytes) short = omega arith
  read_told fd count (Took taken) short = omega arith
  read_told fd count (Error code) short = told_error code

  write_told : (fd : ℕ) (bytes : List ℕ) (a : AnswerValue) → length bytes < 0xFFFFF001 → IsTold (given (Write fd bytes) a)
  write_told fd bytes (Got got) short = omega arith
  write_told fd bytes (Took taken) short = omega arith
  write_told fd bytes (Error code) short = told_error code

  close_told : (fd : ℕ) (a : AnswerValue) → IsTold (given (Close fd) a)
  close_told fd (Got got) = omega arith
  close_told fd (Took taken) = omega arith
  close_told fd (Error code) = told_error code

  each_wider : WritesHeld guest → (n a : ℕ) → each_byte guest.writable n a ≡ true → each_byte guest.held n a ≡ true
  each_wider writes n a h = each_of guest.held n a (λ i li. writes ((a + i) % 2 ^ 32) (bytes_held guest.writable n a h i li))

  pub sc_fits : WritesHeld guest → AreShort guest → (g : Guest) (regs : ℕ → ℕ) (flags : Flags) (choices : List Choice) → AreInRange g → FitsExit guest (guest_system_call guest g) (execute guest host (selection_items (behind g.next)) None choices (state_of g regs flags))
  unfolding Right
  sc_fits writes short g regs flags choices range = by_234 (eqb (g.locs 0) 234) refl
    where
      l4 : g.locs 4 < 2 ^ 32
      l4 = range 4 (omega arith)

      l5 : g.locs 5 < 2 ^ 32
      l5 = range 5 (omega arith)

      by_6 : (b : Bool) → eqb (g.locs 0) 6 ≡ b → eqb (g.locs 0) 234 ≡ false → eqb (g.locs 0) 1 ≡ false → eqb (g.locs 0) 3 ≡ false → eqb (g.locs 0) 4 ≡ false → Right g regs flags choices
      by_6 true x n234 n1 n3 n4 = fits_6 g regs flags choices range x (close_told (g.locs 3))
      by_6 false x n234 n1 n3 n4 = fits_other g regs flags choices range n234 n1 n3 n4 x

      by_held : (b : Bool) → each_byte guest.held (g.locs 5) (g.locs 4) ≡ b → eqb (g.locs 0) 4 ≡ true → Right g regs flags choices
      by_held true w x = fits_4 g regs flags choices range x w (λ a. write_told (g.locs 3) (block (g.locs 5) (g.locs 4) g.bytes) a (subst (λ k. k < 0xFFFFF001) (sym (length_block (g.locs 5) (g.locs 4) g.bytes)) (short (g.locs 5) (g.locs 4) l5 l4 w)))
      by_held false w x = not_4 g regs flags choices x w

      by_4 : (b : Bool) → eqb (g.locs 0) 4 ≡ b → eqb (g.locs 0) 234 ≡ false → eqb (g.locs 0) 1 ≡ false → eqb (g.locs 0) 3 ≡ false → Right g regs flags choices
      by_4 true x n234 n1 n3 = by_held (each_byte guest.held (g.locs 5) (g.locs 4)) refl x
      by_4 false x n234 n1 n3 = by_6 (eqb (g.locs 0) 6) refl n234 n1 n3 x

      by_writable : (b : Bool) → each_byte guest.writable (g.locs 5) (g.locs 4) ≡ b → eqb (g.locs 0) 3 ≡ true → Right g regs flags choices
      by_writable true w x = fits_3 g regs flags choices range x w (λ a. read_told (g.locs 3) (g.locs 5) a (short (g.locs 5) (g.locs 4) l5 l4 (each_wider writes (g.locs 5) (g.locs 4) w)))
      by_writable false w x = not_3 g regs flags choices x w

      by_3 : (b : Bool) → eqb (g.locs 0) 3 ≡ b → eqb (g.locs 0) 234 ≡ false → eqb (g.locs 0) 1 ≡ false → Right g regs flags choices
      by_3 true x n234 n1 = by_writable (each_byte guest.writable (g.locs 5) (g.locs 4)) refl x
      by_3 false x n234 n1 = by_4 (eqb (g.locs 0) 4) refl n234 n1 x

      by_1 : (b : Bool) → eqb (g.locs 0) 1 ≡ b → eqb (g.locs 0) 234 ≡ false → Right g regs flags choices
      by_1 true x n234 = fits_1 g regs flags choices range x
      by_1 false x n234 = by_3 (eqb (g.locs 0) 3) refl n234 x

      by_234 : (b : Bool) → eqb (g.locs 0) 234 ≡ b → Right g regs flags choices
      by_234 true x = fits_234 g regs flags choices range x
      by_234 false x = by_1 (eqb (g.locs 0) 1) refl x

pub sc_does : ItemsDo (Some instr.SystemCall) (items_of instr.SystemCall)
sc_does guest host g regs flags choices given words = sc_fits guest host given.writes_held given.short g regs flags choices given.in_range

pub sc_are : (m : Map) (at : ℕ) → IsFree m 3 → AreItems m (items_of instr.SystemCall at)
unfolding selection_items request_items answer_items success_items failure_items error_items done_items
sc_are m at free = (
  (tt, omega arith),
  (
    (tt, omega arith),
    (
      (tt, omega arith),
      (
        (tt, omega arith),
        (
          (tt, omega arith),
          (
            (tt, omega arith),
            (
              (tt, omega arith),
              (
                (tt, omega arith),
                (
                  free,
                  omega arith,
                  (
                    (tt, omega arith),
                    (
                      (tt, omega arith),
                      (
                        free,
                        (
                          (tt, omega arith),
                          (
                            (omega arith, tt),
                            (
                              (tt, (omega arith, omega arith)),
                              (
                                (tt, omega arith),
                                (
                                  ((omega arith, omega arith), tt),
                                  (tt, ((tt, tt), ((omega arith, tt), ((tt, (omega arith, omega arith)), ((tt, omega arith), (((omega arith, omega arith), tt), tt)))))),
                                ),
                              ),
                            ),
                          ),
                        ),
                      ),
                    ),
                  ),
                ),
              ),
            ),
          ),
        ),
      ),
    ),
  ),
)
