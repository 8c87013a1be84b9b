-- Where an instruction leads, as liveness has it.
use Rattle.std.proofs.Common.{◌≡◌, ℕ, ◌==◌, ◌&&◌, ◌||◌, not, ◌⊎◌, inl, inr, Bool, true, false, cond, eqb, Some, IsTrue, refl, sym, ap, subst, arith}
use Rattle.std.proofs.lemmas.Bool.{false≢true}
use Rattle.std.proofs.lemmas.Bool.Decides.{nat_tests}
use Rattle.machines.specs.Prelude.{Instr, Immediate, LogicImmediate, Load, Store, LoadUpdate, StoreUpdate, Multiple, TrapImmediate, CompareImmediate, Rotate, Branch, BranchConditional, SystemCall, Arithmetic, ArithmeticUnary, Logic, ShiftImmediate, LogicUnary, Compare, Trap, MoveFromCr, MoveToCr, MoveFromSpr, MoveToSpr, Sync, LoadIndexed, StoreIndexed, LoadIndexedUpdate, StoreIndexedUpdate, MoveCrField, CrLogic, Isync, BranchRegister, Outcome, Goes, Asks, Ends, ListedCall, Read, Write, Close, Given, Gives, Fails, given, Rights, Guest, GuestValues, behind, effect_of, guest_acts, guest_system_call, guest_asks, after_guest_call, at_next, branch_target, block, same, bo_0, bo_2, bo_bit, cr_bit, counted, guest_row, guest_values, loaded_in, each_byte}
use Rattle.space.specs.declared.call.End.TheVariants.{Trap as Trapped}
use Rattle.row_laws.specs.FlowWords.{is_flow}
use Rattle.row_laws.specs.Laws.{Next}
use Rattle.block_find.specs.Prelude.{named_address}
use Rattle.symbolic_tiles.specs.Prelude.{IsStraight}
use Rattle.symbolic_tiles.proofs.Straight.{rows_are_straight}
use Rattle.liveness.specs.Prelude.{falls_through, leads_anywhere}

-- to the next word where it may fall through, or to the address that it names, or anywhere
abbrev pub GoesBy : Instr → ℕ → ℕ → Type 0
GoesBy i at next = ((next ≡ behind at) × IsTrue (falls_through i)) ⊎ ((named_address i at ≡ Some next) ⊎ IsTrue (leads_anywhere i))

abbrev pub IsOnward : Instr → Guest → Outcome Guest → Type 0
IsOnward i g o = Next (λ g'. GoesBy i g.next g'.next) o

straight_falls : (i : Instr) → is_flow i ≡ false → IsTrue (falls_through i)
straight_falls (Branch target absolute link) e = absurd (false≢true (sym e))
straight_falls (BranchConditional bo bi target absolute link) e = absurd (false≢true (sym e))
straight_falls (BranchRegister op bo bi link) e = absurd (false≢true (sym e))
straight_falls (Trap to a b) e = refl
straight_falls (TrapImmediate to a imm) e = refl
straight_falls SystemCall e = refl
straight_falls _ e = refl

-- BO's bits, as tests and as numbers
bit_is_one : (bo i : ℕ) → (bo_bit bo 0 ≡ (bo_0 bo == 1)) × (bo_bit bo 2 ≡ (bo_2 bo == 1))
bit_is_one bo i = (grind (arith, nat_tests), grind (arith, nat_tests))

-- a branch that isn't taken isn't one that always is
neither : (a b c d : Bool) → ((a || c) && (b || d)) ≡ false → (b && a) ≡ false
neither true true c d e = e
neither true false c d e = refl
neither false true c d e = refl
neither false false c d e = refl

not_always : (bo : ℕ) (c d : Bool) → ((bo_bit bo 2 || c) && (bo_bit bo 0 || d)) ≡ false → ((bo_0 bo == 1) && (bo_2 bo == 1)) ≡ false
not_always bo c d e =
    let bits = bit_is_one bo 0 in
    subst (λ (p : Bool). (p && (bo_2 bo == 1)) ≡ false) bits.0 (subst (λ (p : Bool). (bo_bit bo 0 && p) ≡ false) bits.1 (neither (bo_bit bo 2) (bo_bit bo 0) c d e))

module _ (rights : Rights) (g : Guest) where
  straight : (i : Instr) → is_flow i ≡ false → IsOnward i g (guest_acts rights i (effect_of i g) g)
  straight i e = by_outcome (guest_acts rights i (effect_of i g) g) (rows_are_straight i rights g e)
    where
      by_outcome : (o : Outcome Guest) → IsStraight (behind g.next) o → IsOnward i g o
      by_outcome (Goes g') next = inl (next, straight_falls i e)
      by_outcome (Asks call after) never = absurd never
      by_outcome (Ends how) next = tt

  after_call : (given_is : Given) → (after_guest_call given_is g).next ≡ behind g.next
  after_call (Gives result to_buffer) = refl
  after_call (Fails error) = refl

  -- the outcomes of sc go on to the next word, or end
  abbrev onward : Outcome Guest → Type 0
  onward o = IsOnward SystemCall g o

  asks : (call : ListedCall) → onward (guest_asks call g)
  asks call = λ answer. inl (after_call (given call answer), refl)

  either : (b : Bool) (o o' : Outcome Guest) → onward o → onward o' → onward (cond b o o')
  either true o o' p q = p
  either false o o' p q = q

  calls : onward (guest_system_call rights g)
  calls =
      either (eqb (g.locs 0) 1 || eqb (g.locs 0) 234) _ _ tt (
      either (eqb (g.locs 0) 3) _ _ (either (each_byte rights.writable (g.locs 5) (g.locs 4)) _ _ (asks (Read (g.locs 3) (g.locs 5))) tt) (
      either (eqb (g.locs 0) 4) _ _ (either (each_byte rights.held (g.locs 5) (g.locs 4)) _ _ (asks (Write (g.locs 3) (block (g.locs 5) (g.locs 4) g.bytes))) tt) (
      either (eqb (g.locs 0) 6) _ _ (asks (Close (g.locs 3))) (
      inl (after_call (Fails 38), refl)))))

  -- a branch on a condition goes to what it names, or falls through
  forks : (bo bi target : ℕ) (absolute link : Bool) (taken : Bool) → (effect_of (BranchConditional bo bi target absolute link) g).taken ≡ taken →
      GoesBy (BranchConditional bo bi target absolute link) g.next (cond taken (branch_target 14 target absolute g.next) (behind g.next))
  forks bo bi target absolute link true e = inr (inl refl)
  forks bo bi target absolute link false e =
      let i : Instr = BranchConditional bo bi target absolute link in
      let v : GuestValues = guest_values i (loaded_in (guest_row i (guest_values i 0 g.locs)) g.bytes) g.locs in
      inl (refl, ap not (not_always bo (same (bo_bit bo 3) (eqb (counted bo v) 0)) (same (bo_bit bo 1) (cr_bit bi v)) e))

  traps : (i : Instr) (taken : Bool) → IsTrue (falls_through i) → IsOnward i g (cond taken (Ends Trapped) (Goes (at_next g.locs g)))
  traps i true falls = tt
  traps i false falls = inl (refl, falls)

  -- an instruction leads where liveness looks
  pub goes_by : (i : Instr) → IsOnward i g (guest_acts rights i (effect_of i g) g)
  goes_by (Branch target absolute link) = inr (inl refl)
  goes_by (BranchConditional bo bi target absolute link) = forks bo bi target absolute link (effect_of (BranchConditional bo bi target absolute link) g).taken refl
  goes_by (BranchRegister op bo bi link) = inr (inr refl)
  goes_by (Trap to a b) = traps (Trap to a b) (effect_of (Trap to a b) g).taken refl
  goes_by (TrapImmediate to a imm) = traps (TrapImmediate to a imm) (effect_of (TrapImmediate to a imm) g).taken refl
  goes_by SystemCall = calls
  goes_by (Immediate op d a imm) = straight (Immediate op d a imm) refl
  goes_by (LogicImmediate op s a imm) = straight (LogicImmediate op s a imm) refl
  goes_by (Load op d a imm) = straight (Load op d a imm) refl
  goes_by (Store op s a imm) = straight (Store op s a imm) refl
  goes_by (LoadUpdate op d a imm) = straight (LoadUpdate op d a imm) refl
  goes_by (StoreUpdate op s a imm) = straight (StoreUpdate op s a imm) refl
  goes_by (Multiple op d a imm) = straight (Multiple op d a imm) refl
  goes_by (CompareImmediate op field a imm) = straight (CompareImmediate op field a imm) refl
  goes_by (Rotate op s a by mask_begin mask_end records) = straight (Rotate op s a by mask_begin mask_end records) refl
  goes_by (Arithmetic op d a b records) = straight (Arithmetic op d a b records) refl
  goes_by (ArithmeticUnary op d a records) = straight (ArithmeticUnary op d a records) refl
  goes_by (Logic op s a b records) = straight (Logic op s a b records) refl
  goes_by (ShiftImmediate s a by records) = straight (ShiftImmediate s a by records) refl
  goes_by (LogicUnary op s a records) = straight (LogicUnary op s a records) refl
  goes_by (Compare op field a b) = straight (Compare op field a b) refl
  goes_by (MoveFromCr d) = straight (MoveFromCr d) refl
  goes_by (MoveToCr s mask) = straight (MoveToCr s mask) refl
  goes_by (MoveFromSpr d spr) = straight (MoveFromSpr d spr) refl
  goes_by (MoveToSpr s spr) = straight (MoveToSpr s spr) refl
  goes_by Sync = straight Sync refl
  goes_by (LoadIndexed op d a b) = straight (LoadIndexed op d a b) refl
  goes_by (StoreIndexed op s a b) = straight (StoreIndexed op s a b) refl
  goes_by (LoadIndexedUpdate op d a b) = straight (LoadIndexedUpdate op d a b) refl
  goes_by (StoreIndexedUpdate op s a b) = straight (StoreIndexedUpdate op s a b) refl
  goes_by (MoveCrField to from) = straight (MoveCrField to from) refl
  goes_by (CrLogic op d a b) = straight (CrLogic op d a b) refl
  goes_by Isync = straight Isync refl
