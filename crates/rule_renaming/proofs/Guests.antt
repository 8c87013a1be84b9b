-- A guest whose registers have other names: instructions do by these names what they do to the first. This project's own.
use Rattle.std.proofs.Common.{◌≡◌, ◌≢◌, ℕ, zero, suc, ◌/◌, ◌-◌, ◌%◌, ◌^◌, ◌<◌, ◌≤◌, ◌⊎◌, inl, inr, ⊎_elim, Bool, true, false, cond, ◌&&◌, eqb, leb, ltb, List, [], ◌∷◌, ◌++◌, map as list_map, Some, refl, sym, ap, ◌∙◌, subst, arith}
use Rattle.std.proofs.lemmas.Bool.Decides.{nat_tests}
use Rattle.machines.specs.Prelude.{Outside, Outcome, Goes, Asks, Ends, GuestValues, Effect, immediate_carries, immediate_records, logic_immediate_records, carry_out, unary_carry, logic_carries, loads, stores, half_extended, half_reversed, word_reversed, sum, guest_row, update, store_big, each_byte, Rights, Guest, effect_of, guest_acts, at_next, behind, branch_target, branches, linked, results, put_cr, put_xer, put_special, cr_word, xer_word, value_a, value_b, value_s, guest_values, loaded_in, lr, ctr, Instr, Immediate, LogicImmediate, CompareImmediate, Rotate, Arithmetic, ArithmeticUnary, Logic, ShiftImmediate, LogicUnary, Compare, MoveFromCr, MoveToCr, MoveFromSpr, MoveToSpr, Sync, MoveCrField, CrLogic, Isync, Load, Store, LoadUpdate, StoreUpdate, LoadIndexed, StoreIndexed, LoadIndexedUpdate, StoreIndexedUpdate, BranchConditional, ImmediateOp, Addi, Addis, Addic, AddicRecord, Subfic, Mulli, RotateOp, Rlwinm, Rlwnm, Rlwimi, Lwz, Lbz, Lhz, Lha, Stw, Stb, Sth, Lwzx, Lbzx, Lhzx, Lhax, Lwbrx, Lhbrx, Stwx, Stbx, Sthx, Stwbrx, Sthbrx}
use Rattle.symbolic_tiles.specs.Prelude.{loaded, stored}
use Rattle.simulation.specs.Prelude.{then_row, rows_of}
use Rattle.rule_soundness.specs.Prelude.{Match, base_field, register_field, count_field, bound, everywhere, behind_row, loads_of, stores_of, taken_of}
use Rattle.symbolic_tiles.proofs.Memory.{update_same, update_other}

pub is_same : (x n : ℕ) → (x ≡ n) ⊎ (x ≢ n)
is_same x n = by_test (eqb x n) refl
  where
    by_test : (b : Bool) → eqb x n ≡ b → (x ≡ n) ⊎ (x ≢ n)
    by_test true e = inl (grind (arith, nat_tests))
    by_test false e = inr (λ q. grind (arith, nat_tests))

-- with 0 in the place of a base an instruction doesn't depend on GPR 0, which its effect leaves as it is
pub zero_row : (i : Instr) → base_field i ≡ Some 0 → (v : GuestValues) (x : ℕ) → guest_row i (record v { a = x }) ≡ record (guest_row i v) { a = x }
zero_row (Immediate Addi d zero imm) e v x = refl
zero_row (Immediate Addi d (suc a) imm) e v x = absurd cc
zero_row (Immediate Addis d zero imm) e v x = refl
zero_row (Immediate Addis d (suc a) imm) e v x = absurd cc
zero_row (Immediate Addic d a imm) e v x = absurd cc
zero_row (Immediate AddicRecord d a imm) e v x = absurd cc
zero_row (Immediate Subfic d a imm) e v x = absurd cc
zero_row (Immediate Mulli d a imm) e v x = absurd cc
zero_row (Load Lwz d zero imm) e v x = refl
zero_row (Load Lbz d zero imm) e v x = refl
zero_row (Load Lhz d zero imm) e v x = refl
zero_row (Load Lha d zero imm) e v x = refl
zero_row (Load op d (suc a) imm) e v x = absurd cc
zero_row (Store Stw s zero imm) e v x = refl
zero_row (Store Stb s zero imm) e v x = refl
zero_row (Store Sth s zero imm) e v x = refl
zero_row (Store op s (suc a) imm) e v x = absurd cc
zero_row (LoadIndexed Lwzx d zero b) e v x = refl
zero_row (LoadIndexed Lbzx d zero b) e v x = refl
zero_row (LoadIndexed Lhzx d zero b) e v x = refl
zero_row (LoadIndexed Lhax d zero b) e v x = refl
zero_row (LoadIndexed Lwbrx d zero b) e v x = refl
zero_row (LoadIndexed Lhbrx d zero b) e v x = refl
zero_row (LoadIndexed op d (suc a) b) e v x = absurd cc
zero_row (StoreIndexed Stwx s zero b) e v x = refl
zero_row (StoreIndexed Stbx s zero b) e v x = refl
zero_row (StoreIndexed Sthx s zero b) e v x = refl
zero_row (StoreIndexed Stwbrx s zero b) e v x = refl
zero_row (StoreIndexed Sthbrx s zero b) e v x = refl
zero_row (StoreIndexed op s (suc a) b) e v x = absurd cc
zero_row _ e v x = absurd cc

zero_acts : (rights : Rights) (i : Instr) → base_field i ≡ Some 0 → (e : Effect) (x : ℕ) (g : Guest) → guest_acts rights i (record e { a = x }) g ≡ guest_acts rights i e g
zero_acts rights (Immediate op d a imm) z e x g = refl
zero_acts rights (Load op d a imm) z e x g = refl
zero_acts rights (Store op s a imm) z e x g = refl
zero_acts rights (LoadIndexed op d a b) z e x g = refl
zero_acts rights (StoreIndexed op s a b) z e x g = refl
zero_acts rights _ z e x g = absurd cc

zero_bound : (gpr : ℕ → ℕ) (i : Instr) → base_field i ≡ Some 0 → base_field (bound gpr i) ≡ Some 0
zero_bound gpr (Immediate Addi d zero imm) e = refl
zero_bound gpr (Immediate Addi d (suc a) imm) e = absurd cc
zero_bound gpr (Immediate Addis d zero imm) e = refl
zero_bound gpr (Immediate Addis d (suc a) imm) e = absurd cc
zero_bound gpr (Immediate Addic d a imm) e = absurd cc
zero_bound gpr (Immediate AddicRecord d a imm) e = absurd cc
zero_bound gpr (Immediate Subfic d a imm) e = absurd cc
zero_bound gpr (Immediate Mulli d a imm) e = absurd cc
zero_bound gpr (Load op d zero imm) e = refl
zero_bound gpr (Load op d (suc a) imm) e = absurd cc
zero_bound gpr (Store op s zero imm) e = refl
zero_bound gpr (Store op s (suc a) imm) e = absurd cc
zero_bound gpr (LoadIndexed op d zero b) e = refl
zero_bound gpr (LoadIndexed op d (suc a) b) e = absurd cc
zero_bound gpr (StoreIndexed op s zero b) e = refl
zero_bound gpr (StoreIndexed op s (suc a) b) e = absurd cc
zero_bound gpr _ e = absurd cc

-- P are the parameters
module _ (m : Match) (P : ℕ → Type 0) where
  pub record GuestNames : Type 0 where
    pub some : (p : ℕ) → P p → p ≢ 0
    pub low : (p : ℕ) → P p → p < 32
    pub gprs : (p : ℕ) → P p → m.gpr p < 32
    pub apart : (p q : ℕ) → P p → P q → m.gpr p ≡ m.gpr q → p ≡ q

  -- a base: a parameter that is bound to no GPR 0, or the number 0
  abbrev pub IsField : ℕ → Type 0
  IsField a = (a ≡ 0) ⊎ (P a × (m.gpr a ≢ 0))

  abbrev pub IsCount : RotateOp → ℕ → Type 0
  IsCount Rlwnm by = P by
  IsCount _ by = Unit {0}

  abbrev pub IsOperand : ImmediateOp → ℕ → Type 0
  IsOperand Addi a = IsField a
  IsOperand Addis a = IsField a
  IsOperand op a = P a

  -- an instruction whose registers are parameters
  abbrev pub IsNamedWord : Instr → Type 0
  IsNamedWord (Immediate op d a imm) = P d × IsOperand op a
  IsNamedWord (LogicImmediate op s a imm) = P s × P a
  IsNamedWord (CompareImmediate op field a imm) = P a
  IsNamedWord (Rotate op s a by mask_begin mask_end records) = P s × P a × IsCount op by
  IsNamedWord (Arithmetic op d a b records) = P d × P a × P b
  IsNamedWord (ArithmeticUnary op d a records) = P d × P a
  IsNamedWord (Logic op s a b records) = P s × P a × P b
  IsNamedWord (ShiftImmediate s a by records) = P s × P a
  IsNamedWord (LogicUnary op s a records) = P s × P a
  IsNamedWord (Compare op field a b) = P a × P b
  IsNamedWord (MoveFromCr d) = P d
  IsNamedWord (MoveToCr s mask) = P s
  IsNamedWord (MoveFromSpr d spr) = P d
  IsNamedWord (MoveToSpr s spr) = P s
  IsNamedWord Sync = Unit {0}
  IsNamedWord (MoveCrField to from) = Unit {0}
  IsNamedWord (CrLogic op d a b) = Unit {0}
  IsNamedWord Isync = Unit {0}
  IsNamedWord (Load op d a imm) = P d × IsField a
  IsNamedWord (Store op s a imm) = P s × IsField a
  IsNamedWord (LoadUpdate op d a imm) = P d × P a
  IsNamedWord (StoreUpdate op s a imm) = P s × P a
  IsNamedWord (LoadIndexed op d a b) = P d × IsField a × P b
  IsNamedWord (StoreIndexed op s a b) = P s × IsField a × P b
  IsNamedWord (LoadIndexedUpdate op d a b) = P d × P a × P b
  IsNamedWord (StoreIndexedUpdate op s a b) = P s × P a × P b
  IsNamedWord (BranchConditional bo bi target absolute link) = link ≡ false
  IsNamedWord i = ⊥

  abbrev pub AreNamedWords : List Instr → Type 0
  AreNamedWords [] = Unit {0}
  AreNamedWords (i ∷ is) = IsNamedWord i × AreNamedWords is

  -- the locations of the first have under the other names what those of the second have; beside parameters no GPR has changed
  pub record SameLocs (start l l0 : ℕ → ℕ) : Type 0 where
    pub pars : (p : ℕ) → P p → l (m.gpr p) ≡ l0 p
    pub others : (x : ℕ) → 32 ≤ x → x < 46 → l x ≡ l0 x
    pub kept : (x : ℕ) → x < 32 → ((p : ℕ) → P p → x ≢ m.gpr p) → l x ≡ start x

  -- and the guests are the same beside that
  pub record SameGuest (start : ℕ → ℕ) (g g0 : Guest) : Type 0 where
    pub locs : SameLocs start g.locs g0.locs
    pub next : g.next ≡ g0.next
    pub bytes : g.bytes ≡ g0.bytes

  abbrev pub SameOutcome : (ℕ → ℕ) → Outcome Guest → Outcome Guest → Type 0
  SameOutcome start (Goes g) (Goes g0) = SameGuest start g g0
  SameOutcome start (Ends e) (Ends e0) = e ≡ e0
  SameOutcome start o o0 = ⊥

  abbrev with_values : ℕ → ℕ → ℕ → ℕ → ℕ → ℕ → ℕ → ℕ → GuestValues
  with_values a b s cr xer lr ctr loaded = record { a = a; b = b; s = s; cr = cr; xer = xer; lr = lr; ctr = ctr; loaded = loaded }

  module _ (names : GuestNames) (start : ℕ → ℕ) where
    parameter : (p : ℕ) → P p → register_field m.gpr p ≡ m.gpr p
    parameter p is = let n = names.some p is in by_test (eqb p 0) refl n
      where
        by_test : (b : Bool) → eqb p 0 ≡ b → p ≢ 0 → cond b 0 (m.gpr p) ≡ m.gpr p
        by_test true e n = absurd (n (grind (arith, nat_tests)))
        by_test false e n = refl

    put_gpr : (k v : ℕ) (l l0 : ℕ → ℕ) → P k → SameLocs start l l0 → SameLocs start (update l (m.gpr k) v) (update l0 k v)
    put_gpr k v l l0 is r = record {
      pars = λ p u. ⊎_elim (λ (e : p ≡ k). ap (λ x. update l (m.gpr k) v (m.gpr x)) e ∙ update_same l (m.gpr k) v ∙ sym (update_same l0 k v) ∙ ap (update l0 k v) (sym e))
          (λ ne. update_other l (m.gpr k) v (m.gpr p) (λ e. ne (names.apart p k u is e)) ∙ r.pars p u ∙ sym (update_other l0 k v p ne)) (is_same p k);
      others = λ x ge lt. let w = names.gprs k is in let z = names.low k is in update_other l (m.gpr k) v x (λ e. absurd (omega (arith, e, w, ge))) ∙ r.others x ge lt ∙ sym (update_other l0 k v x (λ e. absurd (omega (arith, e, z, ge))));
      kept = λ x lt far. update_other l (m.gpr k) v x (far k is) ∙ r.kept x lt far;
    }

    put_par : (k v : ℕ) (l l0 : ℕ → ℕ) → P k → SameLocs start l l0 → SameLocs start (update l (register_field m.gpr k) v) (update l0 k v)
    put_par k v l l0 is r = subst (λ x. SameLocs start (update l x v) (update l0 k v)) (sym (parameter k is)) (put_gpr k v l l0 is r)

    put_far : (k v : ℕ) (l l0 : ℕ → ℕ) → 32 ≤ k → SameLocs start l l0 → SameLocs start (update l k v) (update l0 k v)
    put_far k v l l0 far r = record {
      pars = λ p u. let w = names.gprs p u in let z = names.low p u in update_other l k v (m.gpr p) (λ e. absurd (omega (arith, e, w, far))) ∙ r.pars p u ∙ sym (update_other l0 k v p (λ e. absurd (omega (arith, e, z, far))));
      others = λ x ge lt. ap (λ y. cond (eqb x k) v y) (r.others x ge lt);
      kept = λ x lt no. update_other l k v x (λ e. absurd (omega (arith, e, lt, far))) ∙ r.kept x lt no;
    }

    below_cr : (cr x : ℕ) (l : ℕ → ℕ) → x < 34 → put_cr cr l x ≡ l x
    below_cr cr x l lt = let e : leb 34 x ≡ false = grind (arith, nat_tests) in ap (λ b. cond (b && ltb x 42) (cr / 16 ^ (41 - x) % 16) (l x)) e

    cr_same : (cr : ℕ) (l l0 : ℕ → ℕ) → SameLocs start l l0 → SameLocs start (put_cr cr l) (put_cr cr l0)
    cr_same cr l l0 r = record {
      pars = λ p u. let w = names.gprs p u in let z = names.low p u in below_cr cr (m.gpr p) l (omega (arith, w)) ∙ r.pars p u ∙ sym (below_cr cr p l0 (omega (arith, z)));
      others = λ x ge lt. ap (λ y. cond (leb 34 x && ltb x 42) (cr / 16 ^ (41 - x) % 16) y) (r.others x ge lt);
      kept = λ x lt no. below_cr cr x l (omega (arith, lt)) ∙ r.kept x lt no;
    }

    xer_same : (xer : ℕ) (l l0 : ℕ → ℕ) → SameLocs start l l0 → SameLocs start (put_xer xer l) (put_xer xer l0)
    xer_same xer l l0 r = put_far 45 _ _ _ (omega arith) (put_far 42 _ _ _ (omega arith) (put_far 44 _ _ _ (omega arith) (put_far 43 _ _ _ (omega arith) r)))

    results_same : (carries records : Bool) (k v : ℕ) (e : Effect) (l l0 : ℕ → ℕ) → P k → SameLocs start l l0 → SameLocs start (results carries records (register_field m.gpr k) v e l) (results carries records k v e l0)
    results_same true true k v e l l0 is r = xer_same e.xer _ _ (cr_same e.cr _ _ (put_par k v l l0 is r))
    results_same true false k v e l l0 is r = xer_same e.xer _ _ (put_par k v l l0 is r)
    results_same false true k v e l l0 is r = cr_same e.cr _ _ (put_par k v l l0 is r)
    results_same false false k v e l l0 is r = put_par k v l l0 is r

    special_same : (spr : ℕ) (e : Effect) (l l0 : ℕ → ℕ) → SameLocs start l l0 → SameLocs start (put_special spr e l) (put_special spr e l0)
    special_same spr e l l0 r = by_tests (eqb spr 1) (eqb spr 8)
      where
        by_tests : (b d : Bool) → SameLocs start (cond b (put_xer e.xer l) (cond d (update l lr e.lr) (update l ctr e.ctr))) (cond b (put_xer e.xer l0) (cond d (update l0 lr e.lr) (update l0 ctr e.ctr)))
        by_tests true d = xer_same e.xer l l0 r
        by_tests false true = put_far 32 e.lr l l0 (omega arith) r
        by_tests false false = put_far 33 e.ctr l l0 (omega arith) r

    -- the values that an instruction reads
    module _ (l l0 : ℕ → ℕ) (r : SameLocs start l l0) where
      par : (p : ℕ) → P p → l (register_field m.gpr p) ≡ l0 p
      par p is = ap l (parameter p is) ∙ r.pars p is

      count : (op : RotateOp) (by : ℕ) → IsCount op by → value_b (Rotate op 0 0 (count_field m.gpr op by) 0 0 false) l ≡ value_b (Rotate op 0 0 by 0 0 false) l0
      count Rlwnm by is = par by is
      count Rlwinm by is = refl
      count Rlwimi by is = refl

      -- the register of bits 11 to 15, but where 0 names the number 0
      abbrev Based : Instr → Type 0
      Based i = (value_a (bound m.gpr i) l ≡ value_a i l0) ⊎ (base_field i ≡ Some 0)

      base_or : (i : Instr) (a : ℕ) → IsField a → base_field i ≡ Some a → (P a → value_a (bound m.gpr i) l ≡ value_a i l0) → Based i
      base_or i a (inl e) is same = inr (is ∙ ap Some e)
      base_or i a (inr p) is same = inl (same p.0)

      value_a_same : (i : Instr) → IsNamedWord i → Based i
      value_a_same (Immediate Addi d a imm) named = base_or (Immediate Addi d a imm) a named.1 refl (λ p. par a p)
      value_a_same (Immediate Addis d a imm) named = base_or (Immediate Addis d a imm) a named.1 refl (λ p. par a p)
      value_a_same (Immediate Addic d a imm) named = inl (par a named.1)
      value_a_same (Immediate AddicRecord d a imm) named = inl (par a named.1)
      value_a_same (Immediate Subfic d a imm) named = inl (par a named.1)
      value_a_same (Immediate Mulli d a imm) named = inl (par a named.1)
      value_a_same (LogicImmediate op s a imm) named = inl (par a named.1)
      value_a_same (CompareImmediate op field a imm) named = inl (par a named)
      value_a_same (Rotate op s a by mask_begin mask_end records) named = inl (par a named.1)
      value_a_same (Arithmetic op d a b records) named = inl (par a named.1)
      value_a_same (ArithmeticUnary op d a records) named = inl (par a named.1)
      value_a_same (Logic op s a b records) named = inl (par a named.1)
      value_a_same (ShiftImmediate s a by records) named = inl (par a named.1)
      value_a_same (LogicUnary op s a records) named = inl (par a named.1)
      value_a_same (Compare op field a b) named = inl (par a named.0)
      value_a_same (MoveFromCr d) named = inl refl
      value_a_same (MoveToCr s mask) named = inl refl
      value_a_same (MoveFromSpr d spr) named = inl refl
      value_a_same (MoveToSpr s spr) named = inl refl
      value_a_same Sync named = inl refl
      value_a_same (MoveCrField to from) named = inl refl
      value_a_same (CrLogic op d a b) named = inl refl
      value_a_same Isync named = inl refl
      value_a_same (Load op d a imm) named = base_or (Load op d a imm) a named.1 refl (λ p. par a p)
      value_a_same (Store op s a imm) named = base_or (Store op s a imm) a named.1 refl (λ p. par a p)
      value_a_same (LoadUpdate op d a imm) named = inl (par a named.1)
      value_a_same (StoreUpdate op s a imm) named = inl (par a named.1)
      value_a_same (LoadIndexed op d a b) named = base_or (LoadIndexed op d a b) a named.1 refl (λ p. par a p)
      value_a_same (StoreIndexed op s a b) named = base_or (StoreIndexed op s a b) a named.1 refl (λ p. par a p)
      value_a_same (LoadIndexedUpdate op d a b) named = inl (par a named.1)
      value_a_same (StoreIndexedUpdate op s a b) named = inl (par a named.1)
      value_a_same (BranchConditional bo bi target absolute link) named = inl refl
      value_a_same _ named = absurd named

      value_b_same : (i : Instr) → IsNamedWord i → value_b (bound m.gpr i) l ≡ value_b i l0
      value_b_same (Immediate op d a imm) named = refl
      value_b_same (LogicImmediate op s a imm) named = refl
      value_b_same (CompareImmediate op field a imm) named = refl
      value_b_same (Rotate op s a by mask_begin mask_end records) named = count op by named.2
      value_b_same (Arithmetic op d a b records) named = par b named.2
      value_b_same (ArithmeticUnary op d a records) named = refl
      value_b_same (Logic op s a b records) named = par b named.2
      value_b_same (ShiftImmediate s a by records) named = refl
      value_b_same (LogicUnary op s a records) named = refl
      value_b_same (Compare op field a b) named = par b named.1
      value_b_same (MoveFromCr d) named = refl
      value_b_same (MoveToCr s mask) named = refl
      value_b_same (MoveFromSpr d spr) named = refl
      value_b_same (MoveToSpr s spr) named = refl
      value_b_same Sync named = refl
      value_b_same (MoveCrField to from) named = refl
      value_b_same (CrLogic op d a b) named = refl
      value_b_same Isync named = refl
      value_b_same (Load op d a imm) named = refl
      value_b_same (Store op s a imm) named = refl
      value_b_same (LoadUpdate op d a imm) named = refl
      value_b_same (StoreUpdate op s a imm) named = refl
      value_b_same (LoadIndexed op d a b) named = par b named.2
      value_b_same (StoreIndexed op s a b) named = par b named.2
      value_b_same (LoadIndexedUpdate op d a b) named = par b named.2
      value_b_same (StoreIndexedUpdate op s a b) named = par b named.2
      value_b_same (BranchConditional bo bi target absolute link) named = refl
      value_b_same _ named = absurd named

      value_s_same : (i : Instr) → IsNamedWord i → value_s (bound m.gpr i) l ≡ value_s i l0
      value_s_same (Immediate op d a imm) named = par d named.0
      value_s_same (LogicImmediate op s a imm) named = par s named.0
      value_s_same (CompareImmediate op field a imm) named = refl
      value_s_same (Rotate op s a by mask_begin mask_end records) named = par s named.0
      value_s_same (Arithmetic op d a b records) named = par d named.0
      value_s_same (ArithmeticUnary op d a records) named = par d named.0
      value_s_same (Logic op s a b records) named = par s named.0
      value_s_same (ShiftImmediate s a by records) named = par s named.0
      value_s_same (LogicUnary op s a records) named = par s named.0
      value_s_same (Compare op field a b) named = refl
      value_s_same (MoveFromCr d) named = par d named
      value_s_same (MoveToCr s mask) named = par s named
      value_s_same (MoveFromSpr d spr) named = par d named
      value_s_same (MoveToSpr s spr) named = par s named
      value_s_same Sync named = refl
      value_s_same (MoveCrField to from) named = refl
      value_s_same (CrLogic op d a b) named = refl
      value_s_same Isync named = refl
      value_s_same (Load op d a imm) named = par d named.0
      value_s_same (Store op s a imm) named = par s named.0
      value_s_same (LoadUpdate op d a imm) named = par d named.0
      value_s_same (StoreUpdate op s a imm) named = par s named.0
      value_s_same (LoadIndexed op d a b) named = par d named.0
      value_s_same (StoreIndexed op s a b) named = par s named.0
      value_s_same (LoadIndexedUpdate op d a b) named = par d named.0
      value_s_same (StoreIndexedUpdate op s a b) named = par s named.0
      value_s_same (BranchConditional bo bi target absolute link) named = refl
      value_s_same _ named = absurd named

      crs : cr_word l ≡ cr_word l0
      crs = let e0 = r.others 34 (omega arith) (omega arith) in let e1 = r.others 35 (omega arith) (omega arith) in let e2 = r.others 36 (omega arith) (omega arith) in let e3 = r.others 37 (omega arith) (omega arith) in
          let e4 = r.others 38 (omega arith) (omega arith) in let e5 = r.others 39 (omega arith) (omega arith) in let e6 = r.others 40 (omega arith) (omega arith) in let e7 = r.others 41 (omega arith) (omega arith) in
          omega (arith, e0, e1, e2, e3, e4, e5, e6, e7)

      xers : xer_word l ≡ xer_word l0
      xers = let e0 = r.others 42 (omega arith) (omega arith) in let e1 = r.others 43 (omega arith) (omega arith) in let e2 = r.others 44 (omega arith) (omega arith) in let e3 = r.others 45 (omega arith) (omega arith) in
          omega (arith, e0, e1, e2, e3)

      values_same : (i : Instr) (loaded loaded' : ℕ) → IsNamedWord i → loaded ≡ loaded' → guest_values (bound m.gpr i) loaded l ≡ record (guest_values i loaded' l0) { a = value_a (bound m.gpr i) l }
      values_same i loaded loaded' named e =
          ap (λ x. with_values (value_a (bound m.gpr i) l) x (value_s (bound m.gpr i) l) (cr_word l) (xer_word l) (l lr) (l ctr) loaded) (value_b_same i named)
          ∙ ap (λ x. with_values (value_a (bound m.gpr i) l) (value_b i l0) x (cr_word l) (xer_word l) (l lr) (l ctr) loaded) (value_s_same i named)
          ∙ ap (λ x. with_values (value_a (bound m.gpr i) l) (value_b i l0) (value_s i l0) x (xer_word l) (l lr) (l ctr) loaded) crs
          ∙ ap (λ x. with_values (value_a (bound m.gpr i) l) (value_b i l0) (value_s i l0) (cr_word l0) x (l lr) (l ctr) loaded) xers
          ∙ ap (λ x. with_values (value_a (bound m.gpr i) l) (value_b i l0) (value_s i l0) (cr_word l0) (xer_word l0) x (l ctr) loaded) (r.others 32 (omega arith) (omega arith))
          ∙ ap (λ x. with_values (value_a (bound m.gpr i) l) (value_b i l0) (value_s i l0) (cr_word l0) (xer_word l0) (l0 lr) x loaded) (r.others 33 (omega arith) (omega arith))
          ∙ ap (λ x. with_values (value_a (bound m.gpr i) l) (value_b i l0) (value_s i l0) (cr_word l0) (xer_word l0) (l0 lr) (l0 ctr) x) e

    base_same : (a : ℕ) → IsField a → eqb (register_field m.gpr a) 0 ≡ eqb a 0
    base_same a (inl e) = ap (λ x. eqb (register_field m.gpr x) 0) e ∙ ap (λ x. eqb x 0) (sym e)
    base_same a (inr is) = let n = names.some a is.0 in let k = is.1 in ap (λ x. eqb x 0) (parameter a is.0) ∙ no (m.gpr a) k ∙ sym (no a n)
      where
        no : (x : ℕ) → x ≢ 0 → eqb x 0 ≡ false
        no x ne = grind (arith, nat_tests)

    row_same : (i : Instr) (v : GuestValues) → IsNamedWord i → guest_row (bound m.gpr i) v ≡ guest_row i v
    row_same (Immediate Addi d a imm) v named = ap (λ b. sum false (cond b 0 v.a) v.b v) (base_same a named.1)
    row_same (Immediate Addis d a imm) v named = ap (λ b. sum false (cond b 0 v.a) v.b v) (base_same a named.1)
    row_same (Immediate Addic d a imm) v named = refl
    row_same (Immediate AddicRecord d a imm) v named = refl
    row_same (Immediate Subfic d a imm) v named = refl
    row_same (Immediate Mulli d a imm) v named = refl
    row_same (LogicImmediate op s a imm) v named = refl
    row_same (CompareImmediate op field a imm) v named = refl
    row_same (Rotate Rlwinm s a by mask_begin mask_end records) v named = refl
    row_same (Rotate Rlwnm s a by mask_begin mask_end records) v named = refl
    row_same (Rotate Rlwimi s a by mask_begin mask_end records) v named = refl
    row_same (Arithmetic op d a b records) v named = refl
    row_same (ArithmeticUnary op d a records) v named = refl
    row_same (Logic op s a b records) v named = refl
    row_same (ShiftImmediate s a by records) v named = refl
    row_same (LogicUnary op s a records) v named = refl
    row_same (Compare op field a b) v named = refl
    row_same (MoveFromCr d) v named = refl
    row_same (MoveToCr s mask) v named = refl
    row_same (MoveFromSpr d spr) v named = refl
    row_same (MoveToSpr s spr) v named = refl
    row_same Sync v named = refl
    row_same (MoveCrField to from) v named = refl
    row_same (CrLogic op d a b) v named = refl
    row_same Isync v named = refl
    row_same (Load Lwz d a imm) v named = ap (λ b. loads 4 (cond b 0 v.a) v.loaded v) (base_same a named.1)
    row_same (Load Lbz d a imm) v named = ap (λ b. loads 1 (cond b 0 v.a) v.loaded v) (base_same a named.1)
    row_same (Load Lhz d a imm) v named = ap (λ b. loads 2 (cond b 0 v.a) v.loaded v) (base_same a named.1)
    row_same (Load Lha d a imm) v named = ap (λ b. loads 2 (cond b 0 v.a) (half_extended v.loaded) v) (base_same a named.1)
    row_same (Store Stw s a imm) v named = ap (λ b. stores 4 (cond b 0 v.a) v.s v) (base_same a named.1)
    row_same (Store Stb s a imm) v named = ap (λ b. stores 1 (cond b 0 v.a) (v.s % 2 ^ 8) v) (base_same a named.1)
    row_same (Store Sth s a imm) v named = ap (λ b. stores 2 (cond b 0 v.a) (v.s % 2 ^ 16) v) (base_same a named.1)
    row_same (LoadUpdate op d a imm) v named = refl
    row_same (StoreUpdate op s a imm) v named = refl
    row_same (LoadIndexed Lwzx d a b) v named = ap (λ b. loads 4 (cond b 0 v.a) v.loaded v) (base_same a named.1)
    row_same (LoadIndexed Lbzx d a b) v named = ap (λ b. loads 1 (cond b 0 v.a) v.loaded v) (base_same a named.1)
    row_same (LoadIndexed Lhzx d a b) v named = ap (λ b. loads 2 (cond b 0 v.a) v.loaded v) (base_same a named.1)
    row_same (LoadIndexed Lhax d a b) v named = ap (λ b. loads 2 (cond b 0 v.a) (half_extended v.loaded) v) (base_same a named.1)
    row_same (LoadIndexed Lwbrx d a b) v named = ap (λ b. loads 4 (cond b 0 v.a) (word_reversed v.loaded) v) (base_same a named.1)
    row_same (LoadIndexed Lhbrx d a b) v named = ap (λ b. loads 2 (cond b 0 v.a) (half_reversed v.loaded) v) (base_same a named.1)
    row_same (StoreIndexed Stwx s a b) v named = ap (λ b. stores 4 (cond b 0 v.a) v.s v) (base_same a named.1)
    row_same (StoreIndexed Stbx s a b) v named = ap (λ b. stores 1 (cond b 0 v.a) (v.s % 2 ^ 8) v) (base_same a named.1)
    row_same (StoreIndexed Sthx s a b) v named = ap (λ b. stores 2 (cond b 0 v.a) (v.s % 2 ^ 16) v) (base_same a named.1)
    row_same (StoreIndexed Stwbrx s a b) v named = ap (λ b. stores 4 (cond b 0 v.a) (word_reversed v.s) v) (base_same a named.1)
    row_same (StoreIndexed Sthbrx s a b) v named = ap (λ b. stores 2 (cond b 0 v.a) (half_reversed v.s) v) (base_same a named.1)
    row_same (LoadIndexedUpdate op d a b) v named = refl
    row_same (StoreIndexedUpdate op s a b) v named = refl
    row_same (BranchConditional bo bi target absolute link) v named = refl
    row_same _ v named = absurd named

    -- The row's effect is the same, but for what it leaves of GPR 0 in the place of a base.
    abbrev EffectIs : Instr → Effect → Effect → ℕ → Type 0
    EffectIs i e e0 x = (e ≡ e0) ⊎ ((base_field i ≡ Some 0) × (e ≡ record e0 { a = x }))

    module _ (l l0 : ℕ → ℕ) (r : SameLocs start l l0) where
      effect_is : (i : Instr) (k k0 : ℕ) → IsNamedWord i → k ≡ k0 → EffectIs i (guest_row (bound m.gpr i) (guest_values (bound m.gpr i) k l)) (guest_row i (guest_values i k0 l0)) (value_a (bound m.gpr i) l)
      effect_is i k k0 named e =
          let v = row_same i (guest_values (bound m.gpr i) k l) named ∙ ap (guest_row i) (values_same l l0 r i k k0 named e) in
          ⊎_elim (λ (a : value_a (bound m.gpr i) l ≡ value_a i l0). inl (v ∙ ap (λ x. guest_row i (record (guest_values i k0 l0) { a = x })) a)) (λ z. inr (z, v ∙ zero_row i z (guest_values i k0 l0) (value_a (bound m.gpr i) l))) (value_a_same l l0 r i named)

    loaded_same : (i : Instr) (e e0 : Effect) (x : ℕ) (bytes : ℕ → ℕ) → EffectIs i e e0 x → loaded_in e bytes ≡ loaded_in e0 bytes
    loaded_same i e e0 x bytes (inl d) = ap (λ e. loaded_in e bytes) d
    loaded_same i e e0 x bytes (inr d) = ap (λ e. loaded_in e bytes) d.1

    -- so its access is the same, whether it branches, and what the machine does with it
    record SameEffect (i : Instr) (e e0 : Effect) : Type 0 where
      pub kind : e.kind ≡ e0.kind
      pub width : e.width ≡ e0.width
      pub address : e.address ≡ e0.address
      pub taken : e.taken ≡ e0.taken
      pub does : (rights : Rights) (g : Guest) → guest_acts rights (bound m.gpr i) e g ≡ guest_acts rights (bound m.gpr i) e0 g

    same_effect : (i : Instr) (e e0 : Effect) (x : ℕ) → EffectIs i e e0 x → SameEffect i e e0
    same_effect i e e0 x (inl d) = record { kind = ap (λ (e : Effect). e.kind) d; width = ap (λ (e : Effect). e.width) d; address = ap (λ (e : Effect). e.address) d; taken = ap (λ (e : Effect). e.taken) d; does = λ rights g. ap (λ e. guest_acts rights (bound m.gpr i) e g) d }
    same_effect i e e0 x (inr d) = record {
      kind = ap (λ (e : Effect). e.kind) d.1;
      width = ap (λ (e : Effect). e.width) d.1;
      address = ap (λ (e : Effect). e.address) d.1;
      taken = ap (λ (e : Effect). e.taken) d.1;
      does = λ rights g. ap (λ e. guest_acts rights (bound m.gpr i) e g) d.1 ∙ zero_acts rights (bound m.gpr i) (zero_bound m.gpr i d.0) e0 x g;
    }

    -- both go on to guests that are the same again
    goes_same : (after after0 : ℕ → ℕ) (g g0 : Guest) → SameLocs start after after0 → SameGuest start g g0 → SameGuest start (at_next after g) (at_next after0 g0)
    goes_same after after0 g g0 locs r = record { locs = locs; next = ap behind r.next; bytes = r.bytes }

    loads_alike : (b : Bool) (after after0 : ℕ → ℕ) (g g0 : Guest) → SameLocs start after after0 → SameGuest start g g0 → SameOutcome start (cond b (Goes (at_next after g)) (Ends Outside)) (cond b (Goes (at_next after0 g0)) (Ends Outside))
    loads_alike true after after0 g g0 locs r = goes_same after after0 g g0 locs r
    loads_alike false after after0 g g0 locs r = refl

    stores_alike : (b : Bool) (e : Effect) (after after0 : ℕ → ℕ) (g g0 : Guest) → SameLocs start after after0 → SameGuest start g g0 →
        SameOutcome start (cond b (Goes (record (at_next after g) { bytes = store_big e.width e.address e.stored g.bytes })) (Ends Outside)) (cond b (Goes (record (at_next after0 g0) { bytes = store_big e.width e.address e.stored g0.bytes })) (Ends Outside))
    stores_alike true e after after0 g g0 locs r = record { locs = locs; next = ap behind r.next; bytes = ap (store_big e.width e.address e.stored) r.bytes }
    stores_alike false e after after0 g g0 locs r = refl

    branch_same : (link : Bool) (e : Effect) (target : ℕ) (absolute : Bool) (g g0 : Guest) → link ≡ false → SameGuest start g g0 →
        SameGuest start (branches (linked link g.next (update g.locs ctr e.ctr)) e.taken (branch_target 14 target absolute g.next) g) (branches (linked link g0.next (update g0.locs ctr e.ctr)) e.taken (branch_target 14 target absolute g0.next) g0)
    branch_same true e target absolute g g0 unlinked r = absurd cc
    branch_same false e target absolute g g0 unlinked r = record { locs = put_far 33 e.ctr g.locs g0.locs (omega arith) r.locs; next = ap (λ w. cond e.taken (branch_target 14 target absolute w) (behind w)) r.next; bytes = r.bytes }

    acts_same : (rights : Rights) (i : Instr) (e : Effect) (g g0 : Guest) → IsNamedWord i → SameGuest start g g0 → SameOutcome start (guest_acts rights (bound m.gpr i) e g) (guest_acts rights i e g0)
    acts_same rights (Immediate op d a imm) e g g0 named r = goes_same _ _ g g0 (results_same (immediate_carries op) (immediate_records op) d e.d e g.locs g0.locs named.0 r.locs) r
    acts_same rights (LogicImmediate op s a imm) e g g0 named r = goes_same _ _ g g0 (results_same false (logic_immediate_records op) a e.a e g.locs g0.locs named.1 r.locs) r
    acts_same rights (CompareImmediate op field a imm) e g g0 named r = goes_same _ _ g g0 (cr_same e.cr g.locs g0.locs r.locs) r
    acts_same rights (Rotate op s a by mask_begin mask_end records) e g g0 named r = goes_same _ _ g g0 (results_same false records a e.a e g.locs g0.locs named.1 r.locs) r
    acts_same rights (Arithmetic op d a b records) e g g0 named r = goes_same _ _ g g0 (results_same (carry_out op) records d e.d e g.locs g0.locs named.0 r.locs) r
    acts_same rights (ArithmeticUnary op d a records) e g g0 named r = goes_same _ _ g g0 (results_same (unary_carry op) records d e.d e g.locs g0.locs named.0 r.locs) r
    acts_same rights (Logic op s a b records) e g g0 named r = goes_same _ _ g g0 (results_same (logic_carries op) records a e.a e g.locs g0.locs named.1 r.locs) r
    acts_same rights (ShiftImmediate s a by records) e g g0 named r = goes_same _ _ g g0 (results_same true records a e.a e g.locs g0.locs named.1 r.locs) r
    acts_same rights (LogicUnary op s a records) e g g0 named r = goes_same _ _ g g0 (results_same false records a e.a e g.locs g0.locs named.1 r.locs) r
    acts_same rights (Compare op field a b) e g g0 named r = goes_same _ _ g g0 (cr_same e.cr g.locs g0.locs r.locs) r
    acts_same rights (MoveFromCr d) e g g0 named r = goes_same _ _ g g0 (put_par d e.d g.locs g0.locs named r.locs) r
    acts_same rights (MoveToCr s mask) e g g0 named r = goes_same _ _ g g0 (cr_same e.cr g.locs g0.locs r.locs) r
    acts_same rights (MoveFromSpr d spr) e g g0 named r = goes_same _ _ g g0 (put_par d e.d g.locs g0.locs named r.locs) r
    acts_same rights (MoveToSpr s spr) e g g0 named r = goes_same _ _ g g0 (special_same spr e g.locs g0.locs r.locs) r
    acts_same rights Sync e g g0 named r = goes_same _ _ g g0 (r.locs) r
    acts_same rights (MoveCrField to from) e g g0 named r = goes_same _ _ g g0 (cr_same e.cr g.locs g0.locs r.locs) r
    acts_same rights (CrLogic op d a b) e g g0 named r = goes_same _ _ g g0 (cr_same e.cr g.locs g0.locs r.locs) r
    acts_same rights Isync e g g0 named r = goes_same _ _ g g0 (r.locs) r
    acts_same rights (Load op d a imm) e g g0 named r = loads_alike (each_byte rights.held e.width e.address) _ _ g g0 (put_par d e.d g.locs g0.locs named.0 r.locs) r
    acts_same rights (Store op s a imm) e g g0 named r = stores_alike (each_byte rights.writable e.width e.address) e g.locs g0.locs g g0 r.locs r
    acts_same rights (LoadUpdate op d a imm) e g g0 named r = loads_alike (each_byte rights.held e.width e.address) _ _ g g0 (put_par a e.a _ _ named.1 (put_par d e.d g.locs g0.locs named.0 r.locs)) r
    acts_same rights (StoreUpdate op s a imm) e g g0 named r = stores_alike (each_byte rights.writable e.width e.address) e _ _ g g0 (put_par a e.a g.locs g0.locs named.1 r.locs) r
    acts_same rights (LoadIndexed op d a b) e g g0 named r = loads_alike (each_byte rights.held e.width e.address) _ _ g g0 (put_par d e.d g.locs g0.locs named.0 r.locs) r
    acts_same rights (StoreIndexed op s a b) e g g0 named r = stores_alike (each_byte rights.writable e.width e.address) e g.locs g0.locs g g0 r.locs r
    acts_same rights (LoadIndexedUpdate op d a b) e g g0 named r = loads_alike (each_byte rights.held e.width e.address) _ _ g g0 (put_par a e.a _ _ named.1 (put_par d e.d g.locs g0.locs named.0 r.locs)) r
    acts_same rights (StoreIndexedUpdate op s a b) e g g0 named r = stores_alike (each_byte rights.writable e.width e.address) e _ _ g g0 (put_par a e.a g.locs g0.locs named.1 r.locs) r
    acts_same rights (BranchConditional bo bi target absolute link) e g g0 named r = branch_same link e target absolute g g0 named r
    acts_same rights _ e g g0 named r = absurd named

    module _ (i : Instr) (g g0 : Guest) (named : IsNamedWord i) (r : SameGuest start g g0) where
      effects : SameEffect i (effect_of (bound m.gpr i) g) (effect_of i g0)
      effects =
          let first = effect_is g.locs g0.locs r.locs i 0 0 named refl in
          let k = loaded_same i (guest_row (bound m.gpr i) (guest_values (bound m.gpr i) 0 g.locs)) (guest_row i (guest_values i 0 g0.locs)) (value_a (bound m.gpr i) g.locs) g.bytes first ∙ ap (loaded_in (guest_row i (guest_values i 0 g0.locs))) r.bytes in
          same_effect i _ _ (value_a (bound m.gpr i) g.locs) (effect_is g.locs g0.locs r.locs i _ _ named k)

      -- an instruction by the other names
      word_renamed : (rights : Rights) → SameOutcome start (guest_acts rights (bound m.gpr i) (effect_of (bound m.gpr i) g) g) (guest_acts rights i (effect_of i g0) g0)
      word_renamed rights = subst (λ o. SameOutcome start o (guest_acts rights i (effect_of i g0) g0)) (sym (effects.does rights g)) (acts_same rights i (effect_of i g0) g g0 named r)

      loaded_alike : loaded (effect_of (bound m.gpr i) g).kind (effect_of (bound m.gpr i) g).width (effect_of (bound m.gpr i) g).address ≡ loaded (effect_of i g0).kind (effect_of i g0).width (effect_of i g0).address
      loaded_alike =
          ap (λ x. loaded x (effect_of (bound m.gpr i) g).width (effect_of (bound m.gpr i) g).address) effects.kind
          ∙ ap (λ x. loaded (effect_of i g0).kind x (effect_of (bound m.gpr i) g).address) effects.width ∙ ap (loaded (effect_of i g0).kind (effect_of i g0).width) effects.address

      stored_alike : stored (effect_of (bound m.gpr i) g).kind (effect_of (bound m.gpr i) g).width (effect_of (bound m.gpr i) g).address ≡ stored (effect_of i g0).kind (effect_of i g0).width (effect_of i g0).address
      stored_alike =
          ap (λ x. stored x (effect_of (bound m.gpr i) g).width (effect_of (bound m.gpr i) g).address) effects.kind
          ∙ ap (λ x. stored (effect_of i g0).kind x (effect_of (bound m.gpr i) g).address) effects.width ∙ ap (stored (effect_of i g0).kind (effect_of i g0).width) effects.address

    abbrev pub named_words : List Instr → List Instr
    named_words is = list_map (bound m.gpr) is

    -- words one after another go on alike
    pub words_renamed : (rights : Rights) (is : List Instr) (g g0 : Guest) → AreNamedWords is → SameGuest start g g0 → SameOutcome start (rows_of rights (named_words is) g) (rows_of rights is g0)
    words_renamed rights [] g g0 named r = r
    words_renamed rights (i ∷ is) g g0 named r = by_outcome (λ x y s. words_renamed rights is x y named.1 s) (guest_acts rights (bound m.gpr i) (effect_of (bound m.gpr i) g) g) (guest_acts rights i (effect_of i g0) g0) (word_renamed i g g0 named.0 r rights)
      where
        by_outcome : ((x y : Guest) → SameGuest start x y → SameOutcome start (rows_of rights (named_words is) x) (rows_of rights is y)) → (o o0 : Outcome Guest) → SameOutcome start o o0 → SameOutcome start (then_row (rows_of rights (named_words is)) o) (then_row (rows_of rights is) o0)
        by_outcome rest (Goes x) (Goes y) s = rest x y s
        by_outcome rest (Ends x) (Ends y) s = s
        by_outcome rest (Goes x) (Asks call next) s = absurd s
        by_outcome rest (Goes x) (Ends y) s = absurd s
        by_outcome rest (Asks call next) o0 s = absurd s
        by_outcome rest (Ends x) (Goes y) s = absurd s
        by_outcome rest (Ends x) (Asks call next) s = absurd s

    -- what two functions make of the states behind rows that go on alike
    behind_same : {T : Type 0} (none : T) (f h : Guest → T) → ((x y : Guest) → SameGuest start x y → f x ≡ h y) → (o o0 : Outcome Guest) → SameOutcome start o o0 → behind_row none f o ≡ behind_row none h o0
    behind_same none f h rest (Goes x) (Goes y) s = rest x y s
    behind_same none f h rest (Ends x) (Ends y) s = refl
    behind_same none f h rest (Goes x) (Asks call next) s = absurd s
    behind_same none f h rest (Goes x) (Ends y) s = absurd s
    behind_same none f h rest (Asks call next) o0 s = absurd s
    behind_same none f h rest (Ends x) (Goes y) s = absurd s
    behind_same none f h rest (Ends x) (Asks call next) s = absurd s

    -- and they access the same, and the last of them branches alike
    pub loads_renamed : (is : List Instr) (g g0 : Guest) → AreNamedWords is → SameGuest start g g0 → loads_of (named_words is) g ≡ loads_of is g0
    unfolding loads_of
    loads_renamed [] g g0 named r = refl
    loads_renamed (i ∷ is) g g0 named r =
        ap (λ l. l ++ behind_row [] (loads_of (named_words is)) (guest_acts everywhere (bound m.gpr i) (effect_of (bound m.gpr i) g) g)) (loaded_alike i g g0 named.0 r)
        ∙ ap (λ l. loaded (effect_of i g0).kind (effect_of i g0).width (effect_of i g0).address ++ l) (behind_same [] (loads_of (named_words is)) (loads_of is) (λ x y s. loads_renamed is x y named.1 s) _ _ (word_renamed i g g0 named.0 r everywhere))

    pub stores_renamed : (is : List Instr) (g g0 : Guest) → AreNamedWords is → SameGuest start g g0 → stores_of (named_words is) g ≡ stores_of is g0
    unfolding stores_of
    stores_renamed [] g g0 named r = refl
    stores_renamed (i ∷ is) g g0 named r =
        ap (λ l. l ++ behind_row [] (stores_of (named_words is)) (guest_acts everywhere (bound m.gpr i) (effect_of (bound m.gpr i) g) g)) (stored_alike i g g0 named.0 r)
        ∙ ap (λ l. stored (effect_of i g0).kind (effect_of i g0).width (effect_of i g0).address ++ l) (behind_same [] (stores_of (named_words is)) (stores_of is) (λ x y s. stores_renamed is x y named.1 s) _ _ (word_renamed i g g0 named.0 r everywhere))

    pub taken_renamed : (is : List Instr) (g g0 : Guest) → AreNamedWords is → SameGuest start g g0 → taken_of (named_words is) g ≡ taken_of is g0
    unfolding taken_of
    taken_renamed [] g g0 named r = refl
    taken_renamed (i ∷ []) g g0 named r = (effects i g g0 named.0 r).taken
    taken_renamed (i ∷ j ∷ is) g g0 named r = behind_same false (taken_of (named_words (j ∷ is))) (taken_of (j ∷ is)) (λ x y s. taken_renamed (j ∷ is) x y named.1 s) _ _ (word_renamed i g g0 named.0 r everywhere)
