-- A window leaves the GPRs that it doesn't write as they were, and which locations it writes doesn't depend on its constants. This
-- project's own.
use Rattle.std.proofs.Common.{◌≡◌, ℕ, ◌+◌, ◌-◌, ◌/◌, ◌%◌, ◌^◌, ◌<◌, ◌≤◌, Bool, true, false, cond, ◌&&◌, if◌then◌else◌, eqb, leb, ltb, List, [], ◌∷◌, ◌++◌, Option, Some, None, Contains, refl, sym, ap, ◌∙◌, subst, arith}
use Rattle.std.specs.List.{flat_map}
use Rattle.std.proofs.lemmas.Bool.Decides.{nat_tests}
use Rattle.std.proofs.lemmas.List.Elements.{Contains-append_left, Contains-append_right}
use Rattle.machines.specs.Prelude.{Outside, Outcome, Goes, Ends, when, immediate_carries, immediate_records, logic_immediate_records, carry_out, unary_carry, logic_carries, locations_written, update, puts_cr, puts_xer, branches, at_next, Effect, Rights, Guest, effect_of, guest_acts, Instr, Immediate, LogicImmediate, Load, Store, LoadUpdate, StoreUpdate, CompareImmediate, Rotate, Arithmetic, ArithmeticUnary, Logic, ShiftImmediate, LogicUnary, MoveFromCr, MoveFromSpr, Sync, LoadIndexed, LoadIndexedUpdate, StoreIndexedUpdate, Isync, BranchConditional, SystemCall}
use Rattle.row_laws.proofs.Lists.{first_in, later_in}
use Rattle.simulation.specs.Prelude.{rows_of}
use Rattle.rule_body.specs.declared.goal.Guest.{Guest as Word}
use Rattle.rule_body.specs.Prelude.{is_plain, has_access, AreGuests}
use Rattle.rule_soundness.specs.Prelude.{Match, RowsPutFields, AccessesPutFields, BranchesPutFields, register_field, bound, filled, laid_words, target_at}
use Rattle.rule_soundness.specs.Fields.{Written, written, put_written, put_field, reaches, stored_bytes}
use Rattle.rule_soundness.specs.LaidWords.{laid_word}
use Rattle.rule_soundness.proofs.Rows.{is_fork, plain_shape, fork_shape}
use Rattle.rule_soundness.proofs.Passing.{AreRuleWords, stepped}
use Rattle.rule_renaming.specs.Plain.{plain}

first_is : (d p : ℕ) (xs : List ℕ) → Some d ≡ Some p → Contains (d ∷ xs) p
first_is d p xs e = let h : d ≡ p = cc in subst (λ (x : ℕ). Contains (d ∷ xs) x) h (first_in d xs)

-- a row's results go to GPRs that it writes
writes_d : (i : Instr) (p : ℕ) → (written i).d ≡ Some p → Contains (locations_written i) p
writes_d (Immediate op d a imm) p e = first_is d p (when (immediate_carries op) 42 ++ when (immediate_records op) 34) e
writes_d (Load op d a imm) p e = first_is d p [] e
writes_d (LoadUpdate op d a imm) p e = first_is d p (a ∷ []) e
writes_d (Arithmetic op d a b records) p e = first_is d p (when (carry_out op) 42 ++ when records 34) e
writes_d (ArithmeticUnary op d a records) p e = first_is d p (when (unary_carry op) 42 ++ when records 34) e
writes_d (MoveFromCr d) p e = first_is d p [] e
writes_d (MoveFromSpr d spr) p e = first_is d p [] e
writes_d (LoadIndexed op d a b) p e = first_is d p [] e
writes_d (LoadIndexedUpdate op d a b) p e = first_is d p (a ∷ []) e
writes_d _ p e = absurd cc

writes_a : (i : Instr) (p : ℕ) → (written i).a ≡ Some p → Contains (locations_written i) p
writes_a (LogicImmediate op s a imm) p e = first_is a p (when (logic_immediate_records op) 34) e
writes_a (LoadUpdate op d a imm) p e = later_in d p (a ∷ []) (first_is a p [] e)
writes_a (StoreUpdate op s a imm) p e = first_is a p [] e
writes_a (Rotate op s a by mask_begin mask_end records) p e = first_is a p (when records 34) e
writes_a (Logic op s a b records) p e = first_is a p (when (logic_carries op) 42 ++ when records 34) e
writes_a (ShiftImmediate s a by records) p e = first_is a p (42 ∷ when records 34) e
writes_a (LogicUnary op s a records) p e = first_is a p (when records 34) e
writes_a (LoadIndexedUpdate op d a b) p e = later_in d p (a ∷ []) (first_is a p [] e)
writes_a (StoreIndexedUpdate op s a b) p e = first_is a p [] e
writes_a _ p e = absurd cc

other_test : (p n : ℕ) → (n ≡ p → ⊥) → eqb p n ≡ false
other_test p n not_so = by_test (eqb p n) refl
  where
    by_test : (b : Bool) → eqb p n ≡ b → eqb p n ≡ false
    by_test false e = e
    by_test true e = absurd (not_so (grind (arith, nat_tests)))

updated_other : (f : ℕ → ℕ) (n v p : ℕ) → (n ≡ p → ⊥) → update f n v p ≡ f p
updated_other f n v p not_so = ap (λ b. cond b v (f p)) (other_test p n not_so)

put_other : (field : Option ℕ) (v : ℕ) (f : ℕ → ℕ) (p : ℕ) → (field ≡ Some p → ⊥) → put_field field v f p ≡ f p
put_other None v f p not_so = refl
put_other (Some r) v f p not_so = updated_other f r v p (λ e. not_so (ap Some e))

far : (p n : ℕ) → p < 32 → 32 ≤ n → n ≡ p → ⊥
far p n lt ge e = omega (arith, lt, ge, e)

low_of_cr : (p : ℕ) → p < 32 → (leb 34 p && ltb p 42) ≡ false
low_of_cr p lt = grind (arith, nat_tests)

cr_other : (b : Bool) (e : Effect) (f : ℕ → ℕ) (p : ℕ) → p < 32 → puts_cr b e f p ≡ f p
cr_other true e f p lt = ap (λ b. cond b (e.cr / 16 ^ (41 - p) % 16) (f p)) (low_of_cr p lt)
cr_other false e f p lt = refl

xer_other : (b : Bool) (e : Effect) (f : ℕ → ℕ) (p : ℕ) → p < 32 → puts_xer b e f p ≡ f p
xer_other false e f p lt = refl
xer_other true e f p lt =
    let one = update f 43 (e.xer / 2 ^ 31 % 2) in
    let two = update one 44 (e.xer / 2 ^ 30 % 2) in
    let three = update two 42 (e.xer / 2 ^ 29 % 2) in
    updated_other three 45 (e.xer % 2 ^ 7) p (far p 45 lt (omega arith)) ∙ updated_other two 42 (e.xer / 2 ^ 29 % 2) p (far p 42 lt (omega arith))
    ∙ updated_other one 44 (e.xer / 2 ^ 30 % 2) p (far p 44 lt (omega arith)) ∙ updated_other f 43 (e.xer / 2 ^ 31 % 2) p (far p 43 lt (omega arith))

special_other : (b : Bool) (f : ℕ → ℕ) (n v p : ℕ) → p < 32 → 32 ≤ n → (cond b (update f n v) f) p ≡ f p
special_other true f n v p lt ge = updated_other f n v p (far p n lt ge)
special_other false f n v p lt ge = refl

put_kept : (w : Written) (e : Effect) (f : ℕ → ℕ) (p : ℕ) → p < 32 → (w.d ≡ Some p → ⊥) → (w.a ≡ Some p → ⊥) → put_written w e f p ≡ f p
put_kept w e f p lt nd na =
    let one = put_field w.d e.d f in
    let two = put_field w.a e.a one in
    let three = puts_cr w.cr e two in
    let four = puts_xer w.xer e three in
    let five = cond w.lr (update four 32 e.lr) four in
    special_other w.ctr five 33 e.ctr p lt (omega arith) ∙ special_other w.lr four 32 e.lr p lt (omega arith) ∙ xer_other w.xer e three p lt ∙ cr_other w.cr e two p lt ∙ put_other w.a e.a one p na ∙ put_other w.d e.d f p nd

pub goes_same : (o : Outcome Guest) (g h : Guest) → o ≡ Goes g → o ≡ Goes h → h ≡ g
goes_same o g h e d = cc

module _ (puts : RowsPutFields) (accesses : AccessesPutFields) (jumps : BranchesPutFields) (rights : Rights) where
  -- the locations behind a row are those with its results
  plain_locs : (i : Instr) → is_plain i ≡ true → (g after : Guest) → guest_acts rights i (effect_of i g) g ≡ Goes after → after.locs ≡ put_written (written i) (effect_of i g) g.locs
  plain_locs i is g after goes = by_access (has_access i) refl
    where
      by_reach : (b : Bool) (h : Guest) → guest_acts rights i (effect_of i g) g ≡ (if b then Goes h else Ends Outside) → after.locs ≡ h.locs
      by_reach true h e = ap (λ (x : Guest). x.locs) (goes_same (guest_acts rights i (effect_of i g) g) h after e goes)
      by_reach false h e = absurd cc

      by_access : (b : Bool) → has_access i ≡ b → after.locs ≡ put_written (written i) (effect_of i g) g.locs
      by_access false e = ap (λ (x : Guest). x.locs) (goes_same (guest_acts rights i (effect_of i g) g) (at_next (put_written (written i) (effect_of i g) g.locs) g) after (puts rights i (effect_of i g) g is e) goes)
      by_access true e =
          by_reach (reaches rights i (effect_of i g)) (record (at_next (put_written (written i) (effect_of i g) g.locs) g) { bytes = stored_bytes i (effect_of i g) g.bytes }) (accesses rights i (effect_of i g) g is e)

  fork_locs : (i : Instr) → is_fork i ≡ true → (g after : Guest) → guest_acts rights i (effect_of i g) g ≡ Goes after → after.locs ≡ put_written (written i) (effect_of i g) g.locs
  fork_locs (BranchConditional bo bi target absolute false) is g after goes =
      let i = BranchConditional bo bi target absolute false in
      let e = effect_of i g in
      ap (λ (x : Guest). x.locs) (goes_same (guest_acts rights i e g) (branches (put_written (written i) e g.locs) e.taken (target_at i g.next) g) after (jumps rights bo bi target absolute e g) goes)
  fork_locs (BranchConditional bo bi target absolute true) is g after goes = absurd cc
  fork_locs Sync is g after goes = absurd cc
  fork_locs Isync is g after goes = absurd cc
  fork_locs SystemCall is g after goes = absurd cc
  fork_locs _ is g after goes = absurd cc

  -- a GPR that a row doesn't write stays
  row_keeps : (i : Instr) (g after : Guest) → after.locs ≡ put_written (written i) (effect_of i g) g.locs → (p : ℕ) → p < 32 → (Contains (locations_written i) p → ⊥) → after.locs p ≡ g.locs p
  row_keeps i g after e p lt not_so = ap (λ f. f p) e ∙ put_kept (written i) (effect_of i g) g.locs p lt (λ d. not_so (writes_d i p d)) (λ a. not_so (writes_a i p a))

  -- and so does one that a window doesn't write
  pub window_keeps : (forks : Bool) (words : List Instr) → AreRuleWords forks words → (g g' : Guest) → rows_of rights words g ≡ Goes g' → (p : ℕ) → p < 32 → (Contains (flat_map locations_written words) p → ⊥) → g'.locs p ≡ g.locs p
  window_keeps forks [] are g g' goes p lt not_so = absurd are
  window_keeps true (i ∷ []) are g g' goes p lt not_so =
      let d = stepped rights i g _ (rows_of rights []) g' (fork_shape i are g) goes in
      let e : g' ≡ d.after = cc in
      ap (λ (x : Guest). x.locs p) e ∙ row_keeps i g d.after (fork_locs i are g d.after d.goes) p lt (λ c. not_so (Contains-append_left (locations_written i) [] p c))
  window_keeps false (i ∷ []) are g g' goes p lt not_so =
      let d = stepped rights i g _ (rows_of rights []) g' (plain_shape i are g) goes in
      let e : g' ≡ d.after = cc in
      ap (λ (x : Guest). x.locs p) e ∙ row_keeps i g d.after (plain_locs i are g d.after d.goes) p lt (λ c. not_so (Contains-append_left (locations_written i) [] p c))
  window_keeps forks (i ∷ j ∷ is) are g g' goes p lt not_so =
      let d = stepped rights i g _ (rows_of rights (j ∷ is)) g' (plain_shape i are.0 g) goes in
      window_keeps forks (j ∷ is) are.1 d.after g' d.later p lt (λ c. not_so (Contains-append_right (locations_written i) (flat_map locations_written (j ∷ is)) p c))
      ∙ row_keeps i g d.after (plain_locs i are.0 g d.after d.goes) p lt (λ c. not_so (Contains-append_left (locations_written i) (flat_map locations_written (j ∷ is)) p c))

-- a parameter's number stays
own_field : (p : ℕ) → register_field (λ k. k) p ≡ p
own_field p = by_test (eqb p 0) refl
  where
    by_test : (b : Bool) → eqb p 0 ≡ b → cond b 0 p ≡ p
    by_test true e = let z : p ≡ 0 = grind (arith, nat_tests) in sym z
    by_test false e = refl

own_first : (d : ℕ) (xs : List ℕ) → register_field (λ k. k) d ∷ xs ≡ d ∷ xs
own_first d xs = ap (λ x. x ∷ xs) (own_field d)

-- the instruction with each parameter as the GPR of its number writes what it writes
bound_writes : (i : Instr) → locations_written (bound (λ k. k) i) ≡ locations_written i
bound_writes (Immediate op d a imm) = own_first d (when (immediate_carries op) 42 ++ when (immediate_records op) 34)
bound_writes (LogicImmediate op s a imm) = own_first a (when (logic_immediate_records op) 34)
bound_writes (Load op d a imm) = own_first d []
bound_writes (LoadUpdate op d a imm) = own_first d (register_field (λ k. k) a ∷ []) ∙ ap (λ xs. d ∷ xs) (own_first a [])
bound_writes (StoreUpdate op s a imm) = own_first a []
bound_writes (Rotate op s a by mask_begin mask_end records) = own_first a (when records 34)
bound_writes (Arithmetic op d a b records) = own_first d (when (carry_out op) 42 ++ when records 34)
bound_writes (ArithmeticUnary op d a records) = own_first d (when (unary_carry op) 42 ++ when records 34)
bound_writes (Logic op s a b records) = own_first a (when (logic_carries op) 42 ++ when records 34)
bound_writes (ShiftImmediate s a by records) = own_first a (42 ∷ when records 34)
bound_writes (LogicUnary op s a records) = own_first a (when records 34)
bound_writes (MoveFromCr d) = own_first d []
bound_writes (MoveFromSpr d spr) = own_first d []
bound_writes (LoadIndexed op d a b) = own_first d []
bound_writes (LoadIndexedUpdate op d a b) = own_first d (register_field (λ k. k) a ∷ []) ∙ ap (λ xs. d ∷ xs) (own_first a [])
bound_writes (StoreIndexedUpdate op s a b) = own_first a []
bound_writes _ = refl

-- with its constant too
filled_writes : (m : Match) (j : ℕ) (i : Instr) → locations_written (filled m j i) ≡ locations_written i
filled_writes m j (Immediate op d a imm) = refl
filled_writes m j (LogicImmediate op s a imm) = refl
filled_writes m j (Load op d a imm) = refl
filled_writes m j (Store op s a imm) = refl
filled_writes m j (LoadUpdate op d a imm) = refl
filled_writes m j (StoreUpdate op s a imm) = refl
filled_writes m j (CompareImmediate op field a imm) = refl
filled_writes m j (BranchConditional bo bi target absolute link) = refl
filled_writes m j _ = refl

free_writes : (m : Match) (j : ℕ) (free : Bool) (i : Instr) → locations_written (if free then filled m j i else i) ≡ locations_written i
free_writes m j true i = filled_writes m j i
free_writes m j false i = refl

word_writes : (m : Match) (j : ℕ) (word : Word) (i : Instr) → locations_written (laid_word (plain m) j word i) ≡ locations_written i
word_writes m j word i = bound_writes (if word.free then filled (plain m) j i else i) ∙ free_writes (plain m) j word.free i

-- the window with each parameter as the GPR of its number writes what the words over parameters write
pub plain_writes : (m : Match) (j : ℕ) (guests : List Word) (words : List Instr) → AreGuests guests words → flat_map locations_written (laid_words (plain m) j guests words) ≡ flat_map locations_written words
unfolding laid_words
plain_writes m j [] [] are = refl
plain_writes m j [] (i ∷ is) are = absurd are
plain_writes m j (word ∷ words) [] are = absurd are
plain_writes m j (word ∷ words) (i ∷ is) are =
    ap (λ (xs : List ℕ). xs ++ flat_map locations_written (laid_words (plain m) (j + 1) words is)) (word_writes m j word i) ∙ ap (λ (ys : List ℕ). locations_written i ++ ys) (plain_writes m (j + 1) words is are.1)
