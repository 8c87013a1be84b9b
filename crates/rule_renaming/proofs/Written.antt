-- What the one instance and a rule at a match write, and which locations are dead behind them. This project's own.
use Rattle.std.proofs.Common.{◌≡◌, ◌≢◌, ℕ, ◌+◌, ◌/◌, ◌<◌, ◌≤◌, ◌⊎◌, inl, inr, ⊎_elim, Bool, true, false, cond, ◌&&◌, eqb, nat_lt, ◌==◌, if◌then◌else◌, List, [], ◌∷◌, ◌++◌, map as list_map, Contains, refl, sym, ap, ◌∙◌, subst, arith}
use Rattle.std.specs.List.{flat_map, range_with_len}
use Rattle.std.proofs.lemmas.Bool.Decides.{nat_tests}
use Rattle.std.proofs.lemmas.List.Elements.{Contains-append_cases, Contains-append_left, Contains-append_right}
use Rattle.std.proofs.lemmas.List.Folds.{Any-from_list_any, list_any-from_Any}
use Rattle.machines.specs.Prelude.{when, special, count, chosen_fields, immediate_carries, immediate_records, logic_immediate_records, carry_out, unary_carry, logic_carries, locations_written, Instr, Immediate, LogicImmediate, CompareImmediate, Rotate, Arithmetic, ArithmeticUnary, Logic, ShiftImmediate, LogicUnary, Compare, MoveFromCr, MoveToCr, MoveFromSpr, MoveToSpr, Sync, MoveCrField, CrLogic, Isync, Load, Store, LoadUpdate, StoreUpdate, LoadIndexed, StoreIndexed, LoadIndexedUpdate, StoreIndexedUpdate, BranchConditional}
use Rattle.row_laws.proofs.Lists.{none_in, first_in, later_in, first_or_later, in_chosen}
use Rattle.symbolic_tiles.proofs.Small.{both_true}
use Rattle.rule_body.specs.declared.goal.Goal.{Goal}
use Rattle.rule_body.specs.Prelude.{named}
use Rattle.rule_soundness.specs.Prelude.{Match, register_field, bound, is_dead_name, location_named, dead_of}
use Rattle.rule_renaming.specs.Plain.{plain}
use Rattle.rule_renaming.proofs.Guests.{GuestNames, IsNamedWord, AreNamedWords}

module _ (m : Match) (P : ℕ → Type 0) (names : GuestNames m P) where
  Far : List ℕ → Type 0
  Far xs = (x : ℕ) → Contains xs x → 32 ≤ x

  far_when : (b : Bool) (k : ℕ) → 32 ≤ k → (x : ℕ) → Contains (when b k) x → 32 ≤ x
  far_when true k ge x c = ⊎_elim (λ e. omega (arith, e, ge)) (λ n. none_in x n) (first_or_later k [] x c)
  far_when false k ge x c = none_in x c

  far_one : (k : ℕ) → 32 ≤ k → (x : ℕ) → Contains (k ∷ []) x → 32 ≤ x
  far_one k ge x c = far_when true k ge x c

  far_both : (xs ys : List ℕ) → ((x : ℕ) → Contains xs x → 32 ≤ x) → ((x : ℕ) → Contains ys x → 32 ≤ x) → (x : ℕ) → Contains (xs ++ ys) x → 32 ≤ x
  far_both xs ys p q x c = ⊎_elim (p x) (q x) (Contains-append_cases xs ys x c)

  far_none : (x : ℕ) → Contains {X = ℕ} [] x → 32 ≤ x
  far_none x c = none_in x c

  far_test : (b : Bool) (x : ℕ) → Contains (when b 34) x → 32 ≤ x
  far_test b = far_when b 34 (omega arith)

  far_two : (b d : Bool) (x : ℕ) → Contains (when b 42 ++ when d 34) x → 32 ≤ x
  far_two b d = far_both (when b 42) (when d 34) (far_when b 42 (omega arith)) (far_when d 34 (omega arith))

  written_first : (d : ℕ) (xs ys : List ℕ) → P d → ((x : ℕ) → Contains xs x → 32 ≤ x) → (p : ℕ) → P p → Contains (d ∷ xs) p → Contains (register_field m.gpr d ∷ ys) (m.gpr p)
  written_first d xs ys pd far p pp c = by_cases (first_or_later d xs p c)
    where
      named : register_field m.gpr d ≡ m.gpr d
      named = by_test (eqb d 0) refl (names.some d pd)
        where
          by_test : (b : Bool) → eqb d 0 ≡ b → d ≢ 0 → cond b 0 (m.gpr d) ≡ m.gpr d
          by_test true e n = absurd (n (grind (arith, nat_tests)))
          by_test false e n = refl

      by_cases : (d ≡ p) ⊎ Contains xs p → Contains (register_field m.gpr d ∷ ys) (m.gpr p)
      by_cases (inl e) = subst (λ (k : ℕ). Contains (register_field m.gpr d ∷ ys) k) (named ∙ ap m.gpr e) (first_in (register_field m.gpr d) ys)
      by_cases (inr l) = let lt = names.low p pp in let ge = far p l in absurd (omega (arith, lt, ge))

  written_far : (xs ys : List ℕ) → ((x : ℕ) → Contains xs x → 32 ≤ x) → (p : ℕ) → P p → Contains xs p → Contains ys (m.gpr p)
  written_far xs ys far p pp c = let lt = names.low p pp in let ge = far p c in absurd (omega (arith, lt, ge))

  far_special : (spr x : ℕ) → Contains (special spr) x → 32 ≤ x
  far_special spr x c = by_tests (spr == 1) (spr == 8) (spr == 9) c
    where
      more : (k : ℕ) (xs : List ℕ) → 32 ≤ k → (Contains xs x → 32 ≤ x) → Contains (k ∷ xs) x → 32 ≤ x
      more k xs ge far c = ⊎_elim (λ e. omega (arith, e, ge)) far (first_or_later k xs x c)

      by_tests : (b d e : Bool) → Contains (if b then 42 ∷ 43 ∷ 44 ∷ 45 ∷ [] else if d then 32 ∷ [] else if e then 33 ∷ [] else []) x → 32 ≤ x
      by_tests true d e c = more 42 (43 ∷ 44 ∷ 45 ∷ []) (omega arith) (more 43 (44 ∷ 45 ∷ []) (omega arith) (more 44 (45 ∷ []) (omega arith) (more 45 [] (omega arith) (far_none x)))) c
      by_tests false true e c = more 32 [] (omega arith) (far_none x) c
      by_tests false false true c = more 33 [] (omega arith) (far_none x) c
      by_tests false false false c = far_none x c

  -- a parameter before what stands so too
  written_second : (d a : ℕ) → P d → P a → (p : ℕ) → P p → Contains (d ∷ a ∷ []) p → Contains (register_field m.gpr d ∷ register_field m.gpr a ∷ []) (m.gpr p)
  written_second d a pd pa p pp c = by_cases (first_or_later d (a ∷ []) p c)
    where
      by_cases : (d ≡ p) ⊎ Contains (a ∷ []) p → Contains (register_field m.gpr d ∷ register_field m.gpr a ∷ []) (m.gpr p)
      by_cases (inl e) = written_first d [] (register_field m.gpr a ∷ []) pd far_none p pp (subst (λ (k : ℕ). Contains (d ∷ []) k) e (first_in d []))
      by_cases (inr l) = later_in (register_field m.gpr d) (m.gpr p) (register_field m.gpr a ∷ []) (written_first a [] [] pa far_none p pp l)

  far_count : (bo : ℕ) (link : Bool) → link ≡ false → (x : ℕ) → Contains (count bo ++ when link 32) x → 32 ≤ x
  far_count bo link e = far_both (count bo) (when link 32) (λ x c. far_when _ 33 (omega arith) x c) (far_when link 32 (omega arith))

  -- a word at a match writes the GPR of each parameter that it writes
  word_writes : (i : Instr) → IsNamedWord m P i → (p : ℕ) → P p → Contains (locations_written i) p → Contains (locations_written (bound m.gpr i)) (m.gpr p)
  word_writes (Immediate op d a imm) named = written_first d (when (immediate_carries op) 42 ++ when (immediate_records op) 34) (when (immediate_carries op) 42 ++ when (immediate_records op) 34) named.0 (far_two (immediate_carries op) (immediate_records op))
  word_writes (LogicImmediate op s a imm) named = written_first a (when (logic_immediate_records op) 34) (when (logic_immediate_records op) 34) named.1 (far_test (logic_immediate_records op))
  word_writes (CompareImmediate op field a imm) named = written_far ((34 + field) ∷ []) ((34 + field) ∷ []) (far_one (34 + field) (omega arith))
  word_writes (Rotate op s a by mask_begin mask_end records) named = written_first a (when records 34) (when records 34) named.1 (far_test records)
  word_writes (Arithmetic op d a b records) named = written_first d (when (carry_out op) 42 ++ when (records) 34) (when (carry_out op) 42 ++ when (records) 34) named.0 (far_two (carry_out op) records)
  word_writes (ArithmeticUnary op d a records) named = written_first d (when (unary_carry op) 42 ++ when (records) 34) (when (unary_carry op) 42 ++ when (records) 34) named.0 (far_two (unary_carry op) records)
  word_writes (Logic op s a b records) named = written_first a (when (logic_carries op) 42 ++ when (records) 34) (when (logic_carries op) 42 ++ when (records) 34) named.1 (far_two (logic_carries op) records)
  word_writes (ShiftImmediate s a by records) named = written_first a (42 ∷ when records 34) (42 ∷ when records 34) named.1 (far_both (42 ∷ []) (when records 34) (far_one 42 (omega arith)) (far_when records 34 (omega arith)))
  word_writes (LogicUnary op s a records) named = written_first a (when records 34) (when records 34) named.1 (far_test records)
  word_writes (Compare op field a b) named = written_far ((34 + field) ∷ []) ((34 + field) ∷ []) (far_one (34 + field) (omega arith))
  word_writes (MoveFromCr d) named = written_first d [] [] named far_none
  word_writes (MoveToCr s mask) named = written_far (chosen_fields mask) (chosen_fields mask) (λ x c. let w = in_chosen mask x c in let e = w.2 in omega (arith, e))
  word_writes (MoveFromSpr d spr) named = written_first d [] [] named far_none
  word_writes (MoveToSpr s spr) named = written_far (special spr) (special spr) (far_special spr)
  word_writes Sync named = written_far [] [] far_none
  word_writes (MoveCrField to from) named = written_far ((34 + to) ∷ []) ((34 + to) ∷ []) (far_one (34 + to) (omega arith))
  word_writes (CrLogic op d a b) named = written_far ((34 + d / 4) ∷ []) ((34 + d / 4) ∷ []) (far_one (34 + d / 4) (omega arith))
  word_writes Isync named = written_far [] [] far_none
  word_writes (Load op d a imm) named = written_first d [] [] named.0 far_none
  word_writes (Store op s a imm) named = written_far [] [] far_none
  word_writes (LoadUpdate op d a imm) named = written_second d a named.0 named.1
  word_writes (StoreUpdate op s a imm) named = written_first a [] [] named.1 far_none
  word_writes (LoadIndexed op d a b) named = written_first d [] [] named.0 far_none
  word_writes (StoreIndexed op s a b) named = written_far [] [] far_none
  word_writes (LoadIndexedUpdate op d a b) named = written_second d a named.0 named.1
  word_writes (StoreIndexedUpdate op s a b) named = written_first a [] [] named.1 far_none
  word_writes (BranchConditional bo bi target absolute link) named = written_far (count bo ++ when link 32) (count bo ++ when link 32) (far_count bo link named)
  word_writes _ named = absurd named

  pub words_write : (is : List Instr) → AreNamedWords m P is → (p : ℕ) → P p → Contains (flat_map locations_written is) p → Contains (flat_map locations_written (list_map (bound m.gpr) is)) (m.gpr p)
  words_write [] named p pp c = none_in p c
  words_write (i ∷ is) named p pp c =
      ⊎_elim (λ n. Contains-append_left (locations_written (bound m.gpr i)) (flat_map locations_written (list_map (bound m.gpr) is)) (m.gpr p) (word_writes i named.0 p pp n))
      (λ n. Contains-append_right (locations_written (bound m.gpr i)) (flat_map locations_written (list_map (bound m.gpr) is)) (m.gpr p) (words_write is named.1 p pp n)) (Contains-append_cases (locations_written i) (flat_map locations_written is) p c)

-- dead locations
holds_both : (a b : Bool) → a ≡ true → b ≡ true → (a && b) ≡ true
holds_both true true e d = refl
holds_both true false e d = absurd cc
holds_both false b e d = absurd cc

is_number : (x y : ℕ) → (x == y) ≡ true → x ≡ y
is_number x y e = grind (arith, nat_tests)

equal : (x y : ℕ) → x ≡ y → (x == y) ≡ true
equal x y e = grind (arith, nat_tests)

below_six : (k : ℕ) → nat_lt k 6 ≡ true → k < 6
below_six k e = grind (arith, nat_tests)

module _ (goal : Goal) (m : Match) where
  -- what names one location in the one instance names another at the match
  abbrev Follows : ℕ → ℕ → Type 0
  Follows y z = (k : ℕ) → location_named (plain m) k ≡ y → location_named m k ≡ z

  dead_follows : (y z : ℕ) → Follows y z → dead_of goal (plain m) y ≡ true → dead_of goal m z ≡ true
  unfolding dead_of
  dead_follows y z follows dead =
      let w = Any-from_list_any (λ k. is_dead_name goal k && location_named (plain m) k == y) (range_with_len 0 20) dead in
      let b = both_true (is_dead_name goal w.1) (location_named (plain m) w.1 == y) w.4 in
      list_any-from_Any (λ k. is_dead_name goal k && location_named m k == z) (range_with_len 0 20)
      (w.0, w.1, w.2, w.3, holds_both (is_dead_name goal w.1) (location_named m w.1 == z) b.0 (equal (location_named m w.1) z (follows w.1 (is_number (location_named (plain m) w.1) y b.1))))

  alive_before : (y z : ℕ) → Follows y z → dead_of goal m z ≡ false → dead_of goal (plain m) y ≡ false
  alive_before y z follows alive = by_dead (dead_of goal (plain m) y) refl
    where
      clash : (b : Bool) → b ≡ true → b ≡ false → ⊥
      clash true e d = cc
      clash false e d = cc

      by_dead : (b : Bool) → dead_of goal (plain m) y ≡ b → dead_of goal (plain m) y ≡ false
      by_dead false e = e
      by_dead true e = absurd (clash (dead_of goal m z) (dead_follows y z follows e) alive)

  named_far : (k : ℕ) → nat_lt k 6 ≡ false → 32 ≤ named k
  named_far k e = subst (λ b. 32 ≤ (if b then k + 1 else k + 26)) (sym e) (grind (arith, nat_tests))

  pub dead_parameter : (p : ℕ) → p < 32 → dead_of goal m (m.gpr p) ≡ false → dead_of goal (plain m) p ≡ false
  dead_parameter p lt = alive_before p (m.gpr p) (λ k e. by_test k (nat_lt k 6) refl e)
    where
      by_test : (k : ℕ) (b : Bool) → nat_lt k 6 ≡ b → location_named (plain m) k ≡ p → location_named m k ≡ m.gpr p
      by_test k true t e = ap (λ b. if b then m.gpr (k + 1) else named k) t ∙ ap m.gpr (ap (λ b. if b then k + 1 else named k) (sym t) ∙ e)
      by_test k false t e = let far = named_far k t in let h : named k ≡ p = ap (λ b. if b then k + 1 else named k) (sym t) ∙ e in absurd (omega (arith, far, h, lt))

  pub dead_other : (x : ℕ) → 32 ≤ x → dead_of goal m x ≡ false → dead_of goal (plain m) x ≡ false
  dead_other x ge = alive_before x x (λ k e. by_test k (nat_lt k 6) refl e)
    where
      by_test : (k : ℕ) (b : Bool) → nat_lt k 6 ≡ b → location_named (plain m) k ≡ x → location_named m k ≡ x
      by_test k true t e = let h : k + 1 ≡ x = ap (λ b. if b then k + 1 else named k) (sym t) ∙ e in let six = below_six k t in absurd (omega (arith, h, six, ge))
      by_test k false t e = ap (λ b. if b then m.gpr (k + 1) else named k) t ∙ ap (λ b. if b then k + 1 else named k) (sym t) ∙ e
