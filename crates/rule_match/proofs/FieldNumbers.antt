-- The register fields of a rule's words have the numbers of its parameters. This project's own.
use Rattle.std.proofs.Common.{◌≡◌, ◌≢◌, ℕ, ◌+◌, ◌<◌, ◌≤◌, ◌⊎◌, inl, inr, ⊎_elim, ◌==◌, ◌||◌, if◌then◌else◌, Bool, true, false, max, fold, List, [], ◌∷◌, ◌++◌, Option, Some, None, option_map, refl, sym, ap, ◌∙◌, arith}
use Rattle.std.proofs.Math.Nat.{le-max_left, le-max_right}
use Rattle.std.proofs.lemmas.Bool.Decides.{nat_tests}
use Rattle.ppc_isa.specs.Locations.{base}
use Rattle.machines.specs.Prelude.{Instr, Immediate, Rotate, Load, Store, LoadIndexed, StoreIndexed, Multiple, TrapImmediate, Trap, Rlwinm, Rlwnm, Rlwimi, Addi, Addis, Addic, AddicRecord, Subfic, Mulli}
use Rattle.reg_map.specs.Prelude.{holds}
use Rattle.rule_body.specs.Prelude.{is_plain, is_ending, numbers, AreNumbered, highest}
use Rattle.rule_soundness.specs.Prelude.{register_field, bound}
use Rattle.rule_soundness.specs.Fields.{s_field, a_field, b_field}

-- one of the numbers is p
abbrev pub is_among : ℕ → List ℕ → Bool
is_among p [] = false
is_among p (k ∷ ks) = (k == p) || is_among p ks

-- a register field of the instruction has the number p
abbrev pub has_field : Instr → ℕ → Bool
has_field i p = holds (s_field i) p || (holds (a_field i) p || (holds (b_field i) p || false))

-- a word that may stand in a window
abbrev pub MayStand : Instr → Type 0
MayStand i = (is_plain i ≡ true) ⊎ (is_ending i ≡ true)

pub either : (a b : Bool) → (a || b) ≡ true → (a ≡ true) ⊎ (b ≡ true)
either true b e = inl refl
either false b e = inr e

pub or_right : (a b : Bool) → b ≡ true → (a || b) ≡ true
or_right true b e = refl
or_right false b e = e

pub or_left : (a b : Bool) → a ≡ true → (a || b) ≡ true
or_left true b e = refl
or_left false b e = absurd cc

pub same_number : (a p : ℕ) → (a == p) ≡ true → a ≡ p
same_number a p e = grind (arith, nat_tests)

pub equal_number : (a p : ℕ) → a ≡ p → (a == p) ≡ true
equal_number a p e = grind (arith, nat_tests)

or_or : (a b c : Bool) → ((a || b) || c) ≡ (a || (b || c))
or_or true b c = refl
or_or false b c = refl

pub among_append : (p : ℕ) (xs ys : List ℕ) → is_among p (xs ++ ys) ≡ (is_among p xs || is_among p ys)
among_append p [] ys = refl
among_append p (x ∷ xs) ys = ap (λ b. (x == p) || b) (among_append p xs ys) ∙ sym (or_or (x == p) (is_among p xs) (is_among p ys))

-- 0 in the place of a base is no number of a parameter
base_among : (a p : ℕ) → p ≢ 0 → is_among p (base a) ≡ ((a == p) || false)
base_among a p some = by_test (a == 0) refl
  where
    apart : (b : Bool) → (a == p) ≡ b → (a == 0) ≡ true → false ≡ (b || false)
    apart false e z = refl
    apart true e z = absurd (some (sym (same_number a p e) ∙ same_number a 0 z))

    by_test : (b : Bool) → (a == 0) ≡ b → is_among p (if b then [] else a ∷ []) ≡ ((a == p) || false)
    by_test true e = apart (a == p) refl e
    by_test false e = refl

base_and_one : (a b p : ℕ) → p ≢ 0 → is_among p (base a ++ b ∷ []) ≡ ((a == p) || ((b == p) || false))
base_and_one a b p some = among_append p (base a) (b ∷ []) ∙ ap (λ t. t || ((b == p) || false)) (base_among a p some) ∙ or_or (a == p) false ((b == p) || false)

-- the numbers of a word are those in its register fields
pub fields_are : (i : Instr) (p : ℕ) → MayStand i → p ≢ 0 → is_among p (numbers i) ≡ has_field i p
fields_are (Immediate Addi d a imm) p may some = ap (λ t. (d == p) || t) (base_among a p some)
fields_are (Immediate Addis d a imm) p may some = ap (λ t. (d == p) || t) (base_among a p some)
fields_are (Immediate Addic d a imm) p may some = refl
fields_are (Immediate AddicRecord d a imm) p may some = refl
fields_are (Immediate Subfic d a imm) p may some = refl
fields_are (Immediate Mulli d a imm) p may some = refl
fields_are (Load op d a imm) p may some = ap (λ t. (d == p) || t) (base_among a p some)
fields_are (Store op s a imm) p may some = ap (λ t. (s == p) || t) (base_among a p some)
fields_are (LoadIndexed op d a b) p may some = ap (λ t. (d == p) || t) (base_and_one a b p some)
fields_are (StoreIndexed op s a b) p may some = ap (λ t. (s == p) || t) (base_and_one a b p some)
fields_are (Rotate Rlwnm s a by mask_begin mask_end records) p may some = refl
fields_are (Rotate Rlwinm s a by mask_begin mask_end records) p may some = refl
fields_are (Rotate Rlwimi s a by mask_begin mask_end records) p may some = refl
fields_are (TrapImmediate to a imm) p may some = ⊎_elim (λ e. absurd cc) (λ e. absurd cc) may
fields_are (Trap to a b) p may some = ⊎_elim (λ e. absurd cc) (λ e. absurd cc) may
fields_are (Multiple op d a imm) p may some = ⊎_elim (λ e. absurd cc) (λ e. absurd cc) may
fields_are _ p may some = refl

-- the numbers from 1 on to the highest are among them
pub numbers_cover : (seen : ℕ) (ks : List ℕ) (p : ℕ) → AreNumbered seen ks → seen < p → p ≤ fold max seen ks → is_among p ks ≡ true
numbers_cover seen [] p are above within = absurd (omega (arith, above, within))
numbers_cover seen (k ∷ ks) p are above within = by_test (k == p) refl (λ lt. numbers_cover (max seen k) ks p are.3 lt within)
  where
    by_test : (b : Bool) → (k == p) ≡ b → (max seen k < p → is_among p ks ≡ true) → (b || is_among p ks) ≡ true
    by_test true e rest = refl
    by_test false e rest = let next = are.2 in rest (grind (arith, nat_tests))

up_from : (a : ℕ) (ks : List ℕ) → a ≤ fold max a ks
up_from a [] = omega arith
up_from a (x ∷ xs) = let p = le-max_left a x in let q = up_from (max a x) xs in omega (arith, p, q)

pub numbers_below : (a : ℕ) (ks : List ℕ) (p : ℕ) → is_among p ks ≡ true → p ≤ fold max a ks
numbers_below a [] p e = absurd cc
numbers_below a (x ∷ xs) p e = ⊎_elim (λ h. let s = same_number x p h in let l = le-max_right a x in let q = up_from (max a x) xs in omega (arith, s, l, q)) (λ h. numbers_below (max a x) xs p h) (either (x == p) (is_among p xs) e)

-- what stands in the fields of a word where it is laid
pub s_bound : (g : ℕ → ℕ) (i : Instr) → MayStand i → s_field (bound g i) ≡ option_map (register_field g) (s_field i)
s_bound g (Immediate op d a imm) may = refl
s_bound g _ may = refl

pub a_bound : (g : ℕ → ℕ) (i : Instr) → MayStand i → a_field (bound g i) ≡ option_map (register_field g) (a_field i)
a_bound g (TrapImmediate to a imm) may = ⊎_elim (λ e. absurd cc) (λ e. absurd cc) may
a_bound g (Trap to a b) may = ⊎_elim (λ e. absurd cc) (λ e. absurd cc) may
a_bound g _ may = refl

pub b_bound : (g : ℕ → ℕ) (i : Instr) → MayStand i → b_field (bound g i) ≡ option_map (register_field g) (b_field i)
b_bound g (Rotate Rlwnm s a by mask_begin mask_end records) may = refl
b_bound g (Rotate Rlwinm s a by mask_begin mask_end records) may = refl
b_bound g (Rotate Rlwimi s a by mask_begin mask_end records) may = refl
b_bound g (Trap to a b) may = ⊎_elim (λ e. absurd cc) (λ e. absurd cc) may
b_bound g _ may = refl

-- so the first field with the number of a parameter has its register
module _ (r : ℕ → ℕ) (p : ℕ) where
  one_field : (s : Option ℕ) → holds s p ≡ true → option_map r s ≡ Some (r p)
  one_field None e = absurd cc
  one_field (Some q) e = ap (λ x. Some (r x)) (same_number q p e)

  pub first_field : (s a b : Option ℕ) →
      (if holds s p then option_map r s else if holds a p then option_map r a else if holds b p then option_map r b else None) ≡ (if holds s p || (holds a p || (holds b p || false)) then Some (r p) else None)
  first_field s a b = by_s (holds s p) refl
    where
      by_b : (y : Bool) → holds b p ≡ y → (if y then option_map r b else None) ≡ (if y || false then Some (r p) else None)
      by_b true e = one_field b e
      by_b false e = refl

      by_a : (x : Bool) → holds a p ≡ x → (if x then option_map r a else if holds b p then option_map r b else None) ≡ (if x || (holds b p || false) then Some (r p) else None)
      by_a true e = one_field a e
      by_a false e = by_b (holds b p) refl

      by_s : (x : Bool) → holds s p ≡ x → (if x then option_map r s else if holds a p then option_map r a else if holds b p then option_map r b else None) ≡ (if x || (holds a p || (holds b p || false)) then Some (r p) else None)
      by_s true e = one_field s e
      by_s false e = by_a (holds a p) refl
