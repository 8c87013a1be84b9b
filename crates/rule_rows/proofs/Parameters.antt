-- The fields of a window's words: each is a parameter's, and what its row reads of places the word reads of the guest. This
-- project's own.
use Rattle.std.proofs.Common.{◌≡◌, ℕ, ◌+◌, ◌-◌, ◌%◌, ◌^◌, ◌<◌, ◌⊎◌, inl, inr, Bool, true, false, ◌==◌, ◌||◌, if◌then◌else◌, List, slice_get, Option, Some, None, refl, ap, ◌∙◌, subst, arith}
use Rattle.std.proofs.lemmas.Bool.Decides.{nat_tests}
use Rattle.symbolic_tiles.proofs.Registers.{extended_word}
use Rattle.machines.specs.Prelude.{IsLegal, HasOneInstruction, GuestValues, guest_row, Instr, Immediate, LogicImmediate, Load, Store, LoadUpdate, StoreUpdate, CompareImmediate, Rotate, Arithmetic, ArithmeticUnary, Logic, ShiftImmediate, LogicUnary, Compare, MoveFromCr, MoveToCr, MoveFromSpr, MoveToSpr, Sync, LoadIndexed, StoreIndexed, LoadIndexedUpdate, StoreIndexedUpdate, MoveCrField, CrLogic, Isync, BranchConditional, Addi, Addis, Addic, AddicRecord, Subfic, Mulli, Ori, Oris, Xori, Xoris, Andi, Andis, Cmpi, Cmpli, Rlwinm, Rlwnm, Rlwimi}
use Rattle.rule_body.specs.declared.goal.Goal.{Goal}
use Rattle.rule_body.specs.declared.goal.Guest.{Guest}
use Rattle.rule_body.specs.Prelude.{is_plain, is_ending, is_open, has_access, IsGuest, template_of}
use Rattle.rule_body.specs.Templates.{HasConstant}
use Rattle.rule_soundness.specs.Prelude.{Match, base_field, filled}
use Rattle.rule_soundness.specs.Fields.{a_field, b_field, s_field, immediate, Reading, Signed, Unsigned, Upper, number_read, load_width, written, read_field, read_second}
use Rattle.rule_renaming.proofs.Parameters.{is_parameter, par_from, place_back, place_in}
use Rattle.rule_renaming.proofs.Guests.{IsField, IsNamedWord}
use Rattle.rule_renaming.proofs.Bridge.{P}
use Rattle.rule_body.specs.declared.line.Hole.TheVariants.{S, Z, H}
use Rattle.place_circuits.specs.declared.constants.Number.TheVariants.{Filled}
use Rattle.place_circuits.specs.declared.sources.Source.TheVariants.{Zero, Place}
use Rattle.place_circuits.specs.Numbers.{hole_value, number_value}
use Rattle.place_circuits.specs.Sources.{source_value}
use Rattle.rule_places.specs.Guests.{ShowsGuest}
use Rattle.rule_rows.specs.Rows.{register_source, hole_of, immediate_number, second_source}

-- where there is a field, it is a parameter's
abbrev pub IsIn : List Bool → Option ℕ → Type 0
IsIn slots None = Unit {0}
IsIn slots (Some p) = is_parameter slots p ≡ true

-- the same, or 0 in the place of a base
abbrev pub IsBased : List Bool → Instr → Option ℕ → Type 0
IsBased slots i None = Unit {0}
IsBased slots i (Some p) = (is_parameter slots p ≡ true) ⊎ ((base_field i ≡ Some 0) × (p ≡ 0))

pub record HasParameters (slots : List Bool) (i : Instr) : Type 0 where
  pub a : IsBased slots i (a_field i)
  pub b : IsIn slots (b_field i)
  pub s : IsIn slots (s_field i)
  pub d_to : IsIn slots (written i).d
  pub a_to : IsIn slots (written i).a

module _ (slots : List Bool) (m : Match) where
  based : (i : Instr) (a : ℕ) → base_field i ≡ Some a → IsField m (P slots m) a → (is_parameter slots a ≡ true) ⊎ ((base_field i ≡ Some 0) × (a ≡ 0))
  based i a is (inl e) = inr (is ∙ ap Some e, e)
  based i a is (inr p) = inl p.0

  pub has_parameters : (i : Instr) → IsNamedWord m (P slots m) i → HasParameters slots i
  has_parameters (Immediate Addi d a imm) named = record { a = based (Immediate Addi d a imm) a refl named.1; b = tt; s = named.0; d_to = named.0; a_to = tt }
  has_parameters (Immediate Addis d a imm) named = record { a = based (Immediate Addis d a imm) a refl named.1; b = tt; s = named.0; d_to = named.0; a_to = tt }
  has_parameters (Immediate Addic d a imm) named = record { a = inl named.1; b = tt; s = named.0; d_to = named.0; a_to = tt }
  has_parameters (Immediate AddicRecord d a imm) named = record { a = inl named.1; b = tt; s = named.0; d_to = named.0; a_to = tt }
  has_parameters (Immediate Subfic d a imm) named = record { a = inl named.1; b = tt; s = named.0; d_to = named.0; a_to = tt }
  has_parameters (Immediate Mulli d a imm) named = record { a = inl named.1; b = tt; s = named.0; d_to = named.0; a_to = tt }
  has_parameters (LogicImmediate op s a imm) named = record { a = inl named.1; b = tt; s = named.0; d_to = tt; a_to = named.1 }
  has_parameters (CompareImmediate op field a imm) named = record { a = inl named; b = tt; s = tt; d_to = tt; a_to = tt }
  has_parameters (Rotate Rlwinm s a by mask_begin mask_end records) named = record { a = inl named.1; b = tt; s = named.0; d_to = tt; a_to = named.1 }
  has_parameters (Rotate Rlwnm s a by mask_begin mask_end records) named = record { a = inl named.1; b = named.2; s = named.0; d_to = tt; a_to = named.1 }
  has_parameters (Rotate Rlwimi s a by mask_begin mask_end records) named = record { a = inl named.1; b = tt; s = named.0; d_to = tt; a_to = named.1 }
  has_parameters (Arithmetic op d a b records) named = record { a = inl named.1; b = named.2; s = named.0; d_to = named.0; a_to = tt }
  has_parameters (ArithmeticUnary op d a records) named = record { a = inl named.1; b = tt; s = named.0; d_to = named.0; a_to = tt }
  has_parameters (Logic op s a b records) named = record { a = inl named.1; b = named.2; s = named.0; d_to = tt; a_to = named.1 }
  has_parameters (ShiftImmediate s a by records) named = record { a = inl named.1; b = tt; s = named.0; d_to = tt; a_to = named.1 }
  has_parameters (LogicUnary op s a records) named = record { a = inl named.1; b = tt; s = named.0; d_to = tt; a_to = named.1 }
  has_parameters (Compare op field a b) named = record { a = inl named.0; b = named.1; s = tt; d_to = tt; a_to = tt }
  has_parameters (MoveFromCr d) named = record { a = tt; b = tt; s = named; d_to = named; a_to = tt }
  has_parameters (MoveToCr s mask) named = record { a = tt; b = tt; s = named; d_to = tt; a_to = tt }
  has_parameters (MoveFromSpr d spr) named = record { a = tt; b = tt; s = named; d_to = named; a_to = tt }
  has_parameters (MoveToSpr s spr) named = record { a = tt; b = tt; s = named; d_to = tt; a_to = tt }
  has_parameters Sync named = record { a = tt; b = tt; s = tt; d_to = tt; a_to = tt }
  has_parameters (MoveCrField to from) named = record { a = tt; b = tt; s = tt; d_to = tt; a_to = tt }
  has_parameters (CrLogic op d a b) named = record { a = tt; b = tt; s = tt; d_to = tt; a_to = tt }
  has_parameters Isync named = record { a = tt; b = tt; s = tt; d_to = tt; a_to = tt }
  has_parameters (Load op d a imm) named = record { a = based (Load op d a imm) a refl named.1; b = tt; s = named.0; d_to = named.0; a_to = tt }
  has_parameters (Store op s a imm) named = record { a = based (Store op s a imm) a refl named.1; b = tt; s = named.0; d_to = tt; a_to = tt }
  has_parameters (LoadUpdate op d a imm) named = record { a = inl named.1; b = tt; s = named.0; d_to = named.0; a_to = named.1 }
  has_parameters (StoreUpdate op s a imm) named = record { a = inl named.1; b = tt; s = named.0; d_to = tt; a_to = named.1 }
  has_parameters (LoadIndexed op d a b) named = record { a = based (LoadIndexed op d a b) a refl named.1; b = named.2; s = named.0; d_to = named.0; a_to = tt }
  has_parameters (StoreIndexed op s a b) named = record { a = based (StoreIndexed op s a b) a refl named.1; b = named.2; s = named.0; d_to = tt; a_to = tt }
  has_parameters (LoadIndexedUpdate op d a b) named = record { a = inl named.1; b = named.2; s = named.0; d_to = named.0; a_to = named.1 }
  has_parameters (StoreIndexedUpdate op s a b) named = record { a = inl named.1; b = named.2; s = named.0; d_to = tt; a_to = named.1 }
  has_parameters (BranchConditional bo bi target absolute link) named = record { a = tt; b = tt; s = tt; d_to = tt; a_to = tt }
  has_parameters _ named = absurd named

-- the branch in which a window may end
abbrev pub IsFork : Instr → Type 0
IsFork i = (bo : ℕ) × (bi : ℕ) × (target : ℕ) × (absolute : Bool) × (i ≡ BranchConditional bo bi target absolute false)

-- a reading of another immediate
abbrev pub with_number : ℕ → Reading → Reading
with_number c (Signed imm) = Signed c
with_number c (Unsigned imm) = Unsigned c
with_number c (Upper imm) = Upper c

abbrev pub with_constant : Bool → ℕ → Option Reading → Option Reading
with_constant free c None = None
with_constant free c (Some reading) = Some (if free then with_number c reading else reading)

-- A word with its constant or its target is as the word of the rule, but for the immediate.
pub record IsFilled (free : Bool) (c : ℕ) (i found : Instr) : Type 0 where
  pub row : (v : GuestValues) → guest_row found v ≡ guest_row i v
  pub a : a_field found ≡ a_field i
  pub b : b_field found ≡ b_field i
  pub s : s_field found ≡ s_field i
  pub writes : written found ≡ written i
  pub second : (l : ℕ → ℕ) → read_second l (immediate found) (b_field found) ≡ read_second l (with_constant free c (immediate i)) (b_field i)
  pub width : load_width found ≡ load_width i
  pub access : has_access found ≡ has_access i
  pub kind : (is_plain found ≡ true) ⊎ IsFork found
  pub constant : free ≡ true → (immediate i ≡ None) ⊎ (is_open i ≡ true)

module _ (m : Match) (j : ℕ) where
  second_filled : (i : Instr) → is_open i ≡ true → (l : ℕ → ℕ) → read_second l (immediate (filled m j i)) (b_field (filled m j i)) ≡ read_second l (with_constant true (m.constant j) (immediate i)) (b_field i)
  second_filled (Immediate Addi d a imm) opens l = refl
  second_filled (Immediate Addis d a imm) opens l = refl
  second_filled (Immediate Addic d a imm) opens l = refl
  second_filled (Immediate AddicRecord d a imm) opens l = refl
  second_filled (Immediate Subfic d a imm) opens l = refl
  second_filled (Immediate Mulli d a imm) opens l = refl
  second_filled (LogicImmediate Ori s a imm) opens l = refl
  second_filled (LogicImmediate Oris s a imm) opens l = refl
  second_filled (LogicImmediate Xori s a imm) opens l = refl
  second_filled (LogicImmediate Xoris s a imm) opens l = refl
  second_filled (LogicImmediate Andi s a imm) opens l = refl
  second_filled (LogicImmediate Andis s a imm) opens l = refl
  second_filled (Load op d a imm) opens l = refl
  second_filled (Store op s a imm) opens l = refl
  second_filled (LoadUpdate op d a imm) opens l = refl
  second_filled (StoreUpdate op s a imm) opens l = refl
  second_filled (CompareImmediate Cmpi field a imm) opens l = refl
  second_filled (CompareImmediate Cmpli field a imm) opens l = refl
  second_filled _ opens l = absurd cc

  open_filled : (i : Instr) → is_open i ≡ true → IsFilled true (m.constant j) i (filled m j i)
  open_filled (Immediate op d a imm) opens = record { row = λ v. refl; a = refl; b = refl; s = refl; writes = refl; second = second_filled (Immediate op d a imm) opens; width = refl; access = refl; kind = inl refl; constant = λ e. inr opens }
  open_filled (LogicImmediate op s a imm) opens = record { row = λ v. refl; a = refl; b = refl; s = refl; writes = refl; second = second_filled (LogicImmediate op s a imm) opens; width = refl; access = refl; kind = inl refl; constant = λ e. inr opens }
  open_filled (Load op d a imm) opens = record { row = λ v. refl; a = refl; b = refl; s = refl; writes = refl; second = second_filled (Load op d a imm) opens; width = refl; access = refl; kind = inl refl; constant = λ e. inr opens }
  open_filled (Store op s a imm) opens = record { row = λ v. refl; a = refl; b = refl; s = refl; writes = refl; second = second_filled (Store op s a imm) opens; width = refl; access = refl; kind = inl refl; constant = λ e. inr opens }
  open_filled (LoadUpdate op d a imm) opens = record { row = λ v. refl; a = refl; b = refl; s = refl; writes = refl; second = second_filled (LoadUpdate op d a imm) opens; width = refl; access = refl; kind = inl refl; constant = λ e. inr opens }
  open_filled (StoreUpdate op s a imm) opens = record { row = λ v. refl; a = refl; b = refl; s = refl; writes = refl; second = second_filled (StoreUpdate op s a imm) opens; width = refl; access = refl; kind = inl refl; constant = λ e. inr opens }
  open_filled (CompareImmediate op field a imm) opens = record { row = λ v. refl; a = refl; b = refl; s = refl; writes = refl; second = second_filled (CompareImmediate op field a imm) opens; width = refl; access = refl; kind = inl refl; constant = λ e. inr opens }
  open_filled _ opens = absurd cc

  ending_filled : (Q : ℕ → Type 0) (i : Instr) → is_ending i ≡ true → IsNamedWord m Q (filled m j i) → IsFilled true (m.constant j) i (filled m j i)
  ending_filled Q (BranchConditional bo bi target absolute link) ends named = record { row = λ v. refl; a = refl; b = refl; s = refl; writes = refl; second = λ l. refl; width = refl; access = refl; kind = inr (bo, bi, m.target, m.absolute, ap (BranchConditional bo bi m.target m.absolute) named); constant = λ e. inl refl }
  ending_filled Q _ ends named = absurd cc

  same_filled : (i : Instr) → is_plain i ≡ true → IsFilled false (m.constant j) i i
  same_filled i plain = record { row = λ v. refl; a = refl; b = refl; s = refl; writes = refl; second = second (immediate i); width = refl; access = refl; kind = inl plain; constant = λ e. absurd cc }
    where
      second : (o : Option Reading) (l : ℕ → ℕ) → read_second l o (b_field i) ≡ read_second l (with_constant false (m.constant j) o) (b_field i)
      second None l = refl
      second (Some reading) l = refl

  pub word_filled : (Q : ℕ → Type 0) (guest : Guest) (i : Instr) → IsGuest guest i → IsNamedWord m Q (if guest.free then filled m j i else i) → IsFilled guest.free (m.constant j) i (if guest.free then filled m j i else i)
  word_filled Q guest i is = by_free guest.free is.row
    where
      by_open : (p q : Bool) → is_open i ≡ p → is_ending i ≡ q → (p || q) ≡ true → IsNamedWord m Q (filled m j i) → IsFilled true (m.constant j) i (filled m j i)
      by_open true q e d t named = open_filled i e
      by_open false true e d t named = ending_filled Q i d named
      by_open false false e d t named = absurd cc

      by_free : (b : Bool) → (if b then is_open i || is_ending i else is_plain i) ≡ true → IsNamedWord m Q (if b then filled m j i else i) → IsFilled b (m.constant j) i (if b then filled m j i else i)
      by_free true t named = by_open (is_open i) (is_ending i) refl refl t named
      by_free false t named = same_filled i t

open_is_no_end : (i : Instr) → is_open i ≡ true → is_ending i ≡ true → ⊥
open_is_no_end (BranchConditional bo bi target absolute link) opens ends = absurd cc
open_is_no_end _ opens ends = absurd cc

-- a free word with an immediate has a constant
pub constant_of : ((w : ℕ) → HasOneInstruction w) → (guests : List Guest) (j : ℕ) (guest : Guest) (i : Instr) → slice_get guests j ≡ Some guest → IsGuest guest i → guest.free ≡ true → is_open i ≡ true → HasConstant guests j
constant_of one guests j guest i at is free opens = (guest, at, free, λ ends. open_is_no_end i opens (subst (λ k. is_ending k ≡ true) (one guest.word ends.0 i ends.1 is.word) ends.2))

-- the immediate that a reading reads
abbrev pub FitsReading : Option Reading → Type 0
FitsReading None = Unit {0}
FitsReading (Some (Signed imm)) = imm < 2 ^ 16
FitsReading (Some (Unsigned imm)) = imm < 2 ^ 16
FitsReading (Some (Upper imm)) = imm < 2 ^ 16

pub reading_fits : (i : Instr) → IsLegal i → FitsReading (immediate i)
reading_fits (Immediate Addi d a imm) legal = legal.fit.1.1.1.0
reading_fits (Immediate Addis d a imm) legal = legal.fit.1.1.1.0
reading_fits (Immediate Addic d a imm) legal = legal.fit.1.1.1.0
reading_fits (Immediate AddicRecord d a imm) legal = legal.fit.1.1.1.0
reading_fits (Immediate Subfic d a imm) legal = legal.fit.1.1.1.0
reading_fits (Immediate Mulli d a imm) legal = legal.fit.1.1.1.0
reading_fits (LogicImmediate Ori s a imm) legal = legal.fit.1.1.1.0
reading_fits (LogicImmediate Oris s a imm) legal = legal.fit.1.1.1.0
reading_fits (LogicImmediate Xori s a imm) legal = legal.fit.1.1.1.0
reading_fits (LogicImmediate Xoris s a imm) legal = legal.fit.1.1.1.0
reading_fits (LogicImmediate Andi s a imm) legal = legal.fit.1.1.1.0
reading_fits (LogicImmediate Andis s a imm) legal = legal.fit.1.1.1.0
reading_fits (Load op d a imm) legal = legal.fit.1.1.1.0
reading_fits (Store op s a imm) legal = legal.fit.1.1.1.0
reading_fits (LoadUpdate op d a imm) legal = legal.fit.1.1.1.0
reading_fits (StoreUpdate op s a imm) legal = legal.fit.1.1.1.0
reading_fits (CompareImmediate Cmpi field a imm) legal = legal.fit.1.1.1.1.0
reading_fits (CompareImmediate Cmpli field a imm) legal = legal.fit.1.1.1.1.0
reading_fits _ legal = tt

pub number_word : (reading : Reading) → FitsReading (Some reading) → number_read reading < 2 ^ 32
number_word (Signed imm) fits = extended_word imm fits
number_word (Unsigned imm) fits = omega (arith, fits)
number_word (Upper imm) fits = omega (arith, fits)

pub constant_fits : (free : Bool) (c : ℕ) (o : Option Reading) → c < 2 ^ 16 → FitsReading o → FitsReading (with_constant free c o)
constant_fits free c None small fits = tt
constant_fits false c (Some reading) small fits = fits
constant_fits true c (Some (Signed imm)) small fits = small
constant_fits true c (Some (Unsigned imm)) small fits = small
constant_fits true c (Some (Upper imm)) small fits = small

-- what is read of places that show a guest
module _ (goal : Goal) (m : Match) (locs t : ℕ → ℕ) (shows : ShowsGuest goal m locs t) where
  abbrev slots : List Bool
  slots = (template_of goal).slots

  of_parameter : (p : ℕ) → is_parameter slots p ≡ true → source_value (register_source (Some p)) t ≡ locs p
  of_parameter p is = by_test (p == 0) refl
    where
      by_test : (b : Bool) → (p == 0) ≡ b → source_value (if b then Zero else Place (p - 1)) t ≡ locs p
      by_test true e = let f = par_from slots p is in absurd (grind (arith, nat_tests))
      by_test false e = shows.parameters (p - 1) (place_in slots p is) ∙ ap locs (place_back slots p is)

  pub of_field : (field : Option ℕ) → IsIn slots field → source_value (register_source field) t ≡ read_field locs field
  of_field None is = refl
  of_field (Some p) is = of_parameter p is

  pub of_base : (i : Instr) (field : Option ℕ) → IsBased slots i field → (source_value (register_source field) t ≡ read_field locs field) ⊎ (base_field i ≡ Some 0)
  of_base i None is = inl refl
  of_base i (Some p) (inl is) = inl (of_parameter p is)
  of_base i (Some p) (inr e) = inr e.0

  of_number : (j : ℕ) (free : Bool) (reading : Reading) → m.constant j < 2 ^ 16 → (free ≡ true → t (20 + j) ≡ m.constant j) → number_value (immediate_number j free reading) t ≡ number_read (if free then with_number (m.constant j) reading else reading)
  of_number j false reading small is = refl
  of_number j true reading small is = by_reading reading
    where
      same : t (20 + j) % 2 ^ 16 ≡ m.constant j
      same = let e = is refl in omega (arith, e, small)

      by_reading : (reading : Reading) → number_value (Filled (hole_of reading) (20 + j)) t ≡ number_read (with_number (m.constant j) reading)
      by_reading (Signed imm) = ap (hole_value S) same
      by_reading (Unsigned imm) = ap (hole_value Z) same
      by_reading (Upper imm) = ap (hole_value H) same

  pub of_second : (j : ℕ) (free : Bool) (o : Option Reading) (field : Option ℕ) → IsIn slots field → m.constant j < 2 ^ 16 → ((reading : Reading) → o ≡ Some reading → free ≡ true → t (20 + j) ≡ m.constant j) →
      source_value (second_source j free o field) t ≡ read_second locs (with_constant free (m.constant j) o) field
  of_second j free None field is small has = of_field field is
  of_second j free (Some reading) field is small has = of_number j free reading small (has reading refl)
