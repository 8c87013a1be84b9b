-- A rule matches at words of memory only where there is a binding. This project's own.
use Rattle.std.proofs.Common.{◌≡◌, ◌≢◌, ℕ, zero, suc, ◌+◌, ◌^◌, ◌<◌, ◌≤◌, ⊎_elim, ◌==◌, nat_lt, not, bit_and, if◌then◌else◌, Bool, true, false, List, [], ◌∷◌, Contains, take, length, get_or, slice_get, Option, Some, None, IfNone, IsBitSet, refl, sym, ap, ◌∙◌, subst, arith}
use Rattle.std.specs.List.{flat_map}
use Rattle.std.proofs.lemmas.Bool.{cases_lt}
use Rattle.std.proofs.lemmas.Bool.Decides.{nat_tests}
use Rattle.std.proofs.lemmas.List.{get_or-take, get_or_past, length-take-le}
use Rattle.std.proofs.lemmas.Option.{slice_get_within}
use Rattle.machines.specs.Prelude.{Locs, Map, HasOneInstruction, Instr, ebx, esi, edi, locations_written}
use Rattle.reg_map.specs.Prelude.{holds, slot_of}
use Rattle.rule_body.specs.declared.rule.Rule.{Rule}
use Rattle.rule_body.specs.Prelude.{IsGoal, guests_of, named, IsPlaced, slot_count}
use Rattle.rule_soundness.specs.Prelude.{Match, base_field, register_field, slot_register, is_dead_name, location_named, IsMatchAt, laid_words}
use Rattle.rule_soundness.specs.Laid.{Matches}
use Rattle.rule_soundness.specs.Fields.{s_field, a_field, b_field}
use Rattle.rule_match.specs.declared.binding.Binding.{Binding}
use Rattle.rule_match.specs.Bindings.{gpr_of, match_of}
use Rattle.rule_match.specs.Matching.{is_in, IsBindingAt, AreGprs}
use Rattle.rule_match.specs.SlotNumbers.{AreSlotNumbers}
use Rattle.rule_match.proofs.FieldNumbers.{has_field, equal_number, or_left, or_right, fields_are}
use Rattle.rule_match.proofs.LaidInstr.{SameFields}
use Rattle.rule_match.proofs.SlotCounts.{count_within}
use Rattle.rule_match.proofs.Windows.{none_or_some, laid_split, laid_lengths, word_lengths}
use Rattle.rule_match.proofs.WrittenNumbers.{written_numbers}
use Rattle.rule_match.proofs.Pieces.{joined, dead_names, gpr_at, base_has, among_at, stands_at, guests_are, among_parameters}

-- the first six numbers and the first three
abbrev six : (ℕ → ℕ) → List ℕ
six f = f 0 ∷ f 1 ∷ f 2 ∷ f 3 ∷ f 4 ∷ f 5 ∷ []

abbrev three : (ℕ → ℕ) → List ℕ
three f = f 0 ∷ f 1 ∷ f 2 ∷ []

six_at : (f : ℕ → ℕ) (k : ℕ) → k < 6 → get_or (six f) k 0 ≡ f k
six_at f zero lt = refl
six_at f (suc zero) lt = refl
six_at f (suc (suc zero)) lt = refl
six_at f (suc (suc (suc zero))) lt = refl
six_at f (suc (suc (suc (suc zero)))) lt = refl
six_at f (suc (suc (suc (suc (suc zero))))) lt = refl
six_at f (suc (suc (suc (suc (suc (suc k)))))) lt = absurd (omega (arith, lt))

three_at : (f : ℕ → ℕ) (k : ℕ) → k < 3 → get_or (three f) k 0 ≡ f k
three_at f zero lt = refl
three_at f (suc zero) lt = refl
three_at f (suc (suc zero)) lt = refl
three_at f (suc (suc (suc k))) lt = absurd (omega (arith, lt))

-- a number below a count, 0 past it
abbrev up_to : ℕ → (ℕ → ℕ) → ℕ → ℕ
up_to n f k = if nat_lt k n then f k else 0

less : (k n : ℕ) → k < n → nat_lt k n ≡ true
less k n lt = grind (arith, nat_tests)

not_less : (k n : ℕ) → n ≤ k → nat_lt k n ≡ false
not_less k n ge = grind (arith, nat_tests)

up_to_is : (n : ℕ) (f : ℕ → ℕ) (k : ℕ) → k < n → up_to n f k ≡ f k
up_to_is n f k lt = ap (λ b. if b then f k else 0) (less k n lt)

up_to_past : (n : ℕ) (f : ℕ → ℕ) (k : ℕ) → n ≤ k → up_to n f k ≡ 0
up_to_past n f k ge = ap (λ b. if b then f k else 0) (not_less k n ge)

-- the number of the slot with a register
abbrev slot_number : ℕ → ℕ
slot_number r = if r == ebx then 0 else if r == esi then 1 else 2

number_below : (r : ℕ) → slot_number r < 3
number_below r = by_tests (r == ebx) (r == esi)
  where
    by_tests : (a b : Bool) → (if a then 0 else if b then 1 else 2) < 3
    by_tests true b = omega arith
    by_tests false true = omega arith
    by_tests false false = omega arith

its_number : (map : Map) (g r : ℕ) → slot_of map g ≡ Some r → slot_register (slot_number r) ≡ r
its_number map g r = by_tests (holds map.ebx g) (holds map.esi g) (holds map.edi g)
  where
    by_tests : (a b c : Bool) → (if a then Some ebx else if b then Some esi else if c then Some edi else None) ≡ Some r → slot_register (slot_number r) ≡ r
    by_tests true b c e = let h : ebx ≡ r = cc in subst (λ x. slot_register (slot_number x) ≡ x) h refl
    by_tests false true c e = let h : esi ≡ r = cc in subst (λ x. slot_register (slot_number x) ≡ x) h refl
    by_tests false false true e = let h : edi ≡ r = cc in subst (λ x. slot_register (slot_number x) ≡ x) h refl
    by_tests false false false e = absurd cc

is_some_bit : (n k : ℕ) → not (bit_and n (2 ^ k) == 0) ≡ true → IsBitSet n k
is_some_bit n k e z = by_test (bit_and n (2 ^ k) == 0) (equal_number (bit_and n (2 ^ k)) 0 z) e
  where
    by_test : (b : Bool) → b ≡ true → not b ≡ true → ⊥
    by_test true t e = cc
    by_test false t e = cc

module _ (rule : Rule) (memory : List ℕ) (map : Map) (dead : Locs) (is_goal : IsGoal rule.goal) (one : (w : ℕ) → HasOneInstruction w) (lengths : (length rule.goal.words ≡ 3) × (length rule.goal.free ≡ 3) × (length rule.goal.slots ≡ 6)) (m : Match) where
  abbrev slots : List Bool
  slots = take rule.goal.parameters rule.goal.slots

  abbrev placed : IsPlaced (guests_of rule.goal) slots
  placed = is_goal.template.placed

  few : rule.goal.parameters ≤ 6
  few = is_goal.tidy.parameters

  slots_are : length slots ≡ rule.goal.parameters
  slots_are = let l = lengths.2 in length-take-le rule.goal.parameters rule.goal.slots (omega (arith, l, few))

  -- its parameters and its slots
  abbrev gpr : ℕ → ℕ
  gpr k = m.gpr (k + 1)

  abbrev number : ℕ → ℕ
  number n = slot_number (m.register (slot_register n))

  abbrev its : Binding
  its = record { gpr = six (up_to rule.goal.parameters gpr); slot = three (up_to (slot_count slots) number) }

  gpr_is : (k : ℕ) → k < rule.goal.parameters → get_or its.gpr k 0 ≡ m.gpr (k + 1)
  gpr_is k lt = six_at (up_to rule.goal.parameters gpr) k (omega (arith, lt, few)) ∙ up_to_is rule.goal.parameters gpr k lt

  same_gpr : (p : ℕ) → p ≢ 0 → p ≤ rule.goal.parameters → m.gpr p ≡ gpr_of its p
  same_gpr zero some le = absurd (some refl)
  same_gpr (suc k) some le =
      let more : k + 1 ≡ suc k = omega arith in
      subst (λ q. m.gpr q ≡ gpr_of its q) more (sym (gpr_is k (omega (arith, le))) ∙ sym (gpr_at its k))

  -- the location of a dead name is the same
  same_location : (k : ℕ) → k < 20 → is_dead_name rule.goal k ≡ true → location_named m k ≡ location_named (match_of [] its) k
  same_location k lt e = by_test (nat_lt k 6) refl
    where
      low : nat_lt k 6 ≡ true → k < 6
      low t = grind (arith, nat_tests)

      parameter : nat_lt k 6 ≡ true → m.gpr (k + 1) ≡ gpr_of its (k + 1)
      parameter t =
          let six = low t in
          let is : named k ≡ k + 1 = ap (λ b. if b then k + 1 else k + 26) t in
          let written = subst (λ x. Contains (flat_map locations_written placed.window) x) is (is_goal.template.written k lt (is_some_bit rule.goal.dead.bits k e)) in
          let among = written_numbers (k + 1) (omega (arith, six)) (guests_of rule.goal) placed.window placed.is.words written in
          same_gpr (k + 1) (λ z. omega (arith, z)) (among_parameters rule memory map dead is_goal one lengths placed.window placed.is.words (k + 1) among)

      by_test : (b : Bool) → nat_lt k 6 ≡ b → location_named m k ≡ location_named (match_of [] its) k
      by_test true t = ap (λ b. if b then m.gpr (k + 1) else named k) t ∙ parameter t ∙ sym (ap (λ b. if b then gpr_of its (k + 1) else named k) t)
      by_test false t = ap (λ b. if b then m.gpr (k + 1) else named k) t ∙ sym (ap (λ b. if b then gpr_of its (k + 1) else named k) t)

  module _ (matches : Matches rule memory map (is_in dead) m) where
    abbrev words : List Instr
    words = matches.0

    abbrev found : List Instr
    found = matches.1

    abbrev at : IsMatchAt rule words found map (is_in dead) m
    at = matches.3

    gpr_in_field : (n : ℕ) (i : Instr) (p : ℕ) → slice_get words n ≡ Some i → p ≢ 0 → has_field i p ≡ true → m.gpr p ≡ gpr_of its p
    gpr_in_field n i p e some has =
        let may = stands_at (guests_of rule.goal) words n i at.window.words e in
        same_gpr p some (among_parameters rule memory map dead is_goal one lengths words at.window.words p (among_at words n p i e (fields_are i p may some ∙ has)))

    same_register : (n : ℕ) (i : Instr) (p : ℕ) → slice_get words n ≡ Some i → (p ≢ 0 → has_field i p ≡ true) → register_field m.gpr p ≡ register_field (gpr_of its) p
    same_register n i p e has = by_test (p == 0) refl
      where
        by_test : (b : Bool) → (p == 0) ≡ b → (if b then 0 else m.gpr p) ≡ (if b then 0 else gpr_of its p)
        by_test true t = refl
        by_test false t = let some : p ≢ 0 = λ z. grind (arith, nat_tests) in gpr_in_field n i p e some (has some)

    held : (x : Option ℕ) (p : ℕ) → x ≡ Some p → holds x p ≡ true
    held x p e = ap (λ y. holds y p) e ∙ equal_number p p refl

    same_fields : (n : ℕ) (i : Instr) → slice_get words n ≡ Some i → SameFields m.gpr (gpr_of its) i
    same_fields n i e = record {
      s = λ p h. same_register n i p e (λ some. or_left (holds (s_field i) p) _ (held (s_field i) p h));
      a = λ p h. same_register n i p e (λ some. or_right (holds (s_field i) p) _ (or_left (holds (a_field i) p) _ (held (a_field i) p h)));
      b = λ p h. same_register n i p e (λ some. or_right (holds (s_field i) p) _ (or_right (holds (a_field i) p) _ (or_left (holds (b_field i) p) false (held (b_field i) p h))));
    }

    base_some : (n : ℕ) (i : Instr) → slice_get words n ≡ Some i → (p : ℕ) → base_field i ≡ Some p → p ≢ 0 → gpr_of its p ≢ 0
    base_some n i e p base some = subst (λ g. g ≢ 0) (gpr_in_field n i p e some (base_has i p base)) (its_base p base some)
      where
        its_base : (p : ℕ) → base_field i ≡ Some p → p ≢ 0 → m.gpr p ≢ 0
        its_base zero base some = absurd (some refl)
        its_base (suc k) base some =
            let may = stands_at (guests_of rule.goal) words n i at.window.words e in
            let le = among_parameters rule memory map dead is_goal one lengths words at.window.words (suc k) (among_at words n (suc k) i e (fields_are i (suc k) may some ∙ base_has i (suc k) base)) in
            let more : k + 1 ≡ suc k = omega arith in
            subst (λ q. m.gpr q ≢ 0) more (at.fits.bases k n i e (omega (arith, le, slots_are)) (base ∙ ap (λ (q : ℕ). Some q) (sym more)))

    apart : (j k : ℕ) → j < k → k < length (take rule.goal.parameters its.gpr) → get_or (take rule.goal.parameters its.gpr) j 0 ≢ get_or (take rule.goal.parameters its.gpr) k 0
    apart j k lt within e =
        let taken : length (take rule.goal.parameters its.gpr) ≡ rule.goal.parameters = length-take-le rule.goal.parameters its.gpr few in
        let jn : j < rule.goal.parameters = omega (arith, lt, within, taken) in
        let kn : k < rule.goal.parameters = omega (arith, within, taken) in
        let same = at.fits.apart j k (omega (arith, jn, slots_are)) (omega (arith, kn, slots_are))
        (sym (gpr_is j jn) ∙ sym (get_or-take rule.goal.parameters its.gpr j 0 jn) ∙ e ∙ get_or-take rule.goal.parameters its.gpr k 0 kn ∙ gpr_is k kn) in
        omega (arith, same, lt)

    in_slot : (k : ℕ) → slice_get slots k ≡ Some true → slot_of map (get_or its.gpr k 0) ≡ Some (slot_register (get_or its.slot (slot_count (take k slots)) 0))
    in_slot k e =
        let lt = slice_get_within slots k true e in
        let count = count_within slots k e in
        let most = placed.few in
        let n = slot_count (take k slots) in
        let fits = at.fits.in_slots k e in
        ap (slot_of map) (gpr_is k (omega (arith, lt, slots_are))) ∙ fits
        ∙ ap (λ (r : ℕ). Some r) (sym (its_number map (m.gpr (k + 1)) (m.register (slot_register n)) fits) ∙ ap slot_register (sym (three_at (up_to (slot_count slots) number) n (omega (arith, count, most)) ∙ up_to_is (slot_count slots) number n count)))

    slots_fit : AreSlotNumbers slots map its.gpr its.slot
    slots_fit = record {
      three = refl;
      below = λ k. ⊎_elim (λ lt. subst (λ x. x < 3) (sym (three_at (up_to (slot_count slots) number) k lt)) (small k)) (λ ge. subst (λ x. x < 3) (sym (get_or_past its.slot k 0 ge)) (omega arith)) (cases_lt k 3);
      past = λ k le. ⊎_elim (λ lt. three_at (up_to (slot_count slots) number) k lt ∙ up_to_past (slot_count slots) number k le) (λ ge. get_or_past its.slot k 0 ge) (cases_lt k 3);
      in_slots = in_slot;
      at_home = λ k e. let lt = slice_get_within slots k false e in ap (slot_of map) (gpr_is k (omega (arith, lt, slots_are))) ∙ at.fits.at_home k e;
    }
      where
        small : (k : ℕ) → up_to (slot_count slots) number k < 3
        small k = by_test (nat_lt k (slot_count slots))
          where
            by_test : (b : Bool) → (if b then number k else 0) < 3
            by_test true = number_below (m.register (slot_register k))
            by_test false = omega arith

    gprs_fit : AreGprs rule.goal.parameters its.gpr
    gprs_fit k six = (
      ⊎_elim (λ lt. subst (λ x. x < 32) (sym (gpr_is k lt)) (at.fits.gprs k (omega (arith, lt, slots_are)))) (λ ge. subst (λ x. x < 32) (sym (past ge)) (omega arith)) (cases_lt k rule.goal.parameters),
      past,
    )
      where
        past : rule.goal.parameters ≤ k → get_or its.gpr k 0 ≡ 0
        past ge = six_at (up_to rule.goal.parameters gpr) k six ∙ up_to_past rule.goal.parameters gpr k ge

    -- a match gives a binding
    pub binding_of : (b : Binding) × IsBindingAt rule memory map dead b
    binding_of = (
      its,
      joined rule memory map dead is_goal one lengths its refl at.is_map
          (record {
            many =
                let w = word_lengths memory found matches.2 in
                let l = laid_lengths m 0 (guests_of rule.goal) words at.window.words in
                let s : length (laid_words m 0 (guests_of rule.goal) words) ≡ length found = ap length at.same in
                let g = guests_are rule memory map dead is_goal one lengths in
                omega (arith, w, l, s, g);
            gprs = gprs_fit;
            apart = apart;
            slots = slots_fit;
            words = laid_split m its 0 (guests_of rule.goal) words found memory at.window.words matches.2 at.same (λ n i e. record { fields = same_fields n i e; base = base_some n i e });
            names = λ k lt e. subst (λ x. is_in dead x ≡ true) (same_location k lt e) (dead_names rule.goal m (is_in dead) at.unneeded k lt e);
          }),
    )

-- so where no binding matches there is no match
pub no_match : (rule : Rule) (memory : List ℕ) (map : Map) (dead : Locs) → IsGoal rule.goal → ((w : ℕ) → HasOneInstruction w) → (length rule.goal.words ≡ 3) × (length rule.goal.free ≡ 3) × (length rule.goal.slots ≡ 6)
    → {answer : Option Binding} → ((b : Binding) → IsBindingAt rule memory map dead b → answer ≡ Some b) → IfNone answer ((m : Match) → Matches rule memory map (is_in dead) m → ⊥)
no_match rule memory map dead is_goal one lengths {answer = Some b} only = tt
no_match rule memory map dead is_goal one lengths {answer = None} only = λ m matches. let b = binding_of rule memory map dead is_goal one lengths m matches in none_or_some b.0 (only b.0 b.1)
