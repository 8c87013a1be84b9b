-- A binding under which a rule matches, piece by piece. This project's own.
use Rattle.std.proofs.Common.{◌≡◌, ◌≢◌, ℕ, zero, suc, ◌+◌, ◌-◌, ◌<◌, ◌≤◌, ⊎_elim, ◌==◌, ◌&&◌, ◌||◌, Bool, true, false, List, [], ◌∷◌, take, length, get_or, slice_get, Some, refl, sym, ap, ◌∙◌, subst, arith}
use Rattle.std.specs.List.{flat_map, list_any, range_with_len}
use Rattle.std.proofs.lemmas.Bool.{cases_lt}
use Rattle.std.proofs.lemmas.List.{get_or-take, get_or_past, length-take-le}
use Rattle.machines.specs.Prelude.{Locs, Map, HasOneInstruction, IsMap, Instr, Immediate, Load, Store, LoadIndexed, StoreIndexed, Addi, Addis}
use Rattle.reg_map.specs.Prelude.{slot_of}
use Rattle.rule_body.specs.declared.goal.Goal.{Goal}
use Rattle.rule_body.specs.declared.goal.Guest.{Guest}
use Rattle.rule_body.specs.declared.rule.Rule.{Rule}
use Rattle.rule_body.specs.Prelude.{IsGoal, guests_of, numbers, highest, AreGuests, IsPlaced, slot_count}
use Rattle.rule_body.proofs.Guests.{length-guests}
use Rattle.rule_soundness.specs.Prelude.{Match, base_field, slot_register, laid_words, is_dead_name, location_named, dead_of}
use Rattle.rule_match.specs.declared.binding.Binding.{Binding}
use Rattle.rule_match.specs.Bindings.{constant_at, gpr_of, match_of}
use Rattle.rule_match.specs.Matching.{is_in, IsBindingAt, AreLaidWords, AreGprs, register_read}
use Rattle.rule_match.specs.SlotNumbers.{AreSlotNumbers}
use Rattle.rule_match.proofs.FieldNumbers.{is_among, has_field, MayStand, same_number, equal_number, either, or_left, or_right, among_append, fields_are, numbers_cover, numbers_below}
use Rattle.rule_match.proofs.LaidInstr.{SameFields}
use Rattle.rule_match.proofs.SlotCounts.{slot_back, count_within, same_lists, same_numbers}
use Rattle.rule_match.proofs.Windows.{may_stand, one_window, found_of, laid_whole, laid_split, laid_lengths, word_lengths, constants_fit, read_laid}

both_true : (a b : Bool) → (a && b) ≡ true → (a ≡ true) × (b ≡ true)
both_true true b e = (refl, e)
both_true false b e = absurd cc

true_both : (a b : Bool) → a ≡ true → b ≡ true → (a && b) ≡ true
true_both true b e d = d
true_both false b e d = absurd cc

any_in_range : (p : ℕ → Bool) (a n : ℕ) → list_any p (range_with_len a n) ≡ true → (k : ℕ) × (k < a + n) × (p k ≡ true)
any_in_range p a zero e = absurd cc
any_in_range p a (suc n) e =
    ⊎_elim (λ h. (a, omega arith, h)) (λ h. let r = any_in_range p (a + 1) n h in let lt = r.1 in (r.0, omega (arith, lt), r.2)) (either (p a) (list_any p (range_with_len (a + 1) n)) e)

in_range_any : (p : ℕ → Bool) (a n k : ℕ) → a ≤ k → k < a + n → p k ≡ true → list_any p (range_with_len a n) ≡ true
in_range_any p a zero k ge lt e = absurd (omega (arith, ge, lt))
in_range_any p a (suc n) k ge lt e =
    ⊎_elim (λ less. or_right (p a) (list_any p (range_with_len (a + 1) n)) (in_range_any p (a + 1) n k (omega (arith, less)) (omega (arith, lt)) e))
    (λ le. or_left (p a) (list_any p (range_with_len (a + 1) n)) (let same : k ≡ a = omega (arith, le, ge) in subst (λ x. p x ≡ true) same e)) (cases_lt a k)

-- each dead name is dead where each dead location is
module _ (goal : Goal) (m : Match) (set : ℕ → Bool) where
  pub names_dead : ((k : ℕ) → k < 20 → is_dead_name goal k ≡ true → set (location_named m k) ≡ true) → (x : ℕ) → dead_of goal m x ≡ true → set x ≡ true
  unfolding dead_of
  names_dead each x dead =
      let r = any_in_range (λ k. is_dead_name goal k && location_named m k == x) 0 20 dead in
      let b = both_true (is_dead_name goal r.0) (location_named m r.0 == x) r.2 in
      let lt = r.1 in
      subst (λ y. set y ≡ true) (same_number (location_named m r.0) x b.1) (each r.0 (omega (arith, lt)) b.0)

  pub dead_names : ((x : ℕ) → dead_of goal m x ≡ true → set x ≡ true) → (k : ℕ) → k < 20 → is_dead_name goal k ≡ true → set (location_named m k) ≡ true
  unfolding dead_of
  dead_names each k lt e =
      each (location_named m k) (in_range_any (λ j. is_dead_name goal j && location_named m j == location_named m k) 0 20 k (omega arith) (omega (arith, lt))
      (true_both (is_dead_name goal k) (location_named m k == location_named m k) e (equal_number (location_named m k) (location_named m k) refl)))

-- the field of a base is a register field
pub base_has : (i : Instr) (p : ℕ) → base_field i ≡ Some p → has_field i p ≡ true
base_has (Immediate Addi d a imm) p e = let h : a ≡ p = cc in or_right (d == p) _ (or_left (a == p) _ (equal_number a p h))
base_has (Immediate Addis d a imm) p e = let h : a ≡ p = cc in or_right (d == p) _ (or_left (a == p) _ (equal_number a p h))
base_has (Load op d a imm) p e = let h : a ≡ p = cc in or_right (d == p) _ (or_left (a == p) _ (equal_number a p h))
base_has (Store op s a imm) p e = let h : a ≡ p = cc in or_right (s == p) _ (or_left (a == p) _ (equal_number a p h))
base_has (LoadIndexed op d a b) p e = let h : a ≡ p = cc in or_right (d == p) _ (or_left (a == p) _ (equal_number a p h))
base_has (StoreIndexed op s a b) p e = let h : a ≡ p = cc in or_right (s == p) _ (or_left (a == p) _ (equal_number a p h))
base_has _ p e = absurd cc

pub among_at : (is : List Instr) (j p : ℕ) (i : Instr) → slice_get is j ≡ Some i → is_among p (numbers i) ≡ true → is_among p (flat_map numbers is) ≡ true
among_at [] j p i e among = absurd cc
among_at (h ∷ is) zero p i e among =
    let s : i ≡ h = cc in
    among_append p (numbers h) (flat_map numbers is) ∙ or_left (is_among p (numbers h)) (is_among p (flat_map numbers is)) (ap (λ x. is_among p (numbers x)) (sym s) ∙ among)
among_at (h ∷ is) (suc j) p i e among =
    among_append p (numbers h) (flat_map numbers is) ∙ or_right (is_among p (numbers h)) (is_among p (flat_map numbers is)) (among_at is j p i e among)

pub stands_at : (gs : List Guest) (is : List Instr) (j : ℕ) (i : Instr) → AreGuests gs is → slice_get is j ≡ Some i → MayStand i
stands_at [] [] j i are e = absurd cc
stands_at [] (h ∷ is) j i are e = absurd are
stands_at (g ∷ gs) [] j i are e = absurd are
stands_at (g ∷ gs) (h ∷ is) zero i are e = let s : h ≡ i = cc in subst MayStand s (may_stand g h are.0)
stands_at (g ∷ gs) (h ∷ is) (suc j) i are e = stands_at gs is j i are.1 e

pub gpr_at : (b : Binding) (k : ℕ) → gpr_of b (k + 1) ≡ get_or b.gpr k 0
gpr_at b k = ap (λ n. get_or b.gpr n 0) (omega arith)

abbrev pub binding : List ℕ → List ℕ → Binding
binding gprs numbers = record { gpr = gprs; slot = numbers }

pub record ArePieces (rule : Rule) (memory : List ℕ) (map : Map) (dead : Locs) (b : Binding) : Type 0 where
  pub many : length memory ≡ rule.goal.count
  pub gprs : AreGprs rule.goal.parameters b.gpr
  pub apart : (j k : ℕ) → j < k → k < length (take rule.goal.parameters b.gpr) → get_or (take rule.goal.parameters b.gpr) j 0 ≢ get_or (take rule.goal.parameters b.gpr) k 0
  pub slots : AreSlotNumbers (take rule.goal.parameters rule.goal.slots) map b.gpr b.slot
  pub words : AreLaidWords b (guests_of rule.goal) memory
  pub names : (k : ℕ) → k < 20 → is_dead_name rule.goal k ≡ true → is_in dead (location_named (match_of [] b) k) ≡ true

module _ (rule : Rule) (memory : List ℕ) (map : Map) (dead : Locs) (is_goal : IsGoal rule.goal) (one : (w : ℕ) → HasOneInstruction w) (lengths : (length rule.goal.words ≡ 3) × (length rule.goal.free ≡ 3) × (length rule.goal.slots ≡ 6)) where
  abbrev slots : List Bool
  slots = take rule.goal.parameters rule.goal.slots

  placed : IsPlaced (guests_of rule.goal) slots
  placed = is_goal.template.placed

  six : rule.goal.parameters ≤ 6
  six = is_goal.tidy.parameters

  slots_are : length slots ≡ rule.goal.parameters
  slots_are = let l = lengths.2 in length-take-le rule.goal.parameters rule.goal.slots (omega (arith, l, six))

  pub guests_are : length (guests_of rule.goal) ≡ rule.goal.count
  guests_are = let count = is_goal.tidy.count in let w = lengths.0 in let f = lengths.1 in length-guests rule.goal.words rule.goal.free rule.goal.count (omega (arith, count, w)) (omega (arith, w, f))

  -- the numbers of the words are those of the parameters
  pub among_parameters : (words : List Instr) → AreGuests (guests_of rule.goal) words → (p : ℕ) → is_among p (flat_map numbers words) ≡ true → p ≤ rule.goal.parameters
  among_parameters words are p e =
      let same = one_window one (guests_of rule.goal) words placed.window are placed.is.words in
      let n = numbers_below 0 (flat_map numbers placed.window) p (ap (λ is. is_among p (flat_map numbers is)) (sym same) ∙ e) in
      let h = placed.parameters in
      omega (arith, n, h, slots_are)

  module _ (b : Binding) (gprs_six : length b.gpr ≡ 6) where
    taken : length (take rule.goal.parameters b.gpr) ≡ rule.goal.parameters
    taken = length-take-le rule.goal.parameters b.gpr (omega (arith, gprs_six, six))

    below : ArePieces rule memory map dead b → (k : ℕ) → k < 6 → gpr_of b (k + 1) < 32
    below p k lt = subst (λ x. x < 32) (sym (gpr_at b k)) (p.gprs k lt).0

    past : ArePieces rule memory map dead b → (k : ℕ) → rule.goal.parameters ≤ k → get_or b.gpr k 0 ≡ 0
    past p k ge = ⊎_elim (λ lt. (p.gprs k lt).1 ge) (λ far. get_or_past b.gpr k 0 (omega (arith, far, gprs_six))) (cases_lt k 6)

    same_gpr : ArePieces rule memory map dead b → (j k : ℕ) → j < rule.goal.parameters → k < rule.goal.parameters → gpr_of b (j + 1) ≡ gpr_of b (k + 1) → j ≡ k
    same_gpr p j k jn kn e = ⊎_elim (λ lt. absurd (unlike j k lt kn e)) (λ ge. ⊎_elim (λ lt. absurd (unlike k j lt jn (sym e))) (λ le. omega (arith, le, ge)) (cases_lt k j)) (cases_lt j k)
      where
        unlike : (j k : ℕ) → j < k → k < rule.goal.parameters → gpr_of b (j + 1) ≡ gpr_of b (k + 1) → ⊥
        unlike j k lt within e =
            p.apart j k lt (omega (arith, within, taken))
            (get_or-take rule.goal.parameters b.gpr j 0 (omega (arith, lt, within)) ∙ sym (gpr_at b j) ∙ e ∙ gpr_at b k ∙ sym (get_or-take rule.goal.parameters b.gpr k 0 within))

    back : (k : ℕ) → slice_get slots k ≡ Some true → slot_register (get_or b.slot (slot_count (take k slots)) 0) ≡ (match_of [] b).register (slot_register (slot_count (take k slots)))
    back k e =
        let lt = count_within slots k e in let few = placed.few in
        ap (λ n. slot_register (get_or b.slot n 0)) (sym (slot_back (slot_count (take k slots)) (omega (arith, lt, few))))

    -- from the pieces to the binding
    pub joined : IsMap map → ArePieces rule memory map dead b → IsBindingAt rule memory map dead b
    joined is_map p =
        let f = found_of one b (guests_of rule.goal) placed.window memory placed.is.words p.words in
        record {
          tidy = record { six = gprs_six; three = p.slots.three; gprs = past p; numbers = p.slots.below; slots = p.slots.past };
          words = placed.window;
          found = f.found;
          are = f.are;
          matches = record {
            is_map = is_map;
            window = placed.is;
            fits = record {
              gprs = λ k lt. below p k (omega (arith, lt, slots_are, six));
              apart = λ j k jn kn e. same_gpr p j k (omega (arith, jn, slots_are)) (omega (arith, kn, slots_are)) e;
              bases = λ k j i at lt base. f.bases j i (k + 1) at base (λ z. omega (arith, z));
              in_slots = λ k e. ap (slot_of map) (gpr_at b k) ∙ p.slots.in_slots k e ∙ ap (λ (r : ℕ). Some r) (back k e);
              at_home = λ k e. ap (slot_of map) (gpr_at b k) ∙ p.slots.at_home k e;
              constants = constants_fit memory f.found f.are;
            };
            same = laid_whole b f.found 0 (guests_of rule.goal) placed.window f.found placed.is.words placed.is.straight f.same (λ k. ap (constant_at f.found) (omega arith)) refl refl;
            unneeded = names_dead rule.goal (match_of f.found b) (is_in dead) p.names;
          };
        }

  module _ (b : Binding) (at : IsBindingAt rule memory map dead b) where
    base_some : (n : ℕ) (i : Instr) → slice_get at.words n ≡ Some i → (p : ℕ) → base_field i ≡ Some p → p ≢ 0 → gpr_of b p ≢ 0
    base_some n i e zero base some = absurd (some refl)
    base_some n i e (suc k) base some =
        let may = stands_at (guests_of rule.goal) at.words n i at.matches.window.words e in
        let le = among_parameters at.words at.matches.window.words (suc k) (among_at at.words n (suc k) i e (fields_are i (suc k) may some ∙ base_has i (suc k) base)) in
        let more : k + 1 ≡ suc k = omega arith in
        subst (λ q. gpr_of b q ≢ 0) more (at.matches.fits.bases k n i e (omega (arith, le, slots_are)) (base ∙ ap (λ (q : ℕ). Some q) (sym more)))

    same_fields : (i : Instr) → SameFields (gpr_of b) (gpr_of b) i
    same_fields i = record { s = λ p e. refl; a = λ p e. refl; b = λ p e. refl }

    -- and back
    pub pieces : ArePieces rule memory map dead b
    pieces =
        record {
          many =
              let w = word_lengths memory at.found at.are in
              let l = laid_lengths (match_of at.found b) 0 (guests_of rule.goal) at.words at.matches.window.words in
              let s : length (laid_words (match_of at.found b) 0 (guests_of rule.goal) at.words) ≡ length at.found = ap length at.matches.same in
              omega (arith, w, l, s, guests_are);
          gprs = λ k lt. (⊎_elim (λ within. subst (λ x. x < 32) (gpr_at b k) (at.matches.fits.gprs k (omega (arith, within, slots_are)))) (λ ge. let z = at.tidy.gprs k ge in omega (arith, z)) (cases_lt k rule.goal.parameters), at.tidy.gprs k);
          apart = λ j k lt within e. let n = taken b at.tidy.six in
              let same = at.matches.fits.apart j k (omega (arith, lt, within, n, slots_are)) (omega (arith, within, n, slots_are))
              (gpr_at b j ∙ sym (get_or-take rule.goal.parameters b.gpr j 0 (omega (arith, lt, within, n))) ∙ e ∙ get_or-take rule.goal.parameters b.gpr k 0 (omega (arith, within, n)) ∙ sym (gpr_at b k)) in
              omega (arith, same, lt);
          slots = record {
            three = at.tidy.three;
            below = at.tidy.numbers;
            past = at.tidy.slots;
            in_slots = λ k e. ap (slot_of map) (sym (gpr_at b k)) ∙ at.matches.fits.in_slots k e ∙ ap (λ (r : ℕ). Some r) (sym (back b at.tidy.six k e));
            at_home = λ k e. ap (slot_of map) (sym (gpr_at b k)) ∙ at.matches.fits.at_home k e;
          };
          words = laid_split (match_of at.found b) b 0 (guests_of rule.goal) at.words at.found memory at.matches.window.words at.are at.matches.same (λ n i e. record { fields = same_fields i; base = base_some n i e });
          names = dead_names rule.goal (match_of at.found b) (is_in dead) at.matches.unneeded;
        }

    -- what is read of the window are the GPRs of the binding
    pub read_are : (gprs : List ℕ) → length gprs ≡ 6 → ((k : ℕ) → k < rule.goal.parameters → get_or gprs k 0 ≡ register_read at.words at.found (k + 1)) → ((k : ℕ) → rule.goal.parameters ≤ k → get_or gprs k 0 ≡ 0) → gprs ≡ b.gpr
    read_are gprs many read none =
        same_lists gprs b.gpr (many ∙ sym at.tidy.six) (λ k. ⊎_elim (λ lt. read k lt ∙ its k lt ∙ gpr_at b k) (λ ge. none k ge ∙ sym (at.tidy.gprs k ge)) (cases_lt k rule.goal.parameters))
      where
        its : (k : ℕ) → k < rule.goal.parameters → register_read at.words at.found (k + 1) ≡ gpr_of b (k + 1)
        its k lt =
            let same = one_window one (guests_of rule.goal) at.words placed.window at.matches.window.words placed.is.words in
            let h : length slots ≡ highest (flat_map numbers at.words) = placed.parameters ∙ ap (λ is. highest (flat_map numbers is)) (sym same) in
            read_laid (match_of at.found b) (k + 1) (λ z. omega (arith, z)) 0 (guests_of rule.goal) at.words at.found at.matches.window.words at.matches.same
            (numbers_cover 0 (flat_map numbers at.words) (k + 1) at.matches.window.numbered (omega arith) (omega (arith, h, slots_are, lt)))

    -- so there is no other
    pub the_binding : (gprs others : List ℕ) → length gprs ≡ 6 → ((k : ℕ) → k < rule.goal.parameters → get_or gprs k 0 ≡ register_read at.words at.found (k + 1)) → ((k : ℕ) → rule.goal.parameters ≤ k → get_or gprs k 0 ≡ 0) → AreSlotNumbers slots map gprs others → binding gprs others ≡ b
    the_binding gprs others many read none are =
        let same = read_are gprs many read none in
        let slots_same = same_numbers slots map b.gpr others b.slot (subst (λ g. AreSlotNumbers slots map g others) same are) pieces.slots in
        ap (λ g. binding g others) same ∙ ap (binding b.gpr) slots_same
