-- What a laid op reads is what its line reads of the places. This project's own.
use Rattle.std.proofs.Common.{◌≡◌, ℕ, ◌+◌, ◌-◌, ◌*◌, ◌/◌, ◌%◌, ◌^◌, ◌<◌, ◌≤◌, ◌⊎◌, inl, inr, Bool, true, false, cond, if◌then◌else◌, ◌||◌, ◌==◌, nat_lt, List, [], ◌∷◌, length, slice_get, Option, Some, None, Contains, refl, sym, ap, ◌∙◌, subst, arith}
use Rattle.std.specs.List.{flat_map}
use Rattle.std.proofs.lemmas.Bool.Decides.{nat_tests}
use Rattle.std.proofs.lemmas.Option.{slice_get_within}
use Rattle.std.proofs.lemmas.List.{append-nil}
use Rattle.word_kit.specs.Prelude.{sum_word, shifted_left}
use Rattle.machines.specs.Prelude.{Operand, Reg, Abs, Base, Pair, Flags, load, each_byte, Rights, Core, place_of, address_in, reads, ebx, esi, edi}
use Rattle.machines.specs.Host.{Memory}
use Rattle.machines.proofs.Stack.{each_true as each_of}
use Rattle.symbolic_tiles.specs.Prelude.{span}
use Rattle.rule_body.specs.declared.goal.Goal.{Goal}
use Rattle.rule_body.specs.declared.line.Hole.{Hole}
use Rattle.rule_body.specs.declared.line.Hole.TheVariants.{S, Z, H, N}
use Rattle.rule_body.specs.declared.line.HostLine.{HostLine}
use Rattle.rule_body.specs.Prelude.{slot_count, guests_of, template_of, IsHome}
use Rattle.rule_body.specs.Templates.{HasConstant}
use Rattle.rule_soundness.specs.Prelude.{Match, hole_value, register_of, offset_of, summed}
use Rattle.rule_soundness.specs.Shapes.{Source, Zero, OperandValue, OwnNumber, CountByte, AddressValue, source_value as machine_value, own_number}
use Rattle.rule_renaming.specs.Plain.{plain}
use Rattle.row_runs.specs.Accesses.{Accessed, little_number, cut}
use Rattle.row_runs.specs.Bodies.{operand as run_operand, operand_accesses}
use Rattle.place_circuits.specs.declared.sources.Source.TheVariants.{Lowest, Bytes}
use Rattle.place_circuits.specs.Numbers.{number_value, hole_value as number_in_hole}
use Rattle.place_circuits.specs.Sources.{IsWidth, source_value, address_value}
use Rattle.row_circuits.specs.Bodies.{operand_read}
use Rattle.rule_places.specs.Accesses.{loads_at}
use Rattle.rule_lines.specs.Lines.{register_place, number_for, immediate_hole, displacement_hole, home_source, address_for, own_source, source_for, second_for}
use Rattle.rule_lines.specs.Runs.{IsPage, AreAnswered}
use Rattle.rule_lines.proofs.Registers.{IsNamed, temporary_place}
use Rattle.rule_lines.proofs.Fits.{Fits, FitsSum, FitsSource}
use Rattle.rule_lines.proofs.Laid.{filled_by, laid_operand, laid_source, laid, IsLaid, source_span}
use Rattle.rule_lines.proofs.Memory.{by_width, width_few, load_bytes, load_cut, each_in_span}

abbrev pub IsFilled : Goal → Option (Hole × ℕ) → Type 0
IsFilled goal None = Unit {0}
IsFilled goal (Some hole) = HasConstant (guests_of goal) hole.1

pub filled_where : (goal : Goal) (b : Bool) (hole : Option (Hole × ℕ)) → IsFilled goal hole → IsFilled goal (if b then hole else None)
filled_where goal true hole is = is
filled_where goal false hole is = tt

pub filled_unless : (goal : Goal) (b c : Bool) (hole : Option (Hole × ℕ)) → IsFilled goal hole → IsFilled goal (if b then None else if c then hole else None)
filled_unless goal true c hole is = tt
filled_unless goal false c hole is = filled_where goal c hole is

holes_same : (hole : Hole) (c : ℕ) → number_in_hole hole c ≡ hole_value hole c
holes_same S c = refl
holes_same Z c = refl
holes_same H c = refl
holes_same N c = refl

hole_word : (hole : Hole) (c : ℕ) → c < 2 ^ 16 → hole_value hole c < 2 ^ 32
hole_word S c lt = grind (arith, nat_tests)
hole_word Z c lt = omega (arith, lt)
hole_word H c lt = omega (arith, lt)
hole_word N c lt = omega arith

same_register : (m : Match) (r : ℕ) → register_of (plain m) r ≡ r
same_register m r = by_test (r == ebx || r == esi || r == edi)
  where
    by_test : (b : Bool) → (if b then r else r) ≡ r
    by_test true = refl
    by_test false = refl

same_offset : (m : Match) (o : ℕ) → offset_of (plain m) o ≡ o
same_offset m o = by_test (nat_lt o 128)
  where
    by_test : (b : Bool) → (if b then 4 * (o / 4) + o % 4 else o) ≡ o
    by_test true = omega arith
    by_test false = refl

-- an operand that is laid
module _ (m : Match) (area : ℕ) where
  pub laid_reg : (hole : Option (Hole × ℕ)) (r : ℕ) → laid_operand m area hole (Reg r) ≡ Reg r
  laid_reg None r = ap Reg (same_register m r)
  laid_reg (Some hole) r = ap Reg (same_register m r)

  pub laid_abs : (hole : Option (Hole × ℕ)) (o : ℕ) → laid_operand m area hole (Abs o) ≡ Abs (area + o)
  laid_abs None o = ap (λ k. Abs (area + k)) (same_offset m o)
  laid_abs (Some hole) o = ap (λ k. Abs (area + k)) (same_offset m o)

  laid_base : (hole : Option (Hole × ℕ)) (b d : ℕ) → laid_operand m area hole (Base b d) ≡ Base b (filled_by m area hole d)
  laid_base None b d = ap (λ k. Base k d) (same_register m b)
  laid_base (Some hole) b d = ap (λ k. Base k (hole_value hole.0 (m.constant hole.1))) (same_register m b)

  laid_pair : (hole : Option (Hole × ℕ)) (b x s d : ℕ) → laid_operand m area hole (Pair b x s d) ≡ Pair b x s (filled_by m area hole d)
  laid_pair None b x s d = ap (λ k. Pair k (register_of (plain m) x) s d) (same_register m b) ∙ ap (λ k. Pair b k s d) (same_register m x)
  laid_pair (Some hole) b x s d = ap (λ k. Pair k (register_of (plain m) x) s (hole_value hole.0 (m.constant hole.1))) (same_register m b) ∙ ap (λ k. Pair b k s (hole_value hole.0 (m.constant hole.1))) (same_register m x)

-- the address isn't in the home page
abbrev pub IsFar : ℕ → ℕ → Type 0
IsFar area a = (a < area) ⊎ (area + 4096 ≤ a)

-- there is this value, which is a word
abbrev pub Gets : Option ℕ → ℕ → Type 0
Gets o v = (o ≡ Some v) × (v < 2 ^ 32)

base_sum : (x y : ℕ) → (x + y) % 2 ^ 32 ≡ sum_word x y false
base_sum x y = omega arith

pair_sum : (x y z : ℕ) → (x + y + z) % 2 ^ 32 ≡ sum_word (sum_word x (y % 2 ^ 32) false) z false
pair_sum x y z = omega arith

shift_small : (s : ℕ) → s < 4 → s % 32 ≡ s
shift_small s lt = omega arith

word_sum : (x y : ℕ) → sum_word x y false < 2 ^ 32
word_sum x y = omega arith

is_low : (o : ℕ) → o < 128 → nat_lt o 128 ≡ true
is_low o lt = grind (arith, nat_tests)

is_high : (o : ℕ) → 128 ≤ o → nat_lt o 128 ≡ false
is_high o le = grind (arith, nat_tests)

module _ (goal : Goal) (m : Match) (area : ℕ) (host : Rights) where
  abbrev pub slots : List Bool
  slots = (template_of goal).slots

  pub record Setting : Type 0 where
    pub page : IsPage area host
    pub few : length slots ≤ 6
    pub three : slot_count slots ≤ 3
    pub words : (j : ℕ) → HasConstant (guests_of goal) j → j < 3
    pub constants : (j : ℕ) → m.constant j < 2 ^ 16

  -- the places show these registers and this memory
  pub record Shown (regs bytes t : ℕ → ℕ) : Type 0 where
    pub named : (r : ℕ) → IsNamed slots r → regs r ≡ t (register_place slots r)
    pub at_home : (k : ℕ) → slice_get slots k ≡ Some false → load 4 (area + 4 * (k + 1)) bytes ≡ t k
    pub homes : (i : ℕ) → i < 20 → bytes (area + (128 + i)) ≡ t (32 + i)
    pub constants : (j : ℕ) → HasConstant (guests_of goal) j → t (20 + j) ≡ m.constant j
    pub words : (r : ℕ) → regs r < 2 ^ 32
    pub small : (a : ℕ) → bytes a < 256

  module _ (set : Setting) where
    -- a number that a constant fills
    number_read : (hole : Option (Hole × ℕ)) (n : ℕ) (regs bytes t : ℕ → ℕ) → IsFilled goal hole → Shown regs bytes t → number_value (number_for hole n) t ≡ filled_by m area hole n
    number_read None n regs bytes t is shown = refl
    number_read (Some hole) n regs bytes t is shown =
        let lt = set.constants hole.1 in
        let e : m.constant hole.1 % 2 ^ 16 ≡ m.constant hole.1 = omega (arith, lt) in
        ap (λ c. number_in_hole hole.0 (c % 2 ^ 16)) (shown.constants hole.1 is) ∙ ap (number_in_hole hole.0) e ∙ holes_same hole.0 (m.constant hole.1)

    number_word : (hole : Option (Hole × ℕ)) (n : ℕ) → n < 2 ^ 32 → filled_by m area hole n < 2 ^ 32
    number_word None n lt = lt
    number_word (Some hole) n lt = hole_word hole.0 (m.constant hole.1) (set.constants hole.1)

    home_low : (size o : ℕ) → IsWidth size → IsHome slots o size → o + size ≤ 148
    home_low size o is (inl w) = let f = width_few size is in let g = slice_get_within slots w.0 false w.2 in let few = set.few in let e = w.1 in omega (arith, f, g, few, e)
    home_low size o is (inr w) = w.1

    pub home_at : (size o i : ℕ) → IsWidth size → IsHome slots o size → i < size → ((area + o + i) % 2 ^ 32 ≡ area + (o + i)) × (o + i < 148)
    home_at size o i is home lt = let w = home_low size o is home in let low = set.page.low in (omega (arith, w, low, lt), omega (arith, w, lt))

    -- every byte of a home may be read and written
    pub home_each : (test : ℕ → Bool) → ((i : ℕ) → i < 4096 → test (area + i) ≡ true) → (size o : ℕ) → IsWidth size → IsHome slots o size → each_byte test size (area + o) ≡ true
    home_each test all size o is home = each_of test size (area + o) (λ i lt. let w = home_at size o i is home lt in ap test w.0 ∙ all (o + i) (let l = w.1 in omega (arith, l)))

    load_word : (size a : ℕ) (bytes : ℕ → ℕ) → IsWidth size → ((k : ℕ) → bytes k < 256) → load size a bytes < 2 ^ 32
    load_word size a bytes is small = subst (λ n. n < 2 ^ 32) (sym (load_cut size a bytes is small)) (by_width (λ n. cut n (load 4 a bytes) < 2 ^ 32) size is (omega arith) (omega arith) (omega arith))

    module _ (regs bytes t : ℕ → ℕ) (shown : Shown regs bytes t) where
      home_value : (size o : ℕ) → IsWidth size → IsHome slots o size → load size (area + o) bytes ≡ source_value (home_source size o) t
      home_value size o is (inl w) =
          let g = slice_get_within slots w.0 false w.2 in
          let few = set.few in
          let e = w.1 in
          let lt : o < 128 = omega (arith, g, few, e) in
          let back : o / 4 - 1 ≡ w.0 = omega (arith, e) in
          load_cut size (area + o) bytes is shown.small ∙ ap (λ k. cut size (load 4 (area + k) bytes)) e ∙ ap (cut size) (shown.at_home w.0 w.2) ∙ ap (λ k. cut size (t k)) (sym back)
          ∙ ap (λ b. source_value (if b then Lowest (o / 4 - 1) size else Bytes (o - 96) size) t) (sym (is_low o lt))
      home_value size o is (inr w) =
          let le = w.0 in
          let high = w.1 in
          load_bytes size (area + o) bytes (λ k. t (o - 96 + k)) is shown.small
          (λ i lt.
          let f = home_at size o i is (inr w) lt in
          let q : area + (o + i) ≡ area + (128 + (o - 128 + i)) = omega (arith, le) in
          let p : 32 + (o - 128 + i) ≡ o - 96 + i = omega (arith, le) in
          ap bytes (f.0 ∙ q) ∙ shown.homes (o - 128 + i) (omega (arith, le, high, lt)) ∙ ap t p)
          ∙ ap (λ b. source_value (if b then Lowest (o / 4 - 1) size else Bytes (o - 96) size) t) (sym (is_high o le))

      -- a register or a home
      pub own_read : (hole : Option (Hole × ℕ)) (f : Flags) (size : ℕ) (operand : Operand) → IsWidth size → Fits slots goal.dead.bits false size operand →
          Gets (reads host (record { regs = regs; flags = f; bytes = bytes }) (place_of size (laid_operand m area hole operand) regs)) (source_value (own_source slots size operand) t)
      own_read hole f size (Reg r) is fits = (
        ap (λ o. reads host (record { regs = regs; flags = f; bytes = bytes }) (place_of size o regs)) (laid_reg m area hole r) ∙ ap Some (shown.named r fits),
        subst (λ n. n < 2 ^ 32) (shown.named r fits) (shown.words r),
      )
      own_read hole f size (Abs o) is fits = (
        ap (λ o. reads host (record { regs = regs; flags = f; bytes = bytes }) (place_of size o regs)) (laid_abs m area hole o)
            ∙ ap (λ b. cond b (Some (load size (area + o) bytes)) None) (home_each host.held set.page.held size o is fits) ∙ ap Some (home_value size o is fits),
        subst (λ n. n < 2 ^ 32) (home_value size o is fits) (load_word size (area + o) bytes is shown.small),
      )
      own_read hole f size (Base b d) is fits = absurd (let e = fits.0 in cc)
      own_read hole f size (Pair b x s d) is fits = absurd (let e = fits.0 in cc)

      -- a sum of registers
      pub sum_at : (hole : Option (Hole × ℕ)) (size : ℕ) (operand : Operand) → IsFilled goal hole → FitsSum slots goal.dead.bits operand →
          place_of size (laid_operand m area hole operand) regs ≡ Memory size (address_value (address_for slots hole operand) t)
      sum_at hole size (Reg r) is fits = absurd fits
      sum_at hole size (Abs o) is fits = absurd fits
      sum_at hole size (Base b d) is fits =
          ap (λ o. place_of size o regs) (laid_base m area hole b d)
          ∙ ap (λ k. Memory size ((k + filled_by m area hole d) % 2 ^ 32)) (shown.named b fits.0)
          ∙ ap (λ k. Memory size ((t (register_place slots b) + k) % 2 ^ 32)) (sym (number_read hole d regs bytes t is shown))
          ∙ ap (Memory size) (base_sum (t (register_place slots b)) (number_value (number_for hole d) t))
      sum_at hole size (Pair b x s d) is fits =
          let pb = t (register_place slots b) in
          let px = t (register_place slots x) in
          let n = number_value (number_for hole d) t in
          ap (λ o. place_of size o regs) (laid_pair m area hole b x s d)
          ∙ ap (λ k. Memory size ((k + regs x * 2 ^ s + filled_by m area hole d) % 2 ^ 32)) (shown.named b fits.0)
          ∙ ap (λ k. Memory size ((pb + k * 2 ^ s + filled_by m area hole d) % 2 ^ 32)) (shown.named x fits.1)
          ∙ ap (λ k. Memory size ((pb + px * 2 ^ s + k) % 2 ^ 32)) (sym (number_read hole d regs bytes t is shown))
          ∙ ap (Memory size) (pair_sum pb (px * 2 ^ s) n)
          ∙ ap (λ k. Memory size (sum_word (sum_word pb (px * 2 ^ k % 2 ^ 32) false) n false)) (sym (shift_small s fits.2))

      pub sum_span : (hole : Option (Hole × ℕ)) (size : ℕ) (operand : Operand) → IsFilled goal hole → FitsSum slots goal.dead.bits operand → summed size (laid_operand m area hole operand) regs ≡ span size (address_value (address_for slots hole operand) t)
      sum_span hole size (Reg r) is fits = absurd fits
      sum_span hole size (Abs o) is fits = absurd fits
      sum_span hole size (Base b d) is fits = ap (λ o. summed size o regs) (laid_base m area hole b d) ∙ ap (λ p. span size (address_in p)) (sym (ap (λ o. place_of size o regs) (laid_base m area hole b d)) ∙ sum_at hole size (Base b d) is fits)
      sum_span hole size (Pair b x s d) is fits =
          ap (λ o. summed size o regs) (laid_pair m area hole b x s d) ∙ ap (λ p. span size (address_in p)) (sym (ap (λ o. place_of size o regs) (laid_pair m area hole b x s d)) ∙ sum_at hole size (Pair b x s d) is fits)

      address_word : (hole : Option (Hole × ℕ)) (operand : Operand) → FitsSum slots goal.dead.bits operand → address_value (address_for slots hole operand) t < 2 ^ 32
      address_word hole (Reg r) fits = absurd fits
      address_word hole (Abs o) fits = absurd fits
      address_word hole (Base b d) fits = word_sum (t (register_place slots b)) (number_value (number_for hole d) t)
      address_word hole (Pair b x s d) fits = word_sum (sum_word (t (register_place slots b)) (shifted_left (t (register_place slots x)) s) false) (number_value (number_for hole d) t)

      count_byte : (n : ℕ) → n % 2 ^ 8 ≡ cut 1 n
      count_byte n = omega arith

      small_word : (n : ℕ) → n % 2 ^ 8 < 2 ^ 32
      small_word n = omega arith

      module _ (line : HostLine) (f : Flags) (is_laid : IsLaid m area host line) (now : IsFilled goal (immediate_hole line)) (at : IsFilled goal (displacement_hole line)) where
        abbrev core : Core
        core = record { regs = regs; flags = f; bytes = bytes }

        abbrev found : Source → Option ℕ
        found s = machine_value host (laid_source m area (displacement_hole line) s) (laid m area line) core

        -- a source without an access
        pub source_read : (s : Source) → FitsSource slots goal.dead.bits false line.op s → Gets (found s) (source_value (source_for slots line s) t)
        source_read Zero fits = (refl, omega arith)
        source_read (OperandValue size operand) fits = own_read (displacement_hole line) f size operand fits.0 fits.1
        source_read OwnNumber fits =
            let e = is_laid.number ∙ sym (number_read (immediate_hole line) (own_number line.op) regs bytes t now shown) in
            (ap Some e, subst (λ n. n < 2 ^ 32) (sym (number_read (immediate_hole line) (own_number line.op) regs bytes t now shown)) (number_word (immediate_hole line) (own_number line.op) fits))
        source_read CountByte fits =
            let e = shown.named 1 (inl (omega arith)) ∙ ap t (temporary_place slots 1 (omega arith)) in
            (ap Some (count_byte (regs 1) ∙ ap (cut 1) e), subst (λ n. n < 2 ^ 32) (count_byte (regs 1) ∙ ap (cut 1) e) (small_word (regs 1)))
        source_read (AddressValue operand) fits = (ap (λ p. Some (address_in p)) (sum_at (displacement_hole line) 4 operand at fits), address_word (displacement_hole line) operand fits)

        module _ (oracle : ℕ → ℕ → ℕ) where
          abbrev given : Source → ℕ
          given s = run_operand oracle (operand_read (second_for slots line s)) t

          abbrev pub asked : Source → List Accessed
          asked s = operand_accesses (operand_read (second_for slots line s)) t

          -- bytes that are loaded
          loaded_read : (size : ℕ) (operand : Operand) → IsWidth size → FitsSum slots goal.dead.bits operand →
              AreAnswered area host oracle bytes (record { loads = true; width = size; address = address_value (address_for slots (displacement_hole line) operand) t; stored = 0 } ∷ []) →
              Gets (found (OperandValue size operand)) (little_number size (oracle (address_value (address_for slots (displacement_hole line) operand) t)))
          loaded_read size operand is fits answered =
              let a = address_value (address_for slots (displacement_hole line) operand) t in
              let held = each_in_span host.held size a (λ k c. answered.inside.loaded k (subst (λ (l : List ℕ). Contains l k) (sym (append-nil (span size a))) c)) in
              let e = load_bytes size a bytes (oracle a) is shown.small (λ i lt. sym (answered.finds 0 (record { loads = true; width = size; address = a; stored = 0 }) (omega arith) refl i lt)) in (
                ap (reads host core) (sum_at (displacement_hole line) size operand at fits) ∙ ap (λ b. cond b (Some (load size a bytes)) None) held ∙ ap Some e,
                subst (λ n. n < 2 ^ 32) e (load_word size a bytes is shown.small),
              )

          pub second_read : (moves : Bool) (s : Source) → FitsSource slots goal.dead.bits moves line.op s → AreAnswered area host oracle bytes (asked s) → Gets (found s) (given s)
          second_read moves Zero fits answered = source_read Zero tt
          second_read moves (OperandValue size (Reg r)) fits answered = own_read (displacement_hole line) f size (Reg r) fits.0 fits.1
          second_read moves (OperandValue size (Abs o)) fits answered = own_read (displacement_hole line) f size (Abs o) fits.0 fits.1
          second_read moves (OperandValue size (Base b d)) fits answered = loaded_read size (Base b d) fits.0 (fits.1.1, fits.1.2) answered
          second_read moves (OperandValue size (Pair b x s d)) fits answered = loaded_read size (Pair b x s d) fits.0 (fits.1.1, fits.1.2, fits.1.3, fits.1.4) answered
          second_read moves OwnNumber fits answered = source_read OwnNumber fits
          second_read moves CountByte fits answered = source_read CountByte tt
          second_read moves (AddressValue operand) fits answered = source_read (AddressValue operand) fits

          abbrev no_bytes : List ℕ
          no_bytes = []

          none_where : (b : Bool) → (if b then no_bytes else no_bytes) ≡ no_bytes
          none_where true = refl
          none_where false = refl

          -- what the op loads is what the line does
          pub second_loads : (moves : Bool) (s : Source) → FitsSource slots goal.dead.bits moves line.op s → (if moves then source_span (laid_source m area (displacement_hole line) s) regs else []) ≡ flat_map loads_at (asked s)
          second_loads moves Zero fits = none_where moves
          second_loads moves (OperandValue size (Reg r)) fits = ap (λ o. if moves then summed size o regs else []) (laid_reg m area (displacement_hole line) r) ∙ none_where moves
          second_loads moves (OperandValue size (Abs o)) fits = ap (λ o. if moves then summed size o regs else []) (laid_abs m area (displacement_hole line) o) ∙ none_where moves
          second_loads moves (OperandValue size (Base b d)) fits =
              ap (λ (z : Bool). if z then summed size (laid_operand m area (displacement_hole line) (Base b d)) regs else []) fits.1.0 ∙ sum_span (displacement_hole line) size (Base b d) at (fits.1.1, fits.1.2) ∙ sym (append-nil _)
          second_loads moves (OperandValue size (Pair b x s d)) fits =
              ap (λ (z : Bool). if z then summed size (laid_operand m area (displacement_hole line) (Pair b x s d)) regs else []) fits.1.0 ∙ sum_span (displacement_hole line) size (Pair b x s d) at (fits.1.1, fits.1.2, fits.1.3, fits.1.4) ∙ sym (append-nil _)
          second_loads moves OwnNumber fits = none_where moves
          second_loads moves CountByte fits = none_where moves
          second_loads moves (AddressValue operand) fits = none_where moves
