-- The inputs that a guest and a host give. This project's own.
use Rattle.std.proofs.Common.{◌≡◌, ℕ, zero, suc, ◌+◌, ◌-◌, ◌*◌, ◌/◌, ◌%◌, ◌^◌, ◌<◌, ◌≤◌, Bool, true, false, cond, eqb, ltb, nat_lt, if◌then◌else◌, List, [], ◌∷◌, get_or, slice_get, slice_index_or, Some, refl, sym, ap, ◌∙◌, subst, arith}
use Rattle.std.proofs.lemmas.Bool.Decides.{nat_tests}
use Rattle.std.proofs.lemmas.Option.{slice_get_within}
use Rattle.std.proofs.lemmas.List.{length-take}
use Rattle.word_kit.specs.Prelude.{one_if}
use Rattle.ia_codec.specs.Prelude.{Flags}
use Rattle.machines.specs.Prelude.{Map, load, Guest, Core, cr_word}
use Rattle.reg_map.specs.Prelude.{home, home_size, Represents, AreInRange}
use Rattle.symbolic_tiles.specs.Prelude.{Any, IsCore}
use Rattle.rule_body.specs.declared.goal.Goal.{Goal}
use Rattle.rule_body.specs.Prelude.{guests, guests_of, template_of}
use Rattle.rule_body.specs.Templates.{HasConstant}
use Rattle.rule_soundness.specs.Prelude.{Match, body_slot}
use Rattle.rule_renaming.specs.Plain.{IsOwnMap}
use Rattle.place_circuits.specs.Places.{with_place}
use Rattle.window_circuits.specs.Starts.{AreWithin, xer_of, window_begins, body_begins, with_homes}
use Rattle.rule_places.specs.Inputs.{HasBits, home_fields}
use Rattle.rule_places.specs.Guests.{ShowsGuest}
use Rattle.rule_places.specs.Hosts.{ShowsHost}
use Rattle.rule_meaning.proofs.Numbers.{bit_back, bit_small, xer_is, cr_parts, cr_small}
use Rattle.rule_meaning.proofs.Places.{slot_below, slot_low, slot_value, home_value, far_value, byte_home}
use Rattle.rule_meaning.proofs.Memories.{BytesOf, four_bytes, load_one}

-- a fact for each number below one
abbrev pub Each : (ℕ → Type 0) → ℕ → Type 0
Each P zero = Unit {0}
Each P (suc n) = Each P n × P n

pub each : (P : ℕ → Type 0) (n : ℕ) → Each P n → (k : ℕ) → k < n → P k
each P zero facts k lt = absurd (omega (arith, lt))
each P (suc n) facts k lt = by_test (eqb k n) refl (each P n facts.0 k)
  where
    by_test : (b : Bool) → eqb k n ≡ b → (k < n → P k) → P k
    by_test true e rest = let h : n ≡ k = grind (arith, nat_tests) in subst P h facts.1
    by_test false e rest = rest (grind (arith, nat_tests))

below : (k n : ℕ) → k < n → nat_lt k n ≡ true
below k n lt = grind (arith, nat_tests)

is_below : (k n : ℕ) → nat_lt k n ≡ true → k < n
is_below k n e = grind (arith, nat_tests)

not_below : (k n : ℕ) → nat_lt k n ≡ false → n ≤ k
not_below k n e = grind (arith, nat_tests)

module _ (goal : Goal) (widths : List ℕ) (width : ℕ) (m : Match) (g : Guest) (core : Core) (loaded : ℕ → ℕ) where
  -- the value of parameter k + 1
  abbrev pub parameter : ℕ → ℕ
  parameter k = if nat_lt k goal.parameters then g.locs (k + 1) else 0

  -- the constant of word j, where it is an input
  abbrev pub constant : ℕ → ℕ
  constant j = if nat_lt 0 (slice_index_or widths (20 + j) 0) then m.constant j else 0

  abbrev pub firsts : List ℕ
  firsts =
      parameter 0 ∷ parameter 1 ∷ parameter 2 ∷ parameter 3 ∷ parameter 4 ∷ parameter 5 ∷ cr_word g.locs ∷ g.locs 45 ∷ g.locs 42 ∷ g.locs 44 ∷ g.locs 43 ∷ g.locs 32 ∷ g.locs 33 ∷
      core.regs 0 ∷ core.regs 1 ∷ core.regs 2 ∷ one_if core.flags.cf ∷ one_if core.flags.zf ∷ one_if core.flags.sf ∷ one_if core.flags.of ∷ constant 0 ∷ constant 1 ∷ constant 2 ∷ []

  -- the inputs
  abbrev pub inputs : ℕ → ℕ
  inputs k = if nat_lt k 23 then get_or firsts k 0 else loaded (k - 23)

  pub loaded_inputs : (k : ℕ) → inputs (23 + k) ≡ loaded k
  loaded_inputs k =
      let e : nat_lt (23 + k) 23 ≡ false = grind (arith, nat_tests) in
      let d : 23 + k - 23 ≡ k = omega arith in
      ap (λ b. if b then get_or firsts (23 + k) 0 else loaded (23 + k - 23)) e ∙ ap loaded d

  module _ (few : width ≤ 4) (six : goal.parameters ≤ 6) (bits : (k : ℕ) → k < 64 → HasBits goal width k (slice_index_or widths k 0)) (in_range : AreInRange g) (is_core : IsCore core) (constants : (j : ℕ) → m.constant j < 2 ^ 16)
      (small : (k : ℕ) → loaded k < 256) (none : (k : ℕ) → width ≤ k → loaded k ≡ 0) where
    -- the number fits the bits of its place
    abbrev Fits : ℕ → ℕ → Type 0
    Fits n k = n < 2 ^ slice_index_or widths k 0

    fits : (n k w : ℕ) → n < 2 ^ w → slice_index_or widths k 0 ≡ w → Fits n k
    fits n k w lt e = subst (λ b. n < 2 ^ b) (sym e) lt

    parameter_fits : (k : ℕ) → k < 6 → g.locs (k + 1) < 2 ^ 32 → Fits (parameter k) k
    parameter_fits k lt word = by_test (nat_lt k goal.parameters) refl
      where
        by_test : (b : Bool) → nat_lt k goal.parameters ≡ b → Fits (if b then g.locs (k + 1) else 0) k
        by_test true e = fits (g.locs (k + 1)) k 32 word ((bits k (omega (arith, lt))).parameter (is_below k goal.parameters e))
        by_test false e = fits 0 k 0 (omega arith) ((bits k (omega (arith, lt))).no_parameter (not_below k goal.parameters e) lt)

    -- a constant's place has 16 bits or none
    constant_bits : (j : ℕ) → j < 3 → 0 < slice_index_or widths (20 + j) 0 → slice_index_or widths (20 + j) 0 ≡ 16
    constant_bits j lt some = by_test (eqb (slice_index_or widths (20 + j) 0) 16) refl
      where
        has : HasBits goal width (20 + j) (slice_index_or widths (20 + j) 0)
        has = bits (20 + j) (omega (arith, lt))

        at : 20 + j - 20 ≡ j
        at = omega arith

        by_test : (b : Bool) → eqb (slice_index_or widths (20 + j) 0) 16 ≡ b → slice_index_or widths (20 + j) 0 ≡ 16
        by_test true e = grind (arith, nat_tests)
        by_test false e =
            let not_so : slice_index_or widths (20 + j) 0 ≡ 16 → ⊥ = λ h. grind (arith, nat_tests) in
            let z = has.no_constant (omega arith) (omega (arith, lt)) (λ c. not_so (has.constant (omega arith) (omega (arith, lt)) c)) in
            absurd (omega (arith, z, some))

    constant_fits : (j : ℕ) → j < 3 → Fits (constant j) (20 + j)
    constant_fits j lt = by_test (nat_lt 0 (slice_index_or widths (20 + j) 0)) refl
      where
        by_test : (b : Bool) → nat_lt 0 (slice_index_or widths (20 + j) 0) ≡ b → Fits (if b then m.constant j else 0) (20 + j)
        by_test true e = fits (m.constant j) (20 + j) 16 (constants j) (constant_bits j lt (is_below 0 (slice_index_or widths (20 + j) 0) e))
        by_test false e = let z = not_below 0 (slice_index_or widths (20 + j) 0) e in fits 0 (20 + j) 0 (omega arith) (omega (arith, z))

    word_fits : (n k : ℕ) → n < 2 ^ 32 → 11 ≤ k → k ≤ 15 → Fits n k
    word_fits n k lt from to = fits n k 32 lt ((bits k (omega (arith, to))).word from to)

    flag_fits : (b : Bool) (k : ℕ) → 16 ≤ k → k ≤ 19 → Fits (one_if b) k
    flag_fits b k from to = let lt = bit_small b in fits (one_if b) k 1 (omega (arith, lt)) ((bits k (omega (arith, to))).flag from to)

    carry_fits : (n k : ℕ) → n < 2 → 8 ≤ k → k ≤ 10 → Fits n k
    carry_fits n k lt from to = fits n k 1 (omega (arith, lt)) ((bits k (omega (arith, to))).carries from to)

    four_bits : (x : ℕ) → 34 ≤ x → x < 42 → g.locs x < 16
    four_bits x from to =
        let e : ltb x 34 ≡ false = grind (arith, nat_tests) in
        let d : ltb x 42 ≡ true = grind (arith, nat_tests) in
        subst (λ n. g.locs x < n) (ap (λ b. cond b (2 ^ 32) (cond (ltb x 42) 16 (cond (ltb x 45) 2 128))) e ∙ ap (λ b. cond b 16 (cond (ltb x 45) 2 128)) d) (in_range x (omega (arith, to)))

    cr_fits : Fits (cr_word g.locs) 6
    cr_fits = fits (cr_word g.locs) 6 32 (cr_small g.locs four_bits) ((bits 6 (omega arith)).cr refl)

    first_fits : Each (λ k. Fits (get_or firsts k 0) k) 23
    first_fits = (
      (
        (
          (
            (
              (
                (
                  (
                    (
                      (
                        (
                          (
                            (
                              (
                                (
                                  (
                                    (
                                      (
                                        (
                                          (
                                            (((tt, parameter_fits 0 (omega arith) (in_range 1 (omega arith))), parameter_fits 1 (omega arith) (in_range 2 (omega arith))), parameter_fits 2 (omega arith) (in_range 3 (omega arith))),
                                            parameter_fits 3 (omega arith) (in_range 4 (omega arith)),
                                          ),
                                          parameter_fits 4 (omega arith) (in_range 5 (omega arith)),
                                        ),
                                        parameter_fits 5 (omega arith) (in_range 6 (omega arith)),
                                      ),
                                      cr_fits,
                                    ),
                                    fits (g.locs 45) 7 7 (in_range 45 (omega arith)) ((bits 7 (omega arith)).xc refl),
                                  ),
                                  carry_fits (g.locs 42) 8 (in_range 42 (omega arith)) (omega arith) (omega arith),
                                ),
                                carry_fits (g.locs 44) 9 (in_range 44 (omega arith)) (omega arith) (omega arith),
                              ),
                              carry_fits (g.locs 43) 10 (in_range 43 (omega arith)) (omega arith) (omega arith),
                            ),
                            word_fits (g.locs 32) 11 (in_range 32 (omega arith)) (omega arith) (omega arith),
                          ),
                          word_fits (g.locs 33) 12 (in_range 33 (omega arith)) (omega arith) (omega arith),
                        ),
                        word_fits (core.regs 0) 13 (is_core.words 0) (omega arith) (omega arith),
                      ),
                      word_fits (core.regs 1) 14 (is_core.words 1) (omega arith) (omega arith),
                    ),
                    word_fits (core.regs 2) 15 (is_core.words 2) (omega arith) (omega arith),
                  ),
                  flag_fits core.flags.cf 16 (omega arith) (omega arith),
                ),
                flag_fits core.flags.zf 17 (omega arith) (omega arith),
              ),
              flag_fits core.flags.sf 18 (omega arith) (omega arith),
            ),
            flag_fits core.flags.of 19 (omega arith) (omega arith),
          ),
          constant_fits 0 (omega arith),
        ),
        constant_fits 1 (omega arith),
      ),
      constant_fits 2 (omega arith),
    )

    loaded_fits : (k : ℕ) → 23 ≤ k → k < 64 → Fits (loaded (k - 23)) k
    loaded_fits k from to = by_test (nat_lt k (23 + width)) refl
      where
        by_test : (b : Bool) → nat_lt k (23 + width) ≡ b → Fits (loaded (k - 23)) k
        by_test true e = fits (loaded (k - 23)) k 8 (small (k - 23)) ((bits k to).byte from (is_below k (23 + width) e))
        by_test false e =
            let ge = not_below k (23 + width) e in
            let z = none (k - 23) (omega (arith, ge)) in
            fits (loaded (k - 23)) k 0 (omega (arith, z)) ((bits k to).no_byte ge)

    pub are_within : AreWithin widths inputs
    are_within k lt = by_test (nat_lt k 23) refl
      where
        by_test : (b : Bool) → nat_lt k 23 ≡ b → Fits (if b then get_or firsts k 0 else loaded (k - 23)) k
        by_test true e = each (λ k. Fits (get_or firsts k 0) k) 23 first_fits k (is_below k 23 e)
        by_test false e = loaded_fits k (not_below k 23 e) lt

    -- the constant of a word that has one is its place's input
    constant_is : (j : ℕ) → j < 3 → HasConstant (guests_of goal) j → constant j ≡ m.constant j
    constant_is j lt has =
        let at : 20 + j - 20 ≡ j = omega arith in
        let w = (bits (20 + j) (omega (arith, lt))).constant (omega arith) (omega (arith, lt)) (subst (HasConstant (guests_of goal)) (sym at) has) in
        ap (λ b. if b then m.constant j else 0) (below 0 (slice_index_or widths (20 + j) 0) (omega (arith, w)))

    parameter_is : (k : ℕ) → k < goal.parameters → parameter k ≡ g.locs (k + 1)
    parameter_is k lt = ap (λ b. if b then g.locs (k + 1) else 0) (below k goal.parameters lt)

    module _ (three : goal.count ≤ 3) where
      abbrev slots : List Bool
      slots = (template_of goal).slots

      word_below : (j : ℕ) → HasConstant (guests_of goal) j → j < 3
      word_below j has = let lt = slice_get_within (guests_of goal) j has.0 has.1 in let e = length-take goal.count (guests goal.words goal.free) in omega (arith, lt, e, three)

      -- the window begins with the guest
      pub shows_guest : ShowsGuest goal m g.locs (window_begins inputs).places
      shows_guest = record {
        parameters = λ k lt. let p = slot_below goal six k lt in each (λ k. k < goal.parameters → with_place 7 (xer_of inputs) inputs k ≡ g.locs (k + 1)) 6
            ((((((tt, parameter_is 0), parameter_is 1), parameter_is 2), parameter_is 3), parameter_is 4), parameter_is 5) k (omega (arith, p, six)) p;
        cr = refl;
        xer = xer_is (g.locs 45) (g.locs 42) (g.locs 44) (g.locs 43) (in_range 45 (omega arith)) (in_range 42 (omega arith)) (in_range 44 (omega arith)) (in_range 43 (omega arith));
        lr = refl;
        ctr = refl;
        constants = λ j has. each (λ j. HasConstant (guests_of goal) j → with_place 7 (xer_of inputs) inputs (20 + j) ≡ m.constant j) 3 (((tt, constant_is 0 (omega arith)), constant_is 1 (omega arith)), constant_is 2 (omega arith)) j (word_below j has) has;
      }

      module _ (own : Map) (is_own : IsOwnMap slots own) (area : ℕ) (low : area + 4096 ≤ 2 ^ 32) (held : ℕ → Bool) (represents : Represents own area Any held g core) where
        slotted : (k : ℕ) → slice_get slots k ≡ Some true → core.regs (body_slot slots k) ≡ g.locs (k + 1)
        slotted k e = let p = slot_low goal six k true e in sym (slot_value goal six own is_own area core k e) ∙ represents.locs (k + 1) (omega (arith, p)) tt

        at_home : (k : ℕ) → slice_get slots k ≡ Some false → load 4 (area + 4 * (k + 1)) core.bytes ≡ g.locs (k + 1)
        at_home k e = let p = slot_low goal six k false e in sym (home_value goal six own is_own area core k e) ∙ represents.locs (k + 1) (omega (arith, p)) tt

        -- a location behind the GPRs is at home
        far_place : (x : ℕ) → 32 ≤ x → x < 46 → load (home_size x) (area + home x) core.bytes ≡ g.locs x
        far_place x from to = sym (far_value goal six own is_own area core x from) ∙ represents.locs x to tt

        -- what a home byte holds
        word_bytes : (x : ℕ) → 32 ≤ x → x < 34 → BytesOf (area + 4 * x) core.bytes (g.locs x)
        word_bytes x from to =
            let t : ltb x 34 ≡ true = grind (arith, nat_tests) in
            let e : load 4 (area + 4 * x) core.bytes ≡ g.locs x = sym (ap (λ t. load (cond t 4 1) (area + cond t (4 * x) (102 + x)) core.bytes) t) ∙ far_place x from (omega (arith, to)) in
            subst (BytesOf (area + 4 * x) core.bytes) e (four_bytes (area + 4 * x) core.bytes (omega (arith, low, to)) is_core.bytes)

        byte : (x : ℕ) → 34 ≤ x → x < 46 → core.bytes (area + (102 + x)) ≡ g.locs x
        byte x from to =
            sym (load_one (area + (102 + x)) core.bytes (omega (arith, low, to))) ∙ sym (byte_home goal six own is_own area core x from) ∙ far_place x (omega (arith, from)) to

        abbrev Home : ℕ → Type 0
        Home i = core.bytes (area + (128 + i)) ≡ with_homes 20 home_fields inputs (32 + i)

        home_bytes : Each Home 20
        unfolding with_homes
        home_bytes =
            let lr = word_bytes 32 (omega arith) (omega arith) in
            let ctr = word_bytes 33 (omega arith) (omega arith) in
            let cr = cr_parts (g.locs 34) (g.locs 35) (g.locs 36) (g.locs 37) (g.locs 38) (g.locs 39) (g.locs 40) (g.locs 41)
            (in_range 34 (omega arith)) (in_range 35 (omega arith)) (in_range 36 (omega arith)) (in_range 37 (omega arith)) (in_range 38 (omega arith)) (in_range 39 (omega arith)) (in_range 40 (omega arith)) (in_range 41 (omega arith)) in (
              (
                (
                  (
                    (
                      (
                        (
                          (
                            (
                              (
                                (
                                  (
                                    (
                                      (
                                        (
                                          (
                                            ((((tt, lr.byte0), moved 128 1 _ lr.byte1), moved 128 2 _ lr.byte2), moved 128 3 _ lr.byte3),
                                            ctr.byte0,
                                          ),
                                          moved 132 1 _ ctr.byte1,
                                        ),
                                        moved 132 2 _ ctr.byte2,
                                      ),
                                      moved 132 3 _ ctr.byte3,
                                    ),
                                    byte 34 (omega arith) (omega arith) ∙ sym cr.at0,
                                  ),
                                  byte 35 (omega arith) (omega arith) ∙ sym cr.at1,
                                ),
                                byte 36 (omega arith) (omega arith) ∙ sym cr.at2,
                              ),
                              byte 37 (omega arith) (omega arith) ∙ sym cr.at3,
                            ),
                            byte 38 (omega arith) (omega arith) ∙ sym cr.at4,
                          ),
                          byte 39 (omega arith) (omega arith) ∙ sym cr.at5,
                        ),
                        byte 40 (omega arith) (omega arith) ∙ sym cr.at6,
                      ),
                      byte 41 (omega arith) (omega arith) ∙ sym cr.at7,
                    ),
                    byte 42 (omega arith) (omega arith) ∙ small_part (g.locs 42) 1 (in_range 42 (omega arith)),
                  ),
                  byte 43 (omega arith) (omega arith) ∙ small_part (g.locs 43) 1 (in_range 43 (omega arith)),
                ),
                byte 44 (omega arith) (omega arith) ∙ small_part (g.locs 44) 1 (in_range 44 (omega arith)),
              ),
              byte 45 (omega arith) (omega arith) ∙ seven_part (g.locs 45) (in_range 45 (omega arith)),
            )
          where
            moved : (x i v : ℕ) → core.bytes (area + x + i) ≡ v → core.bytes (area + (x + i)) ≡ v
            moved x i v e = let h : area + (x + i) ≡ area + x + i = omega arith in ap core.bytes h ∙ e

            small_part : (v n : ℕ) → v < 2 → v ≡ v / 2 ^ 0 % 2 ^ 1
            small_part v n lt = omega (arith, lt)

            seven_part : (v : ℕ) → v < 128 → v ≡ v / 2 ^ 0 % 2 ^ 7
            seven_part v lt = omega (arith, lt)

        abbrev flags_with : Bool → Bool → Bool → Bool → Flags
        flags_with a b c d = record { cf = a; zf = b; sf = c; of = d }

        same_flags : (a b c d p q r s : Bool) → p ≡ a → q ≡ b → r ≡ c → s ≡ d → flags_with a b c d ≡ flags_with p q r s
        same_flags a b c d p q r s e f h i = ap (λ x. flags_with x b c d) (sym e) ∙ ap (λ x. flags_with p x c d) (sym f) ∙ ap (λ x. flags_with p q x d) (sym h) ∙ ap (flags_with p q r) (sym i)

        -- the body begins with the host
        pub shows_host : ShowsHost goal m area core (body_begins home_fields inputs)
        unfolding with_homes
        shows_host = record {
          eax = refl;
          ecx = refl;
          edx = refl;
          in_slots = λ k e. let lt = slice_get_within slots k true e in let p = slot_below goal six k lt in slotted k e ∙ sym (placed k p);
          at_home = λ k e. let lt = slice_get_within slots k false e in let p = slot_below goal six k lt in at_home k e ∙ sym (placed k p);
          homes = λ i lt. each Home 20 home_bytes i lt;
          constants = λ j has. each (λ j. HasConstant (guests_of goal) j → with_homes 20 home_fields inputs (20 + j) ≡ m.constant j) 3 (((tt, constant_is 0 (omega arith)), constant_is 1 (omega arith)), constant_is 2 (omega arith)) j (word_below j has) has;
          flags = same_flags core.flags.cf core.flags.zf core.flags.sf core.flags.of _ _ _ _ (bit_back core.flags.cf) (bit_back core.flags.zf) (bit_back core.flags.sf) (bit_back core.flags.of);
        }
          where
            placed : (k : ℕ) → k < goal.parameters → with_homes 20 home_fields inputs k ≡ g.locs (k + 1)
            placed k p = each (λ k. k < goal.parameters → with_homes 20 home_fields inputs k ≡ g.locs (k + 1)) 6 ((((((tt, parameter_is 0), parameter_is 1), parameter_is 2), parameter_is 3), parameter_is 4), parameter_is 5) k (omega (arith, p, six)) p
