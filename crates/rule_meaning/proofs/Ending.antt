-- Where a body ends as the window of its rule does, the host behind it represents the guest. This project's own.
use Rattle.std.proofs.Common.{◌≡◌, ◌≢◌, ℕ, zero, suc, ◌+◌, ◌-◌, ◌*◌, ◌/◌, ◌%◌, ◌^◌, ◌<◌, ◌≤◌, ◌⊎◌, inl, inr, ⊎_elim, Bool, true, false, cond, not, ◌&&◌, ◌||◌, ◌==◌, eqb, ltb, nat_lt, if◌then◌else◌, bit_and, IsBitSet, List, [], ◌∷◌, ◌++◌, length, get_or, slice_get, Option, Some, None, option_map, Contains, refl, sym, ap, ◌∙◌, subst, arith}
use Rattle.std.specs.List.{flat_map, range_with_len}
use Rattle.std.proofs.lemmas.Bool.Decides.{nat_tests}
use Rattle.std.proofs.lemmas.List.FromFn.{length-range_with_len, get_or-range_with_len}
use Rattle.std.proofs.lemmas.List.Folds.{list_any_at}
use Rattle.std.proofs.lemmas.List.Elements.{All-contains, Contains-append_left, Contains-append_right, Contains-push}
use Rattle.std.proofs.lemmas.Option.{slice_get-get_or, slice_get_within}
use Rattle.ia_codec.specs.declared.op.Op.TheVariants.{Jcc}
use Rattle.ia_codec.specs.Reading.{condition_of_number}
use Rattle.machines.specs.Prelude.{Instr, Map, load, Rights, Guest, Choice, Core, value_at, Condition, Below, NotBelow, Equal, NotEqual, NotAbove, Above, Sign, NotSign, Less, NotLess, NotGreater, Greater, condition_number, condition_holds}
use Rattle.reg_map.specs.Prelude.{home, home_size, location_range, slot_of, location_place}
use Rattle.symbolic_tiles.specs.Prelude.{Window, TilePrecondition, TilePostcondition, IsUnowned}
use Rattle.rule_body.specs.declared.goal.Goal.{Goal}
use Rattle.rule_body.specs.declared.body.Body.{Body}
use Rattle.rule_body.specs.Prelude.{named}
use Rattle.rule_soundness.specs.Prelude.{Match, body_slot, window, dead_of, is_dead_name, location_named, IsConditionOf, HaveAccess}
use Rattle.rule_renaming.specs.Plain.{plain, IsOwnMap}
use Rattle.rule_renaming.proofs.Hosts.{load_alike}
use Rattle.row_runs.specs.Windows.{WindowRun}
use Rattle.row_runs.specs.Bodies.{BodyRun}
use Rattle.place_circuits.specs.Fields.{field_value}
use Rattle.window_circuits.specs.Rules.{IsTaken, Follows}
use Rattle.window_circuits.specs.declared.pairs.End.{End}
use Rattle.rule_places.specs.Accesses.{loads_at, stores_at, behind_accesses}
use Rattle.rule_places.specs.Guests.{GuestRan, plain_window}
use Rattle.rule_places.specs.Hosts.{HostRan, IsNoHome, plain_ops}
use Rattle.rule_places.specs.Ends.{named_end_at, is_needed, ends_below, ends_of, jump_of}
use Rattle.rule_meaning.proofs.Numbers.{CrParts, XerParts, cr_parts, xer_parts}
use Rattle.rule_meaning.proofs.Memories.{behind_same, behind_kept, load_four, load_one}
use Rattle.rule_meaning.proofs.Places.{slots, slot_below, slot_low, slot_value, home_value, far_value, other_value, word_value, byte_home, home_none, far_none, Kind, kind}
use Rattle.rule_meaning.proofs.Starting.{Each, each}

is_true_or : (a b : Bool) → a ≡ true → (a || b) ≡ true
is_true_or true b e = refl
is_true_or false b e = absurd cc

-- the ends that are needed are among those of the goal
asked_in : (goal : Goal) (n k : ℕ) → k < n → is_needed goal (named_end_at k).name ≡ true → Contains (ends_below n goal) (named_end_at k).end
unfolding ends_below
asked_in goal zero k lt need = absurd (omega (arith, lt))
asked_in goal (suc n) k lt need = by_test (eqb k n) refl (λ l. asked_in goal n k l need)
  where
    here : Contains (if is_needed goal (named_end_at k).name then (named_end_at k).end ∷ [] else []) (named_end_at k).end
    here = subst (λ (b : Bool). Contains (if b then (named_end_at k).end ∷ [] else []) (named_end_at k).end) (sym need) (Contains-push [] (named_end_at k).end)

    by_test : (b : Bool) → eqb k n ≡ b → (k < n → Contains (ends_below n goal) (named_end_at k).end) → Contains (ends_below n goal ++ (if is_needed goal (named_end_at n).name then (named_end_at n).end ∷ [] else [])) (named_end_at k).end
    by_test true e rest =
        let h : k ≡ n = grind (arith, nat_tests) in
        Contains-append_right (ends_below n goal) (if is_needed goal (named_end_at n).name then (named_end_at n).end ∷ [] else []) (named_end_at k).end
        (subst (λ j. Contains (if is_needed goal (named_end_at j).name then (named_end_at j).end ∷ [] else []) (named_end_at k).end) h here)
    by_test false e rest = Contains-append_left (ends_below n goal) (if is_needed goal (named_end_at n).name then (named_end_at n).end ∷ [] else []) (named_end_at k).end (rest (grind (arith, nat_tests)))

needed_far : (goal : Goal) (k : ℕ) → nat_lt k 6 ≡ false → is_dead_name goal k ≡ false → is_needed goal k ≡ true
needed_far goal k far alive = by_tests (nat_lt k goal.parameters) (nat_lt k 6) (is_dead_name goal k) far alive
  where
    by_tests : (a b c : Bool) → b ≡ false → c ≡ false → ((a || not b) && not c) ≡ true
    by_tests true false false e d = refl
    by_tests false false false e d = refl
    by_tests a true c e d = absurd cc
    by_tests a b true e d = absurd cc

needed_parameter : (goal : Goal) (k : ℕ) → k < goal.parameters → is_dead_name goal k ≡ false → is_needed goal k ≡ true
needed_parameter goal k lt alive = let t : nat_lt k goal.parameters ≡ true = grind (arith, nat_tests) in by_tests (nat_lt k goal.parameters) (nat_lt k 6) (is_dead_name goal k) t alive
  where
    by_tests : (a b c : Bool) → a ≡ true → c ≡ false → ((a || not b) && not c) ≡ true
    by_tests true b false e d = refl
    by_tests false b c e d = absurd cc
    by_tests a b true e d = absurd cc

-- a location that isn't dead has no dead name
alive_name : (goal : Goal) (m : Match) (k x : ℕ) → k < 20 → location_named (plain m) k ≡ x → dead_of goal (plain m) x ≡ false → is_dead_name goal k ≡ false
unfolding dead_of
alive_name goal m k x lt e alive = by_dead (is_dead_name goal k) refl
  where
    both : (a b : Bool) → a ≡ true → b ≡ true → (a && b) ≡ true
    both true true p q = refl
    both false b p q = absurd cc
    both a false p q = absurd cc

    clash : (b : Bool) → b ≡ true → b ≡ false → ⊥
    clash true p q = cc
    clash false p q = cc

    equal : (y z : ℕ) → y ≡ z → (y == z) ≡ true
    equal y z h = grind (arith, nat_tests)

    by_dead : (b : Bool) → is_dead_name goal k ≡ b → is_dead_name goal k ≡ false
    by_dead false d = d
    by_dead true d =
        let w = length-range_with_len 0 20 in
        let z : 0 + k ≡ k = omega arith in
        let at : get_or (range_with_len 0 20) k 0 ≡ k = get_or-range_with_len 0 20 k 0 lt ∙ z in
        absurd (clash (dead_of goal (plain m) x)
        (list_any_at (λ k. is_dead_name goal k && location_named (plain m) k == x) (range_with_len 0 20) k 0 (omega (arith, lt, w))
        (subst (λ j. (is_dead_name goal j && location_named (plain m) j == x) ≡ true) (sym at) (both (is_dead_name goal k) (location_named (plain m) k == x) d (equal (location_named (plain m) k) x e)))) alive)

dead_bit : (n p : ℕ) → not (bit_and n p == 0) ≡ true → bit_and n p ≢ 0
dead_bit n p e z = by_number (bit_and n p) e z
  where
    by_number : (v : ℕ) → not (v == 0) ≡ true → v ≡ 0 → ⊥
    by_number v e z = grind (arith, nat_tests)

-- the condition of a body's take
condition_back : (c : Condition) → condition_of_number (condition_number c) ≡ Some c
unfolding condition_of_number
condition_back Below = refl
condition_back NotBelow = refl
condition_back Equal = refl
condition_back NotEqual = refl
condition_back NotAbove = refl
condition_back Above = refl
condition_back Sign = refl
condition_back NotSign = refl
condition_back Less = refl
condition_back NotLess = refl
condition_back NotGreater = refl
condition_back Greater = refl

taken_so : (take : Option ℕ) (condition : Option Condition) (window_run : WindowRun) (body_run : BodyRun) → IsConditionOf take condition → IsTaken (jump_of take) window_run body_run → (c : Condition) → condition ≡ Some c → condition_holds c body_run.flags ≡ window_run.taken
taken_so None None window_run body_run is taken c e = absurd cc
taken_so None (Some d) window_run body_run is taken c e = absurd is
taken_so (Some n) None window_run body_run is taken c e = absurd is
taken_so (Some n) (Some d) window_run body_run is taken c e =
    let h : d ≡ c = cc in
    let number : condition_of_number n ≡ Some d = ap condition_of_number (sym is) ∙ condition_back d in
    subst (λ d. condition_holds d body_run.flags ≡ window_run.taken) h (sym (subst (λ o. IsTaken (option_map (λ condition. Jcc condition 0) o) window_run body_run) number taken))

module _ (goal : Goal) (body : Body) (words : List Instr) (condition : Option Condition) (m : Match) (own : Map) (six : goal.parameters ≤ 6) (is_own : IsOwnMap (slots goal six) own) (area : ℕ) where
  abbrev pub W : Window
  W = window (plain_window goal words m) (dead_of goal (plain m)) condition

  module _ (guest host : Rights) (g g' : Guest) (core after : Core) (choices : List Choice) (width : ℕ) (window_run : WindowRun) (body_run : BodyRun) (ready : TilePrecondition W own area guest host g core)
      (ran : GuestRan goal words m width guest g g' window_run) (done : HostRan goal body m area host choices core after body_run) (follows : Follows (ends_of goal) (jump_of body.take) window_run body_run)
      (keeps : (p : ℕ) → p < 32 → (Contains W.writes p → ⊥) → g'.locs p ≡ g.locs p) (dead_written : (k : ℕ) → k < 6 → is_dead_name goal k ≡ true → Contains W.writes (k + 1)) (is_condition : IsConditionOf body.take condition) where
    low : area + 4096 ≤ 2 ^ 32
    low = ready.page.low

    -- what was asked for is there
    asked : (n : ℕ) → n < 26 → is_needed goal (named_end_at n).name ≡ true → field_value (named_end_at n).end.from window_run.places ≡ body_run.places (named_end_at n).end.to
    asked n lt need = All-contains (λ (x : End). field_value x.from window_run.places ≡ body_run.places x.to) (ends_of goal) (named_end_at n).end follows.ends (asked_in goal 26 n lt need)

    moved : (x i v : ℕ) → after.bytes (area + (x + i)) ≡ v → after.bytes (area + x + i) ≡ v
    moved x i v e = let h : area + x + i ≡ area + (x + i) = omega arith in ap after.bytes h ∙ e

    -- the home of a location behind the GPRs, of which name 6 + j isn't dead
    abbrev IsHome : ℕ → Type 0
    IsHome j = is_dead_name goal (6 + j) ≡ false → load (home_size (32 + j)) (area + home (32 + j)) after.bytes ≡ g'.locs (32 + j)

    byte_of : (i : ℕ) → i < 20 → is_needed goal (named_end_at (6 + i)).name ≡ true → body_run.places (named_end_at (6 + i)).end.to ≡ body_run.places (32 + i) → after.bytes (area + (128 + i)) ≡ field_value (named_end_at (6 + i)).end.from window_run.places
    byte_of i lt need at = done.shows.homes i lt ∙ sym at ∙ sym (asked (6 + i) (omega (arith, lt)) need)

    lr_home : IsHome 0
    lr_home alive =
        let need = needed_far goal 6 refl alive in
        let e = ran.shows.lr in
        load_four (area + 128) after.bytes (g'.locs 32) (omega (arith, low)) (ran.in_range 32 (omega arith))
        (byte_of 0 (omega arith) need refl ∙ ap (λ v. v / 2 ^ 0 % 2 ^ 8) e) (moved 128 1 _ (byte_of 1 (omega arith) need refl ∙ ap (λ v. v / 2 ^ 8 % 2 ^ 8) e))
        (moved 128 2 _ (byte_of 2 (omega arith) need refl ∙ ap (λ v. v / 2 ^ 16 % 2 ^ 8) e)) (moved 128 3 _ (byte_of 3 (omega arith) need refl ∙ ap (λ v. v / 2 ^ 24 % 2 ^ 8) e))

    ctr_home : IsHome 1
    ctr_home alive =
        let need = needed_far goal 7 refl alive in
        let e = ran.shows.ctr in
        load_four (area + 132) after.bytes (g'.locs 33) (omega (arith, low)) (ran.in_range 33 (omega arith))
        (byte_of 4 (omega arith) need refl ∙ ap (λ v. v / 2 ^ 0 % 2 ^ 8) e) (moved 132 1 _ (byte_of 5 (omega arith) need refl ∙ ap (λ v. v / 2 ^ 8 % 2 ^ 8) e))
        (moved 132 2 _ (byte_of 6 (omega arith) need refl ∙ ap (λ v. v / 2 ^ 16 % 2 ^ 8) e)) (moved 132 3 _ (byte_of 7 (omega arith) need refl ∙ ap (λ v. v / 2 ^ 24 % 2 ^ 8) e))

    one_byte : (i v : ℕ) → i < 20 → after.bytes (area + (128 + i)) ≡ v → load 1 (area + (128 + i)) after.bytes ≡ v
    one_byte i v lt e = load_one (area + (128 + i)) after.bytes (omega (arith, low, lt)) ∙ e

    cr : CrParts (g'.locs 34) (g'.locs 35) (g'.locs 36) (g'.locs 37) (g'.locs 38) (g'.locs 39) (g'.locs 40) (g'.locs 41)
    cr = cr_parts (g'.locs 34) (g'.locs 35) (g'.locs 36) (g'.locs 37) (g'.locs 38) (g'.locs 39) (g'.locs 40) (g'.locs 41)
        (ran.in_range 34 (omega arith)) (ran.in_range 35 (omega arith)) (ran.in_range 36 (omega arith)) (ran.in_range 37 (omega arith)) (ran.in_range 38 (omega arith)) (ran.in_range 39 (omega arith)) (ran.in_range 40 (omega arith)) (ran.in_range 41 (omega arith))

    xer : XerParts (g'.locs 43) (g'.locs 44) (g'.locs 42) (g'.locs 45)
    xer = xer_parts (g'.locs 43) (g'.locs 44) (g'.locs 42) (g'.locs 45) (ran.in_range 43 (omega arith)) (ran.in_range 44 (omega arith)) (ran.in_range 42 (omega arith)) (ran.in_range 45 (omega arith))

    byte_homes : Each IsHome 14
    byte_homes = (
      (
        (
          (
            (
              (
                (
                  (
                    (
                      (
                        (
                          (
                            ((tt, lr_home), ctr_home),
                            λ alive. one_byte 8 _ (omega arith) (byte_of 8 (omega arith) (needed_far goal 8 refl alive) refl ∙ ap (λ v. v / 2 ^ 28 % 2 ^ 4) ran.shows.cr ∙ cr.at0),
                          ),
                          λ alive. one_byte 9 _ (omega arith) (byte_of 9 (omega arith) (needed_far goal 9 refl alive) refl ∙ ap (λ v. v / 2 ^ 24 % 2 ^ 4) ran.shows.cr ∙ cr.at1),
                        ),
                        λ alive. one_byte 10 _ (omega arith) (byte_of 10 (omega arith) (needed_far goal 10 refl alive) refl ∙ ap (λ v. v / 2 ^ 20 % 2 ^ 4) ran.shows.cr ∙ cr.at2),
                      ),
                      λ alive. one_byte 11 _ (omega arith) (byte_of 11 (omega arith) (needed_far goal 11 refl alive) refl ∙ ap (λ v. v / 2 ^ 16 % 2 ^ 4) ran.shows.cr ∙ cr.at3),
                    ),
                    λ alive. one_byte 12 _ (omega arith) (byte_of 12 (omega arith) (needed_far goal 12 refl alive) refl ∙ ap (λ v. v / 2 ^ 12 % 2 ^ 4) ran.shows.cr ∙ cr.at4),
                  ),
                  λ alive. one_byte 13 _ (omega arith) (byte_of 13 (omega arith) (needed_far goal 13 refl alive) refl ∙ ap (λ v. v / 2 ^ 8 % 2 ^ 4) ran.shows.cr ∙ cr.at5),
                ),
                λ alive. one_byte 14 _ (omega arith) (byte_of 14 (omega arith) (needed_far goal 14 refl alive) refl ∙ ap (λ v. v / 2 ^ 4 % 2 ^ 4) ran.shows.cr ∙ cr.at6),
              ),
              λ alive. one_byte 15 _ (omega arith) (byte_of 15 (omega arith) (needed_far goal 15 refl alive) refl ∙ ap (λ v. v / 2 ^ 0 % 2 ^ 4) ran.shows.cr ∙ cr.at7),
            ),
            λ alive. one_byte 16 _ (omega arith) (byte_of 16 (omega arith) (needed_far goal 16 refl alive) refl ∙ ap (λ v. v / 2 ^ 29 % 2 ^ 1) ran.shows.xer ∙ xer.ca_is),
          ),
          λ alive. one_byte 17 _ (omega arith) (byte_of 17 (omega arith) (needed_far goal 17 refl alive) refl ∙ ap (λ v. v / 2 ^ 31 % 2 ^ 1) ran.shows.xer ∙ xer.so_is),
        ),
        λ alive. one_byte 18 _ (omega arith) (byte_of 18 (omega arith) (needed_far goal 18 refl alive) refl ∙ ap (λ v. v / 2 ^ 30 % 2 ^ 1) ran.shows.xer ∙ xer.ov_is),
      ),
      λ alive. one_byte 19 _ (omega arith) (byte_of 19 (omega arith) (needed_far goal 19 refl alive) refl ∙ ap (λ v. v / 2 ^ 0 % 2 ^ 7) ran.shows.xer ∙ xer.xc_is),
    )

    far_locs : (x : ℕ) → 32 ≤ x → x < 46 → is_dead_name goal (x - 26) ≡ false → value_at after (location_place own area x) ≡ g'.locs x
    far_locs x from to alive =
        let k : 6 + (x - 32) ≡ x - 26 = omega (arith, from) in
        let y : 32 + (x - 32) ≡ x = omega (arith, from) in
        far_value goal six own is_own area after x from
        ∙ subst (λ y. load (home_size y) (area + home y) after.bytes ≡ g'.locs y) y (each IsHome 14 byte_homes (x - 32) (omega (arith, from, to)) (ap (is_dead_name goal) k ∙ alive))

    -- a parameter's value
    abbrev IsEnd : ℕ → Type 0
    IsEnd k = k < goal.parameters → is_dead_name goal k ≡ false → window_run.places k / 2 ^ 0 % 2 ^ 32 ≡ body_run.places k

    ends : Each IsEnd 6
    ends = (
      (
        (
          (((tt, λ lt alive. asked 0 (omega arith) (needed_parameter goal 0 lt alive)), λ lt alive. asked 1 (omega arith) (needed_parameter goal 1 lt alive)), λ lt alive. asked 2 (omega arith) (needed_parameter goal 2 lt alive)),
          λ lt alive. asked 3 (omega arith) (needed_parameter goal 3 lt alive),
        ),
        λ lt alive. asked 4 (omega arith) (needed_parameter goal 4 lt alive),
      ),
      λ lt alive. asked 5 (omega arith) (needed_parameter goal 5 lt alive),
    )

    parameter_place : (k : ℕ) → k < length (slots goal six) → value_at after (location_place own area (k + 1)) ≡ body_run.places k
    parameter_place k lt = by_slot (get_or (slots goal six) k false) (slice_get-get_or (slots goal six) k false lt)
      where
        by_slot : (s : Bool) → slice_get (slots goal six) k ≡ Some s → value_at after (location_place own area (k + 1)) ≡ body_run.places k
        by_slot true e = slot_value goal six own is_own area after k e ∙ done.shows.in_slots k e
        by_slot false e = home_value goal six own is_own area after k e ∙ done.shows.at_home k e

    parameter_locs : (k : ℕ) → k < length (slots goal six) → is_dead_name goal k ≡ false → value_at after (location_place own area (k + 1)) ≡ g'.locs (k + 1)
    parameter_locs k lt alive =
        let p = slot_below goal six k lt in
        let word = ran.in_range (k + 1) (omega (arith, p, six)) in
        let t : ltb (k + 1) 34 ≡ true = grind (arith, nat_tests) in
        let small : g'.locs (k + 1) < 2 ^ 32 = subst (λ b. g'.locs (k + 1) < cond b (2 ^ 32) (cond (ltb (k + 1) 42) 16 (cond (ltb (k + 1) 45) 2 128))) t word in
        let whole : g'.locs (k + 1) / 2 ^ 0 % 2 ^ 32 ≡ g'.locs (k + 1) = omega (arith, small) in
        parameter_place k lt ∙ sym (each IsEnd 6 ends k (omega (arith, p, six)) p alive) ∙ ap (λ v. v / 2 ^ 0 % 2 ^ 32) (ran.shows.parameters k lt) ∙ whole

    -- a GPR that is no parameter
    other_locs : (x : ℕ) → x < 32 → ((k : ℕ) → k < length (slots goal six) → x ≢ k + 1) → value_at after (location_place own area x) ≡ g'.locs x
    other_locs x lt not_so =
        other_value goal six own is_own area after x lt not_so
        ∙ load_alike 4 (area + 4 * x) (area + 4 * x) after.bytes core.bytes (λ i li. let e : (area + 4 * x + i) % 2 ^ 32 ≡ area + (4 * x + i) = omega (arith, low, lt, li) in ap after.bytes e ∙ done.page (4 * x + i) (omega (arith, lt, li)) (no_home i li) ∙ ap core.bytes (sym e))
        ∙ sym (other_value goal six own is_own area core x lt not_so) ∙ ready.represents.locs x (omega (arith, lt)) tt ∙ sym (ran.others x lt not_so)
      where
        no_home : (i : ℕ) → i < 4 → IsNoHome goal (4 * x + i)
        no_home i li = record {
          no_parameter = λ k e. let d = not_so k (slice_get_within (slots goal six) k false e) in by_test k d (ltb x (k + 1)) refl;
          no_other = inl (omega (arith, lt, li));
        }
          where
            by_test : (k : ℕ) → x ≢ k + 1 → (b : Bool) → ltb x (k + 1) ≡ b → (4 * x + i < 4 * (k + 1)) ⊎ (4 * (k + 1) + 4 ≤ 4 * x + i)
            by_test k d true e = let l : x < k + 1 = grind (arith, nat_tests) in inl (omega (arith, l, li))
            by_test k d false e = let g : k + 1 ≤ x = grind (arith, nat_tests) in inr (omega (arith, g, d))

    locs : (x : ℕ) → x < 46 → dead_of goal (plain m) x ≡ false → value_at after (location_place own area x) ≡ g'.locs x
    locs x lt alive = by_kind (kind goal six own is_own area x)
      where
        by_kind : Kind goal six own is_own area x → value_at after (location_place own area x) ≡ g'.locs x
        by_kind (inl from) =
            let e : nat_lt (x - 26) 6 ≡ false = grind (arith, nat_tests) in
            let h : location_named (plain m) (x - 26) ≡ x = ap (λ b. if b then x - 26 + 1 else (if b then x - 26 + 1 else x - 26 + 26)) e ∙ omega (arith, from) in
            far_locs x from lt (alive_name goal m (x - 26) x (omega (arith, from, lt)) h alive)
        by_kind (inr (inl w)) =
            let p = slot_below goal six w.0 w.1 in
            let e : nat_lt w.0 6 ≡ true = grind (arith, nat_tests) in
            let h : location_named (plain m) w.0 ≡ x = ap (λ b. if b then w.0 + 1 else named w.0) e ∙ sym w.2 in
            subst (λ y. value_at after (location_place own area y) ≡ g'.locs y) (sym w.2) (parameter_locs w.0 w.1 (alive_name goal m w.0 x (omega (arith, p, six)) h alive))
        by_kind (inr (inr w)) = other_locs x w.0 w.1

    low_range : (x : ℕ) → x < 34 → location_range x ≡ 2 ^ 32
    low_range x lt = let t : ltb x 34 ≡ true = grind (arith, nat_tests) in ap (λ b. cond b (2 ^ 32) (cond (ltb x 42) 16 (cond (ltb x 45) 2 128))) t

    ranges : (x : ℕ) → x < 46 → value_at after (location_place own area x) < location_range x
    ranges x lt = by_test (ltb x 34) refl
      where
        far : 34 ≤ x → (b : Bool) → is_dead_name goal (x - 26) ≡ b → value_at after (location_place own area x) < location_range x
        far from false e = subst (λ v. v < location_range x) (sym (far_locs x (omega (arith, from)) lt e)) (ran.in_range x lt)
        far from true e =
            let b : 102 + x - 128 ≡ x - 26 = omega (arith, from) in
            let same = done.dead (102 + x) (omega (arith, from)) (omega (arith, lt)) (subst (λ k. IsBitSet goal.dead.bits k) (sym b) (dead_bit goal.dead.bits (2 ^ (x - 26)) e)) in
            let small : area + (102 + x) < 2 ^ 32 = omega (arith, low, lt) in
            let value = far_value goal six own is_own area after x (omega (arith, from)) ∙ byte_home goal six own is_own area after x from ∙ load_one (area + (102 + x)) after.bytes small ∙ same
            ∙ sym (load_one (area + (102 + x)) core.bytes small) ∙ sym (byte_home goal six own is_own area core x from) ∙ sym (far_value goal six own is_own area core x (omega (arith, from))) ∙ ready.represents.locs x lt tt in
            subst (λ v. v < location_range x) (sym value) (ready.in_range x lt)

        by_test : (b : Bool) → ltb x 34 ≡ b → value_at after (location_place own area x) < location_range x
        by_test true e = let l : x < 34 = grind (arith, nat_tests) in subst (λ n. value_at after (location_place own area x) < n) (sym (low_range x l)) (word_value goal six own is_own area after done.is_core x l)
        by_test false e = far (grind (arith, nat_tests)) (is_dead_name goal (x - 26)) refl

    -- a register that is a parameter's slot
    abbrev IsSlot : ℕ → ℕ → Type 0
    IsSlot r k = (slice_get (slots goal six) k ≡ Some true) × (r ≡ body_slot (slots goal six) k)

    -- the first of so many parameters whose slot it is, or none
    slot_among : (r n : ℕ) → ((k : ℕ) × IsSlot r k) ⊎ ((k : ℕ) → k < n → IsSlot r k → ⊥)
    slot_among r zero = inr (λ k lt is. omega (arith, lt))
    slot_among r (suc n) = ⊎_elim (λ w. inl w) (λ none. by_slot (slice_get (slots goal six) n) (eqb r (body_slot (slots goal six) n)) refl refl none) (slot_among r n)
      where
        others : ((k : ℕ) → k < n → IsSlot r k → ⊥) → (IsSlot r n → ⊥) → (k : ℕ) → k < suc n → IsSlot r k → ⊥
        others none last k lt is = by_test (eqb k n) refl
          where
            by_test : (b : Bool) → eqb k n ≡ b → ⊥
            by_test true e = let h : k ≡ n = grind (arith, nat_tests) in last (subst (IsSlot r) h is)
            by_test false e = none k (grind (arith, nat_tests)) is

        by_slot : (o : Option Bool) (b : Bool) → slice_get (slots goal six) n ≡ o → eqb r (body_slot (slots goal six) n) ≡ b → ((k : ℕ) → k < n → IsSlot r k → ⊥) → ((k : ℕ) × IsSlot r k) ⊎ ((k : ℕ) → k < suc n → IsSlot r k → ⊥)
        by_slot (Some true) true e d none = let h : r ≡ body_slot (slots goal six) n = grind (arith, nat_tests) in inl (n, (e, h))
        by_slot (Some true) false e d none = inr (others none (λ is. let h = is.1 in grind (arith, nat_tests)))
        by_slot (Some false) b e d none = inr (others none (λ is. no_both (slice_get (slots goal six) n) e is.0))
          where
            no_both : (o : Option Bool) → o ≡ Some false → o ≡ Some true → ⊥
            no_both o x y = cc
        by_slot None b e d none = inr (others none (λ is. no_both (slice_get (slots goal six) n) e is.0))
          where
            no_both : (o : Option Bool) → o ≡ None → o ≡ Some true → ⊥
            no_both o x y = cc

    registers : (r : ℕ) → r ≢ 0 → r ≢ 1 → r ≢ 2 → ((x : ℕ) → Contains W.writes x → slot_of own x ≢ Some r) → after.regs r ≡ core.regs r
    registers r n0 n1 n2 free = ⊎_elim (λ w. found w.0 w.1.0 w.1.1 (is_dead_name goal w.0) refl) (λ none. done.registers r n0 n1 n2 (λ k e h. none k (slot_low goal six k true e) (e, h))) (slot_among r 6)
      where
        found : (k : ℕ) → slice_get (slots goal six) k ≡ Some true → r ≡ body_slot (slots goal six) k → (b : Bool) → is_dead_name goal k ≡ b → after.regs r ≡ core.regs r
        found k e h true dead = absurd (free (k + 1) (dead_written k (slot_low goal six k true e) dead) (is_own.in_slots k e ∙ ap Some (sym h)))
        found k e h false alive =
            let lt = slice_get_within (slots goal six) k true e in
            let six_k = slot_low goal six k true e in
            ap after.regs h ∙ sym (slot_value goal six own is_own area after k e) ∙ parameter_locs k lt alive
            ∙ keeps (k + 1) (omega (arith, six_k)) (λ c. free (k + 1) c (is_own.in_slots k e ∙ ap Some (sym h)))
            ∙ sym (ready.represents.locs (k + 1) (omega (arith, six_k)) tt) ∙ slot_value goal six own is_own area core k e ∙ ap core.regs (sym h)

    -- what the body stores the window stores, and may
    stored_held : (a : ℕ) → Contains (flat_map stores_at body_run.accesses) a → guest.held a ≡ true
    stored_held a c = ready.writes_held a (ran.inside.stored a (subst (λ xs. Contains (flat_map stores_at xs) a) (sym follows.accesses) c))

    clash : (b : Bool) → b ≡ true → b ≡ false → ⊥
    clash true p q = cc
    clash false p q = cc

    memory : (a : ℕ) → IsUnowned own area guest.held a → after.bytes a ≡ core.bytes a
    memory a is = by_tests (ltb a area) (ltb a (area + 4096)) refl refl
      where
        far : (a < area) ⊎ (area + 4096 ≤ a) → after.bytes a ≡ core.bytes a
        far w = done.outside a w ∙ behind_kept body_run.accesses core.bytes a (λ c. clash (guest.held a) (stored_held a c) is.no_guest)

        within : (i : ℕ) → i < 4096 → a ≡ area + i → after.bytes a ≡ core.bytes a
        within i lt e = ap after.bytes e ∙ done.page i lt (record { no_parameter = λ k s. of_parameter k s (ltb i (4 * (k + 1))) (ltb i (4 * (k + 1) + 4)) refl refl; no_other = of_other (ltb i 128) (ltb i 132) (ltb i 136) (ltb i 148) refl refl refl refl }) ∙ ap core.bytes (sym e)
          where
            home_of_word : (k : ℕ) → k < 34 → (home k ≡ 4 * k) × (home_size k ≡ 4)
            home_of_word k l = let t : ltb k 34 ≡ true = grind (arith, nat_tests) in (ap (λ t. cond t (4 * k) (102 + k)) t, ap (λ t. cond t 4 1) t)

            home_of_byte : (k : ℕ) → 34 ≤ k → (home k ≡ 102 + k) × (home_size k ≡ 1)
            home_of_byte k l = let t : ltb k 34 ≡ false = grind (arith, nat_tests) in (ap (λ t. cond t (4 * k) (102 + k)) t, ap (λ t. cond t 4 1) t)

            of_parameter : (k : ℕ) → slice_get (slots goal six) k ≡ Some false → (b d : Bool) → ltb i (4 * (k + 1)) ≡ b → ltb i (4 * (k + 1) + 4) ≡ d → (i < 4 * (k + 1)) ⊎ (4 * (k + 1) + 4 ≤ i)
            of_parameter k s true d f h = inl (grind (arith, nat_tests))
            of_parameter k s false false f h = inr (grind (arith, nat_tests))
            of_parameter k s false true f h =
                let from : 4 * (k + 1) ≤ i = grind (arith, nat_tests) in
                let to : i < 4 * (k + 1) + 4 = grind (arith, nat_tests) in
                let p = slot_low goal six k false s in
                let w = home_of_word (k + 1) (omega (arith, p)) in
                let place = w.0 in
                let size = w.1 in
                absurd (is.no_home (k + 1) (i - 4 * (k + 1)) (omega (arith, p)) (omega (arith, from, to, size)) (home_none goal six own is_own area k s) (omega (arith, from, e, place)))

            of_other : (b c d f : Bool) → ltb i 128 ≡ b → ltb i 132 ≡ c → ltb i 136 ≡ d → ltb i 148 ≡ f → (i < 128) ⊎ (148 ≤ i)
            of_other true c d f hb hc hd hf = inl (grind (arith, nat_tests))
            of_other false true d f hb hc hd hf =
                let from : 128 ≤ i = grind (arith, nat_tests) in
                let to : i < 132 = grind (arith, nat_tests) in
                absurd (is.no_home 32 (i - 128) (omega arith) (omega (arith, from, to)) (far_none goal six own is_own area 32 (omega arith)) (omega (arith, from, e)))
            of_other false false true f hb hc hd hf =
                let from : 132 ≤ i = grind (arith, nat_tests) in
                let to : i < 136 = grind (arith, nat_tests) in
                absurd (is.no_home 33 (i - 132) (omega arith) (omega (arith, from, to)) (far_none goal six own is_own area 33 (omega arith)) (omega (arith, from, e)))
            of_other false false false true hb hc hd hf =
                let from : 136 ≤ i = grind (arith, nat_tests) in
                let to : i < 148 = grind (arith, nat_tests) in
                let w = home_of_byte (i - 102) (omega (arith, from)) in
                let place = w.0 in
                let size = w.1 in
                absurd (is.no_home (i - 102) 0 (omega (arith, from, to)) (omega (arith, size)) (far_none goal six own is_own area (i - 102) (omega (arith, from))) (omega (arith, from, e, place)))
            of_other false false false false hb hc hd hf = inr (grind (arith, nat_tests))

        by_tests : (b c : Bool) → ltb a area ≡ b → ltb a (area + 4096) ≡ c → after.bytes a ≡ core.bytes a
        by_tests true c e f = far (inl (grind (arith, nat_tests)))
        by_tests false false e f = far (inr (grind (arith, nat_tests)))
        by_tests false true e f =
            let from : area ≤ a = grind (arith, nat_tests) in
            let to : a < area + 4096 = grind (arith, nat_tests) in
            within (a - area) (omega (arith, from, to)) (omega (arith, from))

    held_bytes : (a : ℕ) → guest.held a ≡ true → after.bytes a ≡ g'.bytes a
    held_bytes a held =
        done.outside a (ready.page.apart a held) ∙ behind_same body_run.accesses core.bytes g.bytes a (ready.represents.bytes a held)
        ∙ ap (λ xs. behind_accesses xs g.bytes a) (sym follows.accesses) ∙ sym (ran.bytes a)

    -- the host behind the ops represents the guest
    pub behind : TilePostcondition W own area guest g g' core after
    behind = record {
      represents = record { locs = locs; bytes = held_bytes };
      in_range = ranges;
      registers = registers;
      memory = memory;
      condition = λ c e. ap (condition_holds c) done.shows.flags ∙ taken_so body.take condition window_run body_run is_condition follows.taken c e ∙ ran.taken;
      is_core = done.is_core;
    }

    -- its accesses are the window's
    pub same_accesses : HaveAccess host (plain_ops body m area) choices core W g
    same_accesses = record {
      loads = done.loads ∙ ap (flat_map loads_at) (sym follows.accesses) ∙ sym ran.loads;
      stores = done.stores ∙ ap (flat_map stores_at) (sym follows.accesses) ∙ sym ran.stores;
    }
