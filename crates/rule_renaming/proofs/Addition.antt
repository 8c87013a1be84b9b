-- The rule of an addition is sound: its one instance is. This project's own.
use Rattle.std.proofs.Common.{◌≡◌, ◌≢◌, ℕ, ◌+◌, ◌*◌, ◌%◌, ◌^◌, ◌<◌, ⊎_elim, Bool, true, false, cond, ltb, List, [], ◌∷◌, map as list_map, IsBitSet, Option, Some, None, refl, sym, ap, ◌∙◌, subst, arith}
use Rattle.std.proofs.lemmas.Bool.Decides.{nat_tests}
use Rattle.std.specs.Int.Bits.{and_zero_l}
use Rattle.machines.specs.Prelude.{Goes, Map, HasOneInstruction, IsWordOf, Instr, Arithmetic, Add, Condition, Pair, Lea, update, Rights, Guest, at_next, Core, value_at, IsReg}
use Rattle.row_laws.proofs.Lists.{first_in}
use Rattle.reg_map.specs.Prelude.{home, home_size, location_range, slot_of, in_slot, location_place}
use Rattle.machines.specs.Host.{Memory}
use Rattle.symbolic_tiles.specs.Prelude.{op_at, TilePrecondition, TilePostcondition, Implements}
use Rattle.symbolic_tiles.proofs.Memory.{update_same, update_other}
use Rattle.symbolic_tiles.proofs.Places.{slots_apart}
use Rattle.rule_body.specs.declared.goal.Goal.{Goal}
use Rattle.rule_body.specs.declared.body.Body.{Body}
use Rattle.rule_body.specs.declared.goal.Guest.{Guest as GuestWord}
use Rattle.rule_body.specs.Prelude.{AreGuests, guests_of, template_of, IsGoal, IsBody, is_ending, is_straight, parts, accesses, IsRule}
use Rattle.rule_soundness.specs.Prelude.{Match, laid_words, laid_ops, window, loads_of, stores_of, AccessWindow, accessed, IsConditionOf, dead_of}
use Rattle.rule_renaming.specs.Plain.{plain, IsOwnMap, OneInstanceIsEnough}
use Rattle.rule_renaming.specs.Examples.{add_goal, lea_body, AdditionIsSound}
use Rattle.rule_renaming.proofs.Guests.{is_same}

abbrev addition : Instr
addition = Arithmetic Add 1 2 3 false

addition_is : IsWordOf 0x7c221a14 addition
addition_is = record { spelled = refl; legal = record { fit = (omega arith, (omega arith, (omega arith, (omega arith, (omega arith, (omega arith, tt)))))); allowed = tt } }

one_word : ((w : ℕ) → HasOneInstruction w) → (words : List Instr) → AreGuests (guests_of add_goal) words → words ≡ addition ∷ []
one_word one [] are = absurd are
one_word one (i ∷ []) are = ap (λ x. x ∷ []) (one 0x7c221a14 i addition are.0.word addition_is)
one_word one (i ∷ j ∷ is) are = absurd are.1

same_guest : (g g' : Guest) → Goes g ≡ Goes g' → g ≡ g'
same_guest g g' e = cc

word_range : (x : ℕ) → x < 32 → location_range x ≡ 2 ^ 32
word_range x lt = let e : ltb x 34 ≡ true = grind (arith, nat_tests) in ap (λ b. cond b (2 ^ 32) (cond (ltb x 42) 16 (cond (ltb x 45) 2 128))) e

module _ (own : Map) (area : ℕ) (is_own : IsOwnMap (template_of add_goal).slots own) where
  -- p1, p2 and p3 are in ebx, esi and edi
  first : slot_of own 1 ≡ Some 3
  first = is_own.in_slots 0 refl

  second : slot_of own 2 ≡ Some 6
  second = is_own.in_slots 1 refl

  third : slot_of own 3 ≡ Some 7
  third = is_own.in_slots 2 refl

  module _ (dead : ℕ → Bool) (guest host : Rights) (g : Guest) (core : Core) (ready : TilePrecondition (window (addition ∷ []) dead None) own area guest host g core) where
    in_register : (x r : ℕ) → x < 46 → slot_of own x ≡ Some r → core.regs r ≡ g.locs x
    in_register x r lx e = ap (λ o. value_at core (in_slot o (Memory (home_size x) (area + home x)))) (sym e) ∙ ready.represents.locs x lx tt

    total : ℕ
    total = (g.locs 2 + g.locs 3) % 2 ^ 32

    address : (core.regs 6 + core.regs 7 * 2 ^ 0 + 0) % 2 ^ 32 ≡ total
    unfolding total
    address = let e = in_register 2 6 (omega arith) second in let d = in_register 3 7 (omega arith) third in ap (λ k. k % 2 ^ 32) (sums (core.regs 6) (core.regs 7) (g.locs 2) (g.locs 3) e d)
      where
        sums : (a b x y : ℕ) → a ≡ x → b ≡ y → a + b * 2 ^ 0 + 0 ≡ x + y
        sums a b x y e d = omega (arith, e, d)

    abbrev end : Core
    end = record core { regs = update core.regs 3 ((core.regs 6 + core.regs 7 * 2 ^ 0 + 0) % 2 ^ 32) }

    abbrev after : ℕ → ℕ
    after = update g.locs 1 total

    other_value : (x : ℕ) → x ≢ 1 → value_at end (location_place own area x) ≡ value_at core (location_place own area x)
    other_value x ne = by_slot (slot_of own x) refl
      where
        by_slot : (o : Option ℕ) → slot_of own x ≡ o → value_at end (in_slot o (Memory (home_size x) (area + home x))) ≡ value_at core (in_slot o (Memory (home_size x) (area + home x)))
        by_slot None e = refl
        by_slot (Some r) e = update_other core.regs 3 ((core.regs 6 + core.regs 7 * 2 ^ 0 + 0) % 2 ^ 32) r (λ h. ne (slots_apart own x 1 3 (e ∙ ap Some h) first))

    locs : (x : ℕ) → x < 46 → value_at end (location_place own area x) ≡ after x
    locs x lx = ⊎_elim (λ (e : x ≡ 1).
        ap (λ k. value_at end (location_place own area k)) e ∙ ap (λ o. value_at end (in_slot o (Memory (home_size 1) (area + home 1)))) first ∙ update_same core.regs 3 ((core.regs 6 + core.regs 7 * 2 ^ 0 + 0) % 2 ^ 32) ∙ address ∙ sym (update_same g.locs 1 total) ∙ ap after (sym e))
        (λ ne. other_value x ne ∙ ready.represents.locs x lx tt ∙ sym (update_other g.locs 1 total x ne)) (is_same x 1)

    ranges : (x : ℕ) → x < 46 → after x < location_range x
    unfolding total
    ranges x lx = ⊎_elim (λ (e : x ≡ 1). subst (λ k. after k < location_range k) (sym e) (subst (λ v. v < location_range 1) (sym (update_same g.locs 1 total)) (subst (λ n. total < n) (sym (word_range 1 (omega arith))) (omega arith))))
        (λ ne. subst (λ v. v < location_range x) (sym (update_other g.locs 1 total x ne)) (ready.in_range x lx)) (is_same x 1)

    words : (r : ℕ) → end.regs r < 2 ^ 32
    words r = ⊎_elim (λ (e : r ≡ 3). subst (λ k. end.regs k < 2 ^ 32) (sym e) (subst (λ v. v < 2 ^ 32) (sym (update_same core.regs 3 ((core.regs 6 + core.regs 7 * 2 ^ 0 + 0) % 2 ^ 32))) (omega arith)))
        (λ ne. subst (λ v. v < 2 ^ 32) (sym (update_other core.regs 3 ((core.regs 6 + core.regs 7 * 2 ^ 0 + 0) % 2 ^ 32) r ne)) (ready.is_core.words r)) (is_same r 3)

    addition_done : TilePostcondition (window (addition ∷ []) dead None) own area guest g (at_next after g) core end
    addition_done = record {
      represents = record { locs = λ x lx alive. locs x lx; bytes = ready.represents.bytes };
      in_range = λ x lx. subst (λ v. v < location_range x) (sym (locs x lx)) (ranges x lx);
      registers = λ r n0 n1 n2 unwritten. update_other core.regs 3 ((core.regs 6 + core.regs 7 * 2 ^ 0 + 0) % 2 ^ 32) r (λ h. unwritten 1 (first_in 1 []) (first ∙ ap Some (sym h)));
      memory = λ a is. refl;
      condition = λ c e. absurd cc;
      is_core = record { words = words; bytes = ready.is_core.bytes };
    }

  addition_does : (dead : ℕ → Bool) → Implements (window (addition ∷ []) dead None) own area (Lea 3 (Pair 6 7 0 0) ∷ [])
  unfolding total
  addition_does dead guest host g g' core choices ready goes =
      subst (λ k. TilePostcondition (window (addition ∷ []) dead None) own area guest g k core (end dead guest host g core ready)) (same_guest (at_next (after dead guest host g core ready) g) g' goes) (addition_done dead guest host g core ready)

  addition_accesses : (dead : ℕ → Bool) → AccessWindow (window (addition ∷ []) dead None) own area (Lea 3 (Pair 6 7 0 0) ∷ [])
  unfolding accessed loads_of stores_of
  addition_accesses dead guest host g g' core choices ready goes = record { loads = refl; stores = refl }

-- what soundness at a match asks, of a goal and a body
record SoundFor (goal : Goal) (body : Body) (words : List Instr) (condition : Option Condition) (map : Map) (m : Match) (area : ℕ) : Type 0 where
  pub does : Implements (window (laid_words m 0 (guests_of goal) words) (dead_of goal m) condition) map area (list_map (op_at area) (laid_ops m body))
  pub accesses : AccessWindow (window (laid_words m 0 (guests_of goal) words) (dead_of goal m) condition) map area (list_map (op_at area) (laid_ops m body))

addition_sound : ((w : ℕ) → HasOneInstruction w) → (words : List Instr) (condition : Option Condition) (own : Map) (m : Match) (area : ℕ) → AreGuests (guests_of add_goal) words → IsConditionOf None condition → IsOwnMap (template_of add_goal).slots own →
    SoundFor add_goal lea_body words condition own (plain m) area
unfolding laid_words
addition_sound one words (Some c) own m area are takes is_own = absurd takes
addition_sound one words None own m area are takes is_own =
    subst (λ ws. SoundFor add_goal lea_body ws None own (plain m) area) (sym (one_word one words are))
    (record { does = addition_does own area is_own (dead_of add_goal (plain m)); accesses = addition_accesses own area is_own (dead_of add_goal (plain m)) })

same_word : (g h : GuestWord) → Some g ≡ Some h → g ≡ h
same_word g h e = cc

not_both : (b : Bool) → b ≡ true → b ≡ false → ⊥
not_both true e d = cc
not_both false e d = cc

-- the goal and the body are those of a rule
a_register : (r : ℕ) → r < 8 → r ≢ 4 → r ≢ 5 → IsReg r
a_register r lt four five = (lt, four, five)

unset : (k : ℕ) → IsBitSet 0 k → ⊥
unset k is = is (and_zero_l (2 ^ k))

addition_goal : IsGoal add_goal
addition_goal = record {
  tidy = record { count = omega arith; parameters = omega arith; words = (refl, (refl, tt)); free = (refl, (refl, tt)); slots = (refl, (refl, (refl, tt))) };
  template = record {
    placed = record {
      window = addition ∷ [];
      is = record { few = omega arith; words = (record { word = addition_is; row = refl }, tt); straight = tt; one_access = omega arith; numbered = (omega arith, omega arith, omega arith, (omega arith, omega arith, omega arith, (omega arith, omega arith, omega arith, tt))) };
      some = omega arith;
      parameters = refl;
      few = omega arith;
    };
    names = omega arith;
    written = λ k lt is. absurd (unset k is);
  };
}

addition_body : ((w : ℕ) → HasOneInstruction w) → IsBody add_goal lea_body
unfolding is_straight parts accesses
addition_body one = record {
  count = omega arith;
  lines = record {
    few = omega arith;
    each = (record { profile = (a_register 3 (omega arith) (λ e. absurd (omega (arith, e))) (λ e. absurd (omega (arith, e))), (a_register 6 (omega arith) (λ e. absurd (omega (arith, e))) (λ e. absurd (omega (arith, e))), a_register 7 (omega arith) (λ e. absurd (omega (arith, e))) (λ e. absurd (omega (arith, e))), omega arith, omega arith)); straight = refl; registers = (refl, (refl, (refl, tt))); operand = refl; hole = tt }, tt);
    one_access = omega arith;
  };
  clear = (refl, (refl, (refl, tt)));
  taken = λ b. branches (b.0) b.1 b.2.0 b.2.1 b.2.2;
}
  where
    branches : (g : GuestWord) → Some (record { word = 0x7c221a14; free = false }) ≡ Some g → (i : Instr) → IsWordOf g.word i → is_ending i ≡ true → ⊥
    branches g e i is ends =
        let h = same_word (record { word = 0x7c221a14; free = false }) g e in
        let same = one 0x7c221a14 i addition (subst (λ (x : GuestWord). IsWordOf x.word i) (sym h) is) addition_is in
        not_both (is_ending i) ends (ap is_ending same)

pub addition_is_sound : ((w : ℕ) → HasOneInstruction w) → OneInstanceIsEnough → AdditionIsSound
addition_is_sound one enough rule goal body log =
    let is : IsRule rule = record {
      goal = subst IsGoal (sym goal) addition_goal;
      body = subst (λ (x : Goal). IsBody x rule.body) (sym goal) (subst (IsBody add_goal) (sym body) (addition_body one));
      log = log;
    } in (
      is,
      enough rule is (λ words condition own m area is_window takes is_own constants.
          let s = addition_sound one words condition own m area (subst (λ (x : Goal). AreGuests (guests_of x) words) goal is_window.words) (subst (λ (x : Body). IsConditionOf x.take condition) body takes) (subst (λ (x : Goal). IsOwnMap (template_of x).slots own) goal is_own) in
          let t = subst (λ (x : Goal). SoundFor x rule.body words condition own (plain m) area) (sym goal) (subst (λ (x : Body). SoundFor add_goal x words condition own (plain m) area) (sym body) s) in
          record { does = t.does; accesses = t.accesses }),
    )
