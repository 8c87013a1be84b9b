-- The blocks, the adapter and the table of the example.
use Rattle.std.proofs.Common.{◌≡◌, ◌≢◌, ℕ, zero, suc, ◌^◌, ◌<◌, ◌≤◌, ◌⊎◌, inl, inr, Bool, true, false, cond, eqb, List, [], ◌∷◌, length, Option, Some, None, Contains, refl, sym, ap, ◌∙◌, subst, arith}
use Rattle.std.proofs.lemmas.Bool.{eqb-true, ne_eqb, false≢true}
use Rattle.machines.specs.Prelude.{Instr, Map, IsMap, IsWordOf, IsReg, AluImm, MovTo, MovFrom, Add, Reg, Abs, ebx, esi, rights_of, code_of, Fetched, ReadsWords, ReadsOps, behind, is_code_word, word_of_code, guest_executes, Op, Guest}
use Rattle.reg_map.specs.Prelude.{slot_of, IsHomePage}
use Rattle.base_flow.specs.Prelude.{tile as flow_tile}
use Rattle.symbolic_tiles.specs.Prelude.{Fits, flow}
use Rattle.base_flow.proofs.Tiles.{flow_tiles_do_rows}
use Rattle.symbolic_tiles.proofs.PlaceLaws.{programs_write_held}
use Rattle.code_layout.specs.Prelude.{no_registers, entry_of, IsPlaceable, IsLaid}
use Rattle.std.proofs.lemmas.List.Elements.{All-from_recursion}
use Rattle.symbolic_tiles.specs.declared.flow_op.FlowOp.TheVariants.{Edge, Leap}
use Rattle.code_layout.proofs.BuiltWords.{is_map}
use Rattle.simulation.specs.Prelude.{IsOffCode, PlanStep, IsMove, IsTile, LeadsTo, EdgeAt, DoorAt, Begins, MovesKeep}
use Rattle.laid_code.specs.Prelude.{AreSwitches, IsSwitch, AreRight, PlansStand}
use Rattle.laid_code.proofs.Carried.{entry_or_hold}
use Rattle.laid_code.proofs.Rows.{IsStraightWord, straight_tile, straight_leads, straight, flowing, kind_of}
use Rattle.upkeep.specs.Written.{narrow_rights}
use Rattle.plan_example.specs.Example.{program, translation, first, entries, entry_map, adds, back, in_ebx, in_esi, from_none, from_esi, from_ebx, both_adds, one, behind_one, first_plan, last_plan, second_plan, third_plan, area, hold, first_block, last_block, second_block, third_block, adapter, target}
use Rattle.plan_example.proofs.Words.{legal_adds, legal_back, word_1, word_2, word_3, word_4, which, has_words}
use Rattle.plan_example.proofs.Window.{after, goes_same, adds_five}
use Rattle.plan_example.proofs.Context.{s, word_at, off_code, are_placed, runs, first_stands, last_stands, second_stands, third_stands, adapter_stands}

ebx_map : IsMap in_ebx
ebx_map = record { ebx = omega arith; esi = tt; edi = tt; ebx_esi = tt; ebx_edi = tt; esi_edi = tt }

esi_map : IsMap in_esi
esi_map = record { ebx = tt; esi = omega arith; edi = tt; ebx_esi = tt; ebx_edi = tt; esi_edi = tt }

other_slot : (m : Map) (x : ℕ) → (m ≡ in_ebx) ⊎ (m ≡ in_esi) → x ≢ 3 → slot_of m x ≡ None
other_slot m x (inl e) ne = ap (λ k. slot_of k x) e ∙ rw (ne_eqb 3 x (λ q. ne (sym q))) refl
other_slot m x (inr e) ne = ap (λ k. slot_of k x) e ∙ rw (ne_eqb 3 x (λ q. ne (sym q))) refl

reg_3 : IsReg 3
reg_3 = (omega arith, (λ e. omega arith), λ e. omega arith)

reg_6 : IsReg 6
reg_6 = (omega arith, (λ e. omega arith), λ e. omega arith)

stores_placeable : (r : ℕ) → IsReg r → IsPlaceable (MovTo (Abs 12) r)
stores_placeable r reg area low = (omega arith, reg)

loads_placeable : (r : ℕ) → IsReg r → IsPlaceable (MovFrom r (Abs 12))
loads_placeable r reg area low = (reg, omega arith)

sum_placeable : IsPlaceable (AluImm Add (Reg esi) 5)
sum_placeable area low = (reg_6, omega arith)

no_leap : (target : ℕ) → Contains (Edge target ∷ []) Leap → ⊥
no_leap target (zero, lt, is) = cc
no_leap target (suc k, lt, is) = omega (arith, lt)

-- edges off the code lead to `hold`
off_target : (w : ℕ) → is_code_word (code_of program) w ≡ false → target w ≡ hold
off_target w off = rw (not_at 0x10000 refl, not_at 0x10004 refl, not_at 0x10008 refl, not_at 0x1000C refl) refl
  where
    not_at : (k : ℕ) → is_code_word (code_of program) k ≡ true → eqb w k ≡ false
    not_at k on = ne_eqb w k (λ e. false≢true (sym off ∙ ap (λ (a : ℕ). is_code_word (code_of program) a) e ∙ on))

straight_adds : (n : ℕ) → n < 2 ^ 16 → IsStraightWord (adds n)
straight_adds n small = elim (kind_of (adds n) (legal_adds n small)) [ straight word ↦ word | flowing word ↦ absurd (false≢true word.flow) ]

module _ (reading : ℕ → Option Instr) (ops : List ℕ → Option Fetched) (reads_words : ReadsWords reading) (reads_ops : ReadsOps ops) (moves : MovesKeep) (plans : PlansStand) (page : IsHomePage area (rights_of program) (narrow_rights translation)) where
  -- the moves of r3
  take_ebx : (next : ℕ) → IsMove (s reading ops) next no_registers in_ebx (MovFrom ebx (Abs 12) ∷ [])
  take_ebx next = (moves (s reading ops) page no_registers in_ebx 3 ebx_map (omega arith) (λ x ne. other_slot in_ebx x (inl refl) ne) next).1 ebx refl refl

  drop_ebx : (next : ℕ) → IsMove (s reading ops) next in_ebx no_registers (MovTo (Abs 12) ebx ∷ [])
  drop_ebx next = (moves (s reading ops) page in_ebx no_registers 3 is_map (omega arith) (λ x ne. sym (other_slot in_ebx x (inl refl) ne)) next).0 ebx refl refl

  take_esi : (next : ℕ) → IsMove (s reading ops) next no_registers in_esi (MovFrom esi (Abs 12) ∷ [])
  take_esi next = (moves (s reading ops) page no_registers in_esi 3 esi_map (omega arith) (λ x ne. other_slot in_esi x (inr refl) ne) next).1 esi refl refl

  drop_esi : (next : ℕ) → IsMove (s reading ops) next in_esi no_registers (MovTo (Abs 12) esi ∷ [])
  drop_esi next = (moves (s reading ops) page in_esi no_registers 3 is_map (omega arith) (λ x ne. sym (other_slot in_esi x (inr refl) ne)) next).0 esi refl refl

  -- the switches from each map
  none_switch : (next : ℕ) → (length (from_none next) ≤ 1) × IsSwitch (s reading ops) next no_registers (from_none next)
  none_switch next = by_test (eqb next 0x1000C) refl
    where
      by_test : (b : Bool) → eqb next 0x1000C ≡ b → (length {A = Map × List Op} (cond b ((in_ebx, MovFrom ebx (Abs 12) ∷ []) ∷ []) []) ≤ 1) × IsSwitch (s reading ops) next no_registers (cond b ((in_ebx, MovFrom ebx (Abs 12) ∷ []) ∷ []) [])
      by_test true e = (omega arith, (take_ebx next, (loads_placeable 3 reg_3, tt), sym (ap (λ (b : Bool). cond b in_ebx no_registers) e)))
      by_test false e = (omega arith, sym (ap (λ (b : Bool). cond b in_ebx no_registers) e))

  none_switches : AreSwitches (s reading ops) no_registers from_none
  none_switches next = let n = none_switch next in (omega (arith, n.0), n.1)

  esi_switches : AreSwitches (s reading ops) in_esi from_esi
  esi_switches next = let n = none_switch next in (omega (arith, n.0), (drop_esi next, (stores_placeable 6 reg_6, tt), n.1))

  ebx_switches : AreSwitches (s reading ops) in_ebx from_ebx
  ebx_switches next = by_test (eqb next 0x1000C) refl
    where
      by_test : (b : Bool) → eqb next 0x1000C ≡ b → (length {A = Map × List Op} (cond b [] ((no_registers, MovTo (Abs 12) ebx ∷ []) ∷ [])) ≤ 6) × IsSwitch (s reading ops) next in_ebx (cond b [] ((no_registers, MovTo (Abs 12) ebx ∷ []) ∷ []))
      by_test true e = (omega arith, sym (ap (λ (b : Bool). cond b in_ebx no_registers) e))
      by_test false e = (omega arith, (drop_ebx next, (stores_placeable 3 reg_3, tt), sym (ap (λ (b : Bool). cond b in_ebx no_registers) e)))

  -- a base tile of an addi
  one_right : (w n word : ℕ) (steps : List PlanStep) → n < 2 ^ 16 → is_code_word (code_of program) w ≡ true → word_of_code (code_of program) w ≡ word → IsWordOf word (adds n) → AreRight (s reading ops) no_registers (behind w) steps → AreRight (s reading ops) no_registers w (one n ∷ steps)
  one_right w n word steps small on is of right = (
    straight_tile (s reading ops) (programs_write_held program) (adds n) (straight_adds n small) no_registers is_map w (word_at reading ops reads_words w word (adds n) on is of),
    (straight_adds n small).placeable no_registers is_map,
    (λ x e. absurd (false≢true e)),
    straight_leads (s reading ops) (programs_write_held program) (adds n) (straight_adds n small) w,
    right,
  )

  none_of : (a : ℕ) → Contains [] a → ⊥
  none_of a c = let lt = c.1 in omega arith

  -- the window of two words
  window_tile : IsTile (s reading ops) in_esi 0x10004 (adds 2 ∷ adds 3 ∷ []) both_adds (AluImm Add (Reg esi) 5 ∷ [])
  window_tile = record {
    some = omega arith;
    few = omega arith;
    fetched = (word_at reading ops reads_words 0x10004 0x38630002 (adds 2) refl refl word_2, (λ g. refl), (word_at reading ops reads_words 0x10008 0x38630003 (adds 3) refl refl word_3, (λ g. tt), tt));
    rows = λ g. refl;
    inside = record { loads = λ g g' a e c. absurd (none_of a c); stores = λ g g' a e c. absurd (none_of a c) };
    does = adds_five area;
  }

  window_leads : LeadsTo (s reading ops) 0x10004 (adds 2 ∷ adds 3 ∷ []) (λ g. 0x1000C)
  window_leads g g' at e = sym (ap (λ (x : Guest). x.next) (goes_same (after g) g' e)) ∙ ap (λ n. behind (behind n)) at

  first_right : AreRight (s reading ops) no_registers 0x10000 first_plan
  first_right = one_right 0x10000 1 0x38630001 behind_one (omega arith) refl refl word_1 (
    take_esi 0x10004,
    (loads_placeable 6 reg_6, tt),
    (window_tile, (sum_placeable, tt), (λ x e. absurd (false≢true e)), window_leads, tt),
  )

  last_right : AreRight (s reading ops) in_ebx 0x1000C last_plan
  last_right = (
    record {
      few = omega arith;
      fetched = word_at reading ops reads_words 0x1000C 0x4BFFFFF4 back refl refl word_4;
      fits = λ g core choices at before. subst (λ (w : ℕ). Fits in_ebx area (rights_of program) core (guest_executes (rights_of program) (Some back) g) (flow (narrow_rights translation) area (flow_tile back w in_ebx) None choices core)) at (flow_tiles_do_rows back in_ebx legal_back ebx_map (refl, tt) area (rights_of program) (narrow_rights translation) g core choices before);
    },
    All-from_recursion IsLaid (flow_tile back 0x1000C in_ebx) (tt, tt),
    tt,
    (λ leaps. absurd (no_leap 0x10000 leaps)),
  )

  first_begins : Begins (s reading ops) 0x10000
  first_begins = record {
    steps = first_plan;
    stands = plans (s reading ops) from_esi (code_of translation) ops no_registers 0x10000 first_block first_plan (runs reading ops reads_ops) (are_placed reading ops) esi_switches first_right (first_stands reading ops reads_ops);
    in_block = omega arith;
    few = (omega arith, (omega arith, (omega arith, tt)));
    few_first = omega arith;
  }

  last_begins : Begins (s reading ops) 0x1000C
  last_begins = record {
    steps = last_plan;
    stands = plans (s reading ops) from_ebx (code_of translation) ops in_ebx 0x1000C last_block last_plan (runs reading ops reads_ops) (are_placed reading ops) ebx_switches last_right (last_stands reading ops reads_ops);
    in_block = omega arith;
    few = (omega arith, tt);
    few_first = omega arith;
  }

  second_begins : Begins (s reading ops) 0x10004
  second_begins = record {
    steps = second_plan;
    stands = plans (s reading ops) from_none (code_of translation) ops no_registers 0x10004 second_block second_plan (runs reading ops reads_ops) (are_placed reading ops) none_switches (one_right 0x10004 2 0x38630002 [] (omega arith) refl refl word_2 tt) (second_stands reading ops reads_ops);
    in_block = omega arith;
    few = (omega arith, tt);
    few_first = omega arith;
  }

  third_begins : Begins (s reading ops) 0x10008
  third_begins = record {
    steps = third_plan;
    stands = plans (s reading ops) from_none (code_of translation) ops no_registers 0x10008 third_block third_plan (runs reading ops reads_ops) (are_placed reading ops) none_switches (one_right 0x10008 3 0x38630003 [] (omega arith) refl refl word_3 tt) (third_stands reading ops reads_ops);
    in_block = omega arith;
    few = (omega arith, tt);
    few_first = omega arith;
  }

  pub blocks_at : (w : ℕ) → Begins (s reading ops) w ⊎ (IsOffCode (s reading ops) w × (target w ≡ hold))
  blocks_at w = by (is_code_word (code_of program) w) refl
    where
      on_code : (w ≡ 0x10000) ⊎ (w ≡ 0x10004) ⊎ (w ≡ 0x10008) ⊎ (w ≡ 0x1000C) → Begins (s reading ops) w
      on_code (inl e) = subst (Begins (s reading ops)) (sym e) first_begins
      on_code (inr (inl e)) = subst (Begins (s reading ops)) (sym e) second_begins
      on_code (inr (inr (inl e))) = subst (Begins (s reading ops)) (sym e) third_begins
      on_code (inr (inr (inr e))) = subst (Begins (s reading ops)) (sym e) last_begins

      by : (b : Bool) → is_code_word (code_of program) w ≡ b → Begins (s reading ops) w ⊎ (IsOffCode (s reading ops) w × (target w ≡ hold))
      by true e = inl (on_code (which w e))
      by false e = inr (off_code reading ops w e, off_target w e)

  -- where the table leads
  abbrev door : ℕ → ℕ
  door w = cond (eqb w 0x1000C) adapter (target w)

  door_is : (w : ℕ) → entry_of first entries hold w ≡ door w
  door_is w = by (is_code_word (code_of program) w) refl
    where
      on_code : (w ≡ 0x10000) ⊎ (w ≡ 0x10004) ⊎ (w ≡ 0x10008) ⊎ (w ≡ 0x1000C) → entry_of first entries hold w ≡ door w
      on_code (inl e) = subst (λ (a : ℕ). entry_of first entries hold a ≡ door a) (sym e) refl
      on_code (inr (inl e)) = subst (λ (a : ℕ). entry_of first entries hold a ≡ door a) (sym e) refl
      on_code (inr (inr (inl e))) = subst (λ (a : ℕ). entry_of first entries hold a ≡ door a) (sym e) refl
      on_code (inr (inr (inr e))) = subst (λ (a : ℕ). entry_of first entries hold a ≡ door a) (sym e) refl

      by : (b : Bool) → is_code_word (code_of program) w ≡ b → entry_of first entries hold w ≡ door w
      by true on = on_code (which w on)
      by false off =
          let to_hold : entry_of first entries hold w ≡ hold = entry_or_hold first entries hold (λ (d : ℕ). d ≡ hold) w refl (λ k lt e. absurd (false≢true (sym off ∙ ap (λ (a : ℕ). is_code_word (code_of program) a) e ∙ has_words.here k lt))) in
          let other : eqb w 0x1000C ≡ false = ne_eqb w 0x1000C (λ e. false≢true (sym off ∙ ap (λ (a : ℕ). is_code_word (code_of program) a) e)) in
          to_hold ∙ sym (off_target w off) ∙ sym (ap (λ (b : Bool). cond b adapter (target w)) other)

  pub doors_at : (w : ℕ) → DoorAt (s reading ops) w
  doors_at w = subst (λ (d : ℕ). ((d ≡ target w) × (entry_map w ≡ no_registers)) ⊎ EdgeAt (s reading ops) no_registers w d) (sym (door_is w)) (by_test (eqb w 0x1000C) refl)
    where
      by_test : (b : Bool) → eqb w 0x1000C ≡ b → ((cond b adapter (target w) ≡ target w) × (cond b in_ebx no_registers ≡ no_registers)) ⊎ EdgeAt (s reading ops) no_registers w (cond b adapter (target w))
      by_test true e = inr (subst (λ k. EdgeAt (s reading ops) no_registers k adapter) (sym (eqb-true w 0x1000C e)) (plans (s reading ops) from_none (code_of translation) ops no_registers 0x1000C adapter [] (runs reading ops reads_ops) (are_placed reading ops) none_switches tt (adapter_stands reading ops reads_ops)))
      by_test false e = inl (refl, refl)
