-- A tile whose ops do to a state what the row does to the guest does the row, under every map.
use Rattle.std.proofs.Common.{◌≡◌, ◌≢◌, ℕ, ◌+◌, ◌%◌, ◌^◌, ◌<◌, ◌≤◌, Bool, true, false, cond, ltb, ◌⊎◌, inl, inr, List, [], ◌∷◌, map, drop, Contains, Option, Some, None, refl, sym, ap, ◌∙◌, subst, ⊎_elim, arith}
use Rattle.std.proofs.lemmas.Bool.Decides.{nat_tests}
use Rattle.machines.specs.Prelude.{divide_faults, Map, Instr, IsLegal, locations_written, Condition, Flags, HostEffect, Outcome, Goes, update, Rights, Guest, effect_of, guest_acts, Choice, choice_at, Core, value_at, has_result}
use Rattle.reg_map.specs.Prelude.{home, home_size, location_range, slot_of, location_place, AreInRange, in_slot}
use Rattle.machines.specs.Host.{Memory}
use Rattle.symbolic_tiles.specs.Prelude.{perform, op_at, GoesThrough, TilePostcondition, window_of, loaded, stored, DoesRow, WritesHeld, IsFree, SymbolicOp, Mov, MovImmediate, Put, PutImmediate, Alu, AluImmediate, Test, TestImmediate, Invert, Negate, Multiply, MultiplyWide, Divide, ShiftBy, ShiftCl, Widen, SwapBytes, MoveIf, Scan, Signs, FetchByte, PutByte, SetByte, Load, Store, op_of, ops_of, IsTemporary, IsWellFormed, AreWellFormed, SymbolicState, with_effect, execute_op, then_ops, execute_ops, can_load, can_store, size_of}
use Rattle.row_laws.specs.Laws.{Next, AgreeBut}
use Rattle.symbolic_tiles.proofs.Memory.{update_other}
use Rattle.symbolic_tiles.proofs.Places.{content, slot_content, slot_gpr}
use Rattle.row_laws.proofs.Changes.{changes}
use Rattle.symbolic_tiles.proofs.Shows.{is_temporary, Shows, Kept, shows_ops}

-- a location's value fits its home
pub range_size : (x v : ℕ) → v < location_range x → v < 256 ^ home_size x
range_size x v lt = by_tests (ltb x 34) (ltb x 42) (ltb x 45) lt
  where
    by_tests : (a b c : Bool) → v < cond a (2 ^ 32) (cond b 16 (cond c 2 128)) → v < 256 ^ cond a 4 1
    by_tests true b c lt = omega (arith, lt)
    by_tests false true c lt = omega (arith, lt)
    by_tests false false true lt = omega (arith, lt)
    by_tests false false false lt = omega (arith, lt)

word_range : (x v : ℕ) → x < 34 → v < 256 ^ home_size x → v < location_range x
word_range x v lx lt = let e : ltb x 34 ≡ true = grind (arith, nat_tests) in
    subst (λ (a : Bool). v < cond a (2 ^ 32) (cond (ltb x 42) 16 (cond (ltb x 45) 2 128))) (sym e) (let l : v < 256 ^ cond true 4 1 = subst (λ (a : Bool). v < 256 ^ cond a 4 1) e lt in omega (arith, l))

-- ops change the temporaries alone
abbrev KeptRegs : (ℕ → ℕ) → Option SymbolicState → Type 0
KeptRegs regs None = Unit {0}
KeptRegs regs (Some s) = (r : ℕ) → 3 ≤ r → s.regs r ≡ regs r

updated : (regs : ℕ → ℕ) (q v r : ℕ) → IsTemporary q → 3 ≤ r → update regs q v r ≡ regs r
updated regs q v r t le = let l = is_temporary q t in update_other regs q v r (λ e. omega arith)

effected : (b : Bool) (e : HostEffect) (q : ℕ) (s : SymbolicState) → IsTemporary q → KeptRegs s.regs (Some (with_effect b e q s))
effected true e q s t r le = updated s.regs q e.result r t le
effected false e q s t r le = refl

when_held : (b : Bool) (regs : ℕ → ℕ) (s : SymbolicState) → KeptRegs regs (Some s) → KeptRegs regs (cond b (Some s) None)
when_held true regs s k = k
when_held false regs s k = tt

unless_faults : (b : Bool) (regs : ℕ → ℕ) (s : SymbolicState) → KeptRegs regs (Some s) → KeptRegs regs (cond b None (Some s))
unless_faults true regs s k = tt
unless_faults false regs s k = k

module _ (guest host : Rights) where
  op_regs : (l : SymbolicOp) (c : Choice) (s : SymbolicState) → IsWellFormed l → KeptRegs s.regs (execute_op guest host l c s)
  op_regs (Mov r source) c s ok = λ q le. updated s.regs r _ q ok.0 le
  op_regs (MovImmediate r v) c s ok = λ q le. updated s.regs r _ q ok.0 le
  op_regs (Put x r) c s ok = λ q le. refl
  op_regs (PutImmediate x v) c s ok = λ q le. refl
  op_regs (Alu op r source) c s ok = effected (has_result op) _ r s ok.0
  op_regs (AluImmediate op r v) c s ok = effected (has_result op) _ r s ok.0
  op_regs (Test r q) c s ok = λ p le. refl
  op_regs (TestImmediate r v) c s ok = λ p le. refl
  op_regs (Invert r) c s ok = λ q le. updated s.regs r _ q ok le
  op_regs (Negate r) c s ok = λ q le. updated s.regs r _ q ok le
  op_regs (Multiply r source) c s ok = λ q le. updated s.regs r _ q ok.0 le
  op_regs (MultiplyWide signed source) c s ok = λ q le. updated (update s.regs 0 _) 2 _ q tt le ∙ updated s.regs 0 _ q tt le
  op_regs (Divide signed r) c s ok = unless_faults (divide_faults (s.regs 2) (s.regs 0) (s.regs r) signed) s.regs _ (λ q le. updated (update s.regs 0 _) 2 _ q tt le ∙ updated s.regs 0 _ q tt le)
  op_regs (ShiftBy op r n) c s ok = λ q le. updated s.regs r _ q ok.0 le
  op_regs (ShiftCl op r) c s ok = λ q le. updated s.regs r _ q ok le
  op_regs (Widen op r p) c s ok = λ q le. updated s.regs r _ q ok.0 le
  op_regs (SwapBytes r) c s ok = λ q le. updated s.regs r _ q ok le
  op_regs (MoveIf condition r p) c s ok = λ q le. updated s.regs r _ q ok.0 le
  op_regs (Scan r source) c s ok = λ q le. updated s.regs r _ q ok.0 le
  op_regs Signs c s ok = λ q le. updated s.regs 2 _ q tt le
  op_regs (FetchByte r x) c s ok = λ q le. updated s.regs r _ q ok.0 le
  op_regs (PutByte x r) c s ok = λ q le. refl
  op_regs (SetByte condition x) c s ok = λ q le. refl
  op_regs (Load size r b d) c s ok = when_held (can_load guest host (size_of size) ((s.regs b + d) % 2 ^ 32)) s.regs _ (λ q le. updated s.regs r _ q ok.0 le)
  op_regs (Store size b d r) c s ok = when_held (can_store guest host (size_of size) ((s.regs b + d) % 2 ^ 32)) s.regs _ (λ q le. refl)

  ops_regs : (ops : List SymbolicOp) (choices : List Choice) (s : SymbolicState) → AreWellFormed ops → KeptRegs s.regs (execute_ops guest host ops choices s)
  ops_regs [] choices s ok = λ r le. refl
  ops_regs (l ∷ ops) choices s ok = behind (λ s1. ops_regs ops (drop 1 choices) s1 ok.1) (execute_op guest host l (choice_at choices 0) s) (op_regs l (choice_at choices 0) s ok.0)
    where
      chain : (s1 : SymbolicState) (o : Option SymbolicState) → KeptRegs s.regs (Some s1) → KeptRegs s1.regs o → KeptRegs s.regs o
      chain s1 None k h = tt
      chain s1 (Some s2) k h = λ r le. h r le ∙ k r le

      behind : ((s1 : SymbolicState) → KeptRegs s1.regs (execute_ops guest host ops (drop 1 choices) s1)) → (o : Option SymbolicState) → KeptRegs s.regs o → KeptRegs s.regs (then_ops (execute_ops guest host ops (drop 1 choices)) o)
      behind rest None k = tt
      behind rest (Some s1) k = chain s1 (execute_ops guest host ops (drop 1 choices) s1) k (rest s1)

-- a register holds no location, or one
abbrev IsHolder : Map → ℕ → Type 0
IsHolder m r = (y : ℕ) × (slot_of m y ≡ Some r)

free_or_holds : (m : Map) (r : ℕ) → IsFree m r ⊎ IsHolder m r
free_or_holds m r = by_content (content m r) refl
  where
    by_slot : (y : ℕ) (o : Option ℕ) → content m r ≡ Some y → slot_of m y ≡ o → IsFree m r ⊎ IsHolder m r
    by_slot y None c e = inl (λ x h. let p : Some y ≡ Some x = sym c ∙ slot_content m x r h in let q : y ≡ x = cc in let f : None ≡ Some r = sym e ∙ ap (slot_of m) q ∙ h in absurd cc)
    by_slot y (Some t) c e = by_same (grind arith)
      where
        by_same : (t ≡ r) ⊎ (t ≢ r) → IsFree m r ⊎ IsHolder m r
        by_same (inl s) = inr (y, e ∙ ap Some s)
        by_same (inr ne) = inl (λ x h. let p : Some y ≡ Some x = sym c ∙ slot_content m x r h in let q : y ≡ x = cc in let f : Some t ≡ Some r = sym e ∙ ap (slot_of m) q ∙ h in let g : t ≡ r = cc in ne g)

    by_content : (o : Option ℕ) → content m r ≡ o → IsFree m r ⊎ IsHolder m r
    by_content None c = inl (λ x h. let f : None ≡ Some x = sym c ∙ slot_content m x r h in absurd cc)
    by_content (Some y) c = by_slot y (slot_of m y) c refl

-- the state of a guest state, with any registers and flags
abbrev pub state_of : Guest → (ℕ → ℕ) → Flags → SymbolicState
state_of g regs flags = record { regs = regs; locs = g.locs; flags = flags; bytes = g.bytes }

-- what the ops may take for granted
pub record Given (i : Instr) (guest host : Rights) (g : Guest) : Type 0 where
  pub in_range : AreInRange g
  pub writes_held : WritesHeld guest
  pub bytes : (a : ℕ) → guest.held a ≡ true → g.bytes a < 256
  pub loads : (a : ℕ) → Contains (loaded (effect_of i g).kind (effect_of i g).width (effect_of i g).address) a → host.held a ≡ true
  pub stores : (a : ℕ) → Contains (stored (effect_of i g).kind (effect_of i g).width (effect_of i g).address) a → host.writable a ≡ true

-- the state has the guest's state
abbrev pub IsStateOf : Rights → Guest → SymbolicState → Type 0
IsStateOf guest g s = ((x : ℕ) → x < 46 → s.locs x ≡ g.locs x) × ((a : ℕ) → guest.held a ≡ true → s.bytes a ≡ g.bytes a)

abbrev pub LeadsTo : Rights → Guest → Option SymbolicState → Type 0
LeadsTo guest g None = ⊥
LeadsTo guest g (Some s) = IsStateOf guest g s

-- the ops do the row
abbrev pub OpsDo : Instr → List SymbolicOp → Type 0
OpsDo i ops = (guest host : Rights) (g g' : Guest) (regs : ℕ → ℕ) (flags : Flags) (choices : List Choice) → Given i guest host g → ((r : ℕ) → regs r < 2 ^ 32) → guest_acts guest i (effect_of i g) g ≡ Goes g' → LeadsTo guest g' (execute_ops guest host ops choices (state_of g regs flags))

-- the bytes of CR and XER stay in range
abbrev pub AreFields : (ℕ → ℕ) → Type 0
AreFields locs = (x : ℕ) → 34 ≤ x → x < 46 → locs x < location_range x

abbrev pub KeepsFields : Instr → Type 0
KeepsFields i = (guest : Rights) (g g' : Guest) → AreInRange g → guest_acts guest i (effect_of i g) g ≡ Goes g' → AreFields g'.locs

held_byte : (f h : ℕ → ℕ) (a : ℕ) → f a < 256 → f a ≡ h a → h a < 256
held_byte f h a lt e = subst (λ k. k < 256) e lt

pub ops_do_row : (i : Instr) (ops : List SymbolicOp) → IsLegal i → AreWellFormed ops → KeepsFields i → OpsDo i ops → DoesRow i (ops_of ops)
ops_do_row i ops legal are fields runs m area is_map guest host g g' core choices ready leads =
    by_state (execute_ops guest host ops choices (state_of g core.regs core.flags)) refl
    (runs guest host g g' core.regs core.flags choices (record {
      writes_held = ready.writes_held;
      in_range = ready.in_range;
      bytes = λ a held. held_byte core.bytes g.bytes a (ready.is_core.bytes a) (ready.represents.bytes a held);
      loads = ready.loads;
      stores = ready.stores;
    }) ready.is_core.words leads)
  where
    first : Shows m area guest.held core (state_of g core.regs core.flags) core
    first = record {
      is_core = ready.is_core;
      regs = λ r free. refl;
      locs = λ x lx. ready.represents.locs x lx tt;
      fits = λ x lx. range_size x (g.locs x) (ready.in_range x lx);
      flags = refl;
      bytes = ready.represents.bytes;
      kept = λ a un. refl;
    }

    no_condition : (c : Condition) → None ≡ Some c → ⊥
    no_condition c e = cc

    below_46 : (y r : ℕ) → slot_of m y ≡ Some r → y < 46
    below_46 y r e = let l = slot_gpr m y r is_map e in omega arith

    unwritten_same : (y : ℕ) → y < 46 → (Contains (locations_written i) y → ⊥) → g'.locs y ≡ g.locs y
    unwritten_same y ly lacks = subst (λ (o : Outcome Guest). Next (λ h. AgreeBut (locations_written i) h g) o) leads (changes i guest g legal ready.in_range) y ly lacks

    by_location : (r y : ℕ) → slot_of m y ≡ Some r → (after : Core) (v : ℕ) → value_at after (location_place m area y) ≡ v → v ≡ g'.locs y → g'.locs y ≡ g.locs y → after.regs r ≡ core.regs r
    by_location r y e after v shown same kept =
        ap (λ o. value_at after (in_slot o (Memory (home_size y) (area + home y)))) (sym e) ∙ shown ∙ same ∙ kept ∙ sym (ready.represents.locs y (below_46 y r e) tt) ∙ ap (λ o. value_at core (in_slot o (Memory (home_size y) (area + home y)))) e

    above : (r : ℕ) → r ≢ 0 → r ≢ 1 → r ≢ 2 → 3 ≤ r
    above r a b c = omega (arith, a, b, c)

    is_done : (s : SymbolicState) → IsStateOf guest g' s → KeptRegs core.regs (Some s) → (after : Core) → Shows m area guest.held core s after → TilePostcondition (window_of i) m area guest g g' core after
    is_done s is kept after sh = record {
      represents = record { locs = λ x lx alive. sh.locs x lx ∙ is.0 x lx; bytes = λ a held. sh.bytes a held ∙ is.1 a held };
      in_range = λ x lx. subst (λ v. v < location_range x) (sym (sh.locs x lx)) (by_kind x lx (grind arith));
      registers = λ r n0 n1 n2 unwritten. ⊎_elim (λ free. sh.regs r free ∙ kept r (above r n0 n1 n2)) (λ h. let ly = below_46 h.0 r h.1 in by_location r h.0 h.1 after (s.locs h.0) (sh.locs h.0 ly) (is.0 h.0 ly) (unwritten_same h.0 ly (λ has. unwritten h.0 has h.1))) (free_or_holds m r);
      memory = sh.kept;
      condition = λ c e. absurd (no_condition c e);
      is_core = sh.is_core;
    }
      where
        by_kind : (x : ℕ) → x < 46 → (x < 34) ⊎ (34 ≤ x) → s.locs x < location_range x
        by_kind x lx (inl low) = word_range x (s.locs x) low (sh.fits x lx)
        by_kind x lx (inr high) = subst (λ v. v < location_range x) (sym (is.0 x lx)) (fields guest g g' ready.in_range leads x high lx)

    through : (s : SymbolicState) → IsStateOf guest g' s → KeptRegs core.regs (Some s) → (o : Option Core) → Kept m area guest host is_map ready.page core (Some s) o → GoesThrough o (TilePostcondition (window_of i) m area guest g g' core)
    through s is kept None k = absurd k
    through s is kept (Some after) k = is_done s is kept after k

    by_state : (o : Option SymbolicState) → execute_ops guest host ops choices (state_of g core.regs core.flags) ≡ o → LeadsTo guest g' (execute_ops guest host ops choices (state_of g core.regs core.flags)) → GoesThrough (perform host (map (op_at area) (map (op_of m) ops)) choices core) (TilePostcondition (window_of i) m area guest g g' core)
    by_state None e is = absurd (subst (LeadsTo guest g') e is)
    by_state (Some s) e is =
        through s (subst (LeadsTo guest g') e is) (subst (KeptRegs core.regs) e (ops_regs guest host ops choices (state_of g core.regs core.flags) are))
        (perform host (map (op_at area) (map (op_of m) ops)) choices core)
        (subst (λ o. Kept m area guest host is_map ready.page core o (perform host (map (op_at area) (map (op_of m) ops)) choices core)) e (shows_ops m area guest host is_map ready.page core ops choices (state_of g core.regs core.flags) core are first))
