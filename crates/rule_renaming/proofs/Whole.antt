-- One instance of a rule is enough. This project's own.
use Rattle.std.proofs.Common.{◌≡◌, ℕ, ◌≤◌, Bool, false, List, [], ◌∷◌, length, map as list_map, Option, Some, None, Contains, refl, sym, ap, ◌∙◌, subst, arith}
use Rattle.std.specs.List.{AllByRecursion}
use Rattle.std.proofs.lemmas.List.{length-take}
use Rattle.machines.specs.Prelude.{Outcome, Goes, Asks, Ends, Map, Instr, HasOneInstruction, Op, Condition, Rights, Guest, Choice, Core}
use Rattle.reg_map.specs.Prelude.{IsHomePage}
use Rattle.symbolic_tiles.specs.Prelude.{op_at, perform, Window, TilePrecondition, TilePostcondition, GoesThrough, Implements}
use Rattle.simulation.specs.Prelude.{rows_of}
use Rattle.rule_body.specs.declared.line.HostLine.{HostLine}
use Rattle.rule_body.specs.Prelude.{Template, guests_of, template_of, lines_of, IsHostLine}
use Rattle.rule_soundness.specs.Prelude.{Match, bound, laid_words, placed, filled_hole, laid_line, laid_ops, window, loads_of, stores_of, AccessWindow, HaveAccess, dead_of}
use Rattle.rule_soundness.proofs.Grammar.{has_take, rule_words}
use Rattle.rule_soundness.proofs.Passing.{AreRuleWords, Passed, next_of, words_passed}
use Rattle.rule_renaming.specs.Plain.{plain, OneInstanceIsEnough}
use Rattle.rule_renaming.proofs.Parameters.{Bound, bound_of, Own, own_of}
use Rattle.rule_renaming.proofs.Hosts.{Both, Renamed, AreNamed, AreAway, DoSame, ops_renamed}
use Rattle.rule_renaming.proofs.Guests.{AreNamedWords, SameGuest, SameOutcome, words_renamed, loads_renamed, stores_renamed, taken_renamed}
use Rattle.rule_renaming.proofs.Bridge.{P, U, O, guest_names, names, own_guest, own_core, own_alike, own_renamed, own_represents, own_range, own_is_core}
use Rattle.rule_renaming.proofs.Done.{done}
use Rattle.rule_renaming.proofs.Slots.{own_map, own_is}
use Rattle.rule_renaming.proofs.NamedWords.{filled_words, laid_are, words_named}
use Rattle.rule_renaming.proofs.NamedOps.{line_named}
use Rattle.rule_renaming.proofs.PlainNames.{plain_words, plain_ops}
use Rattle.rule_renaming.proofs.Written.{words_write, dead_parameter, dead_other}

-- the core that a fact holds of
through : (o : Option Core) (Q : Core → Type 0) → GoesThrough o Q → (core : Core) × (o ≡ Some core) × Q core
through None Q goes = absurd goes
through (Some core) Q goes = (core, refl, goes)

-- the guest to which the one instance goes on
goes_on : (m : Match) (S : ℕ → Type 0) (start : ℕ → ℕ) (o o0 : Outcome Guest) (g' : Guest) → SameOutcome m S start o o0 → o ≡ Goes g' → (g0' : Guest) × (o0 ≡ Goes g0') × SameGuest m S start g' g0'
goes_on m S start (Goes g) (Goes g0) g' same e = let h : g ≡ g' = cc in (g0, refl, subst (λ x. SameGuest m S start x g0) h same)
goes_on m S start (Goes g) (Asks call next) g' same e = absurd same
goes_on m S start (Goes g) (Ends d) g' same e = absurd same
goes_on m S start (Asks call next) o0 g' same e = absurd same
goes_on m S start (Ends d) o0 g' same e = absurd cc

-- the ops of the body with their holes filled, over parameters
abbrev filled_ops : Match → List HostLine → List Op
filled_ops m lines = list_map (λ (line : HostLine). filled_hole m line.hole line.op) lines

placed_are : (m : Match) (lines : List HostLine) → list_map (laid_line m) lines ≡ list_map (placed m) (filled_ops m lines)
placed_are m [] = refl
placed_are m (line ∷ lines) = ap (λ ops. laid_line m line ∷ ops) (placed_are m lines)

-- A window and ops of the one instance against those at a match: words and ops name parameters alone, the window's words
-- are a rule's, and what is dead at the match is dead in the one instance.
module _ (slots : List Bool) (m : Match) (map own : Map) (b : Bound slots m map) (is_map_own : Own slots own) (area : ℕ) (words : List Instr) (ops : List Op) (dead dead0 : ℕ → Bool) (condition : Option Condition)
    (named : AreNamedWords m (P slots m) words)
    (forks : Bool) (are : AreRuleWords forks (list_map (bound m.gpr) words))
    (named_ops : (guest host : Rights) (page : IsHomePage area guest host) (start : Core) → AreNamed m area host (U slots m) (O slots m) (names slots m map b area guest host page) start ops)
    (dead_pars : (p : ℕ) → P slots m p → dead (m.gpr p) ≡ false → dead0 p ≡ false) (dead_far : (x : ℕ) → 32 ≤ x → dead x ≡ false → dead0 x ≡ false) where
  abbrev there : Window
  there = window (list_map (bound m.gpr) words) dead condition

  abbrev here : Window
  here = window words dead0 condition

  abbrev ops_there : List Op
  ops_there = list_map (op_at area) (list_map (placed m) ops)

  abbrev ops_here : List Op
  ops_here = list_map (op_at area) ops

  module _ (does : Implements here own area ops_here) (accesses : AccessWindow here own area ops_here)
      (guest host : Rights) (g g' : Guest) (core : Core) (choices : List Choice) (ready : TilePrecondition there map area guest host g core) (goes : there.outcome guest g ≡ Goes g') where
    g0 : Guest
    g0 = own_guest slots m map b area guest host ready.page own is_map_own g core ready.represents ready.in_range ready.is_core

    core0 : Core
    core0 = own_core slots m map b area guest host ready.page own is_map_own g core ready.represents ready.in_range ready.is_core

    alike : SameGuest m (P slots m) g.locs g g0
    unfolding g0
    alike = own_alike slots m map b area guest host ready.page own is_map_own g core ready.represents ready.in_range ready.is_core

    renamed : Renamed m area host (U slots m) (O slots m) core core core0
    unfolding core0
    renamed = own_renamed slots m map b area guest host ready.page own is_map_own g core ready.represents ready.in_range ready.is_core

    on : (g0' : Guest) × (rows_of guest words g0 ≡ Goes g0') × SameGuest m (P slots m) g.locs g' g0'
    on = goes_on m (P slots m) g.locs (rows_of guest (list_map (bound m.gpr) words) g) (rows_of guest words g0) g' (words_renamed m (P slots m) (guest_names slots m map b) g.locs guest words g g0 named alike) goes

    same_loads : loads_of (list_map (bound m.gpr) words) g ≡ loads_of words g0
    same_loads = loads_renamed m (P slots m) (guest_names slots m map b) g.locs words g g0 named alike

    same_stores : stores_of (list_map (bound m.gpr) words) g ≡ stores_of words g0
    same_stores = stores_renamed m (P slots m) (guest_names slots m map b) g.locs words g g0 named alike

    ready0 : TilePrecondition here own area guest host g0 core0
    unfolding g0 core0
    ready0 = record {
      page = ready.page;
      writes_held = ready.writes_held;
      loads = λ a c. ready.loads a (subst (λ (l : List ℕ). Contains l a) (sym same_loads) c);
      stores = λ a c. ready.stores a (subst (λ (l : List ℕ). Contains l a) (sym same_stores) c);
      represents = own_represents slots m map b area guest host ready.page own is_map_own g core ready.represents ready.in_range ready.is_core;
      in_range = own_range slots m map b area guest host ready.page own is_map_own g core ready.represents ready.in_range ready.is_core;
      is_core = own_is_core slots m map b area guest host ready.page own is_map_own g core ready.represents ready.in_range ready.is_core;
    }

    access0 : HaveAccess host ops_here choices core0 here g0
    access0 = accesses guest host g0 on.0 core0 choices ready0 on.1

    -- what the window accesses is the guest's
    passed : Passed guest (list_map (bound m.gpr) words) g g' (next_of forks (list_map (bound m.gpr) words) g)
    passed = words_passed guest forks (list_map (bound m.gpr) words) are g g' goes

    -- the ops access the guest's memory alone
    away : AreAway m area host (U slots m) (O slots m) (names slots m map b area guest host ready.page) core ops choices core0
    away = record {
      loads = λ a c. ready.page.apart a (passed.loads a (subst (λ (l : List ℕ). Contains l a) (access0.loads ∙ sym same_loads) c));
      stores = λ a c. ready.page.apart a (ready.writes_held a (passed.stores a (subst (λ (l : List ℕ). Contains l a) (access0.stores ∙ sym same_stores) c)));
    }

    run : DoSame m area host (U slots m) (O slots m) (names slots m map b area guest host ready.page) core ops choices core core0
    run = ops_renamed m area host (U slots m) (O slots m) (names slots m map b area guest host ready.page) core ops choices core core0 (named_ops guest host ready.page core) away renamed

    pub done_there : GoesThrough (perform host ops_there choices core) (TilePostcondition there map area guest g g' core)
    unfolding g0 core0
    done_there =
        let d = through (perform host ops_here choices core0) (TilePostcondition here own area guest g0 on.0 core0) (does guest host g0 on.0 core0 choices ready0 on.1) in
        by_both (perform host ops_there choices core) d.0 (TilePostcondition there map area guest g g' core)
        (λ end r. done slots m map b area guest host ready.page own is_map_own g core ready.represents ready.in_range ready.is_core there here g' on.0 on.2 dead_pars dead_far (words_write m (P slots m) (guest_names slots m map b) words named) refl (taken_renamed m (P slots m) (guest_names slots m map b) g.locs words g g0 named alike) end d.0 r d.2)
        (subst (Both (Renamed m area host (U slots m) (O slots m) core) (perform host ops_there choices core)) d.1 run.both)
      where
        by_both : (o : Option Core) (end0 : Core) (Q : Core → Type 0) → ((end : Core) → Renamed m area host (U slots m) (O slots m) core end end0 → Q end) → Both (Renamed m area host (U slots m) (O slots m) core) o (Some end0) → GoesThrough o Q
        by_both (Some end) end0 Q f r = f end r
        by_both None end0 Q f r = absurd r

    pub access_there : HaveAccess host ops_there choices core there g
    access_there = record { loads = run.loads ∙ access0.loads ∙ sym same_loads; stores = run.stores ∙ access0.stores ∙ sym same_stores }

-- the lines of a body name parameters alone
lines_named : (slots : List Bool) (m : Match) (map : Map) (b : Bound slots m map) (area : ℕ) (t : Template) → t.slots ≡ slots → (guest host : Rights) (page : IsHomePage area guest host) (start : Core) (lines : List HostLine) → AllByRecursion (IsHostLine t) lines →
    AreNamed m area host (U slots m) (O slots m) (names slots m map b area guest host page) start (filled_ops m lines)
lines_named slots m map b area t e guest host page start [] are = tt
lines_named slots m map b area t e guest host page start (line ∷ lines) are = (line_named slots m map b area host t e line are.0, lines_named slots m map b area t e guest host page start lines are.1)

pub one_instance_is_enough : ((w : ℕ) → HasOneInstruction w) → OneInstanceIsEnough
one_instance_is_enough one rule is plainly words condition map m area is_window takes is_map fits =
    let goal = rule.goal in
    let slots = (template_of goal).slots in
    let guests = guests_of goal in
    let few : length slots ≤ 6 = let e = length-take goal.parameters goal.slots in let p = is.goal.tidy.parameters in omega (arith, e, p) in
    let own = own_map slots in
    let is_own = own_is slots few is.goal.template.placed.few in
    let b = bound_of slots m words map few is_map fits in
    let filled = filled_words slots m 0 guests words in
    let named = words_named one guests slots words map m is.goal.template.placed is_window fits in
    let lines = lines_of rule.body in
    let laid = laid_are slots m 0 guests words in
    let sound = plainly words condition own m area is_window takes is_own fits.constants in
    let e = plain_words slots m 0 guests words named in
    let d = plain_ops m lines in
    let does : Implements (window filled (dead_of goal (plain m)) condition) own area (list_map (op_at area) (filled_ops m lines)) =
    subst (λ ws. Implements (window ws (dead_of goal (plain m)) condition) own area (list_map (op_at area) (filled_ops m lines))) e
    (subst (λ os. Implements (window (laid_words (plain m) 0 guests words) (dead_of goal (plain m)) condition) own area (list_map (op_at area) os)) d sound.does) in
    let accesses : AccessWindow (window filled (dead_of goal (plain m)) condition) own area (list_map (op_at area) (filled_ops m lines)) =
    subst (λ ws. AccessWindow (window ws (dead_of goal (plain m)) condition) own area (list_map (op_at area) (filled_ops m lines))) e
    (subst (λ os. AccessWindow (window (laid_words (plain m) 0 guests words) (dead_of goal (plain m)) condition) own area (list_map (op_at area) os)) d sound.accesses) in
    let are = subst (AreRuleWords (has_take rule.body.take)) laid (rule_words one rule is words is_window m) in
    let dead_pars = λ (p : ℕ) (i : P slots m p). dead_parameter goal m p ((guest_names slots m map b).low p i) in
    let lines_are = λ (guest host : Rights) (page : IsHomePage area guest host) (start : Core). lines_named slots m map b area (template_of goal) refl guest host page start lines is.body.lines.each in
    record {
      does = subst (λ ws. Implements (window ws (dead_of goal m) condition) map area (list_map (op_at area) (laid_ops m rule.body))) (sym laid)
          (subst (λ os. Implements (window (list_map (bound m.gpr) filled) (dead_of goal m) condition) map area (list_map (op_at area) os)) (sym (placed_are m lines))
          (λ guest host g g' core choices ready goes. done_there slots m map own b (own_of slots own is_own) area filled (filled_ops m lines) (dead_of goal m) (dead_of goal (plain m)) condition named (has_take rule.body.take) are lines_are dead_pars (dead_other goal m) does accesses guest host g g' core choices ready goes));
      accesses = subst (λ ws. AccessWindow (window ws (dead_of goal m) condition) map area (list_map (op_at area) (laid_ops m rule.body))) (sym laid)
          (subst (λ os. AccessWindow (window (list_map (bound m.gpr) filled) (dead_of goal m) condition) map area (list_map (op_at area) os)) (sym (placed_are m lines))
          (λ guest host g g' core choices ready goes. access_there slots m map own b (own_of slots own is_own) area filled (filled_ops m lines) (dead_of goal m) (dead_of goal (plain m)) condition named (has_take rule.body.take) are lines_are dead_pars (dead_other goal m) does accesses guest host g g' core choices ready goes));
    }
