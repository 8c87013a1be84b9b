-- From runs over numbers to the soundness of a rule. This project's own.
use Rattle.std.proofs.Common.{◌≡◌, ℕ, ◌+◌, ◌%◌, ◌^◌, ◌<◌, ◌≤◌, true, List, [], ◌∷◌, length, Option, not, ◌==◌, bit_and, nat_lt, if◌then◌else◌, Contains, refl, sym, ap, ◌∙◌, subst, arith}
use Rattle.std.specs.List.{flat_map}
use Rattle.std.proofs.Math.Path.{fun_ext}
use Rattle.std.proofs.lemmas.Bool.Decides.{nat_tests}
use Rattle.machines.specs.Prelude.{Goes, Instr, Map, HasOneInstruction, Condition, Rights, Guest, Choice, Core, locations_written}
use Rattle.symbolic_tiles.specs.Prelude.{perform, Window, GoesThrough, TilePrecondition, TilePostcondition}
use Rattle.simulation.specs.Prelude.{rows_of}
use Rattle.rule_body.specs.declared.goal.Goal.{Goal}
use Rattle.rule_body.specs.declared.rule.Rule.{Rule}
use Rattle.rule_body.specs.declared.goal.Guest.{Guest as Word}
use Rattle.rule_body.specs.Prelude.{IsRule, IsWindow, AreGuests, guests_of, template_of, named}
use Rattle.rule_soundness.specs.Prelude.{Match, IsConditionOf, HaveAccess, is_dead_name, loads_of, RowsPutFields, AccessesPutFields, BranchesPutFields}
use Rattle.rule_soundness.proofs.Grammar.{has_take, rule_words}
use Rattle.rule_renaming.specs.Plain.{plain, IsOwnMap, IsPlainSound, OneInstanceIsEnough}
use Rattle.row_runs.specs.Accesses.{Accessed, Finds}
use Rattle.row_runs.specs.Windows.{WindowRun, guest_steps}
use Rattle.row_runs.specs.Bodies.{BodyRun, host_steps}
use Rattle.row_circuits.specs.declared.rows.WindowRow.{WindowRow}
use Rattle.row_circuits.specs.declared.lines.BodyLine.{BodyLine}
use Rattle.window_circuits.specs.Starts.{loaded_bytes, window_begins, body_begins}
use Rattle.window_circuits.specs.Runs.{row_at, line_at}
use Rattle.window_circuits.specs.Rules.{IsSoundOver, Follows}
use Rattle.rule_places.specs.Inputs.{home_fields}
use Rattle.rule_places.specs.Ends.{ends_of, jump_of}
use Rattle.rule_places.specs.Accesses.{loads_at, stores_at, seen, AreFound}
use Rattle.rule_places.specs.Guests.{GuestRan, plain_window}
use Rattle.rule_places.specs.Hosts.{HostRan, plain_ops, picks_of}
use Rattle.rule_places.specs.Runs.{MayRun}
use Rattle.rule_meaning.specs.Sound.{AreConstants, StandFor, RunsMakeSound}
use Rattle.rule_meaning.proofs.Loads.{found, finds, found_small, found_none, found_core}
use Rattle.rule_meaning.proofs.Frames.{window_keeps, plain_writes}
use Rattle.rule_meaning.proofs.Starting.{inputs, loaded_inputs, are_within, shows_guest, shows_host}
use Rattle.rule_meaning.proofs.Ending.{W, behind, same_accesses}

-- a goal has one window
pub one_window : ((w : ℕ) → HasOneInstruction w) → (guests : List Word) (a b : List Instr) → AreGuests guests a → AreGuests guests b → a ≡ b
one_window one [] [] [] p q = refl
one_window one [] [] (j ∷ b) p q = absurd q
one_window one [] (i ∷ a) b p q = absurd p
one_window one (g ∷ gs) [] b p q = absurd p
one_window one (g ∷ gs) (i ∷ a) [] p q = absurd q
one_window one (g ∷ gs) (i ∷ a) (j ∷ b) p q = ap (λ x. x ∷ a) (one g.word i j p.0.word q.0.word) ∙ ap (λ x. j ∷ x) (one_window one gs a b p.1 q.1)

dead_bit : (n p : ℕ) → not (bit_and n p == 0) ≡ true → bit_and n p ≡ 0 → ⊥
dead_bit n p e z = by_number (bit_and n p) e z
  where
    by_number : (v : ℕ) → not (v == 0) ≡ true → v ≡ 0 → ⊥
    by_number v e z = grind (arith, nat_tests)

word_small : (v : ℕ) → v % 2 ^ 32 < 2 ^ 32
word_small v = omega arith

module _ (one : (w : ℕ) → HasOneInstruction w) (puts : RowsPutFields) (accesses : AccessesPutFields) (jumps : BranchesPutFields)
    (rule : Rule) (rows : List WindowRow) (lines : List BodyLine) (width : ℕ) (widths : List ℕ) (is_rule : IsRule rule) (stand : StandFor rule rows lines width widths)
    (sound : IsSoundOver rows lines (jump_of rule.body.take) widths home_fields (ends_of rule.goal))
    (words : List Instr) (condition : Option Condition) (own : Map) (m : Match) (area : ℕ) (is_window : IsWindow (guests_of rule.goal) words) (is_condition : IsConditionOf rule.body.take condition)
    (is_own : IsOwnMap (template_of rule.goal).slots own) (constants : AreConstants m) where
  abbrev goal : Goal
  goal = rule.goal

  pub six : goal.parameters ≤ 6
  six = is_rule.goal.tidy.parameters

  -- a parameter with a dead name is written
  dead_written : (k : ℕ) → k < 6 → is_dead_name goal k ≡ true → Contains (flat_map locations_written (plain_window goal words m)) (k + 1)
  dead_written k lt dead =
      let t : nat_lt k 6 ≡ true = grind (arith, nat_tests) in
      let placed = is_rule.goal.template.placed in
      let same = one_window one (guests_of goal) placed.window words placed.is.words is_window.words in
      let name : named k ≡ k + 1 = ap (λ b. if b then k + 1 else k + 26) t in
      let w = is_rule.goal.template.written k (omega (arith, lt)) (dead_bit goal.dead.bits (2 ^ k) dead) in
      subst (λ (xs : List ℕ). Contains xs (k + 1)) (sym (plain_writes m 0 (guests_of goal) words is_window.words))
      (subst (λ is. Contains (flat_map locations_written is) (k + 1)) same (subst (λ x. Contains (flat_map locations_written placed.window) x) name w))

  abbrev here : Window
  here = W goal rule.body words condition m own six is_own area

  module _ (guest host : Rights) (g g' : Guest) (core : Core) (choices : List Choice) (ready : TilePrecondition here own area guest host g core) (goes : rows_of guest (plain_window goal words m) g ≡ Goes g') where
    -- the window over inputs with these loaded bytes
    abbrev begun : (ℕ → ℕ) → ℕ → ℕ
    begun loaded = inputs goal widths width m g core loaded

    abbrev window_run : (ℕ → ℕ) → WindowRun
    window_run loaded = guest_steps (length rows) (seen width g.bytes) (row_at rows) (window_begins (begun loaded))

    ran : (loaded : ℕ → ℕ) → ((k : ℕ) → loaded k < 256) → ((k : ℕ) → width ≤ k → loaded k ≡ 0) → GuestRan goal words m width guest g g' (window_run loaded)
    ran loaded small none =
        stand.window words m is_window constants guest g g' (window_begins (begun loaded)).places ready.in_range (λ a h. subst (λ v. v < 256) (ready.represents.bytes a h) (ready.is_core.bytes a))
        (shows_guest goal widths width m g core loaded stand.few six stand.bits ready.in_range ready.is_core constants small none is_rule.goal.tidy.count) goes

    -- the bytes that the window loads
    abbrev loaded : ℕ → ℕ
    loaded = found (loads_of (plain_window goal words m) g) width g.bytes

    small : (k : ℕ) → loaded k < 256
    small k =
        let first = ran (λ k. 0) (λ k. omega arith) (λ k ge. refl) in
        subst (λ xs. found xs width g.bytes k < 256) (sym first.loads)
        (found_small width g.bytes (window_run (λ k. 0)).accesses first.one_access (λ a c. subst (λ v. v < 256) (ready.represents.bytes a (first.inside.loaded a c)) (ready.is_core.bytes a)) k)

    none : (k : ℕ) → width ≤ k → loaded k ≡ 0
    none k ge = found_none (loads_of (plain_window goal words m) g) width g.bytes k ge

    window : GuestRan goal words m width guest g g' (window_run loaded)
    window = ran loaded small none

    abbrev body_run : BodyRun
    body_run = host_steps (length lines) (seen width g.bytes) (line_at lines) (picks_of choices) (body_begins home_fields (begun loaded))

    are_found : Finds (seen width g.bytes) (loaded_bytes (begun loaded)) (window_run loaded).accesses
    are_found =
        subst (λ f. Finds (seen width g.bytes) f (window_run loaded).accesses) (ap (λ xs. found xs width g.bytes) (sym window.loads) ∙ fun_ext (λ k. sym (loaded_inputs goal widths width m g core loaded k)))
        (finds width g.bytes (window_run loaded).accesses window.one_access)

    follows : Follows (ends_of goal) (jump_of rule.body.take) (window_run loaded) body_run
    follows = sound (seen width g.bytes) (begun loaded) (picks_of choices)
        (are_within goal widths width m g core loaded stand.few six stand.bits ready.in_range ready.is_core constants small none) (λ k. word_small _) are_found

    may_run : MayRun area host core (seen width g.bytes) body_run
    may_run = record {
      low = ready.page.low;
      held = ready.page.held;
      writable = ready.page.writable;
      few = subst (λ (xs : List Accessed). length xs ≤ 1) follows.accesses window.one_access.few;
      inside = record { loaded = λ a c. ready.loads a (loads_back a c); stored = λ a c. ready.stores a (stores_back a c) };
      away = record { loaded = λ a c. ready.page.apart a (window.inside.loaded a (accesses_back loads_at a c)); stored = λ a c. ready.page.apart a (ready.writes_held a (window.inside.stored a (accesses_back stores_at a c))) };
      found = subst (λ xs. AreFound (seen width g.bytes) core.bytes xs) follows.accesses (found_core width g.bytes core.bytes (window_run loaded).accesses window.one_access (λ a c. ready.represents.bytes a (window.inside.loaded a c)));
    }
      where
        accesses_back : (f : Accessed → List ℕ) (a : ℕ) → Contains (flat_map f body_run.accesses) a → Contains (flat_map f (window_run loaded).accesses) a
        accesses_back f a c = subst (λ xs. Contains (flat_map f xs) a) (sym follows.accesses) c

        loads_back : (a : ℕ) → Contains (flat_map loads_at body_run.accesses) a → Contains (here.loads g) a
        loads_back a c = subst (λ (xs : List ℕ). Contains xs a) (sym window.loads) (accesses_back loads_at a c)

        stores_back : (a : ℕ) → Contains (flat_map stores_at body_run.accesses) a → Contains (here.stores g) a
        stores_back a c = subst (λ (xs : List ℕ). Contains xs a) (sym window.stores) (accesses_back stores_at a c)

    body : (after : Core) × HostRan goal rule.body m area host choices core after body_run
    body = stand.body m constants area host core choices (seen width g.bytes) (body_begins home_fields (begun loaded)) ready.is_core
        (shows_host goal widths width m g core loaded stand.few six stand.bits ready.in_range ready.is_core constants small none is_rule.goal.tidy.count own is_own area ready.page.low guest.held ready.represents) refl may_run

    keeps : (p : ℕ) → p < 32 → (Contains here.writes p → ⊥) → g'.locs p ≡ g.locs p
    keeps p lt not_so = window_keeps puts accesses jumps guest (has_take rule.body.take) (plain_window goal words m) (rule_words one rule is_rule words is_window (plain m)) g g' goes p lt not_so

    pub does : GoesThrough (perform host (plain_ops rule.body m area) choices core) (TilePostcondition here own area guest g g' core)
    does = subst (λ o. GoesThrough o (TilePostcondition here own area guest g g' core)) (sym body.1.performs)
        (behind goal rule.body words condition m own six is_own area guest host g g' core body.0 choices width (window_run loaded) body_run ready window body.1 follows keeps dead_written is_condition)

    pub has_access : HaveAccess host (plain_ops rule.body m area) choices core here g
    has_access = same_accesses goal rule.body words condition m own six is_own area guest host g g' core body.0 choices width (window_run loaded) body_run ready window body.1 follows keeps dead_written is_condition

pub runs_make_sound : ((w : ℕ) → HasOneInstruction w) → RowsPutFields → AccessesPutFields → BranchesPutFields → OneInstanceIsEnough → RunsMakeSound
runs_make_sound one puts accesses jumps enough rule rows lines width widths is_rule stand sound = enough rule is_rule plainly
  where
    plainly : IsPlainSound rule
    plainly words condition own m area is_window is_condition is_own constants = record {
      does = λ guest host g g' core choices ready goes. does one puts accesses jumps rule rows lines width widths is_rule stand sound words condition own m area is_window is_condition is_own constants guest host g g' core choices ready goes;
      accesses = λ guest host g g' core choices ready goes. has_access one puts accesses jumps rule rows lines width widths is_rule stand sound words condition own m area is_window is_condition is_own constants guest host g g' core choices ready goes;
    }
