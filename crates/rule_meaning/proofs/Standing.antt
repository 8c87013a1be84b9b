-- The rows and lines of a rule stand for it. This project's own.
use Rattle.std.proofs.Common.{◌≡◌, ℕ, ◌+◌, ◌<◌, ◌≤◌, ◌⊎◌, inl, inr, ⊎_elim, Bool, true, false, if◌then◌else◌, List, [], ◌∷◌, slice_index_or, Option, Contains, refl, sym, subst}
use Rattle.std.specs.List.{flat_map}
use Rattle.std.proofs.lemmas.List.Elements.{Contains-append_cases, Contains-append_left, Contains-append_right}
use Rattle.machines.specs.Prelude.{HasOneInstruction, Instr, Op}
use Rattle.row_laws.proofs.Lists.{none_in}
use Rattle.symbolic_tiles.specs.Prelude.{span}
use Rattle.rule_body.specs.declared.goal.Goal.{Goal}
use Rattle.rule_body.specs.declared.rule.Rule.{Rule}
use Rattle.rule_body.specs.Prelude.{IsRule, IsWindow, guests_of}
use Rattle.rule_soundness.specs.Prelude.{Match, IsSound}
use Rattle.rule_soundness.proofs.Grammar.{has_take, rule_words}
use Rattle.rule_soundness.proofs.Passing.{words_passed}
use Rattle.rule_renaming.specs.Plain.{plain}
use Rattle.row_runs.specs.Accesses.{Accessed}
use Rattle.place_circuits.specs.declared.fields.Field.{Field}
use Rattle.row_circuits.specs.declared.rows.WindowRow.{WindowRow}
use Rattle.row_circuits.specs.declared.lines.BodyLine.{BodyLine}
use Rattle.window_circuits.specs.declared.pairs.End.{End}
use Rattle.window_circuits.specs.Rules.{IsSoundOver}
use Rattle.rule_places.specs.Inputs.{HasBits, home_fields}
use Rattle.rule_places.specs.Ends.{ends_of, jump_of}
use Rattle.rule_places.specs.Accesses.{loads_at, stores_at, AreAway}
use Rattle.rule_places.specs.Guests.{GuestRan, plain_window}
use Rattle.rule_places.specs.Runs.{RunsWindow, RunsBody}
use Rattle.rule_rows.specs.Rows.{rows_for, window_width}
use Rattle.rule_rows.specs.Laws.{WindowsRun, rows_run}
use Rattle.rule_lines.specs.Lines.{lines_for}
use Rattle.rule_lines.specs.Runs.{BodiesRun, span_of}
use Rattle.rule_meaning.specs.Sound.{AreConstants, StandFor, RunsMakeSound}
use Rattle.rule_meaning.proofs.Frames.{goes_same}
use Rattle.rule_meaning.proofs.Whole.{one_window}

-- the bytes of an access are loaded or stored
spans : (xs : List Accessed) (a : ℕ) → Contains (flat_map span_of xs) a → Contains (flat_map loads_at xs) a ⊎ Contains (flat_map stores_at xs) a
spans [] a c = none_in a c
spans (x ∷ xs) a c = ⊎_elim (first x.loads refl) (rest (spans xs a)) (Contains-append_cases (span_of x) (flat_map span_of xs) a c)
  where
    first : (b : Bool) → x.loads ≡ b → Contains (span_of x) a → Contains (flat_map loads_at (x ∷ xs)) a ⊎ Contains (flat_map stores_at (x ∷ xs)) a
    first true e c = inl (Contains-append_left (loads_at x) (flat_map loads_at xs) a (subst (λ (b : Bool). Contains (if b then span x.width x.address else []) a) (sym e) c))
    first false e c = inr (Contains-append_left (stores_at x) (flat_map stores_at xs) a (subst (λ (b : Bool). Contains (if b then [] else span x.width x.address) a) (sym e) c))

    rest : (Contains (flat_map span_of xs) a → Contains (flat_map loads_at xs) a ⊎ Contains (flat_map stores_at xs) a) → Contains (flat_map span_of xs) a → Contains (flat_map loads_at (x ∷ xs)) a ⊎ Contains (flat_map stores_at (x ∷ xs)) a
    rest later c = ⊎_elim (λ l. inl (Contains-append_right (loads_at x) (flat_map loads_at xs) a l)) (λ s. inr (Contains-append_right (stores_at x) (flat_map stores_at xs) a s)) (later c)

far : (area : ℕ) (xs : List Accessed) → AreAway area xs → (a : ℕ) → Contains (flat_map span_of xs) a → (a < area) ⊎ (area + 4096 ≤ a)
far area xs away a c = ⊎_elim (away.loaded a) (away.stored a) (spans xs a c)

pub stands : ((w : ℕ) → HasOneInstruction w) → WindowsRun → BodiesRun → (rule : Rule) (words : List Instr) (widths : List ℕ) → IsRule rule → IsWindow (guests_of rule.goal) words → window_width words ≤ 4 →
    ((k : ℕ) → k < 64 → HasBits rule.goal (window_width words) k (slice_index_or widths k 0)) → StandFor rule (rows_for rule.goal words) (lines_for rule.goal rule.body) (window_width words) widths
stands one windows bodies rule words widths is_rule is_window few bits = record {
  few = few;
  bits = bits;
  window = λ others m is constants. subst (λ ws. RunsWindow goal ws m (window_width words) (rows_for goal words)) (one_window one (guests_of goal) words others is_window.words is.words) (of_window m constants);
  body = of_body;
}
  where
    goal : Goal
    goal = rule.goal

    of_window : (m : Match) → AreConstants m → RunsWindow goal words m (window_width words) (rows_for goal words)
    of_window m constants rights g g' t in_range bytes shows goes =
        let passed = words_passed rights (has_take rule.body.take) (plain_window goal words m) (rule_words one rule is_rule words is_window (plain m)) g g' goes in
        let ran = windows goal words m rights g (record { places = t; accesses = []; taken = false }) (record {
          is_goal = is_rule.goal;
          window = is_window;
          constants = constants;
          in_range = in_range;
          bytes = bytes;
          loads = passed.loads;
          stores = passed.stores;
          shows = shows;
          accesses = refl;
          taken = refl;
        }) in
        subst (λ after. GuestRan goal words m (window_width words) rights g after (rows_run goal words g.bytes (record { places = t; accesses = []; taken = false }))) (goes_same _ g' ran.0 goes ran.1) ran.2

    of_body : (m : Match) → AreConstants m → RunsBody goal rule.body m (lines_for goal rule.body)
    of_body m constants area host core choices oracle start is_core shows none may =
        bodies goal rule.body m area host oracle choices core start is_rule.goal is_rule.body constants (record { low = may.low; held = may.held; writable = may.writable }) is_core shows none
        (record { few = may.few; far = far area _ may.away; inside = may.inside; finds = may.found })

-- what the formula is of stands for the rule
pub sound_where : ((w : ℕ) → HasOneInstruction w) → WindowsRun → BodiesRun → RunsMakeSound → (rule : Rule) (words : List Instr) → IsRule rule → IsWindow (guests_of rule.goal) words →
    (rows : List WindowRow) (lines : List BodyLine) (take : Option Op) (width : ℕ) (widths : List ℕ) (homes : List Field) (wanted : List End) →
    rows ≡ rows_for rule.goal words → lines ≡ lines_for rule.goal rule.body → take ≡ jump_of rule.body.take → width ≡ window_width words → homes ≡ home_fields → wanted ≡ ends_of rule.goal → width ≤ 4 →
    ((k : ℕ) → k < 64 → HasBits rule.goal width k (slice_index_or widths k 0)) → IsSoundOver rows lines take widths homes wanted → IsSound rule
sound_where one windows bodies make rule words is_rule is_window rows lines take width widths homes wanted er el et ew eh ee few bits over =
    let is_rows = rows_for rule.goal words in
    let is_lines = lines_for rule.goal rule.body in
    let a = subst (λ rs. IsSoundOver rs lines take widths homes wanted) er over in
    let b = subst (λ ls. IsSoundOver is_rows ls take widths homes wanted) el a in
    let c = subst (λ t. IsSoundOver is_rows is_lines t widths homes wanted) et b in
    let d = subst (λ hs. IsSoundOver is_rows is_lines (jump_of rule.body.take) widths hs wanted) eh c in
    let e = subst (λ es. IsSoundOver is_rows is_lines (jump_of rule.body.take) widths home_fields es) ee d in
    make rule is_rows is_lines (window_width words) widths is_rule
    (stands one windows bodies rule words widths is_rule is_window (subst (λ w. w ≤ 4) ew few) (λ k lt. subst (λ w. HasBits rule.goal w k (slice_index_or widths k 0)) ew (bits k lt))) e
