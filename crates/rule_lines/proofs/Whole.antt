-- Bodies of the grammar run as their lines do. This project's own.
use Rattle.std.proofs.Common.{◌≡◌, ℕ, zero, suc, ◌+◌, ◌^◌, ◌<◌, ◌≤◌, inl, inr, List, [], ◌∷◌, ◌++◌, drop, take, length, min, map as list_map, Option, Some, None, refl, sym, ap, ◌∙◌, subst, arith}
use Rattle.std.specs.List.{AllByRecursion, flat_map}
use Rattle.std.proofs.lemmas.List.{length-take}
use Rattle.std.proofs.lemmas.Option.{slice_get_within}
use Rattle.machines.specs.Prelude.{Rights, Choice, Core, choice_at}
use Rattle.symbolic_tiles.specs.Prelude.{IsCore, perform}
use Rattle.rule_body.specs.declared.goal.Goal.{Goal}
use Rattle.rule_body.specs.declared.line.Hole.{Hole}
use Rattle.rule_body.specs.declared.line.HostLine.{HostLine}
use Rattle.rule_body.specs.Goals.{guests}
use Rattle.rule_body.specs.Prelude.{IsGoal, IsHostLine, IsHoleFor, lines_of, guests_of, template_of}
use Rattle.rule_soundness.specs.Prelude.{Match, body_slot, op_loads, op_stores, accessed, OpsHaveShapes}
use Rattle.row_runs.specs.Bodies.{Line, Pick, BodyRun, host_step, host_steps}
use Rattle.row_circuits.specs.declared.lines.BodyLine.{BodyLine}
use Rattle.window_circuits.specs.Runs.{line_at}
use Rattle.rule_places.specs.Accesses.{loads_at, stores_at, behind_accesses}
use Rattle.rule_places.specs.Hosts.{ShowsHost, HostRan, picks_of, plain_ops}
use Rattle.rule_lines.specs.Lines.{register_place, line_for}
use Rattle.rule_lines.specs.Runs.{IsPage, AreAnswered, BodiesRun}
use Rattle.rule_lines.proofs.Registers.{IsNamed, temporary_place, slot_place}
use Rattle.rule_lines.proofs.Fits.{op_fits}
use Rattle.rule_lines.proofs.Reading.{IsFilled, Setting, Shown}
use Rattle.rule_lines.proofs.Running.{FitsLine, step, pick_of, core_of, lead, made, made_is, ran}

-- steps from the front
steps_front : (n : ℕ) (o : ℕ → ℕ → ℕ) (lines : ℕ → Line) (picks : ℕ → Pick) (run : BodyRun) → host_steps (suc n) o lines picks run ≡ host_steps n o (λ k. lines (suc k)) (λ k. picks (suc k)) (host_step o (lines 0) (picks 0) run)
unfolding host_steps
steps_front zero o lines picks run = refl
steps_front (suc n) o lines picks run = ap (host_step o (lines (suc n)) (picks (suc n))) (steps_front n o lines picks run)

steps_same : (n : ℕ) (o : ℕ → ℕ → ℕ) (lines : ℕ → Line) (picks others : ℕ → Pick) (run : BodyRun) → ((k : ℕ) → picks k ≡ others k) → host_steps n o lines picks run ≡ host_steps n o lines others run
unfolding host_steps
steps_same zero o lines picks others run same = refl
steps_same (suc n) o lines picks others run same = ap (λ p. host_step o (lines n) p (host_steps n o lines picks run)) (same n) ∙ ap (host_step o (lines n) (others n)) (steps_same n o lines picks others run same)

choice_behind : (choices : List Choice) (k : ℕ) → choice_at choices (suc k) ≡ choice_at (drop 1 choices) k
choice_behind [] k = refl
choice_behind (c ∷ choices) k = refl

module _ (goal : Goal) (m : Match) (area : ℕ) (host : Rights) (oracle : ℕ → ℕ → ℕ) (set : Setting goal m area host) (shapes : OpsHaveShapes) where
  abbrev lines : List HostLine → List BodyLine
  lines ls = list_map (line_for (template_of goal).slots) ls

  steps_are : (ls : List HostLine) (choices : List Choice) (run : BodyRun) → host_steps (length (lines ls)) oracle (line_at (lines ls)) (picks_of choices) run ≡ lead goal m area host oracle ls choices run
  unfolding host_steps lead
  steps_are [] choices run = refl
  steps_are (l ∷ ls) choices run =
      let next = step goal m area host oracle l (pick_of (choice_at choices 0)) run in
      steps_front (length (lines ls)) oracle (line_at (lines (l ∷ ls))) (picks_of choices) run
      ∙ steps_same (length (lines ls)) oracle (line_at (lines ls)) (λ k. picks_of choices (suc k)) (picks_of (drop 1 choices)) next (λ k. ap pick_of (choice_behind choices k))
      ∙ steps_are ls (drop 1 choices) next

  shown_of : (core : Core) (run : BodyRun) → IsCore core → ShowsHost goal m area core run → Shown goal m area host core.regs core.bytes run.places
  shown_of core run is shows = record {
    named = named;
    at_home = shows.at_home;
    homes = shows.homes;
    constants = shows.constants;
    words = is.words;
    small = is.bytes;
  }
    where
      temporary : (r : ℕ) → r < 3 → core.regs r ≡ run.places (13 + r)
      temporary zero lt = shows.eax
      temporary (suc zero) lt = shows.ecx
      temporary (suc (suc zero)) lt = shows.edx
      temporary (suc (suc (suc r))) lt = absurd (omega arith)

      named : (r : ℕ) → IsNamed (template_of goal).slots r → core.regs r ≡ run.places (register_place (template_of goal).slots r)
      named r (inl lt) = temporary r lt ∙ ap run.places (sym (temporary_place (template_of goal).slots r lt))
      named r (inr w) = ap core.regs w.2 ∙ shows.in_slots w.0 w.1 ∙ ap run.places (sym (slot_place (template_of goal).slots w.0 set.three w.1) ∙ ap (register_place (template_of goal).slots) (sym w.2))

  shows_of : (regs bytes : ℕ → ℕ) (run : BodyRun) → Shown goal m area host regs bytes run.places → ShowsHost goal m area (core_of regs run.flags bytes) run
  shows_of regs bytes run shown = record {
    eax = shown.named 0 (inl (omega arith)) ∙ ap run.places (temporary_place (template_of goal).slots 0 (omega arith));
    ecx = shown.named 1 (inl (omega arith)) ∙ ap run.places (temporary_place (template_of goal).slots 1 (omega arith));
    edx = shown.named 2 (inl (omega arith)) ∙ ap run.places (temporary_place (template_of goal).slots 2 (omega arith));
    in_slots = λ k e. shown.named (body_slot (template_of goal).slots k) (inr (k, e, refl)) ∙ ap run.places (slot_place (template_of goal).slots k set.three e);
    at_home = shown.at_home;
    homes = shown.homes;
    constants = shown.constants;
    flags = refl;
  }

min_left : (n k : ℕ) → min n k ≤ n
min_left n k = grind arith

pub few_taken : {A : Type 0} → (n : ℕ) (xs : List A) → length (take n xs) ≤ n
few_taken n xs = let e = length-take n xs in let l = min_left n (length xs) in omega (arith, e, l)

hole_filled : (goal : Goal) (line : HostLine) (hole : Option (Hole × ℕ)) → IsHoleFor (template_of goal) line.op hole → IsFilled goal hole
hole_filled goal line None is = tt
hole_filled goal line (Some hole) is = is.0

setting : (goal : Goal) (m : Match) (area : ℕ) (host : Rights) → IsGoal goal → ((j : ℕ) → m.constant j < 2 ^ 16) → IsPage area host → Setting goal m area host
setting goal m area host is constants page = record {
  page = page;
  few = let l = few_taken goal.parameters goal.slots in let p = is.tidy.parameters in omega (arith, l, p);
  three = is.template.placed.few;
  words = λ j h. let w = slice_get_within (guests_of goal) j h.0 h.1 in let l = few_taken goal.count (guests goal.words goal.free) in let c = is.tidy.count in omega (arith, w, l, c);
  constants = constants;
}

lines_fit : (goal : Goal) (m : Match) (area : ℕ) (host : Rights) (oracle : ℕ → ℕ → ℕ) (ls : List HostLine) → AllByRecursion (IsHostLine (template_of goal)) ls → AllByRecursion (FitsLine goal m area host oracle) ls
lines_fit goal m area host oracle [] is = tt
lines_fit goal m area host oracle (l ∷ ls) is = (
  record {
    straight = is.0.straight;
    fits = op_fits (template_of goal).slots goal.dead.bits (template_of goal) refl refl l.op is.0.straight is.0.profile is.0.registers is.0.operand;
    filled = hole_filled goal l l.hole is.0.hole;
  },
  lines_fit goal m area host oracle ls is.1,
)

pub bodies_run : OpsHaveShapes → BodiesRun
bodies_run shapes goal body m area host oracle choices core start is_goal is_body constants page is_core shows none answered =
    let set = setting goal m area host is_goal constants page in
    let ls = lines_of body in
    let end = lead goal m area host oracle ls choices start in
    let e = steps_are goal m area host oracle set shapes ls choices start in
    let all = made_is goal m area host oracle ls choices start ∙ ap (λ xs. xs ++ made goal m area host oracle ls choices start) none in
    let r = ran goal m area host oracle set shapes ls choices core.regs core.bytes start (lines_fit goal m area host oracle ls is_body.lines.each) (shown_of goal m area host oracle set shapes core start is_core shows)
    (subst (AreAnswered area host oracle core.bytes) (ap (λ run. run.accesses) e ∙ all) answered) in
    let same : core ≡ core_of core.regs start.flags core.bytes = ap (λ f. core_of core.regs f core.bytes) shows.flags in (
      core_of r.regs' end.flags r.bytes',
      subst (HostRan goal body m area host choices core (core_of r.regs' end.flags r.bytes')) (sym e) (record {
        performs = ap (λ c. perform host (plain_ops body m area) choices c) same ∙ r.performs;
        shows = shows_of goal m area host oracle set shapes r.regs' r.bytes' end r.shown;
        outside = λ a far. r.keeps.outside a far ∙ ap (λ xs. behind_accesses xs core.bytes a) (sym all);
        page = r.keeps.page;
        dead = r.keeps.dead;
        registers = r.keeps.registers;
        loads = ap (λ c. accessed op_loads host (plain_ops body m area) choices c) same ∙ r.loads ∙ ap (flat_map loads_at) (sym all);
        stores = ap (λ c. accessed op_stores host (plain_ops body m area) choices c) same ∙ r.stores ∙ ap (flat_map stores_at) (sym all);
        is_core = record { words = r.shown.words; bytes = r.shown.small };
      }),
    )
