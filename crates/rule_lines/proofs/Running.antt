-- The ops of a body one after another do what its lines do. This project's own.
use Rattle.std.proofs.Common.{◌≡◌, ℕ, ◌^◌, ◌<◌, inl, Bool, true, false, cond, if◌then◌else◌, List, [], ◌∷◌, ◌++◌, drop, map as list_map, Option, Some, None, refl, sym, ap, ◌∙◌, subst, arith}
use Rattle.std.specs.List.{AllByRecursion, flat_map}
use Rattle.std.proofs.Math.Nat.{mod-lt}
use Rattle.std.proofs.lemmas.Grind.{flat_map-append}
use Rattle.std.proofs.lemmas.List.{append-nil, append_assoc}
use Rattle.machines.specs.Prelude.{Op, Flags, HostValues, HostEffect, host_row, Outcome, Rights, Choice, Core, Host, choice_at, chosen_word, chosen_flags, host_values, bind, does, goes_to, edx}
use Rattle.symbolic_tiles.specs.Prelude.{is_jump, op_outcome, core_behind, perform, op_at}
use Rattle.rule_body.specs.declared.goal.Goal.{Goal}
use Rattle.rule_body.specs.declared.line.HostLine.{HostLine}
use Rattle.rule_body.specs.Prelude.{is_straight, parts}
use Rattle.rule_soundness.specs.Prelude.{Match, laid_line, op_loads, op_stores, accessed, accessed_behind, OpsHaveShapes}
use Rattle.rule_soundness.specs.Shapes.{x_source, y_source, destination, source_value as machine_value, put_result}
use Rattle.rule_renaming.specs.Plain.{plain}
use Rattle.row_runs.specs.Accesses.{Accessed}
use Rattle.row_runs.specs.Bodies.{Bytes, Operand as Read, Own as OwnRead, Loaded as LoadedRead, Pick, BodyRun, operand as run_operand, operand_accesses, result_accesses, line_effect, host_step}
use Rattle.place_circuits.specs.Sources.{source_value}
use Rattle.row_circuits.specs.Bodies.{operand_read, stored_to, line_of}
use Rattle.rule_places.specs.Accesses.{loads_at, stores_at, behind_accesses}
use Rattle.rule_lines.specs.Lines.{has_number, displacement_hole, second_for, source_for, results_for, line_for}
use Rattle.rule_lines.specs.Runs.{AreAnswered}
use Rattle.rule_lines.proofs.Registers.{temporary_place}
use Rattle.rule_lines.proofs.Fits.{FitsOp}
use Rattle.rule_lines.proofs.Laid.{laid, laid_destination, source_span, destination_span, line_laid, op_tame, op_words}
use Rattle.rule_lines.proofs.Reading.{IsFilled, filled_where, filled_unless, IsFar, slots, Setting, Shown, source_read, second_read, second_loads}
use Rattle.rule_lines.proofs.Putting.{Keeps, kept_same, kept_then, results_written, results_stores}
use Rattle.rule_lines.proofs.Answers.{answered_left, answered_right, answered_behind}

abbrev pub pick_of : Choice → Pick
pick_of c = record { value = chosen_word c; flags = chosen_flags c }

loads_of_results : (o : Option Bytes) (v : ℕ) (t : ℕ → ℕ) → flat_map loads_at (result_accesses o v t) ≡ []
loads_of_results None v t = refl
loads_of_results (Some b) v t = refl

abbrev pub core_of : (ℕ → ℕ) → Flags → (ℕ → ℕ) → Core
core_of regs f bytes = record { regs = regs; flags = f; bytes = bytes }

module _ (goal : Goal) (m : Match) (area : ℕ) (host : Rights) (oracle : ℕ → ℕ → ℕ) where
  abbrev here : List Bool
  here = slots goal m area host

  -- a line that the grammar lets stand in the body
  pub record FitsLine (line : HostLine) : Type 0 where
    pub straight : is_straight line.op ≡ true
    pub fits : FitsOp here goal.dead.bits line.op
    pub filled : IsFilled goal line.hole

  abbrev pub step : HostLine → Pick → BodyRun → BodyRun
  step line pick run = host_step oracle (line_of (line_for here line)) pick run

  abbrev asked_by : HostLine → (ℕ → ℕ) → List Accessed
  asked_by line t = operand_accesses (operand_read (second_for here line (y_source line.op))) t

  abbrev given_to : HostLine → (ℕ → ℕ) → ℕ
  given_to line t = run_operand oracle (operand_read (second_for here line (y_source line.op))) t

  abbrev effect_by : HostLine → Pick → BodyRun → HostEffect
  effect_by line pick run = line_effect (line_of (line_for here line)) pick run (given_to line run.places)

  abbrev put_by : HostLine → Pick → BodyRun → List Accessed
  put_by line pick run = result_accesses (stored_to (results_for here line (destination line.op))) (effect_by line pick run).result run.places

  -- the accesses of a line
  abbrev made_by : HostLine → Pick → BodyRun → List Accessed
  made_by line pick run = asked_by line run.places ++ put_by line pick run

  -- what an op leads to
  record Led (regs bytes : ℕ → ℕ) (o : Option Core) (run : BodyRun) (accesses : List Accessed) : Type 0 where
    pub regs' : ℕ → ℕ
    pub bytes' : ℕ → ℕ
    pub is : o ≡ Some (core_of regs' run.flags bytes')
    pub shown : Shown goal m area host regs' bytes' run.places
    pub keeps : Keeps goal m area host regs bytes regs' bytes' accesses

  -- a load keeps all
  asks_keep : (regs bytes : ℕ → ℕ) (o : Read) (t : ℕ → ℕ) → Keeps goal m area host regs bytes regs bytes (operand_accesses o t)
  unfolding behind_accesses
  asks_keep regs bytes (OwnRead n) t = kept_same goal m area host regs bytes
  asks_keep regs bytes (LoadedRead b) t = record { outside = λ a far. refl; page = λ i lt no. refl; dead = λ b le lt is. refl; registers = λ r a c d no. refl }

  stores_of_operands : (o : Read) (t : ℕ → ℕ) → flat_map stores_at (operand_accesses o t) ≡ []
  stores_of_operands (OwnRead n) t = refl
  stores_of_operands (LoadedRead b) t = refl

  -- lines one after another, and their accesses
  unfoldable pub lead : List HostLine → List Choice → BodyRun → BodyRun
  lead [] choices run = run
  lead (l ∷ ls) choices run = lead ls (drop 1 choices) (step l (pick_of (choice_at choices 0)) run)

  unfoldable pub made : List HostLine → List Choice → BodyRun → List Accessed
  made [] choices run = []
  made (l ∷ ls) choices run = made_by l (pick_of (choice_at choices 0)) run ++ made ls (drop 1 choices) (step l (pick_of (choice_at choices 0)) run)

  pub made_is : (ls : List HostLine) (choices : List Choice) (run : BodyRun) → (lead ls choices run).accesses ≡ run.accesses ++ made ls choices run
  unfolding lead made
  made_is [] choices run = sym (append-nil run.accesses)
  made_is (l ∷ ls) choices run =
      let pick = pick_of (choice_at choices 0) in
      made_is ls (drop 1 choices) (step l pick run) ∙ ap (λ xs. xs ++ made ls (drop 1 choices) (step l pick run)) (append_assoc run.accesses (asked_by l run.places) (put_by l pick run))
      ∙ append_assoc run.accesses (made_by l pick run) (made ls (drop 1 choices) (step l pick run))

  abbrev pub laid_all : List HostLine → List Op
  laid_all ls = list_map (op_at area) (list_map (laid_line (plain m)) ls)

  -- the ops from a core that a run shows
  pub record Ran (ls : List HostLine) (choices : List Choice) (regs bytes : ℕ → ℕ) (run : BodyRun) : Type 0 where
    pub regs' : ℕ → ℕ
    pub bytes' : ℕ → ℕ
    pub performs : perform host (laid_all ls) choices (core_of regs run.flags bytes) ≡ Some (core_of regs' (lead ls choices run).flags bytes')
    pub shown : Shown goal m area host regs' bytes' (lead ls choices run).places
    pub keeps : Keeps goal m area host regs bytes regs' bytes' (made ls choices run)
    pub loads : accessed op_loads host (laid_all ls) choices (core_of regs run.flags bytes) ≡ flat_map loads_at (made ls choices run)
    pub stores : accessed op_stores host (laid_all ls) choices (core_of regs run.flags bytes) ≡ flat_map stores_at (made ls choices run)

  module _ (set : Setting goal m area host) (shapes : OpsHaveShapes) where
    one_line : (line : HostLine) (regs bytes : ℕ → ℕ) (run : BodyRun) (c : Choice) → FitsLine line → Shown goal m area host regs bytes run.places → AreAnswered area host oracle bytes (made_by line (pick_of c) run) →
        Led regs bytes (does host (laid m area line) c (core_of regs run.flags bytes)) (step line (pick_of c) run) (made_by line (pick_of c) run)
    one_line line regs bytes run c is shown answered =
        let t = run.places in
        let op = laid m area line in
        let core = core_of regs run.flags bytes in
        let pick = pick_of c in
        let facts = line_laid m area host line.op line.hole is.straight in
        let now = filled_where goal (has_number (parts line.op).immediate) line.hole is.filled in
        let at = filled_unless goal (has_number (parts line.op).immediate) (parts line.op).moves line.hole is.filled in
        let gx = source_read goal m area host set regs bytes t shown line run.flags facts now at (x_source line.op) is.fits.x in
        let gy = second_read goal m area host set regs bytes t shown line run.flags facts now at oracle (parts line.op).moves (y_source line.op) is.fits.y (answered_left area host oracle bytes (asked_by line t) (put_by line pick run) answered) in
        let x = source_value (source_for here line (x_source line.op)) t in
        let y = given_to line t in
        let d = shown.named edx (inl (omega arith)) ∙ ap t (temporary_place here 2 (omega arith)) in
        let told : HostValues = record { x = x; y = y; high = t 15; flags = run.flags; free = pick.value; free_flags = pick.flags } in
        let words = op_words line.op told is.straight gx.1 gy.1 (subst (λ n. n < 2 ^ 32) d (shown.words edx)) (mod-lt c.value (omega arith)) in
        let w = results_written goal m area host set regs bytes t shown line at oracle told (host_row line.op told) (destination line.op) (parts line.op).moves is.fits.to (op_tame line.op told is.straight) words
        (answered_right area host oracle bytes (asked_by line t) (put_by line pick run) answered) in
        let hole = displacement_hole line in
        record {
          regs' = w.after.regs;
          bytes' = w.after.bytes;
          is = shapes host op c core facts.straight
              ∙ ap (λ o. bind o (λ x. bind (machine_value host (y_source op) op core) (λ y. put_result host (destination op) (host_row op (host_values c core x y)) core))) (ap (λ s. machine_value host s op core) facts.x ∙ gx.0)
              ∙ ap (λ o. bind o (λ y. put_result host (destination op) (host_row op (host_values c core x y)) core)) (ap (λ s. machine_value host s op core) facts.y ∙ gy.0)
              ∙ ap (λ q. put_result host q (host_row op (host_values c core x y)) core) facts.to
              ∙ ap (λ e. put_result host (laid_destination m area hole (destination line.op)) e core) (facts.row (host_values c core x y))
              ∙ ap (λ h. put_result host (laid_destination m area hole (destination line.op)) (host_row line.op (record { x = x; y = y; high = h; flags = run.flags; free = pick.value; free_flags = pick.flags })) core) d
              ∙ w.is ∙ ap (λ f. Some (core_of w.after.regs f w.after.bytes)) w.flags_are;
          shown = w.put.shown;
          keeps = kept_then goal m area host regs bytes regs bytes w.after.regs w.after.bytes (asked_by line t) (put_by line pick run) (asks_keep regs bytes (operand_read (second_for here line (y_source line.op))) t) w.put.keeps;
        }

    -- what the op accesses is what the line does
    line_loads : (line : HostLine) (regs bytes : ℕ → ℕ) (run : BodyRun) (c : Choice) → FitsLine line → Shown goal m area host regs bytes run.places → op_loads (laid m area line) regs ≡ flat_map loads_at (made_by line (pick_of c) run)
    line_loads line regs bytes run c is shown =
        let t = run.places in
        let facts = line_laid m area host line.op line.hole is.straight in
        let now = filled_where goal (has_number (parts line.op).immediate) line.hole is.filled in
        let at = filled_unless goal (has_number (parts line.op).immediate) (parts line.op).moves line.hole is.filled in
        facts.loads regs ∙ ap (λ s. if (parts line.op).moves then source_span s regs else []) facts.y
        ∙ second_loads goal m area host set regs bytes t shown line run.flags facts now at oracle (parts line.op).moves (y_source line.op) is.fits.y ∙ sym (append-nil (flat_map loads_at (asked_by line t)))
        ∙ ap (λ l. flat_map loads_at (asked_by line t) ++ l) (sym (loads_of_results (stored_to (results_for here line (destination line.op))) (effect_by line (pick_of c) run).result t)) ∙ sym (flat_map-append loads_at (asked_by line t) (put_by line (pick_of c) run))

    line_stores : (line : HostLine) (regs bytes : ℕ → ℕ) (run : BodyRun) (c : Choice) → FitsLine line → Shown goal m area host regs bytes run.places → op_stores (laid m area line) regs ≡ flat_map stores_at (made_by line (pick_of c) run)
    line_stores line regs bytes run c is shown =
        let t = run.places in
        let facts = line_laid m area host line.op line.hole is.straight in
        let at = filled_unless goal (has_number (parts line.op).immediate) (parts line.op).moves line.hole is.filled in
        facts.stores regs ∙ ap (λ s. if (parts line.op).moves then destination_span s regs else []) facts.to
        ∙ results_stores goal m area host set regs bytes t shown line at oracle (parts line.op).moves (destination line.op) (effect_by line (pick_of c) run).result is.fits.to
        ∙ ap (λ l. l ++ flat_map stores_at (put_by line (pick_of c) run)) (sym (stores_of_operands (operand_read (second_for here line (y_source line.op))) t)) ∙ sym (flat_map-append stores_at (asked_by line t) (put_by line (pick_of c) run))

    abbrev behind : List Choice → Core → Option Core → Outcome Host
    behind choices core o = goes_to host 0 (record { core = core; eip = 0; choices = choices }) o

    performed : (op : Op) (ops : List Op) (choices : List Choice) (core : Core) → is_jump op ≡ false → op_outcome host op choices core ≡ behind choices core (does host op (choice_at choices 0) core) →
        perform host (op ∷ ops) choices core ≡ core_behind (perform host ops) (behind choices core (does host op (choice_at choices 0) core))
    performed op ops choices core jump calm = ap (λ b. cond b None (core_behind (perform host ops) (op_outcome host op choices core))) jump ∙ ap (core_behind (perform host ops)) calm

    pub ran : (ls : List HostLine) (choices : List Choice) (regs bytes : ℕ → ℕ) (run : BodyRun) → AllByRecursion FitsLine ls → Shown goal m area host regs bytes run.places → AreAnswered area host oracle bytes (made ls choices run) → Ran ls choices regs bytes run
    unfolding lead made accessed behind_accesses
    ran [] choices regs bytes run is shown answered = record { regs' = regs; bytes' = bytes; performs = refl; shown = shown; keeps = kept_same goal m area host regs bytes; loads = refl; stores = refl }
    ran (l ∷ ls) choices regs bytes run is shown answered =
        let c = choice_at choices 0 in
        let pick = pick_of c in
        let next = step l pick run in
        let here_made = made_by l pick run in
        let rest_made = made ls (drop 1 choices) next in
        let op = laid m area l in
        let core = core_of regs run.flags bytes in
        let facts = line_laid m area host l.op l.hole is.0.straight in
        let one = one_line l regs bytes run c is.0 shown (answered_left area host oracle bytes here_made rest_made answered) in
        let same : here_made ≡ [] → (a : ℕ) → IsFar area a → one.bytes' a ≡ bytes a = λ e a far. one.keeps.outside a far ∙ ap (λ xs. behind_accesses xs bytes a) e in
        let rest = ran ls (drop 1 choices) one.regs' one.bytes' next is.1 one.shown (answered_behind area host oracle bytes one.bytes' here_made rest_made same answered) in
        let calm = facts.outcome choices core ∙ ap (behind choices core) one.is in
        record {
          regs' = rest.regs';
          bytes' = rest.bytes';
          performs = performed op (laid_all ls) choices core facts.jump (facts.outcome choices core) ∙ ap (λ o. core_behind (perform host (laid_all ls)) (behind choices core o)) one.is ∙ rest.performs;
          shown = rest.shown;
          keeps = kept_then goal m area host regs bytes one.regs' one.bytes' rest.regs' rest.bytes' here_made rest_made one.keeps rest.keeps;
          loads = ap (λ o. op_loads op regs ++ accessed_behind (accessed op_loads host (laid_all ls)) o) calm
              ∙ ap (λ xs. xs ++ accessed op_loads host (laid_all ls) (drop 1 choices) (core_of one.regs' next.flags one.bytes')) (line_loads l regs bytes run c is.0 shown)
              ∙ ap (λ xs. flat_map loads_at here_made ++ xs) rest.loads ∙ sym (flat_map-append loads_at here_made rest_made);
          stores = ap (λ o. op_stores op regs ++ accessed_behind (accessed op_stores host (laid_all ls)) o) calm
              ∙ ap (λ xs. xs ++ accessed op_stores host (laid_all ls) (drop 1 choices) (core_of one.regs' next.flags one.bytes')) (line_stores l regs bytes run c is.0 shown)
              ∙ ap (λ xs. flat_map stores_at here_made ++ xs) rest.stores ∙ sym (flat_map-append stores_at here_made rest_made);
        }
