use Rattle.std.proofs.Common.{◌≡◌, length, ◌∙◌, ap, subst}
use Rattle.chosen_inputs.specs.Pairs.{AreAlike}
use Rattle.circuit.specs.Prelude.{AreClausesFor, final_clause, differences_made}
use Rattle.circuit.specs.WordsMade.{WordsMade, gates_operations}
use Rattle.circuit.specs.contracts.nodes.NodePartialEq.TheImpl.{ghosts}
use Rattle.row_circuits.specs.BodyTerms.{body_made}
use Rattle.row_circuits.specs.WindowTerms.{window_made}
use Rattle.window_circuits.specs.Terms.{run_term, pairs_term, rule_made}
use Rattle.window_circuits.proofs.Made.{if_ok_with, rule_from}
use Rattle.window_circuits.proofs.Starting.{if_ok_map}
use Rattle.window_circuits.proofs.Following.{over_oracles, sound_from}
use Rattle.window_circuits.proofs.formula.formula_of.Goals as goal

pub returns-clause-sound : goal.returns-clause-sound
returns-clause-sound c = if_ok_map _ _ c.formula_of_pairs.result (λ f alike unsat.
    sound_from c.args.rows.now c.args.lines.now c.args.take.now c.args.widths c.args.homes c.args.ends.now c.fresh-gates.result.nodes.keys c.run_both.new.gates.nodes.keys c.push_pairs.new.gates.nodes.keys c.push_pairs.new.pairs.items _ _
    c.inputs_extend.ensures c.in_ok-run.ensures.chosen c.in_ok-push_pairs.ensures.later c.in_ok-push_pairs.ensures.alike (λ w fits. subst (AreAlike w) c.deref.ensures.value (alike unsat w fits))) c.formula_of_pairs.ensures.alike

pub returns-clause-memory : goal.returns-clause-memory
returns-clause-memory c = if_ok_map _ _ c.formula_of_pairs.result (λ f alike unsat.
    over_oracles c.args.rows.now c.args.lines.now c.args.take.now c.args.widths c.args.homes c.args.ends.now c.same_accesses_load_alike.ensures
    (sound_from c.args.rows.now c.args.lines.now c.args.take.now c.args.widths c.args.homes c.args.ends.now c.fresh-gates.result.nodes.keys c.run_both.new.gates.nodes.keys c.push_pairs.new.gates.nodes.keys c.push_pairs.new.pairs.items _ _
    c.inputs_extend.ensures c.in_ok-run.ensures.chosen c.in_ok-push_pairs.ensures.later c.in_ok-push_pairs.ensures.alike (λ w fits. subst (AreAlike w) c.deref.ensures.value (alike unsat w fits)))) c.formula_of_pairs.ensures.alike

pub returns-clause-makes : goal.returns-clause-makes
returns-clause-makes c =
    let rows = c.args.rows.now in
    let lines = c.args.lines.now in
    let ops = gates_operations ghosts.eq in
    let k1 = c.run_both.new.gates.nodes.keys in
    let k2 = c.push_pairs.new.gates.nodes.keys in
    let window = window_made c.in_ok-run.run'.window k1 in
    let body = body_made c.in_ok-run.run'.body k1 in
    let whole : differences_made ghosts.eq k2 c.deref.result.now ≡ rule_made ghosts.eq c.args.rows.now c.args.lines.now c.args.take.now c.args.widths c.args.homes c.args.ends.now =
    ap (differences_made ghosts.eq k2) c.deref.ensures.value
    ∙ rule_from ghosts.eq rows lines c.args.take.now c.args.widths c.args.homes c.args.ends.now _ _ (c.in_ok-run.ensures.makes ∙ ap (run_term ops rows lines c.args.widths c.args.homes) c.fresh-gates.ensures)
    (c.in_ok-push_pairs.ensures.makes ∙ ap (pairs_term ops c.args.take.now c.args.ends.now window body) c.new-pairs.ensures.items) in
    let before = differences_made ghosts.eq k2 c.deref.result.now in
    if_ok_with _ _ _ _ c.formula_of_pairs.result (λ held f count clauses. record {
      variables = count ∙ ap length held ∙ ap (λ (m : WordsMade). length m.held) whole;
      clauses = subst (λ (m : WordsMade). AreClausesFor m.held (final_clause m.word) f.clauses) whole (subst (λ ns. AreClausesFor ns (final_clause before.word) f.clauses) held clauses);
    }) c.formula_of_pairs.ensures.held c.formula_of_pairs.ensures.variables c.formula_of_pairs.ensures.clauses
