use Rattle.std.proofs.Common.{◌≡◌, ℕ, length, sym, ◌∙◌, ap, subst, arith}
use Rattle.circuit.specs.Prelude.{IsInput}
use Rattle.chosen_inputs.specs.Choices.{both, later, chosen_map}
use Rattle.window_circuits.specs.Starts.{loaded_bytes, window_begins, body_begins}
use Rattle.circuit.specs.contracts.algebra.GatesAlg.TheImpl.{ghosts}
use Rattle.row_circuits.specs.BodyTerms.{body_made}
use Rattle.row_circuits.specs.WindowTerms.{WindowMade, window_made}
use Rattle.window_circuits.specs.Terms.{body_start_term, rows_made}
use Rattle.window_circuits.proofs.Made.{run_from}
use Rattle.window_circuits.proofs.formula.run_both.Goals as goal

pub returns-clause-chosen : goal.returns-clause-chosen
returns-clause-chosen c = λ t picks hw hp.
    let k0 = c.args.gates.now.nodes.keys in
    let k1 = c.input_places.new.gates.nodes.keys in
    let k2 = c.window_start-window.new.gates.nodes.keys in
    let k3 = c.body_start.new.gates.nodes.keys in
    let k4 = c.all_rows.new.gates.nodes.keys in
    let k5 = c.all_lines.new.gates.nodes.keys in
    let same = c.window_start-window.ensures.same in
    let z : length k2 ≡ length k1 = ap (λ s. length s.nodes.keys) same in
    let g1 = c.in_ok-inputs.ensures.later.grows in
    let g3 = c.in_ok-body.ensures.later.grows in
    let g4 = c.in_ok-all_rows.ensures.later.grows in
    let kept = λ (k : ℕ) (i : IsInput k1 k). c.in_ok-all_rows.ensures.later.inputs k (c.in_ok-body.ensures.later.inputs k (subst (λ s. IsInput s.nodes.keys k) (sym same) i)) in
    let c4 = later k0 k1 k4 _ kept (c.in_ok-inputs.ensures.chosen t hw) in
    chosen_map k0 k5 _ _ (λ w r fits.
    let f4 = c.in_ok-all_lines.ensures.later.earlier w fits in
    let f3 = c.in_ok-all_rows.ensures.later.earlier w f4 in
    let b = c.start_bytes-bytes.ensures.means w t r.0 in (
      c.in_ok-all_rows.ensures.means w (window_begins t) (loaded_bytes t) f4 (c.window_start-window.ensures.means w t r.0) b,
      r.1 fits (c.in_ok-body.ensures.means w t f3 r.0) b,
    )) (both k0 k4 k5 _ _ (omega (arith, g1, z, g3, g4)) c.in_ok-all_lines.ensures.later.inputs c4 (c.in_ok-all_lines.ensures.means (body_begins c.args.homes t) picks (loaded_bytes t) hp))

pub returns-clause-makes : goal.returns-clause-makes
returns-clause-makes c =
    let inputs = c.in_ok-inputs.inputs in
    let rows = c.args.rows.now in
    let bytes = c.start_bytes-bytes.result in
    let k3 = c.body_start.new.gates.nodes.keys in
    run_from ghosts.ops rows c.args.lines.now c.args.widths c.args.homes c.args.gates.now.nodes.keys (record { places = inputs; held = c.input_places.new.gates.nodes.keys }) bytes
    (body_made c.in_ok-body.body k3) (window_made c.all_rows.new.window c.all_rows.new.gates.nodes.keys) (body_made c.all_lines.new.body c.all_lines.new.gates.nodes.keys)
    c.in_ok-inputs.ensures.makes c.start_bytes-bytes.ensures.makes
    (c.in_ok-body.ensures.makes ∙ ap (λ s. body_start_term ghosts.ops c.args.homes inputs s.nodes.keys) c.window_start-window.ensures.same)
    (c.in_ok-all_rows.ensures.makes ∙ ap (λ (w : WindowMade). rows_made ghosts.ops (length rows) rows bytes (record w { held = k3 })) c.window_start-window.ensures.makes)
    c.in_ok-all_lines.ensures.makes
