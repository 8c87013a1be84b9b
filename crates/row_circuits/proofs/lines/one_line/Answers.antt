use Rattle.std.proofs.Common.{ℕ, sym, ◌∙◌, ap, subst, arith}
use Rattle.circuit.specs.Prelude.{AllAgree, IsInput}
use Rattle.chosen_inputs.specs.Choices.{later, chosen_map, chosen_behind}
use Rattle.ia_codec.specs.Prelude.{host_row}
use Rattle.row_circuits.specs.Choices.{left_pick}
use Rattle.row_circuits.specs.BodyTerms.{body_made}
use Rattle.row_circuits.proofs.Shown.{values_shown}
use Rattle.row_circuits.proofs.Lined.{line_makes}
use Rattle.row_circuits.proofs.lines.one_line.Goals as goal

pub returns-clause-makes : goal.returns-clause-makes
returns-clause-makes c =
    let e = c.in_ok-e.e in
    ap (λ s. record { places = c.put_results.new.places; cf = e.cf; zf = e.zf; sf = e.sf; of = e.of; accesses = c.push_result.new.accesses.items; held = s.nodes.keys }) c.put_results.ensures.same
    ∙ line_makes _ _ c.args.line.now c.args.bytes (body_made c.args.body.now c.args.gates.now.nodes.keys) _ _ _ _ _ _
    c.in_ok-x.ensures.makes c.in_ok-y.ensures.makes c.in_ok-choice.ensures.makes c.in_ok-e.ensures.makes c.in_ok-push_result.ensures.makes c.put_results.ensures.makes

pub returns-clause-means : goal.returns-clause-means
returns-clause-means c = λ run pick f h.
    let k0 = c.args.gates.now.nodes.keys in
    let k2 = c.read_operand.new.gates.nodes.keys in
    let k3 = c.new_choice.new.gates.nodes.keys in
    let k6 = c.put_results.new.gates.nodes.keys in
    let g1 = c.in_ok-x.ensures.later.grows in
    let g2 = c.in_ok-y.ensures.later.grows in
    let kept = λ (k : ℕ) (i : IsInput k3 k). subst (λ s. IsInput s.nodes.keys k) (sym c.put_results.ensures.same) (c.in_ok-push_result.ensures.later.inputs k (c.in_ok-e.ensures.later.inputs k i)) in
    chosen_map k0 k6 _ _ (λ w picked fits s b.
    let f5 = subst (λ s. AllAgree s.nodes.keys w) c.put_results.ensures.same fits in
    let f4 = c.in_ok-push_result.ensures.later.earlier w f5 in
    let f3 = c.in_ok-e.ensures.later.earlier w f4 in
    let f2 = c.in_ok-choice.ensures.later.earlier w f3 in
    let f1 = c.in_ok-y.ensures.later.earlier w f2 in
    let p = run.places in
    let e = c.in_ok-e.ensures.gives.means w f4 ∙ ap (host_row c.args.line.now.op) (values_shown w c.args.body.now c.in_ok-choice.choice run (left_pick c.args.line.now.leaves pick) _ _ _ _ _ _ s picked
    (c.in_ok-x.ensures.means w p f1 s.places) (c.in_ok-y.ensures.means w p f f2 s.places b) (s.places.each 15 (omega arith))) ∙ sym (c.requires.line.leaves _) in
    let t = c.in_ok-y.ensures.accesses w p run.accesses f2 s.places s.accesses in
    record {
      places = c.put_results.ensures.means w p _ _ s.places (ap (λ o. o.result) e) (ap (λ o. o.high) e);
      accesses = c.in_ok-push_result.ensures.means w p _ _ f5 s.places (ap (λ o. o.result) e) t;
      cf = ap (λ o. o.flags.cf) e;
      zf = ap (λ o. o.flags.zf) e;
      sf = ap (λ o. o.flags.sf) e;
      of = ap (λ o. o.flags.of) e;
    }) (chosen_behind k0 k2 k6 _ (omega (arith, g1, g2)) (later k2 k3 k6 _ kept (c.in_ok-choice.ensures.chosen pick h)))
