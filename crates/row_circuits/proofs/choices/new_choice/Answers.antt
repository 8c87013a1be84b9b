use Rattle.std.proofs.Common.{arith}
use Rattle.chosen_inputs.specs.Choices.{both, chosen_map}
use Rattle.row_circuits.proofs.choices.new_choice.Goals as goal

pub returns-clause-chosen : goal.returns-clause-chosen
returns-clause-chosen c = λ p h.
    let k0 = c.args.gates.now.nodes.keys in
    let k1 = c.word_where.new.gates.nodes.keys in
    let k2 = c.flag_where.new.gates.nodes.keys in
    let k3 = c.flag_where-2.new.gates.nodes.keys in
    let k4 = c.flag_where-3.new.gates.nodes.keys in
    let k5 = c.flag_where-4.new.gates.nodes.keys in
    let g1 = c.in_ok-value.ensures.later.grows in
    let g2 = c.in_ok-cf.ensures.later.grows in
    let g3 = c.in_ok-zf.ensures.later.grows in
    let g4 = c.in_ok-sf.ensures.later.grows in
    let c1 = both k0 k1 k2 _ _ g1 c.in_ok-cf.ensures.later.inputs (c.in_ok-value.ensures.chosen p.value h) (c.in_ok-cf.ensures.chosen p.flags.cf) in
    let c2 = both k0 k2 k3 _ _ (omega (arith, g1, g2)) c.in_ok-zf.ensures.later.inputs c1 (c.in_ok-zf.ensures.chosen p.flags.zf) in
    let c3 = both k0 k3 k4 _ _ (omega (arith, g1, g2, g3)) c.in_ok-sf.ensures.later.inputs c2 (c.in_ok-sf.ensures.chosen p.flags.sf) in
    let c4 = both k0 k4 k5 _ _ (omega (arith, g1, g2, g3, g4)) c.in_ok-of.ensures.later.inputs c3 (c.in_ok-of.ensures.chosen p.flags.of) in
    chosen_map k0 k5 _ _ (λ w r. record { value = r.0.0.0.0; cf = r.0.0.0.1; zf = r.0.0.1; sf = r.0.1; of = r.1 }) c4
