use Rattle.std.proofs.Common.{◌≡◌, arith}
use Rattle.circuit.specs.Prelude.{word_value}
use Rattle.chosen_inputs.specs.Choices.{both, chosen_map}
use Rattle.access_circuits.proofs.Four.{four}
use Rattle.access_circuits.proofs.bytes.input_bytes.Goals as goal

pub returns-clause-chosen : goal.returns-clause-chosen
returns-clause-chosen c = λ f h.
    let k0 = c.args.gates.now.nodes.keys in
    let k1 = c.input_word.new.gates.nodes.keys in
    let k2 = c.input_word-2.new.gates.nodes.keys in
    let k3 = c.input_word-3.new.gates.nodes.keys in
    let k4 = c.input_word-4.new.gates.nodes.keys in
    let g1 = c.in_ok-b0.ensures.later.grows in
    let g2 = c.in_ok-b1.ensures.later.grows in
    let g3 = c.in_ok-b2.ensures.later.grows in
    let c1 = both k0 k1 k2 _ _ g1 c.in_ok-b1.ensures.later.inputs (c.in_ok-b0.ensures.chosen (f 0) (h 0)) (c.in_ok-b1.ensures.chosen (f 1) (h 1)) in
    let c2 = both k0 k2 k3 _ _ (omega (arith, g1, g2)) c.in_ok-b2.ensures.later.inputs c1 (c.in_ok-b2.ensures.chosen (f 2) (h 2)) in
    let c3 = both k0 k3 k4 _ _ (omega (arith, g1, g2, g3)) c.in_ok-b3.ensures.later.inputs c2 (c.in_ok-b3.ensures.chosen (f 3) (h 3)) in
    chosen_map k0 k4 _ _ (λ w r. record { each = four (λ k x. word_value 32 x w ≡ f k) c.in_ok-b0.b0 c.in_ok-b1.b1 c.in_ok-b2.b2 c.in_ok-b3.b3 r.0.0.0 r.0.0.1 r.0.1 r.1 }) c3
