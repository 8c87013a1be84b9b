use Rattle.std.proofs.Common.{◌+◌, slice_index_or, ◌≡◌, ◌<◌, ◌≤◌, length, sym, refl, ap, subst, arith, length-set, ◌∙◌}
use Rattle.circuit.specs.Prelude.{word_value, word_reach_below, AllAgree, IsInput, free_count}
use Rattle.chosen_inputs.specs.Choices.{both, chosen_map, chosen_none_at}
use Rattle.chosen_inputs.specs.Inputs.{with_inputs, word_of_inputs}
use Rattle.window_circuits.specs.Starts.{bits_before}
use Rattle.window_circuits.specs.Terms.{input_word_at}
use Rattle.window_circuits.proofs.Made.{words_are, placed_same}
use Rattle.window_circuits.proofs.Putting.{put_step}
use Rattle.window_circuits.proofs.Ordered.{inputs_begin, inputs_length, inputs_go_on}
use Rattle.window_circuits.proofs.inputs.input_places.Goals as goal

pub loop-i-init : goal.loop-i-init
loop-i-init c =
    let e = c.lit-zero.ensures.same in
    let z : length c.lit-zero.new.self.nodes.keys ≡ length c.args.gates.now.nodes.keys = ap (λ s. length s.nodes.keys) e in
    record {
      wide = refl;
      later = record { grows = omega (arith, z); earlier = λ v h. subst (λ s. AllAgree s.nodes.keys v) e h; inputs = λ k h. subst (λ s. IsInput s.nodes.keys k) (sym e) h; opaque = ap (λ s. free_count s.nodes.keys) e };
      owned = λ k l. absurd (omega (arith, l));
      made = λ k l. absurd (omega (arith, l));
      held = ap (λ s. s.nodes.keys) e ∙ inputs_begin c.args.gates.now.nodes.keys c.args.widths;
      chosen = λ t h. chosen_none_at _ _ _ (ap (λ s. s.nodes.keys) e) (λ w k l. absurd (omega (arith, l)));
    }

pub loop-i-preserved : goal.loop-i-preserved
loop-i-preserved c =
    let i = c.loop-i.i in
    let n = c.loop-i.invariant.wide in
    let inside : i < length c.loop-i.words = omega arith in
    let p = c.loop-i.invariant.later in
    let q = c.in_ok-word.ensures.later in
    let k0 = c.args.gates.now.nodes.keys in
    let k1 = c.loop-i.gates.nodes.keys in
    let k2 = c.input_word.new.gates.nodes.keys in
    let s = length-set c.loop-i.words i c.in_ok-word.word in
    record {
      wide = omega (arith, s, n);
      later = record { grows = omega (arith, p.grows, q.grows); earlier = λ v h. p.earlier v (q.earlier v h); inputs = λ k h. q.inputs k (p.inputs k h); opaque = q.opaque ∙ p.opaque };
      owned = put_step (λ k x. word_reach_below 32 x ≤ length k2) i c.loop-i.words c.in_ok-word.word inside (λ k l. let o = c.loop-i.invariant.owned k l in omega (arith, o, q.grows)) c.in_ok-word.ensures.owned;
      made = put_step (λ k x. x ≡ word_of_inputs (length k0 + bits_before k c.args.widths) (slice_index_or c.args.widths k 0)) i c.loop-i.words c.in_ok-word.word inside c.loop-i.invariant.made
          (c.in_ok-word.ensures.made ∙ ap (λ j. word_of_inputs j (slice_index_or c.args.widths i 0)) (ap length c.loop-i.invariant.held ∙ inputs_length (bits_before i c.args.widths) k0));
      held = c.in_ok-word.ensures.held ∙ ap (with_inputs (slice_index_or c.args.widths i 0)) c.loop-i.invariant.held ∙ inputs_go_on i c.args.widths k0;
      chosen = λ t h. chosen_map k0 k2 _ _ (λ w q. put_step (λ k x. word_value 32 x w ≡ t k) i c.loop-i.words c.in_ok-word.word inside q.0 q.1)
          (both k0 k1 k2 _ _ p.grows q.inputs (c.loop-i.invariant.chosen t h) (c.in_ok-word.ensures.chosen (t i) (h i (omega arith))));
    }

pub returns-clause-chosen : goal.returns-clause-chosen
returns-clause-chosen c = λ t h. chosen_map _ _ _ _ (λ w q. record { each = λ k l. q k (omega arith) }) (c.loop-i.invariant.chosen t h)

pub returns-clause-owned : goal.returns-clause-owned
returns-clause-owned c = record { each = λ k l. c.loop-i.invariant.owned k (omega arith) }

pub returns-clause-made : goal.returns-clause-made
returns-clause-made c = λ k l. c.loop-i.invariant.made k (omega arith)

pub returns-clause-held : goal.returns-clause-held
returns-clause-held c = let e : c.loop-i.i ≡ 64 = omega arith in
    subst (λ n. c.loop-i.gates.nodes.keys ≡ with_inputs (bits_before n c.args.widths) c.args.gates.now.nodes.keys) e c.loop-i.invariant.held

pub returns-clause-makes : goal.returns-clause-makes
returns-clause-makes c =
    let e : c.loop-i.i ≡ 64 = omega arith in
    placed_same c.loop-i.words _ c.loop-i.gates.nodes.keys _ (words_are c.loop-i.words (input_word_at c.args.widths c.args.gates.now.nodes.keys) 64 c.loop-i.invariant.wide (λ k l. c.loop-i.invariant.made k (omega arith)))
    (subst (λ n. c.loop-i.gates.nodes.keys ≡ with_inputs (bits_before n c.args.widths) c.args.gates.now.nodes.keys) e c.loop-i.invariant.held)
