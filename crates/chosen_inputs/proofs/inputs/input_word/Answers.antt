use Rattle.std.proofs.Common.{◌≡◌, ◌+◌, length, sym, ◌∙◌, ap, subst, arith, length-append, pos}
use Rattle.word_kit.proofs.Later.{later-refl, later-trans}
use Rattle.circuit.specs.Prelude.{IsLater}
use Rattle.circuit.specs.declared.literals.Lit.TheVariants.{Var}
use Rattle.circuit.proofs.Meanings.{put_owned, length_word_of}
use Rattle.chosen_inputs.specs.Inputs.{word_of_inputs, input_bit}
use Rattle.chosen_inputs.proofs.Choosing.{word_begins, word_goes_on, nodes_begin, nodes_go_on, stand_step, word_chosen}
use Rattle.chosen_inputs.proofs.inputs.input_word.Goals as goal

pub loop-i-init : goal.loop-i-init
loop-i-init c =
    let same = ap (λ s. s.nodes.keys) c.lit-out.ensures.same in
    let count = ap length same in
    record {
      later = subst (λ s. IsLater c.args.gates.now.nodes.keys s) (sym same) (later-refl c.args.gates.now.nodes.keys);
      count = omega (arith, count);
      owned = c.lit-out.ensures.owned;
      made = c.lit-out.ensures.made ∙ word_begins (length c.args.gates.now.nodes.keys);
      held = same ∙ nodes_begin c.args.gates.now.nodes.keys;
      stand = λ j l. absurd (omega arith);
    }

pub loop-i-preserved : goal.loop-i-preserved
loop-i-preserved c =
    let before = length c.args.gates.now.nodes.keys in
    let i = c.loop-i.invariant in
    let wide : length c.loop-i.out ≡ 32 = ap length i.made ∙ length_word_of (input_bit before c.loop-i.i) 32 in
    let longer = ap length c.in_ok-bit.ensures.held ∙ length-append c.loop-i.gates.nodes.keys _ in
    record {
      later = later-trans _ _ _ i.later c.in_ok-bit.ensures.later;
      count = omega (arith, longer, i.count);
      owned = put_owned 32 c.loop-i.i c.loop-i.out c.in_ok-bit.bit _ (omega (arith, wide)) (omega (arith, i.owned, c.in_ok-bit.ensures.later.grows)) c.in_ok-bit.ensures.owned;
      made = word_goes_on before c.loop-i.i c.loop-i.out c.in_ok-bit.bit (omega arith) i.made (c.in_ok-bit.ensures.next ∙ ap (λ n. Var (pos (n + 1))) i.count);
      held = nodes_go_on c.loop-i.i c.args.gates.now.nodes.keys c.loop-i.gates.nodes.keys _ i.held c.in_ok-bit.ensures.held;
      stand = stand_step c.loop-i.gates.nodes.keys _ before c.loop-i.i i.count c.in_ok-bit.ensures.later.inputs i.stand c.in_ok-bit.ensures.stands;
    }

pub returns-clause-chosen : goal.returns-clause-chosen
returns-clause-chosen c = λ x h.
    let done : c.loop-i.i ≡ c.args.bits = omega arith in
    word_chosen c.args.gates.now.nodes.keys c.loop-i.gates.nodes.keys c.loop-i.out c.args.bits x c.requires.within h
    (subst (λ n. c.loop-i.out ≡ word_of_inputs (length c.args.gates.now.nodes.keys) n) done c.loop-i.invariant.made) (λ k l. c.loop-i.invariant.stand k (omega arith))
