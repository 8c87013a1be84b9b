use Rattle.std.proofs.Common.{rules, ◌∙◌, ap, ◌≡◌, ◌<◌, length, arith, length-set}
use Rattle.word_kit.specs.Prelude.{bit_of}
use Rattle.word_kit.proofs.Later.{untie-refl, untie-trans}
use Rattle.circuit.specs.Prelude.{free_value, node_made, word_made, Free}
use Rattle.circuit.specs.contracts.nodes.NodePartialEq.TheImpl.{ghosts}
use Rattle.circuit.proofs.Values.{whole, word_stands-zero, word_stands-suc, word_reach-zero, reach_step, bits_step}
use Rattle.circuit.proofs.Sharing.{word_apart, word_begun, begun_at, made_node}
use Rattle.circuit.proofs.gates.Gates.free_word.Goals as goal

pub loop-i-init : goal.loop-i-init
loop-i-init c = record {
  made = word_stands-zero (λ h k. node_made ghosts.eq h (Free c.args.word k)) _ _;
  wide = search rules;
  later = untie-refl _;
  owned = rw (word_reach-zero _) (omega arith);
  apart = c.requires.apart;
  begun = λ l. absurd (omega arith);
  means = λ v h k l. absurd (omega arith);
}

pub variable-requires-clause-apart : goal.variable-requires-clause-apart
variable-requires-clause-apart c = c.loop-i.invariant.apart

pub variable-requires-clause-begun : goal.variable-requires-clause-begun
variable-requires-clause-begun c = begun_at _ c.args.word c.loop-i.i c.loop-i.invariant.begun

pub loop-i-preserved : goal.loop-i-preserved
loop-i-preserved c =
    let inside : c.loop-i.i < length c.loop-i.out = omega arith in
    record {
      made = word_stands-suc (λ h k. node_made ghosts.eq h (Free c.args.word k)) c.loop-i.i _ c.loop-i.out _ c.in_ok-bit.bit _ inside c.loop-i.invariant.made c.in_ok-bit.ensures.made c.in_ok-bit.ensures.held;
      wide = omega (arith, length-set c.loop-i.out c.loop-i.i c.in_ok-bit.bit);
      later = untie-trans _ _ _ c.loop-i.invariant.later c.in_ok-bit.ensures.later;
      owned = reach_step c.loop-i.i c.loop-i.out c.in_ok-bit.bit _ inside (omega arith) c.in_ok-bit.ensures.owned;
      apart = word_apart _ _ c.args.word c.loop-i.i (made_node _ _ _ c.in_ok-bit.ensures.held) c.loop-i.invariant.apart;
      begun = λ l. word_begun _ _ c.args.word c.loop-i.i (made_node _ _ _ c.in_ok-bit.ensures.held) c.loop-i.invariant.begun;
      means = λ v h. bits_step (λ k. bit_of (free_value c.args.word v) k) c.loop-i.i c.loop-i.out c.in_ok-bit.bit v inside
          (c.loop-i.invariant.means v (c.in_ok-bit.ensures.later.earlier v h)) (c.in_ok-bit.ensures.means v h);
    }

pub returns-clause-made : goal.returns-clause-made
returns-clause-made c = whole (λ i. (word_made (λ h k. node_made ghosts.eq h (Free c.args.word k)) i c.args.self.now.nodes.keys).word) c.loop-i.i c.loop-i.out (omega arith) c.loop-i.invariant.wide c.loop-i.invariant.made.word_is

pub returns-clause-held : goal.returns-clause-held
returns-clause-held c = let e : c.loop-i.i ≡ 32 = omega arith in c.loop-i.invariant.made.held_is ∙ ap (λ i. (word_made (λ h k. node_made ghosts.eq h (Free c.args.word k)) i c.args.self.now.nodes.keys).held) e
