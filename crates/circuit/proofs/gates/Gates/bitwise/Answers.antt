use Rattle.std.proofs.Common.{rules, ◌∙◌, ap, ◌≡◌, ◌<◌, length, arith, length-set}
use Rattle.word_kit.proofs.Later.{later-refl, later-trans}
use Rattle.circuit.specs.Prelude.{lit_truth, gate_truth, at, gate_made, word_made}
use Rattle.circuit.specs.contracts.nodes.NodePartialEq.TheImpl.{ghosts}
use Rattle.circuit.proofs.Values.{whole, word_stands-zero, word_stands-suc, word_reach-at, word_reach-zero, reach_step, bits_step}
use Rattle.circuit.proofs.gates.Gates.bitwise.Goals as goal

pub gate-requires-clause-x_owned : goal.gate-requires-clause-x_owned
gate-requires-clause-x_owned c = let r = word_reach-at 32 c.loop-i.i c.args.x (omega arith) in omega (arith, r)

pub gate-requires-clause-y_owned : goal.gate-requires-clause-y_owned
gate-requires-clause-y_owned c = let r = word_reach-at 32 c.loop-i.i c.args.y (omega arith) in omega (arith, r)

pub loop-i-init : goal.loop-i-init
loop-i-init c = record {
  made = word_stands-zero (λ h k. gate_made ghosts.eq c.args.op h (at c.args.x k) (at c.args.y k)) _ _;
  wide = search rules;
  later = later-refl _;
  owned = rw (word_reach-zero c.args.x) (omega arith);
  means = λ v h k l. absurd (omega arith);
}

pub loop-i-preserved : goal.loop-i-preserved
loop-i-preserved c =
    let inside : c.loop-i.i < length c.loop-i.out = omega arith in
    record {
      made = word_stands-suc (λ h k. gate_made ghosts.eq c.args.op h (at c.args.x k) (at c.args.y k)) c.loop-i.i _ c.loop-i.out _ c.in_ok-bit.bit _ inside c.loop-i.invariant.made c.in_ok-bit.ensures.made c.in_ok-bit.ensures.held;
      wide = omega (arith, length-set c.loop-i.out c.loop-i.i c.in_ok-bit.bit);
      later = later-trans _ _ _ c.loop-i.invariant.later c.in_ok-bit.ensures.later;
      owned = reach_step c.loop-i.i c.loop-i.out c.in_ok-bit.bit _ inside (omega arith) c.in_ok-bit.ensures.owned;
      means = λ v h. bits_step (λ k. gate_truth c.args.op v (lit_truth (at c.args.x k) v) (lit_truth (at c.args.y k) v)) c.loop-i.i c.loop-i.out c.in_ok-bit.bit v inside
          (c.loop-i.invariant.means v (c.in_ok-bit.ensures.later.earlier v h)) (c.in_ok-bit.ensures.means v h);
    }

pub returns-clause-made : goal.returns-clause-made
returns-clause-made c = whole (λ i. (word_made (λ h k. gate_made ghosts.eq c.args.op h (at c.args.x k) (at c.args.y k)) i c.args.self.now.nodes.keys).word) c.loop-i.i c.loop-i.out (omega arith) c.loop-i.invariant.wide c.loop-i.invariant.made.word_is

pub returns-clause-held : goal.returns-clause-held
returns-clause-held c = let e : c.loop-i.i ≡ 32 = omega arith in c.loop-i.invariant.made.held_is ∙ ap (λ i. (word_made (λ h k. gate_made ghosts.eq c.args.op h (at c.args.x k) (at c.args.y k)) i c.args.self.now.nodes.keys).held) e
