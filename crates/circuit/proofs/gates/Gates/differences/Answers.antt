use Rattle.std.proofs.Common.{◌≡◌, ◌∙◌, ap, ◌≤◌, arith, length}
use Rattle.word_kit.proofs.Later.{later-refl, later-trans}
use Rattle.circuit.specs.Prelude.{lit_truth, lit_reach, xor_made, word_made, pair_at, differs}
use Rattle.circuit.specs.contracts.nodes.NodePartialEq.TheImpl.{ghosts}
use Rattle.circuit.proofs.Pushed.{pushed_items, longer, list_stands-new, list_stands-push}
use Rattle.circuit.proofs.gates.Gates.differences.Goals as goal

pub xor_gate-requires-clause-b_owned : goal.xor_gate-requires-clause-b_owned
xor_gate-requires-clause-b_owned c = let r = c.requires.owned.first c.loop-i.i (omega arith) in omega (arith, r)

pub xor_gate-requires-clause-c_owned : goal.xor_gate-requires-clause-c_owned
xor_gate-requires-clause-c_owned c = let r = c.requires.owned.second c.loop-i.i (omega arith) in omega (arith, r)

pub loop-i-init : goal.loop-i-init
loop-i-init c = let e = c.new-out.ensures.items in record {
  made = list_stands-new (λ h k. xor_made ghosts.eq h (pair_at c.args.pairs.now k).0 (pair_at c.args.pairs.now k).1) _ _ e;
  count = ap length e;
  later = later-refl _;
  gates = λ v h. h;
  owned = λ k l. absurd (omega arith);
  means = λ v h k l. absurd (omega arith);
}

pub loop-i-preserved : goal.loop-i-preserved
loop-i-preserved c = let e = c.in_ok-push.ensures.items in record {
  made = list_stands-push (λ h k. xor_made ghosts.eq h (pair_at c.args.pairs.now k).0 (pair_at c.args.pairs.now k).1) c.loop-i.i _ c.loop-i.out.items _ c.in_ok-bit.bit _ _ e c.loop-i.invariant.made c.in_ok-bit.ensures.made c.in_ok-bit.ensures.held;
  count = longer c.loop-i.i c.loop-i.out.items c.in_ok-bit.bit _ e c.loop-i.invariant.count;
  later = later-trans _ _ _ c.loop-i.invariant.later c.in_ok-bit.ensures.later;
  gates = λ v h. c.loop-i.invariant.gates v (c.in_ok-bit.ensures.gates v h);
  owned = pushed_items (λ k l. lit_reach l ≤ length c.xor_gate.new.self.nodes.keys) c.loop-i.i c.loop-i.out.items c.in_ok-bit.bit _ e c.loop-i.invariant.count (λ k l. let r = c.loop-i.invariant.owned k l in omega (arith, r, c.in_ok-bit.ensures.later.grows)) c.in_ok-bit.ensures.owned;
  means = λ v h. pushed_items (λ k l. lit_truth l v ≡ differs v (pair_at c.args.pairs.now k)) c.loop-i.i c.loop-i.out.items c.in_ok-bit.bit _ e c.loop-i.invariant.count
      (c.loop-i.invariant.means v (c.in_ok-bit.ensures.gates v h)) (c.in_ok-bit.ensures.gate v h);
}

pub returns-clause-made : goal.returns-clause-made
returns-clause-made c = let e : c.loop-i.i ≡ length c.args.pairs.now = omega arith in c.loop-i.invariant.made.word_is ∙ ap (λ i. (word_made (λ h k. xor_made ghosts.eq h (pair_at c.args.pairs.now k).0 (pair_at c.args.pairs.now k).1) i c.args.self.now.nodes.keys).word) e

pub returns-clause-held : goal.returns-clause-held
returns-clause-held c = let e : c.loop-i.i ≡ length c.args.pairs.now = omega arith in c.loop-i.invariant.made.held_is ∙ ap (λ i. (word_made (λ h k. xor_made ghosts.eq h (pair_at c.args.pairs.now k).0 (pair_at c.args.pairs.now k).1) i c.args.self.now.nodes.keys).held) e
