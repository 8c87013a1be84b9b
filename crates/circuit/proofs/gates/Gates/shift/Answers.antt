use Rattle.std.proofs.Common.{◌≡◌, ◌∙◌, ap, arith}
use Rattle.word_kit.proofs.Later.{later-refl, later-trans}
use Rattle.circuit.specs.Prelude.{lit_truth, at, shift_made}
use Rattle.circuit.specs.contracts.nodes.NodePartialEq.TheImpl.{ghosts}
use Rattle.circuit.proofs.Shifts.{stage}
use Rattle.circuit.proofs.Meanings.{shift_means, shift_none, shift_stands-zero, shift_stands-suc}
use Rattle.circuit.proofs.gates.Gates.shift.Goals as goal

pub loop-stage-init : goal.loop-stage-init
loop-stage-init c = record {
  word_is = (shift_stands-zero ghosts.eq c.args.turn c.args.self.now.nodes.keys c.args.x c.args.by).0;
  held_is = (shift_stands-zero ghosts.eq c.args.turn c.args.self.now.nodes.keys c.args.x c.args.by).1;
  later = later-refl _;
  owned = c.requires.x_owned;
  means = λ v h k l. shift_none c.args.turn (λ j. lit_truth (at c.args.by j) v) (λ j. lit_truth (at c.args.x j) v) k l;
}

pub loop-stage-preserved : goal.loop-stage-preserved
loop-stage-preserved c =
    let s = shift_stands-suc ghosts.eq c.args.turn c.loop-stage.stage c.args.self.now.nodes.keys c.args.x c.args.by c.loop-stage.out _ c.in_ok-next.next _ c.loop-stage.invariant.word_is c.loop-stage.invariant.held_is c.in_ok-next.ensures.made c.in_ok-next.ensures.held in
    record {
      word_is = s.0;
      held_is = s.1;
      later = later-trans _ _ _ c.loop-stage.invariant.later c.in_ok-next.ensures.later;
      owned = c.in_ok-next.ensures.owned;
      means = λ v h k l. c.in_ok-next.ensures.means v h k l ∙ stage c.args.turn (λ j. lit_truth (at c.args.by j) v) c.loop-stage.stage (λ j. lit_truth (at c.args.x j) v) (λ j. lit_truth (at c.loop-stage.out j) v) k (omega arith) l
          (c.loop-stage.invariant.means v (c.in_ok-next.ensures.later.earlier v h));
    }

pub returns-clause-means : goal.returns-clause-means
returns-clause-means c = λ v h. shift_means c.args.turn c.args.x c.args.by c.loop-stage.out v c.loop-stage.stage (omega arith) (c.loop-stage.invariant.means v h)

pub returns-clause-made : goal.returns-clause-made
returns-clause-made c = let e : c.loop-stage.stage ≡ 5 = omega arith in c.loop-stage.invariant.word_is ∙ ap (λ n. (shift_made ghosts.eq c.args.turn n c.args.self.now.nodes.keys c.args.x c.args.by).word) e

pub returns-clause-held : goal.returns-clause-held
returns-clause-held c = let e : c.loop-stage.stage ≡ 5 = omega arith in c.loop-stage.invariant.held_is ∙ ap (λ n. (shift_made ghosts.eq c.args.turn n c.args.self.now.nodes.keys c.args.x c.args.by).held) e
