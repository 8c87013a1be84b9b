use Rattle.std.proofs.Common.{arith, rules, refl}
use Rattle.std.proofs.lemmas.Grind.{common_steps}
use Rattle.code_layout.proofs.Lengths.{mark-more, mark-found, mark-all, found-mark}
use Rattle.code_layout.proofs.code.before_mark.Goals as goal
use Rattle.code_layout.proofs.code.before_mark.Goals.{in-Mark, in_default-2, in_default}

pub returns-then-matches : goal.returns-then-matches
returns-then-matches c = elim c.match-matches.branch [
  | in-Mark w ↦ mark-found c.args.items.now c.loop-item.item-index c.args.mark c.loop-item.bytes _ _ c.loop-item-test.true (found-mark _ _ c.args.mark w.in-Mark.is (search rules)) c.loop-item.invariant.value
  | in_default-2 w ↦ search rules
  | in_default w ↦ search rules
]

pub loop-item-preserved : goal.loop-item-preserved
loop-item-preserved c = record {
  value = mark-more c.args.items.now c.loop-item.item-index c.args.mark c.loop-item.bytes _ c.item_length-bytes.result _ _ c.loop-item-test.true (elim c.match-matches.branch [ in-Mark w ↦ search rules | in_default-2 w ↦ search rules | in_default w ↦ search rules ]) c.item_length-bytes.ensures.value refl c.loop-item.invariant.value;
  bound = grind (arith, common_steps);
}

pub returns : goal.returns
returns c = mark-all c.args.items.now c.loop-item.item-index c.args.mark c.loop-item.bytes _ c.loop-item-test.false c.loop-item.invariant.value
