use Rattle.std.proofs.Common.{arith, refl}
use Rattle.std.proofs.lemmas.Grind.{common_steps}
use Rattle.code_layout.proofs.Lengths.{length-more, length-all}
use Rattle.code_layout.proofs.code.length.Goals as goal

pub loop-item-preserved : goal.loop-item-preserved
loop-item-preserved c = record {
  value = length-more c.args.items.now c.loop-item.item-index c.loop-item.bytes _ c.item_length-bytes.result _ _ c.loop-item-test.true c.item_length-bytes.ensures.value refl c.loop-item.invariant.value;
  bound = grind (arith, common_steps);
}

pub returns-clause-value : goal.returns-clause-value
returns-clause-value c = length-all c.args.items.now c.loop-item.item-index c.loop-item.bytes _ c.loop-item-test.false c.loop-item.invariant.value
