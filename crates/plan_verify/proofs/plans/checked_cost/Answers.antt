use Rattle.std.proofs.Common.{Bool, List, length, nat_lt, refl, subst, arith}
use Rattle.std.proofs.lemmas.Option.{MatchOption-at_none, slice_get_read}
use Rattle.block_find.specs.declared.block.Block.{Block}
use Rattle.block_find.specs.Prelude.{all_blocks, block_at}
use Rattle.plan_verify.specs.Failures.{AreGoodBelow, FailsAt, IsGood}
use Rattle.plan_verify.proofs.Below.{as_many, one_more, one_too_many}
use Rattle.plan_verify.proofs.plans.checked_cost.Goals as goal

pub loop-number-preserved : goal.loop-number-preserved
loop-number-preserved c =
    let live = c.args.live.now in
    let n = c.loop-number.number in
    let plan = c.in-Some.plan.now in
    let leads : Bool = nat_lt n (length c.as_slice-leaders.result.now) in
    let l = c.in-Some.ensures.lookup in
    let there = slice_get_read c.args.plans.now _ n plan refl l.3.0 l.1 in
    let good : IsGood live c.at-block.result.now leads plan =
    MatchOption-at_none (IsGood live c.at-block.result.now leads plan) (λ place. FailsAt live c.at-block.result.now leads plan place) c.in_default-2.is c.in_ok-place.ensures in
    let of_block = subst (λ (b : Block). IsGood live b leads plan) c.at-block.ensures good in
    one_more live c.args.blocks.now c.args.plans.now n c.loop-number.invariant plan there
    (subst (λ (bs : List Block). IsGood live (block_at (all_blocks c.args.blocks.now) n) (nat_lt n (length bs)) plan) c.as_slice-leaders.ensures of_block)

pub returns-then-plans-count-clause-fault : goal.returns-then-plans-count-clause-fault
returns-then-plans-count-clause-fault c =
    one_too_many c.args.live.now c.args.blocks.now c.args.plans.now c.count-count.result c.count-count.ensures
    (λ k lt. c.loop-number.invariant k (omega (arith, lt, c.loop-number-test.false)))
    c.if-plans-count.true

pub returns-clause-good : goal.returns-clause-good
returns-clause-good c =
    let live = c.args.live.now in
    let blocks = c.args.blocks.now in
    let plans = c.args.plans.now in
    let all : AreGoodBelow live blocks plans (length (all_blocks blocks)) = λ k lt. c.loop-number.invariant k (omega (arith, lt, c.loop-number-test.false, c.count-count.ensures)) in
    let many = as_many live blocks plans (length (all_blocks blocks)) all in
    record { count = omega (arith, many, c.if-plans-count.false, c.count-count.ensures); each = all }
