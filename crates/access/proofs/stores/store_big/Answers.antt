use Rattle.std.proofs.Common.{◌+◌, ◌%◌, ◌^◌, ◌/◌, ◌-◌, ℕ, refl, ap, arith}
use Rattle.access.proofs.Steps.{big_put, may_be_put, none_put, all_put}
use Rattle.access.proofs.stores.store_big.Goals as goal

pub returns-then-not-holds-clause-answer : goal.returns-then-not-holds-clause-answer
returns-then-not-holds-clause-answer c = λ p bytes keeps. let h = c.holds.ensures p bytes keeps in cc

pub loop-k-init : goal.loop-k-init
loop-k-init c = λ p bytes keeps. (none_put p bytes c.args.space.now c.args.at (c.args.value / 256 ^ (c.args.width - 0)) keeps).0

pub loop-k-preserved : goal.loop-k-preserved
loop-k-preserved c = λ p bytes keeps.
    big_put p bytes c.args.space.now c.loop-k.space c.write.new.self c.args.at c.loop-k.k _ _ c.write.result keeps
    (ap (λ (j : ℕ). (c.args.at + j) % 2 ^ 32) c.from-in-loop-k.ensures)
    (may_be_put p bytes c.args.space.now c.args.width c.from.result c.args.at c.loop-k.k c.holds.result keeps (c.holds.ensures p bytes keeps) (cc) c.from.ensures c.loop-k-test.true)
    c.write.ensures.answer c.write.ensures.written c.args.width c.args.value c.loop-k-test.true (c.loop-k.invariant p bytes keeps) refl

pub returns-clause-answer : goal.returns-clause-answer
returns-clause-answer c = λ p bytes keeps. let h = c.holds.ensures p bytes keeps in cc

pub returns-clause-stored : goal.returns-clause-stored
returns-clause-stored c = λ p bytes keeps.
    all_put p bytes c.loop-k.space c.args.width c.args.at c.loop-k.k c.args.value (omega arith) (c.loop-k.invariant p bytes keeps)
