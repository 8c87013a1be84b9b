use Rattle.std.proofs.Common.{◌≡◌, ◌++◌, subst, arith}
use Rattle.chosen_inputs.specs.Pairs.{bit_pairs}
use Rattle.chosen_inputs.proofs.Alike.{pairs_begin, pairs_go_on, word_pushed, word_pushed_owned}
use Rattle.chosen_inputs.proofs.pairs.push_word.Goals as goal

pub loop-i-init : goal.loop-i-init
loop-i-init c = record { pushed = pairs_begin c.args.pairs.now.items c.args.x c.args.y }

pub loop-i-preserved : goal.loop-i-preserved
loop-i-preserved c = record { pushed = pairs_go_on c.loop-i.i c.args.pairs.now.items c.loop-i.pairs.items _ c.args.x c.args.y c.loop-i.invariant.pushed c.in_ok-push.ensures.items }

pub returns-clause-alike : goal.returns-clause-alike
returns-clause-alike c = λ w.
    let done : c.loop-i.i ≡ 32 = omega arith in
    word_pushed w c.args.pairs.now.items c.loop-i.pairs.items c.args.x c.args.y (subst (λ n. c.loop-i.pairs.items ≡ c.args.pairs.now.items ++ bit_pairs n c.args.x c.args.y) done c.loop-i.invariant.pushed)

pub returns-clause-owned : goal.returns-clause-owned
returns-clause-owned c = λ m.
    let done : c.loop-i.i ≡ 32 = omega arith in
    word_pushed_owned m c.args.pairs.now.items c.loop-i.pairs.items c.args.x c.args.y (subst (λ n. c.loop-i.pairs.items ≡ c.args.pairs.now.items ++ bit_pairs n c.args.x c.args.y) done c.loop-i.invariant.pushed)
