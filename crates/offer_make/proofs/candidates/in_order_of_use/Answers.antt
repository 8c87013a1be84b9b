use Rattle.std.proofs.Common.{◌≡◌, ◌-◌, ◌++◌, sym, subst, ap, ◌∙◌, arith}
use Rattle.offer_make.specs.Candidates.{AreInOrderOfUse}
use Rattle.offer_make.proofs.Counting.{ordered_to, with_count, ordered-more, in-order}
use Rattle.offer_make.proofs.candidates.in_order_of_use.Goals as goal

pub loop-fewer-preserved : goal.loop-fewer-preserved
loop-fewer-preserved c =
    c.in_ok-push_used.ensures ∙ ap (λ l. l ++ with_count c.use_counts-counts.result (64 - c.loop-fewer.fewer)) c.loop-fewer.invariant ∙ sym (ordered-more c.use_counts-counts.result c.loop-fewer.fewer)

pub returns : goal.returns
returns c =
    let counts = c.use_counts-counts.result in
    let end : c.loop-fewer.fewer ≡ 64 = omega arith in
    let all = in-order counts c.args.words.now c.use_counts-counts.ensures.len c.use_counts-counts.ensures.counts
    (λ g less. (let w = c.use_counts-counts.ensures.within g less in omega (arith, w, c.requires))) in
    subst (AreInOrderOfUse c.args.words.now) (sym (c.loop-fewer.invariant ∙ ap (ordered_to counts) end)) all
