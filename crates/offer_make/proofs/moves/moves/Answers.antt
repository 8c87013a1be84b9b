use Rattle.std.proofs.Common.{ℕ, ◌+◌, ◌++◌, List, ap, sym, ◌∙◌, map, slice_index}
use Rattle.std.specs.List.{flat_map, range_with_len}
use Rattle.plan_form.specs.declared.problem.MovePrice.{MovePrice}
use Rattle.offer_make.specs.Tables.{priced_at}
use Rattle.offer_make.proofs.Elements.{range-more}
use Rattle.offer_make.proofs.moves.moves.Goals as goal

pub loop-place-preserved : goal.loop-place-preserved
loop-place-preserved c =
    let between = c.args.between.now in
    let at = c.loop-place.place in
    let here : ℕ → List MovePrice = λ place. map (priced_at (λ p. slice_index c.args.live.now.bits (c.args.first + p)) place) between in
    c.in_ok-push_priced.ensures ∙ ap (λ l. l ++ map (priced_at (λ p. c.at.result.bits) at) between) c.loop-place.invariant
    ∙ ap (λ (bits : ℕ). flat_map here (range_with_len 0 at) ++ map (priced_at (λ p. bits) at) between) c.at.ensures
    ∙ sym (range-more here at)
