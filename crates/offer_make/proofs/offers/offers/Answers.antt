use Rattle.std.proofs.Common.{ℕ, ◌++◌, List, ap, sym, ◌∙◌, filter, length}
use Rattle.std.specs.List.{flat_map}
use Rattle.plan_form.specs.declared.problem.Offer.{Offer}
use Rattle.offer_make.specs.Tables.{may_lie, base_tiles}
use Rattle.offer_make.proofs.Elements.{range-more}
use Rattle.offer_make.proofs.offers.offers.Goals as goal

pub loop-place-preserved : goal.loop-place-preserved
loop-place-preserved c =
    let words = c.args.words.now in
    let here : ℕ → List Offer = λ place. flat_map (λ m. filter (may_lie (length words) c.args.exit.now) (base_tiles c.args.at words place m)) c.args.maps.now in
    c.in_ok-push_base.ensures ∙ ap (λ l. l ++ here c.loop-place.place) c.loop-place.invariant ∙ sym (range-more here c.loop-place.place)
