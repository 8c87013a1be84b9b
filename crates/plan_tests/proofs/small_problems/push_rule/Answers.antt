use Rattle.std.proofs.Common.{sym}
use Rattle.plan_form.specs.declared.problem.Problem.{Problem}
use Rattle.plan_form.specs.declared.problem.Offer.{Offer}
use Rattle.plan_form.specs.declared.problem.Tile.TheVariants.{Rule}
use Rattle.plan_tests.proofs.Pushed.{is-full}
use Rattle.plan_tests.proofs.small_problems.push_rule.Goals as goal

pub returns-in_ok-push : goal.returns-in_ok-push
returns-in_ok-push c =
    let full = c.requires.full in
    let q : Problem = c.args.problem.now in
    let r : Problem = record q { offers = c.push.new.self } in
    let offer : Offer = record { from = c.args.from; to = c.saturating_add.result; map = c.index.result.now; tile = Rule c.args.number; price = c.args.price } in (
      full.0,
      full.1,
      is-full q r offer full.0 full.1 full.2 (c.may_be_offered.ensures c.if-may_be_offered.true)
          ((full.2.maps offer.map).0 (c.args.map, c.requires.map, sym c.index.ensures)) c.ranges.number.fits c.in_ok-push.ensures.items,
    )
