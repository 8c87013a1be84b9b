use Rattle.std.proofs.Common.{◌≡◌, ℕ, ◌≤◌, sym, ◌∙◌, subst, arith, get_or, MatchOption, Option}
use Rattle.std.proofs.lemmas.Bool.{false≢true}
use Rattle.plan_form.specs.Prelude.{order}
use Rattle.plan_form.specs.declared.problem.Step.TheVariants.{Go}
use Rattle.reg_map.specs.declared.moves.Move.TheVariants.{Drop}
use Rattle.tile_plan.specs.Prelude.{Arc, IsArc, node_at, IsTight}
use Rattle.tile_plan.proofs.Orders.{order-small}
use Rattle.tile_plan.proofs.Firsts.{first-more}
use Rattle.tile_plan.proofs.walk.first_edge.Goals as goal
use Rattle.tile_plan.proofs.walk.first_edge.Goals.{then-is_tight+then-order-least, then-is_tight+else-order-least, else-is_tight}

pub loop-arc-preserved : goal.loop-arc-preserved
loop-arc-preserved c =
    let q = c.args.problem.now in
    let arcs = c.args.arcs.now in
    let n = c.loop-arc.arc-index in
    let none : Arc = record { from = 0; step = Go (Drop 0); price = 0; place = 0; to = 0 } in
    let arc : Arc = get_or arcs n none in
    let first = c.loop-arc.invariant.first in
    let Chosen = λ (o : Option Arc) (m : ℕ). MatchOption o (m ≡ 18446744073709551615) (λ a. IsArc q c.args.place a × IsTight q c.args.left c.args.index c.args.weight a × (order q a.step ≡ m)) in
    elim c.if-is_tight.branch [
      | then-is_tight+then-order-least w ↦
          let tight = c.is_tight.ensures.0 w.if-is_tight.true in
          let good : IsArc q c.args.place arc = c.requires.arcs.sound n none c.loop-arc-test.true in
          record {
            first = first-more q c.args.left c.args.index c.args.weight arcs n none c.loop-arc.least c.if-is_tight.least c.loop-arc-test.true
                (omega (arith, w.least-is, w.if-order-least.true)) (λ _. omega (arith, w.least-is, w.order_of-order.ensures.order)) first;
            chosen = subst (λ o. Chosen o c.if-is_tight.least) (sym w.chosen-is) (good, tight, sym (w.least-is ∙ w.order_of-order.ensures.order));
          }
      | then-is_tight+else-order-least w ↦
          record {
            first = first-more q c.args.left c.args.index c.args.weight arcs n none c.loop-arc.least c.if-is_tight.least c.loop-arc-test.true
                (omega (arith, w.least-is)) (λ _. omega (arith, w.least-is, w.order_of-order.ensures.order, w.if-order-least.false)) first;
            chosen = subst (λ o. Chosen o c.if-is_tight.least) (sym w.chosen-is) (subst (Chosen c.loop-arc.chosen) (sym w.least-is) c.loop-arc.invariant.chosen);
          }
      | else-is_tight w ↦
          record {
            first = first-more q c.args.left c.args.index c.args.weight arcs n none c.loop-arc.least c.if-is_tight.least c.loop-arc-test.true
                (omega (arith, w.least-is)) (λ tight. absurd (false≢true (sym w.if-is_tight.false ∙ c.is_tight.ensures.1 tight))) first;
            chosen = subst (λ o. Chosen o c.if-is_tight.least) (sym w.chosen-is) (subst (Chosen c.loop-arc.chosen) (sym w.least-is) c.loop-arc.invariant.chosen);
          }
    ]

pub unreachable-requires : goal.unreachable-requires
unreachable-requires c =
    let q = c.args.problem.now in
    let full = c.requires.table.full in
    let some = c.requires.some in
    let arc : Arc = some.0 in
    let k : ℕ = some.1.0 in
    let is : get_or c.args.arcs.now k arc ≡ arc = some.1.2 in
    let low : c.loop-arc.least ≤ order q arc.step = subst (λ (a : Arc). c.loop-arc.least ≤ order q a.step) is
    (c.loop-arc.invariant.first k arc (omega (arith, some.1.1, c.loop-arc-test.false)) (subst (IsTight q c.args.left c.args.index c.args.weight) (sym is) some.2)) in
    let good : IsArc q c.args.place arc = subst (IsArc q c.args.place) is (c.requires.arcs.sound k arc some.1.1) in
    let small = order-small q full.0 full.1 full.2 (node_at q c.args.place arc.from) arc.step arc.price (node_at q arc.place arc.to) good.leads in
    let Chosen = λ (o : Option Arc) (m : ℕ). MatchOption o (m ≡ 18446744073709551615) (λ a. IsArc q c.args.place a × IsTight q c.args.left c.args.index c.args.weight a × (order q a.step ≡ m)) in
    let most : c.loop-arc.least ≡ 18446744073709551615 = subst (λ o. Chosen o c.loop-arc.least) c.in-None.is c.loop-arc.invariant.chosen in
    omega (arith, low, small, most)

pub returns : goal.returns
returns c =
    let q = c.args.problem.now in
    let Chosen = λ (o : Option Arc) (m : ℕ). MatchOption o (m ≡ 18446744073709551615) (λ a. IsArc q c.args.place a × IsTight q c.args.left c.args.index c.args.weight a × (order q a.step ≡ m)) in
    let chosen = subst (λ o. Chosen o c.loop-arc.least) c.in-Some.is c.loop-arc.invariant.chosen in
    record {
      good = chosen.0;
      tight = chosen.1;
      first = λ other inside tight.
          let low : c.loop-arc.least ≤ order q other.step = subst (λ (a : Arc). c.loop-arc.least ≤ order q a.step) inside.2
          (c.loop-arc.invariant.first inside.0 other (omega (arith, inside.1, c.loop-arc-test.false)) (subst (IsTight q c.args.left c.args.index c.args.weight) (sym inside.2) tight)) in
          omega (arith, low, chosen.2);
    }
