use Rattle.std.proofs.Common.{◌<◌, ◌+◌, ◌*◌, length, get_or, refl, sym, subst, arith}
use Rattle.plan_form.proofs.Costs.{price-small}
use Rattle.tile_plan.proofs.Leasts.{IsPartRow, read-zero, row-kept, row-lowered, row-whole}
use Rattle.plan_form.specs.declared.problem.Step.TheVariants.{Go}
use Rattle.reg_map.specs.declared.moves.Move.TheVariants.{Drop}
use Rattle.tile_plan.specs.Prelude.{Arc, IsArc, node_at, weight_limit}
use Rattle.tile_plan.proofs.table.tile_weights.Goals as goal
use Rattle.tile_plan.proofs.table.tile_weights.Goals.{then-behind-lt-NEVER+then-weight-index, then-behind-lt-NEVER+else-weight-index, else-behind-lt-NEVER}

pub loop-arc-preserved : goal.loop-arc-preserved
loop-arc-preserved c =
    let q = c.args.problem.now in
    let limit = weight_limit q c.args.place 0 in
    let full = c.requires.table.full in
    let arcs = c.args.arcs.now in
    let n = c.loop-arc.arc-index in
    let old = c.loop-arc.row.items in
    let h = c.loop-arc.invariant in
    let b = c.beyond-behind.result in
    let none : Arc = record { from = 0; step = Go (Drop 0); price = 0; place = 0; to = 0 } in
    let arc : Arc = get_or arcs n none in
    let good : IsArc q c.args.place arc = c.requires.arcs.sound n none c.loop-arc-test.true in
    let inside : arc.from < length old = omega (arith, good.from, h.len) in
    elim c.if-behind-lt-NEVER.branch [
      | then-behind-lt-NEVER+then-weight-index w ↦
          let low = read-zero old arc.from w.index.result.now w.index.ensures inside in
          let cheap = price-small q full.0 full.1 full.2 (node_at q c.args.place arc.from) arc.step arc.price (node_at q arc.place arc.to) good.leads in
          subst (λ v. IsPartRow q c.args.place 0 limit arcs (n + 1) v.items) (sym w.row-is)
          (row-lowered q c.args.place 0 limit arcs n old arc none b c.loop-arc-test.true refl good c.beyond-behind.ensures w.if-behind-lt-NEVER.true cheap (omega (arith, low, w.if-weight-index.true)) h)
      | then-behind-lt-NEVER+else-weight-index w ↦
          let low = read-zero old arc.from w.index.result.now w.index.ensures inside in
          subst (λ v. IsPartRow q c.args.place 0 limit arcs (n + 1) v.items) (sym w.row-is)
          (row-kept q c.args.place 0 limit arcs n old arc none b c.loop-arc-test.true refl c.beyond-behind.ensures (omega (arith, low, w.if-weight-index.false)) h)
      | else-behind-lt-NEVER w ↦
          let high = (h.parts arc.from good.from).high in
          subst (λ v. IsPartRow q c.args.place 0 limit arcs (n + 1) v.items) (sym w.row-is)
          (row-kept q c.args.place 0 limit arcs n old arc none b c.loop-arc-test.true refl c.beyond-behind.ensures (omega (arith, high, w.if-behind-lt-NEVER.false)) h)
    ]

pub returns : goal.returns
returns c =
    let q = c.args.problem.now in
    let limit = weight_limit q c.args.place 0 in
    let full = c.requires.table.full in
    row-whole q c.args.place 0 limit c.args.arcs.now full.0 full.1 full.2 c.requires.arcs c.loop-arc.arc-index c.loop-arc.row.items c.loop-arc-test.false c.loop-arc.invariant
