use Rattle.std.proofs.Common.{◌≤◌, ◌<◌, ◌+◌, ◌-◌, ◌*◌, length, get_or, refl, sym, subst, ap, arith}
use Rattle.plan_form.proofs.Costs.{price-small}
use Rattle.plan_form.specs.declared.problem.Step.TheVariants.{Go}
use Rattle.reg_map.specs.declared.moves.Move.TheVariants.{Drop}
use Rattle.tile_plan.specs.Prelude.{Arc, IsArc, node_at, weight_limit}
use Rattle.tile_plan.proofs.Leasts.{IsPartRow, AreBelow, read-zero, row-kept, row-lowered, row-whole, row-passed, row-begun, row-beyond, set-below}
use Rattle.tile_plan.proofs.table.move_weights.Goals as goal
use Rattle.tile_plan.proofs.table.move_weights.Goals.{in-Go+then-behind-lt-NEVER+then-weight-index, in-Go+then-behind-lt-NEVER+else-weight-index, in-Go+else-behind-lt-NEVER, in_default}

pub loop-arc-init : goal.loop-arc-init
loop-arc-init c =
    let q = c.args.problem.now in
    let limit = weight_limit q c.args.place c.args.left in
    let e = c.in_ok-row.ensures.items in
    record {
      part = subst (λ xs. IsPartRow q c.args.place c.args.left limit c.args.arcs.now 0 xs) (sym e)
          (row-begun q c.args.place c.args.left limit c.args.arcs.now c.args.base.now (weight_limit q c.args.place 0) (omega arith) c.requires.base);
      below = λ i inside. let b = ap (λ xs. get_or xs i 0) e in omega (arith, b);
    }

pub overflow_add-weight-then-behind-lt-NEVER : goal.overflow_add-weight-then-behind-lt-NEVER
overflow_add-weight-then-behind-lt-NEVER c =
    let q = c.args.problem.now in
    let full = c.requires.full in
    let n = c.loop-arc.arc-index in
    let none : Arc = record { from = 0; step = Go (Drop 0); price = 0; place = 0; to = 0 } in
    let arc : Arc = get_or c.args.arcs.now n none in
    let good : IsArc q c.args.place arc = c.requires.arcs.sound n none c.loop-arc-test.true in
    let cheap = price-small q full.0 full.1 full.2 (node_at q c.args.place arc.from) arc.step arc.price (node_at q arc.place arc.to) good.leads in
    let small = c.requires.fewer.small arc.to good.to c.if-behind-lt-NEVER.true in
    omega (arith, cheap, small, full.2.high, c.requires.few)

pub loop-arc-preserved : goal.loop-arc-preserved
loop-arc-preserved c =
    let q = c.args.problem.now in
    let limit = weight_limit q c.args.place c.args.left in
    let full = c.requires.full in
    let arcs = c.args.arcs.now in
    let base = c.args.base.now in
    let fewer = c.args.fewer.now in
    let n = c.loop-arc.arc-index in
    let old = c.loop-arc.row.items in
    let h = c.loop-arc.invariant in
    let none : Arc = record { from = 0; step = Go (Drop 0); price = 0; place = 0; to = 0 } in
    let arc : Arc = get_or arcs n none in
    let good : IsArc q c.args.place arc = c.requires.arcs.sound n none c.loop-arc-test.true in
    let inside : arc.from < length old = omega (arith, good.from, h.part.len) in
    let b = get_or fewer arc.to 0 in
    let less_limit : weight_limit q c.args.place (c.args.left - 1) + 524288 ≤ limit = omega (arith, c.requires.left) in
    elim c.match-arc.branch [
      | in-Go+then-behind-lt-NEVER+then-weight-index w ↦
          let by = row-beyond q c.args.place c.args.left (weight_limit q c.args.place (c.args.left - 1)) limit arc w.in-Go.field-0 fewer w.in-Go.is good c.requires.left less_limit c.requires.fewer in
          let cheap = price-small q full.0 full.1 full.2 (node_at q c.args.place arc.from) arc.step arc.price (node_at q arc.place arc.to) good.leads in
          let low = read-zero old arc.from w.index.result.now w.index.ensures inside in
          let less : 512 * arc.price + 1 + b < get_or old arc.from 0 = omega (arith, low, w.if-weight-index.true) in
          record {
            part = subst (λ v. IsPartRow q c.args.place c.args.left limit arcs (n + 1) v.items) (sym w.row-is)
                (row-lowered q c.args.place c.args.left limit arcs n old arc none b c.loop-arc-test.true refl good by w.if-behind-lt-NEVER.true cheap less h.part);
            below = subst (λ v. AreBelow q v.items base) (sym w.row-is) (set-below q old base arc.from (512 * arc.price + 1 + b) inside (omega (arith, less)) h.below);
          }
      | in-Go+then-behind-lt-NEVER+else-weight-index w ↦
          let by = row-beyond q c.args.place c.args.left (weight_limit q c.args.place (c.args.left - 1)) limit arc w.in-Go.field-0 fewer w.in-Go.is good c.requires.left less_limit c.requires.fewer in
          let low = read-zero old arc.from w.index.result.now w.index.ensures inside in
          record {
            part = subst (λ v. IsPartRow q c.args.place c.args.left limit arcs (n + 1) v.items) (sym w.row-is)
                (row-kept q c.args.place c.args.left limit arcs n old arc none b c.loop-arc-test.true refl by (omega (arith, low, w.if-weight-index.false)) h.part);
            below = subst (λ v. AreBelow q v.items base) (sym w.row-is) h.below;
          }
      | in-Go+else-behind-lt-NEVER w ↦
          let by = row-beyond q c.args.place c.args.left (weight_limit q c.args.place (c.args.left - 1)) limit arc w.in-Go.field-0 fewer w.in-Go.is good c.requires.left less_limit c.requires.fewer in
          let high = (h.part.parts arc.from good.from).high in
          record {
            part = subst (λ v. IsPartRow q c.args.place c.args.left limit arcs (n + 1) v.items) (sym w.row-is)
                (row-kept q c.args.place c.args.left limit arcs n old arc none b c.loop-arc-test.true refl by (omega (arith, high, w.if-behind-lt-NEVER.false)) h.part);
            below = subst (λ v. AreBelow q v.items base) (sym w.row-is) h.below;
          }
      | in_default w ↦
          record {
            part = subst (λ v. IsPartRow q c.args.place c.args.left limit arcs (n + 1) v.items) (sym w.row-is)
                (row-passed q c.args.place c.args.left limit arcs n old base (weight_limit q c.args.place 0) arc none w.in_default.field-0 c.loop-arc-test.true refl good w.in_default.is c.requires.base h.below h.part);
            below = subst (λ v. AreBelow q v.items base) (sym w.row-is) h.below;
          }
    ]

pub returns : goal.returns
returns c =
    let q = c.args.problem.now in
    let full = c.requires.full in
    row-whole q c.args.place c.args.left (weight_limit q c.args.place c.args.left) c.args.arcs.now full.0 full.1 full.2 c.requires.arcs c.loop-arc.arc-index c.loop-arc.row.items c.loop-arc-test.false c.loop-arc.invariant.part
