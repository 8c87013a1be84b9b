use Rattle.std.proofs.Common.{◌<◌, ◌+◌, length, get_or, refl, sym, subst, arith}
use Rattle.plan_form.specs.declared.problem.Step.TheVariants.{Go}
use Rattle.reg_map.specs.declared.moves.Move.TheVariants.{Drop}
use Rattle.tile_plan.specs.Prelude.{Arc, IsArc, IsRelaxed}
use Rattle.tile_plan.proofs.Leasts.{read-zero}
use Rattle.tile_plan.proofs.Forwards.{relax-kept, relax-lowered}
use Rattle.tile_plan.proofs.forward.relax.Goals as goal
use Rattle.tile_plan.proofs.forward.relax.Goals.{then-arc-place+then-cost-index, then-arc-place+else-cost-index, else-arc-place}

pub loop-arc-preserved : goal.loop-arc-preserved
loop-arc-preserved c =
    let q = c.args.problem.now in
    let arcs = c.args.arcs.now in
    let from = c.args.from.now in
    let n = c.loop-arc.arc-index in
    let old = c.args.row.now.items in
    let row = c.loop-arc.row.items in
    let h = c.loop-arc.invariant in
    let none : Arc = record { from = 0; step = Go (Drop 0); price = 0; place = 0; to = 0 } in
    let arc : Arc = get_or arcs n none in
    let good : IsArc q c.args.source arc = c.requires.arcs.sound n none c.loop-arc-test.true in
    let inside : arc.to < length row = omega (arith, good.to, h.reached.len) in
    elim c.if-arc-place.branch [
      | then-arc-place+then-cost-index w ↦
          let low = read-zero row arc.to w.index.result.now w.index.ensures inside in
          subst (λ v. IsRelaxed q c.args.place arcs (n + 1) from old v.items) (sym w.row-is)
          (relax-lowered q c.args.source c.args.place arcs from n arc none old row (get_or from arc.from 0 + arc.price) c.loop-arc-test.true refl good w.if-arc-place.true c.requires.from refl
          (omega (arith, low, w.if-cost-index.true)) h)
      | then-arc-place+else-cost-index w ↦
          let low = read-zero row arc.to w.index.result.now w.index.ensures inside in
          subst (λ v. IsRelaxed q c.args.place arcs (n + 1) from old v.items) (sym w.row-is)
          (relax-kept q c.args.source c.args.place arcs from n arc none old row c.loop-arc-test.true refl (λ _. omega (arith, low, w.if-cost-index.false)) h)
      | else-arc-place w ↦
          subst (λ v. IsRelaxed q c.args.place arcs (n + 1) from old v.items) (sym w.row-is)
          (relax-kept q c.args.source c.args.place arcs from n arc none old row c.loop-arc-test.true refl (λ e. absurd (w.if-arc-place.false e)) h)
    ]
