use Rattle.plan_form.specs.Prelude.{values_of, label_at}
use Rattle.std.proofs.Common.{ap, arith}
use Rattle.plan_form.proofs.Counts.{few-maps}
use Rattle.plan_form.proofs.Indexes.{map-once}
use Rattle.plan_form.proofs.check.fault_of.Goals as goal

pub returns-then-needed-label : goal.returns-then-needed-label
returns-then-needed-label c =
    let q = c.args.problem.now in
    let full = c.requires.full in
    let values = values_of c.args.labels.now in
    λ i j from to.
    let a = map-once q full.0 full.1 full.2 c.args.from.now i c.index_in-index.result from c.index_in-index.ensures in
    let b = map-once q full.0 full.1 full.2 c.args.to.now j c.index_in.result to c.index_in.ensures in
    let e = ap (λ k. label_at q values c.args.place k) a in
    let f = ap (λ k. label_at q values c.args.«end» k) b in
    omega (arith, e, f, c.label_of-label.ensures, c.label_of-needed.ensures, c.if-needed-label.true)

pub overflow_add-order-2 : goal.overflow_add-order-2
overflow_add-order-2 c =
    let q = c.args.problem.now in
    let full = c.requires.full in
    let few = few-maps q full.0 full.1 full.2 in
    omega (arith, few, full.2.high, c.requires.place, c.index_in-index.ensures.within, c.order_of.ensures.small)
