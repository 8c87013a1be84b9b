use Rattle.plan_form.specs.Prelude.{values_of, Node, Go, IsFound}
use Rattle.std.proofs.Common.{subst}
use Rattle.machines.specs.Prelude.{Map}
use Rattle.plan_form.proofs.Faulty.{found-of}
use Rattle.plan_form.proofs.check.move_fault.Goals as goal

pub returns : goal.returns
returns c =
    let q = c.args.problem.now in
    let full = c.requires.full in
    let m = c.args.item.now in
    let values = values_of c.args.labels.now in
    let u : Node = record { place = m.place; map = m.map } in
    let h = found-of q full.0 full.1 full.2 values u (Go m.step) m.price (record { place = m.place; map = c.map_behind.result }) _ c.fault_of.ensures in
    record {
      sound = h.0;
      covers = subst (λ (x : Map). IsFound q values u (Go m.step) m.price (record { place = m.place; map = x }) c.fault_of.result) c.map_behind.ensures h.1;
    }
