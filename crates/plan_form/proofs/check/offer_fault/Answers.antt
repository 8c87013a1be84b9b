use Rattle.plan_form.specs.Prelude.{values_of, Lay}
use Rattle.plan_form.proofs.Faulty.{found-of}
use Rattle.plan_form.proofs.check.offer_fault.Goals as goal

pub fault_of-requires-clause-from : goal.fault_of-requires-clause-from
fault_of-requires-clause-from c = let full = c.requires.full.2 in (full.maps _).1 (full.offers _ c.requires.item).map

pub fault_of-requires-clause-to : goal.fault_of-requires-clause-to
fault_of-requires-clause-to c = let full = c.requires.full.2 in (full.maps _).1 (full.offers _ c.requires.item).map

pub returns : goal.returns
returns c =
    let q = c.args.problem.now in
    let full = c.requires.full in
    let o = c.args.item.now in
    let values = values_of c.args.labels.now in
    let h = found-of q full.0 full.1 full.2 values (record { place = o.from; map = o.map }) (Lay o.tile) o.price (record { place = o.to; map = o.map }) _ c.fault_of.ensures in
    record { sound = h.0; covers = h.1 }
