use Rattle.std.proofs.Common.{get_or, sym, subst, ap, ◌∙◌}
use Rattle.plan_form.specs.Prelude.{IsAt}
use Rattle.plan_form.proofs.Keyed.{index-found}
use Rattle.plan_form.proofs.index.index_in.Goals as goal

pub key-requires : goal.key-requires
key-requires c = let full = c.requires.full.2 in ((full.maps c.args.map.now).0 c.requires.map).is_map

pub returns : goal.returns
returns c =
    let q = c.args.problem.now in
    let m = c.args.map.now in
    let here : IsAt q m c.requires.map.0 = record { within = c.requires.map.1; is = c.requires.map.2 } in
    let found = index-found q c.args.table.now m c.requires.map.0 c.requires.table here in
    subst (IsAt q m) (sym (ap (λ k. get_or c.args.table.now k 0) c.key.ensures.key ∙ found)) here
