use Rattle.std.proofs.Common.{◌<◌, length, sym, subst, ap, ◌∙◌, arith}
use Rattle.std.proofs.lemmas.List.{get_or_read}
use Rattle.machines.specs.Prelude.{Map, IsMap}
use Rattle.plan_form.specs.Prelude.{key}
use Rattle.plan_form.proofs.Counts.{few-maps}
use Rattle.plan_form.proofs.Keyed.{index-more, map-small}
use Rattle.plan_form.proofs.index.map_indexes.Goals as goal

pub loop-number-preserved : goal.loop-number-preserved
loop-number-preserved c =
    let q = c.args.problem.now in
    let full = c.requires in
    let n = c.loop-number.number in
    let within : n < length q.maps.items = omega (arith, c.loop-number-test.true, c.len-number-end.ensures, q.maps.ok.0) in
    let is = get_or_read q.maps.items n c.index.result.now within c.index.ensures q.exit in
    index-more q full.0 full.1 full.2 c.loop-number.table n c.key-at.result within (c.key-at.ensures.key ∙ ap (λ (m : Map). key m) is) c.loop-number.invariant

pub key-at-requires : goal.key-at-requires
key-at-requires c =
    let q = c.args.problem.now in
    let full = c.requires in
    let n = c.loop-number.number in
    let within : n < length q.maps.items = omega (arith, c.loop-number-test.true, c.len-number-end.ensures, q.maps.ok.0) in
    let is = get_or_read q.maps.items n c.index.result.now within c.index.ensures q.exit in
    subst (λ (m : Map). IsMap m) (sym is) (map-small q full.0 full.1 full.2 n within)

pub returns : goal.returns
returns c =
    let q = c.args.problem.now in
    record {
      len = c.loop-number.invariant.len;
      at = λ i low. c.loop-number.invariant.at i (omega (arith, low, c.loop-number-test.false, c.len-number-end.ensures, q.maps.ok.0));
    }

pub overflow_cast-table : goal.overflow_cast-table
overflow_cast-table c =
    let q = c.args.problem.now in
    let full = c.requires in
    let few = few-maps q full.0 full.1 full.2 in
    omega (arith, few, c.loop-number-test.true, c.len-number-end.ensures, q.maps.ok.0)
