use Rattle.std.proofs.Common.{rules, ◌+◌, ◌-◌, sym, ◌∙◌}
use Rattle.std.specs.List.{range_with_len}
use Rattle.ppc_isa.proofs.LocationSets.{range_next, fold-chosen_of}
use Rattle.ppc_isa.proofs.locs.fields.Goals as goal

pub loop-field-preserved : goal.loop-field-preserved
loop-field-preserved c =
    let field = c.loop-field.field in
    let rest = range_with_len (field + 1) (8 - (field + 1)) in
    let whole = rw (range_next field 8 c.loop-field-test.true) at c.loop-field.invariant.bits in
    record {
      bits = rw c.with_if-set.ensures.bits (sym (fold-chosen_of c.args.mask c.loop-field.set.bits field rest) ∙ whole);
      within = search rules;
    }
