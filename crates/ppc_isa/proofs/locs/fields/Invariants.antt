use Rattle.std.proofs.Common.{◌≡◌, ◌<◌, ◌^◌, ◌-◌, fold}
use Rattle.std.specs.List.{range_with_len}
use Rattle.ppc_isa.specs.Locations.{with_bit, bits_of, chosen_of, chosen_fields}
use Rattle.ppc_isa.proofs.locs.fields.Given as goal

-- the fields still to come complete the set
abbrev pub invariant-loop-field : goal.invariant-loop-field
invariant-loop-field l = record {
  bits : fold with_bit l.set.bits (chosen_of l.fn.mask (range_with_len l.field (8 - l.field))) ≡ bits_of (chosen_fields l.fn.mask);
  within : l.set.bits < 2 ^ 46;
}
