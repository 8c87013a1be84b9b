use Rattle.std.proofs.Common.{◌≡◌, ◌<◌, ◌^◌, ◌-◌, fold}
use Rattle.std.specs.List.{range_with_len}
use Rattle.ppc_isa.specs.Locations.{with_bit, bits_of, registers_from}
use Rattle.ppc_isa.proofs.locs.registers.Given as goal

-- the registers still to come complete the set
abbrev pub invariant-loop-register : goal.invariant-loop-register
invariant-loop-register l = record {
  bits : fold with_bit l.set.bits (range_with_len l.register (32 - l.register)) ≡ bits_of (registers_from l.fn.first);
  within : l.set.bits < 2 ^ 46;
}
