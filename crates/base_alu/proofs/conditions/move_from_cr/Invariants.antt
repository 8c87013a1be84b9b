use Rattle.std.proofs.Common.{◌≡◌, ◌-◌, ◌++◌}
use Rattle.base_alu.specs.Conditions.{mfcr_ops}
use Rattle.base_alu.proofs.FieldLoops.{fields_behind}
use Rattle.base_alu.proofs.conditions.move_from_cr.Given as goal

-- the fields still to come complete the tile
abbrev pub invariant-loop-f : goal.invariant-loop-f
invariant-loop-f l = l.made.items ++ fields_behind (8 - l.f) l.d ≡ mfcr_ops l.d
