use Rattle.std.proofs.Common.{◌≡◌, ◌-◌, ◌++◌}
use Rattle.base_alu.specs.Conditions.{mtcrf_below, mtcrf_ops}
use Rattle.base_alu.proofs.conditions.move_to_cr.Given as goal

-- the fields still to come complete the tile
abbrev pub invariant-loop-f : goal.invariant-loop-f
invariant-loop-f l = l.made.items ++ mtcrf_below (8 - l.f) l.s l.mask ≡ mtcrf_ops l.s l.mask
