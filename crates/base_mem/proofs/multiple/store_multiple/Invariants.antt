use Rattle.std.proofs.Common.{◌≡◌, ◌≤◌, ◌-◌, ◌++◌}
use Rattle.base_mem.specs.Multiple.{stmw_ops}
use Rattle.base_mem.proofs.multiple.store_multiple.Given as goal

-- the registers still to come complete the tile
abbrev pub invariant-loop-r : goal.invariant-loop-r
invariant-loop-r l = record { order : l.s ≤ l.r; rest : l.made.items ++ stmw_ops (32 - l.r) l.s ≡ stmw_ops (32 - l.s) l.s }
