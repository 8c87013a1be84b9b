use Rattle.std.proofs.Common.{◌≡◌, ◌≤◌, ◌-◌, ◌++◌}
use Rattle.base_mem.specs.Multiple.{lmw_ops}
use Rattle.base_mem.proofs.multiple.load_multiple.Given as goal

-- the registers still to come complete the tile
abbrev pub invariant-loop-r : goal.invariant-loop-r
invariant-loop-r l = record { order : l.d ≤ l.r; rest : l.made.items ++ lmw_ops (32 - l.r) l.d ≡ lmw_ops (32 - l.d) l.d }
