use Rattle.std.proofs.Common.{◌≡◌, map, take}
use Rattle.symbolic_tiles.specs.Prelude.{op_of}
use Rattle.symbolic_tiles.proofs.lowering.ops_of.Given as goal

abbrev pub invariant-loop-op : goal.invariant-loop-op
invariant-loop-op l = l.made.items ≡ map (λ op. op_of l.map op) (take l.op-index l.symbolic)
