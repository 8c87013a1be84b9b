use Rattle.std.proofs.Common.{◌≡◌, take}
use Rattle.space.proofs.memory.Space.of.Given as goal

abbrev pub invariant-loop-s : goal.invariant-loop-s
invariant-loop-s l = l.segments.items ≡ take l.s-index l.program.segments
