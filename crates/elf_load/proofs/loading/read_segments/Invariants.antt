use Rattle.std.proofs.Common.{◌≡◌}
use Rattle.elf_load.specs.Prelude.{segments_before}
use Rattle.elf_load.proofs.loading.read_segments.Given as goal

abbrev pub invariant-loop-i : goal.invariant-loop-i
invariant-loop-i l = l.segments.items ≡ segments_before l.kind l.bytes l.i
