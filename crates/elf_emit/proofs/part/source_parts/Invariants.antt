use Rattle.std.proofs.Common.{◌≡◌, map, take}
use Rattle.elf_emit.specs.Prelude.{all_shown, source}
use Rattle.elf_emit.proofs.part.source_parts.Given as goal

abbrev pub invariant-loop-segment : goal.invariant-loop-segment
invariant-loop-segment l = all_shown l.parts.items ≡ map source (take l.segment-index l.segments)
