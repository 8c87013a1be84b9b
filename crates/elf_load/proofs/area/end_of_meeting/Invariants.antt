use Rattle.std.proofs.Common.{ℕ, ◌<◌, get_or}
use Rattle.space.specs.declared.program.Segment.{Segment}
use Rattle.elf_load.specs.Prelude.{MeetsArea}
use Rattle.elf_load.proofs.area.end_of_meeting.Given as goal

abbrev pub invariant-loop-s : goal.invariant-loop-s
invariant-loop-s l = (k : ℕ) (d : Segment) → k < l.s-index → ¬ MeetsArea (get_or l.segments k d) l.at
