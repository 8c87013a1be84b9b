use Rattle.std.proofs.Common.{arith, rules}
use Rattle.space.specs.declared.program.Segment.{Segment}
use Rattle.elf_load.specs.Prelude.{MeetsArea}
use Rattle.elf_load.proofs.Free.{below_next}
use Rattle.elf_load.proofs.area.end_of_meeting.Goals as goal

pub loop-s-preserved : goal.loop-s-preserved
loop-s-preserved c =
    let here : ¬ MeetsArea c.s-item.result c.args.at = search rules in
    below_next (λ (s : Segment). ¬ MeetsArea s c.args.at) c.args.segments.now c.loop-s.s-index c.s-item.result
    c.loop-s.invariant c.loop-s-test.true c.s-item.is here

pub returns : goal.returns
returns c = λ k d h. c.loop-s.invariant k d (omega arith)
