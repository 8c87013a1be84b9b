use Rattle.std.proofs.Common.{◌<◌, arith}
use Rattle.elf_load.proofs.Free.{none_rounded, end_above}
use Rattle.elf_load.proofs.area.find_area.Goals as goal

pub returns-then-at-gt-CEILING : goal.returns-then-at-gt-CEILING
returns-then-at-gt-CEILING c = λ lower area.
    let high = area.high in
    none_rounded c.args.segments.now c.loop-at.at c.in-Some.end c.loop-at.invariant.none_below c.in-Some.ensures lower
    (omega arith) area

pub loop-at-preserved : goal.loop-at-preserved
loop-at-preserved c =
    let above : c.loop-at.at < c.in-Some.end = end_above c.args.segments.now c.loop-at.at c.in-Some.end c.in-Some.ensures in
    record {
      aligned = omega arith;
      low = omega arith;
      high = omega arith;
      none_below = none_rounded c.args.segments.now c.loop-at.at c.in-Some.end c.loop-at.invariant.none_below c.in-Some.ensures;
    }
