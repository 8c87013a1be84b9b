use Rattle.std.proofs.Common.{length}
use Rattle.block_find.specs.Prelude.{AreMarked, AreCut}
use Rattle.block_find.proofs.boundaries.leaders.Given as goal

abbrev pub invariant-loop-place : goal.invariant-loop-place
invariant-loop-place l = AreMarked l.code.first l.code.entry l.code.words.now l.place l.marks.items

abbrev pub invariant-loop-place-2 : goal.invariant-loop-place-2
invariant-loop-place-2 l = record {
  marked : AreMarked l.code.first l.code.entry l.code.words.now (length l.code.words.now) l.marks.items;
  cut : AreCut l.marks.items l.leads.items l.place l.run;
}
