use Rattle.std.proofs.Common.{◌≡◌, map, take}
use Rattle.block_find.specs.Prelude.{block_of}
use Rattle.block_find.proofs.program.with_words.Given as goal

abbrev pub invariant-loop-run : goal.invariant-loop-run
invariant-loop-run l = l.blocks.items ≡ map (block_of l.code.first l.code.words.now) (take l.run-index l.runs)
