use Rattle.std.proofs.Common.{◌≤◌, take}
use Rattle.offer_make.specs.Candidates.{IsCount}
use Rattle.offer_make.proofs.words.use_count.Given as goal

abbrev pub invariant-loop-word : goal.invariant-loop-word
invariant-loop-word l = IsCount (take l.word-index l.words) l.gpr l.count × (l.count ≤ l.word-index)
