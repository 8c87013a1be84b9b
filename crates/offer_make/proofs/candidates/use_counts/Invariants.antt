use Rattle.std.proofs.Common.{◌≡◌, ◌<◌, ◌≤◌, ℕ, length, get_or}
use Rattle.offer_make.specs.Candidates.{IsCount}
use Rattle.offer_make.proofs.candidates.use_counts.Given as goal

abbrev pub invariant-loop-gpr : goal.invariant-loop-gpr
invariant-loop-gpr l = (length l.counts ≡ 32) × ((g : ℕ) → g < l.gpr → IsCount l.words g (get_or l.counts g 0) × (get_or l.counts g 0 ≤ length l.words))
