-- Literals that are decided one above the other.
use Rattle.std.specs.Prelude.{◌≡◌, ◌≢◌, ◌<◌, ◌≤◌, ◌+◌, ℕ, false, cond, List, [], ℤ, neg_ℤ, length, take, slice_index_or}
use Rattle.std.specs.List.{Contains}
use Rattle.watched_literals.specs.Propagation.{HasConflict}
use Rattle.watched_literals.specs.Trails.{IsUnit}
use Rattle.watched_literals.specs.Watches.{AllWatched, IsComplete}
use Rattle.watched_literals.specs.Propagators.{IsAbove}
use Rattle.watched_literals.specs.declared.propagator.Propagator.{Propagator}
use Rattle.watched_literals.specs.declared.watches.Pair.{Pair}
use Rattle.watched_literals.specs.declared.levels.Levels.{Levels}

-- the invariant of watches holds of the first literals of the trail
abbrev pub IsWatchedAt : Propagator → ℕ → Type 0
IsWatchedAt s count = AllWatched s.clauses.items s.pairs.items (take count s.trail.literals) (take count s.trail.literals)

-- levels start above a root one behind the other, and the invariant of watches holds at the start of each, so the search can go
-- back to it
pub record AreStacked (known : List (List ℤ)) (levels : Levels) : Type 0 where
  pub above : (root : List ℤ) × (levels.root ≡ length root) × IsAbove known root levels.propagator
  pub behind_root : (level : ℕ) → level < length levels.starts.items → levels.root ≤ slice_index_or levels.starts.items level 0
  pub within : (level : ℕ) → level < length levels.starts.items → slice_index_or levels.starts.items level 0 ≤ length levels.propagator.trail.literals
  pub ordered : (low high : ℕ) → low ≤ high → high < length levels.starts.items
      → slice_index_or levels.starts.items low 0 ≤ slice_index_or levels.starts.items high 0
  pub watched : (level : ℕ) → level < length levels.starts.items → IsWatchedAt levels.propagator (slice_index_or levels.starts.items level 0)
  pub complete : levels.is_failed ≡ false → IsComplete levels.propagator

-- the known clauses are refuted, or levels stand as above
abbrev pub IsLeveled : List (List ℤ) → Levels → Type 0
IsLeveled known levels = cond levels.propagator.refuted (HasConflict known []) (AreStacked known levels)

-- the first of two literals is the only one of the clause that isn't false, and the other became so at the last level
pub record IsImplied (clause : List ℤ) (levels : Levels) (pair : Pair) : Type 0 where
  pub going : levels.is_failed ≡ false
  pub open_root : levels.propagator.refuted ≡ false
  pub unit : IsUnit levels.propagator.trail.literals clause pair.one
  pub other_in : Contains clause pair.other
  pub apart : pair.other ≢ pair.one
  pub late : (last : ℕ) × (last + 1 ≡ length levels.starts.items)
      × (¬ Contains (take (slice_index_or levels.starts.items last 0) levels.propagator.trail.literals) (neg_ℤ pair.other))
