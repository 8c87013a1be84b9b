-- All that is kept of known clauses, and what trying a clause tells.
use Rattle.std.specs.Prelude.{◌≡◌, ◌≢◌, ◌⊎◌, ◌++◌, ◌∷◌, [], Bool, true, false, cond, List, ℤ, pos, neg_ℤ}
use Rattle.std.specs.List.{Contains}
use Rattle.watched_literals.specs.Propagation.{HasConflict, Follows}
use Rattle.watched_literals.specs.Trails.{AreMadeTrue, IsConsistent, Extends, IsUnit, IsFalse, AllSettled, Refutes}
use Rattle.watched_literals.specs.declared.standing.Standing.{Standing}
use Rattle.watched_literals.specs.declared.standing.Standing.TheVariants as standing
use Rattle.watched_literals.specs.declared.propagator.Propagator.{Propagator}
use Rattle.watched_literals.specs.Literals.{AreReasoned}
use Rattle.watched_literals.specs.Watches.{IsStored, IsComplete, AllWatched, Moves, AreAmong, IsTrueIn}

-- two literals of the clause that aren't false
pub record IsOpenAt (trail clause : List ℤ) (one other : ℤ) : Type 0 where
  pub one_in : Contains clause one
  pub other_in : Contains clause other
  pub apart : one ≢ other
  pub one_free : ¬ Contains trail (neg_ℤ one)
  pub other_free : ¬ Contains trail (neg_ℤ other)

abbrev pub Stands : List ℤ → List ℤ → Standing → Type 0
Stands trail clause standing.True = IsTrueIn trail clause
Stands trail clause (standing.Open one other) = IsOpenAt trail clause one other
Stands trail clause (standing.Unit literal) = IsUnit trail clause literal
Stands trail clause standing.False = IsFalse trail clause

-- each known clause has a literal that is true for good, or is watched
abbrev pub AreHeld : List (List ℤ) → List (List ℤ) → List ℤ → Type 0
AreHeld known clauses trail = (clause : List ℤ) → Contains known clause → IsTrueIn trail clause ⊎ Contains clauses clause

-- the reason of each true literal is a clause that was unit
abbrev pub IsReasoned : Propagator → Type 0
IsReasoned s = AreReasoned s.clauses.items s.trail

-- these literals are what the known clauses make true where nothing is set to false
pub record IsOpen (known : List (List ℤ)) (s : Propagator) (trail : List ℤ) : Type 0 where
  pub stored : IsStored s (pos 0) []
  pub idle : s.pending ≡ []
  pub among : AreAmong s.clauses.items known
  pub held : AreHeld known s.clauses.items trail
  pub made : AreMadeTrue known [] trail
  pub consistent : IsConsistent trail
  pub watched : AllWatched s.clauses.items s.pairs.items trail trail

-- the known clauses are refuted, or stand as above
abbrev pub IsReady : List (List ℤ) → Propagator → Type 0
IsReady known s = cond s.refuted (HasConflict known []) (IsOpen known s s.trail.literals)

-- what setting the literals of a clause to false leads to
pub record IsTried (clause : List ℤ) (old new : Propagator) (yes : Bool) : Type 0 where
  pub stored : IsStored new (pos 0) []
  pub idle : new.pending ≡ []
  pub moves : Moves old.trail.literals old.pairs.items new.pairs.items
  pub extends : Extends old.trail.literals new.trail.literals
  pub follows : yes ≡ true → (known : List (List ℤ)) → AreAmong old.clauses.items known → AreMadeTrue known [] old.trail.literals → Follows known clause
  pub fails : yes ≡ false → (known : List (List ℤ)) → AreHeld known old.clauses.items old.trail.literals → IsConsistent old.trail.literals
      → ¬ Follows known clause

-- what was assumed stands above a root, at which the known clauses stand as where nothing is assumed
pub record IsAbove (known : List (List ℤ)) (root : List ℤ) (s : Propagator) : Type 0 where
  pub open_root : s.refuted ≡ false
  pub base : IsOpen known s root
  pub above : Extends root s.trail.literals

-- a trail grows by all that the known clauses make true
pub record Completes (known : List (List ℤ)) (old new : List ℤ) : Type 0 where
  pub extends : Extends old new
  pub made : (falses : List ℤ) → AreMadeTrue known falses old → AreMadeTrue known falses new
  pub consistent : IsConsistent old → IsConsistent new
  pub settled : AllSettled known new new

-- what propagation does to a trail, and whether a known clause is false
abbrev pub Spreads : List (List ℤ) → List ℤ → List ℤ → Bool → Type 0
Spreads known old new true = Refutes known old × Extends old new
Spreads known old new false = Completes known old new

-- what learning a clause does that is unit: below the place where another of its literals became false, all stands as it did
pub record Implies (clause : List ℤ) (other : ℤ) (old new : Propagator) (fails : Bool) : Type 0 where
  pub refuted : new.refuted ≡ old.refuted
  pub extends : Extends old.trail.literals new.trail.literals
  pub above : (known : List (List ℤ)) (root : List ℤ) → IsAbove known root old → (¬ Contains root (neg_ℤ other)) → IsAbove (known ++ clause ∷ []) root new
  pub watched : (part : List ℤ) → ((literal : ℤ) → Contains part literal → Contains old.trail.literals literal) → (¬ Contains part (neg_ℤ other))
      → AllWatched old.clauses.items old.pairs.items part part → AllWatched new.clauses.items new.pairs.items part part
  pub complete : fails ≢ true → IsComplete new
