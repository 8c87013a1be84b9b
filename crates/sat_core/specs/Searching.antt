-- The state of a search, and what its parts do to it.
use Rattle.std.specs.Prelude.{◌≡◌, ◌+◌, ◌*◌, ◌++◌, ◌∷◌, ℕ, List, [], ℤ, length, min}
use Rattle.std.specs.List.{All}
use Rattle.std.specs.declared.option.Option.{Option}
use Rattle.std.specs.declared.option.Option.TheVariants.{None}
use Rattle.word_kit.specs.Prelude.{IsFormula, AreClauses}
use Rattle.word_kit.specs.declared.formulas.Formula.{Formula}
use Rattle.watched_literals.specs.Prelude.{IsWithin, IsReady, IsAbove, IsComplete, IsLeveled}
use Rattle.watched_literals.specs.declared.levels.Levels.{Levels}
use Rattle.sat_core.specs.Decisions.{IsClosedUnder, IsGained, Leads}
use Rattle.sat_core.specs.Lessons.{IsLesson}
use Rattle.sat_core.specs.Verdicts.{IsModel}
use Rattle.sat_core.specs.declared.search.Search.{Search}
use Rattle.sat_core.specs.declared.solving.Found.{Found}
use Rattle.sat_core.specs.declared.solving.Found.TheVariants.{Model, Lesson}

-- how many numbers the literals of the variables up to this one have
abbrev pub room_for : ℕ → ℕ
room_for variables = 2 * min variables 2147483647 + 2

-- the clauses of the formula and those that were learned
abbrev pub known : Search → List (List ℤ)
known s = s.formula.now.clauses ++ s.steps.items

-- literals are assumed above a root, all that follows is true, and no clause is false
pub record IsSearching (s : Search) : Type 0 where
  pub above : (root : List ℤ) × IsAbove (known s) root s.propagator
  pub complete : IsComplete s.propagator
  pub closed : IsClosedUnder (known s) s.assumed.items s.propagator.trail.literals
  pub within : All (IsWithin s.propagator.trail.room) s.assumed.items
  pub room : s.propagator.trail.room ≡ room_for s.formula.now.variables

-- nothing is assumed
pub record IsRooted (s : Search) : Type 0 where
  pub ready : IsReady (known s) s.propagator
  pub bare : s.assumed.items ≡ []
  pub room : s.propagator.trail.room ≡ room_for s.formula.now.variables
  pub formula : IsFormula s.formula.now
  pub literals : AreClauses s.steps.items

-- nothing is learned from this formula
pub record IsStart (formula : Formula) (s : Search) : Type 0 where
  pub rooted : IsRooted s
  pub formula_is : s.formula.now ≡ formula
  pub none : s.steps.items ≡ []

-- a clause is false above a root of this many literals: the clause of all assumed literals follows and is news by the last
pub record IsConflict (root : ℕ) (last : ℤ) (s : Search) : Type 0 where
  pub above : (literals : List ℤ) × (root ≡ length literals) × IsAbove (known s) literals s.propagator
  pub gained : IsGained (known s) s.assumed.items last
  pub within : All (IsWithin s.propagator.trail.room) s.assumed.items
  pub room : s.propagator.trail.room ≡ room_for s.formula.now.variables
  pub formula : IsFormula s.formula.now
  pub literals : AreClauses s.steps.items

-- the formula, the learned clauses and the root stay
pub record Keeps (old new : Search) : Type 0 where
  pub formula : new.formula.now ≡ old.formula.now
  pub steps : new.steps.items ≡ old.steps.items
  pub room : new.propagator.trail.room ≡ old.propagator.trail.room
  pub above : (root : List ℤ) → IsAbove (known old) root old.propagator → IsAbove (known old) root new.propagator

-- what assuming literals leads to: a conflict by the last of them, or values for the wanted ones
pub record Reaches (wanted : ℤ → Type 0) (old new : Search) (last : Option ℤ) : Type 0 where
  pub keeps : Keeps old new
  pub within : All (IsWithin old.propagator.trail.room) new.assumed.items
  pub complete : last ≡ None → IsComplete new.propagator
  pub leads : Leads (known old) wanted old.propagator.trail.literals new.propagator.trail.literals new.assumed.items last

-- nothing is assumed any more
pub record Restarts (root : ℕ) (old new : Search) : Type 0 where
  pub formula : new.formula.now ≡ old.formula.now
  pub steps : new.steps.items ≡ old.steps.items
  pub room : new.propagator.trail.room ≡ old.propagator.trail.room
  pub bare : new.assumed.items ≡ []
  pub ready : (literals : List ℤ) → root ≡ length literals → IsAbove (known old) literals old.propagator → IsReady (known old) new.propagator

-- a clause that is worth learning, found by a search that is back at its root
pub record IsTaught (old new : Search) (clause : List ℤ) : Type 0 where
  pub lesson : IsLesson (known old) clause
  pub within : All (IsWithin old.propagator.trail.room) clause
  pub rooted : IsRooted new
  pub formula : new.formula.now ≡ old.formula.now
  pub steps : new.steps.items ≡ old.steps.items

-- values that satisfy the formula, or a clause that is worth learning
abbrev pub Finds : Search → Search → Found → Type 0
Finds old new (Model values) = IsModel old.formula.now values.items
Finds old new (Lesson clause) = IsTaught old new clause.items

-- the clause is the last of the learned ones
pub record IsLearned (old new : Search) (clause : List ℤ) : Type 0 where
  pub rooted : IsRooted new
  pub formula : new.formula.now ≡ old.formula.now
  pub steps : new.steps.items ≡ old.steps.items ++ clause ∷ []

-- what a search goes by knows the same clauses
pub record IsGuided (clauses : List (List ℤ)) (room : ℕ) (levels : Levels) : Type 0 where
  pub leveled : IsLeveled clauses levels
  pub room_is : levels.propagator.trail.room ≡ room
