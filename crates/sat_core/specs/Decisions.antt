-- What decisions lead to.
use Rattle.std.specs.Prelude.{◌≡◌, ◌⊎◌, ◌<◌, ◌≤◌, ◌^◌, ℕ, suc, Bool, List, ℤ, pos, neg_ℤ, length, slice_index_or, false}
use Rattle.std.specs.List.{Contains, list_any}
use Rattle.std.specs.Ordering.{int_eq}
use Rattle.std.specs.declared.option.Option.{Option}
use Rattle.std.specs.declared.option.Option.TheVariants.{None, Some}
use Rattle.watched_literals.specs.Prelude.{IsWithin, IsMadeTrue, HasConflict, IsTautology, without, AreMadeTrue, IsConsistent, AllSettled, Extends}

-- the trail is what the clauses make true where these literals are set to false, and no clause is false
pub record IsClosedUnder (clauses : List (List ℤ)) (falses trail : List ℤ) : Type 0 where
  pub made : AreMadeTrue clauses falses trail
  pub consistent : IsConsistent trail
  pub settled : AllSettled clauses trail trail
  pub denied : (literal : ℤ) → Contains falses literal → Contains trail (neg_ℤ literal)

-- the clause follows, and says something new by this literal: setting all others to false leads to no false clause and doesn't
-- make it true
pub record IsGained (clauses : List (List ℤ)) (clause : List ℤ) (literal : ℤ) : Type 0 where
  pub inside : Contains clause literal
  pub plain : ¬ IsTautology clause
  pub conflict : HasConflict clauses clause
  pub quiet : ¬ HasConflict clauses (without literal clause)
  pub fresh : ¬ IsMadeTrue clauses (without literal clause) literal

abbrev pub IsAssigned : List ℤ → ℤ → Type 0
IsAssigned trail literal = Contains trail literal ⊎ Contains trail (neg_ℤ literal)

-- the numbers of the list that are literals for which there is room
abbrev pub IsLiteralOf : ℕ → List ℤ → ℤ → Type 0
IsLiteralOf room numbers literal = Contains numbers literal × IsWithin room literal

-- the variables from 1 to this one that literals can name
abbrev pub IsVariable : ℕ → ℤ → Type 0
IsVariable last literal = (variable : ℕ) × (literal ≡ pos variable) × (0 < variable) × (variable ≤ last) × (variable < 2 ^ 31)

-- what deciding literals leads to: a conflict, by which the clause of all decisions is gained, or values for these literals
abbrev pub Leads : List (List ℤ) → (ℤ → Type 0) → List ℤ → List ℤ → List ℤ → Option ℤ → Type 0
Leads clauses wanted old new decided (Some last) = IsGained clauses decided last × Extends old new
Leads clauses wanted old new decided None =
    IsClosedUnder clauses decided new × Extends old new × ((literal : ℤ) → wanted literal → IsAssigned new literal)

-- a value for each variable from 1 to the last: whether the trail makes it true
pub record AreRead (trail : List ℤ) (last : ℕ) (values : List Bool) : Type 0 where
  pub one_each : length values ≡ last
  pub read : (index : ℕ) → index < last → suc index < 2 ^ 31 → slice_index_or values index false ≡ list_any (int_eq (pos (suc index))) trail
