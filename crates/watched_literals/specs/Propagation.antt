-- Unit propagation over clauses, each of which is read as the set of its literals, and what follows by it: reverse unit
-- propagation (RUP).
use Rattle.std.specs.Prelude.{◌≢◌, ◌⊎◌, not, List, ℤ, neg_ℤ}
use Rattle.std.specs.List.{Contains, filter}
use Rattle.std.specs.Ordering.{int_eq}

-- what is true once the literals of a list are set to false: their opposites; and, for each clause, the literal that is left
-- where all its other literals are false
pub data IsMadeTrue (clauses : List (List ℤ)) (falses : List ℤ) : ℤ → Type 0 where
  opposite : (literal : ℤ) → Contains falses (neg_ℤ literal) → IsMadeTrue clauses falses literal
  unit : (clause : List ℤ) (literal : ℤ) → Contains clauses clause → Contains clause literal
      → ((other : ℤ) → Contains clause other → other ≢ literal → IsMadeTrue clauses falses (neg_ℤ other))
      → IsMadeTrue clauses falses literal

-- each literal of the clause is made false
abbrev pub IsMadeFalse : List (List ℤ) → List ℤ → List ℤ → Type 0
IsMadeFalse clauses falses clause = (literal : ℤ) → Contains clause literal → IsMadeTrue clauses falses (neg_ℤ literal)

-- unit propagation leads to a clause that is false
abbrev pub HasConflict : List (List ℤ) → List ℤ → Type 0
HasConflict clauses falses = (clause : List ℤ) × Contains clauses clause × IsMadeFalse clauses falses clause

-- a literal and its opposite
abbrev pub IsTautology : List ℤ → Type 0
IsTautology clause = (literal : ℤ) × Contains clause literal × Contains clause (neg_ℤ literal)

-- a clause follows where setting all its literals to false leads to a clause that is false
abbrev pub Follows : List (List ℤ) → List ℤ → Type 0
Follows clauses clause = IsTautology clause ⊎ HasConflict clauses clause

abbrev pub without : ℤ → List ℤ → List ℤ
without literal clause = filter (λ other. not (int_eq other literal)) clause

-- a clause says something new where, for one of its literals, setting all others to false leads to no false clause and
-- doesn't make that literal true
abbrev pub IsNews : List (List ℤ) → List ℤ → Type 0
IsNews clauses clause =
    (literal : ℤ) × Contains clause literal × (¬ HasConflict clauses (without literal clause)) × (¬ IsMadeTrue clauses (without literal clause) literal)

-- no literal of the clause can be left out
abbrev pub IsTight : List (List ℤ) → List ℤ → Type 0
IsTight clauses clause = (literal : ℤ) → Contains clause literal → ¬ Follows clauses (without literal clause)
