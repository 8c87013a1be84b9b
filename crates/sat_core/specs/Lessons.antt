-- Clauses that are worth learning, and lists of them.
use Rattle.std.specs.Prelude.{◌≢◌, ◌↔◌, ◌<◌, ◌++◌, ℕ, List, [], ℤ, length, take, slice_index_or}
use Rattle.std.specs.List.{Contains}
use Rattle.watched_literals.specs.Prelude.{Follows, IsNews, IsTight, IsTautology}

-- the clause follows, says something new, and has no literal that could be left out; it isn't empty and no tautology
pub record IsLesson (clauses : List (List ℤ)) (clause : List ℤ) : Type 0 where
  pub some : clause ≢ []
  pub plain : ¬ IsTautology clause
  pub follows : Follows clauses clause
  pub news : IsNews clauses clause
  pub tight : IsTight clauses clause

-- each step is a lesson from the formula and the earlier steps
abbrev pub AreLessons : List (List ℤ) → List (List ℤ) → Type 0
AreLessons formula steps = (place : ℕ) → place < length steps → IsLesson (formula ++ take place steps) (slice_index_or steps place [])

-- the same literals
abbrev pub AreSame : List ℤ → List ℤ → Type 0
AreSame one other = (literal : ℤ) → Contains one literal ↔ Contains other literal

-- no two steps have the same literals
abbrev pub AreDifferent : List (List ℤ) → Type 0
AreDifferent steps = (earlier later : ℕ) → earlier < later → later < length steps
    → ¬ AreSame (slice_index_or steps earlier []) (slice_index_or steps later [])
