-- When a verdict may be given on a formula.
use Rattle.std.specs.Prelude.{◌≡◌, ◌≤◌, ◌++◌, ◌∷◌, ℕ, zero, suc, Bool, false, List, [], ℤ, length, slice_index_or}
use Rattle.word_kit.specs.Prelude.{Satisfies, AreClauses}
use Rattle.word_kit.specs.declared.formulas.Formula.{Formula}
use Rattle.refute_check.specs.Refutations.{IsRefutation}
use Rattle.sat_core.specs.Lessons.{AreLessons, AreDifferent}
use Rattle.sat_core.specs.declared.verdict.Verdict.{Verdict}
use Rattle.sat_core.specs.declared.verdict.Verdict.TheVariants.{Model, Refuted, Spent}

-- the value of a variable, the first value being that of variable 1
abbrev pub value_of : List Bool → ℕ → Bool
value_of values zero = false
value_of values (suc variable) = slice_index_or values variable false

-- a value for each variable, under which each clause has a true literal
pub record IsModel (formula : Formula) (values : List Bool) : Type 0 where
  pub one_each : length values ≡ formula.variables
  pub satisfies : Satisfies (value_of values) formula.clauses

-- steps that are lessons, no two the same
pub record AreLearned (formula steps : List (List ℤ)) : Type 0 where
  pub lessons : AreLessons formula steps
  pub different : AreDifferent steps

-- a refutation: at most `limit` learned steps, and then the empty one
pub record IsRefuted (formula : List (List ℤ)) (limit : ℕ) (steps : List (List ℤ)) : Type 0 where
  pub refutation : IsRefutation formula steps
  pub learned : (before : List (List ℤ)) × (steps ≡ before ++ [] ∷ []) × (length before ≤ limit) × AreLearned formula before
  pub literals : AreClauses steps

-- exactly `limit` learned steps
pub record IsSpent (formula : List (List ℤ)) (limit : ℕ) (steps : List (List ℤ)) : Type 0 where
  pub count : length steps ≡ limit
  pub learned : AreLearned formula steps
  pub literals : AreClauses steps

abbrev pub IsVerdict : Formula → ℕ → Verdict → Type 0
IsVerdict formula limit (Model values) = IsModel formula values
IsVerdict formula limit (Refuted log) = IsRefuted formula.clauses limit log.clauses
IsVerdict formula limit (Spent log) = IsSpent formula.clauses limit log.clauses
