-- Rules: a goal, a body for it, and the clauses of a refutation.
use Rattle.std.specs.Prelude.{ℕ, ◌<◌, ◌≤◌, ◌^◌, List, [], ◌∷◌, ℤ, length}
use Rattle.std.specs.List.{AllByRecursion}
use Rattle.word_kit.specs.Prelude.{variable}
use Rattle.rule_body.specs.declared.rule.Rule.{Rule}
use Rattle.rule_body.specs.Goals.{IsGoal}
use Rattle.rule_body.specs.Bodies.{IsBody}

-- the variables are above `low`, below 2^31, and rise
abbrev pub AreRising : ℕ → List ℤ → Type 0
AreRising low [] = Unit {0}
AreRising low (literal ∷ more) = (low < variable literal) × (variable literal < 2 ^ 31) × AreRising (variable literal) more

pub record IsRule (rule : Rule) : Type 0 where
  pub goal : IsGoal rule.goal
  pub body : IsBody rule.goal rule.body
  pub log : AllByRecursion (AreRising 0) rule.log.clauses

-- a list that a file can hold
pub record AreRules (rules : List Rule) : Type 0 where
  pub few : length rules ≤ 1024
  pub each : AllByRecursion IsRule rules
