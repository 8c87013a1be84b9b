-- Which bodies a window may have, and what they cost. This project's own.
use Rattle.std.specs.Prelude.{◌≡◌, ◌⊎◌, ℕ, ◌+◌, ◌≤◌, List, length, Option, Some, None, take, drop, count_by, sum_by}
use Rattle.std.specs.List.{AllByRecursion}
use Rattle.ia_codec.specs.declared.op.Op.TheVariants.{Int3}
use Rattle.ia_codec.specs.Prelude.{cost_of}
use Rattle.rule_body.specs.declared.goal.Goal.{Goal}
use Rattle.rule_body.specs.declared.line.HostLine.{HostLine}
use Rattle.rule_body.specs.declared.body.Body.{Body}
use Rattle.rule_body.specs.declared.goal.Guest.{Guest}
use Rattle.rule_body.specs.Templates.{Template, IsBranching}
use Rattle.rule_body.specs.Goals.{template_of}
use Rattle.rule_body.specs.Ops.{accesses}
use Rattle.rule_body.specs.Lines.{IsHostLine}

-- at most four lines, of which one accesses memory of the guest
pub record AreHostLines (t : Template) (lines : List HostLine) : Type 0 where
  pub few : length lines ≤ 4
  pub each : AllByRecursion (IsHostLine t) lines
  pub one_access : count_by (λ line. accesses line.op) lines ≤ 1

-- the numbers of the conditions that a jump can have
abbrev pub IsCondition : ℕ → Type 0
IsCondition c = ((2 ≤ c) × (c ≤ 9)) ⊎ ((12 ≤ c) × (c ≤ 15))

-- a window that ends in a branch has the condition under which it is taken, and no other has one
abbrev pub IsTake : List Guest → Option ℕ → Type 0
IsTake guests None = IsBranching guests → ⊥
IsTake guests (Some c) = IsBranching guests × IsCondition c

abbrev pub lines_of : Body → List HostLine
lines_of body = take body.count body.lines

-- the place of a line that isn't there
abbrev pub no_line : HostLine
no_line = record { op = Int3; hole = None }

-- the body is one for the goal, and nothing stands past its lines
pub record IsBody (goal : Goal) (body : Body) : Type 0 where
  pub count : body.count ≤ 4
  pub lines : AreHostLines (template_of goal) (lines_of body)
  pub clear : AllByRecursion (λ line. line ≡ no_line) (drop body.count body.lines)
  pub taken : IsTake (template_of goal).guests body.take

-- a jump on the condition costs 1
abbrev pub take_cost : Option ℕ → ℕ
take_cost None = 0
take_cost (Some c) = 1

abbrev pub cost_of_body : Body → ℕ
cost_of_body body = sum_by (λ line. cost_of line.op) (lines_of body) + take_cost body.take
