-- The state of the grammar that the code's progress is.
use Rattle.std.specs.Prelude.{map}
use Rattle.rule_form.specs.declared.progress.Progress.{Progress}
use Rattle.rule_form.specs.declared.progress.Progress.TheVariants as progress
use Rattle.rule_body.specs.Prelude.{guests_of, template_of, IsTidy, IsGoal, lines_of, IsBody, IsRule}
use Rattle.rule_form.specs.Texts.{written}
use Rattle.rule_form.specs.Machine.{State, Start, Between, InGuests, InDead, InHosts, InClauses}
use Rattle.rule_form.specs.Partial.{IsPartial, IsPartialBody}
use Rattle.std.specs.List.{AllByRecursion}

abbrev pub state_of : Progress → State
state_of progress.Start = Start
state_of (progress.Between rules) = Between (map written rules.items)
state_of (progress.Guests rules goal) = InGuests (map written rules.items) (guests_of goal)
state_of (progress.Dead rules goal) = InDead (map written rules.items) (guests_of goal) (template_of goal).slots
state_of (progress.Hosts rules goal body) = InHosts (map written rules.items) (template_of goal) (lines_of body)
state_of (progress.Clauses rules goal body clauses) =
    InClauses (map written rules.items) (record { template = template_of goal; lines = lines_of body; take = body.take; clauses = clauses.items })

-- what is in arrays is in order, and each whole rule is one
abbrev pub IsReached : Progress → Type 0
IsReached progress.Start = Unit {0}
IsReached (progress.Between rules) = AllByRecursion IsRule rules.items
IsReached (progress.Guests rules goal) = AllByRecursion IsRule rules.items × IsPartial goal
IsReached (progress.Dead rules goal) = AllByRecursion IsRule rules.items × IsTidy goal
IsReached (progress.Hosts rules goal body) = AllByRecursion IsRule rules.items × IsGoal goal × IsPartialBody goal body
IsReached (progress.Clauses rules goal body clauses) = AllByRecursion IsRule rules.items × IsGoal goal × IsBody goal body
