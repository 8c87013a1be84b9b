use Rattle.std.proofs.Common.{subst, ◌∙◌}
use Rattle.std.specs.Option.{MatchOption}
use Rattle.watched_literals.proofs.Numbers.{map-clauses}
use Rattle.refute_check.proofs.Renamed.{judged-behind}
use Rattle.refute_check.specs.Refutations.{StepsFollow, IsFirstBad}
use Rattle.refute_check.proofs.checking.numbered_bad.Goals as goal

pub returns : goal.returns
returns c =
    let old = c.renumber_all.new.self.variables.keys in
    let new = c.renumber_all-2.new.self.variables.keys in
    let clauses = c.in_ok-clauses.clauses.items in
    let log = c.in_ok-log.log.items in
    let grown = c.in_ok-log.ensures.grown in
    judged-behind new grown.names c.args.formula.now c.args.steps.now clauses log c.in_ok-bad.bad
    (map-clauses old new clauses grown c.in_ok-clauses.ensures.numbered ∙ c.in_ok-clauses.ensures.behind)
    c.in_ok-log.ensures.behind
    (subst (λ cs. MatchOption c.in_ok-bad.bad (StepsFollow cs log) (λ place. IsFirstBad cs log place)) c.deref.ensures.value
    (subst (λ ss. MatchOption c.in_ok-bad.bad (StepsFollow c.deref.result.now ss) (λ place. IsFirstBad c.deref.result.now ss place)) c.deref-2.ensures.value c.in_ok-bad.ensures))
