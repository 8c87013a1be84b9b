use Rattle.std.proofs.Common.{◌≡◌, false, true, ℕ, Some, sym, ap, ◌∙◌, subst, take, arith}
use Rattle.std.proofs.lemmas.Bool.{false≢true}
use Rattle.rule_match.specs.Matching.{IsBindingAt}
use Rattle.rule_match.specs.SlotNumbers.{ArePlaces}
use Rattle.rule_match.proofs.SlotCounts.{places_of}
use Rattle.rule_match.proofs.Pieces.{pieces, read_are, the_binding}
use Rattle.rule_match.proofs.AnyMatch.{no_match}
use Rattle.rule_match.proofs.matching.match_at.Goals as goal

pub returns-then-window-goal-clause-only : goal.returns-then-window-goal-clause-only
returns-then-window-goal-clause-only c = λ b at.
    let l = (pieces c.args.rule.now c.args.window.now c.args.map.now c.args.dead.now c.requires.goal c.one_instruction.ensures c.goal_lengths.ensures b at).many in
    absurd (c.if-window-goal.true l)

pub returns-in_err-slot-clause-only : goal.returns-in_err-slot-clause-only
returns-in_err-slot-clause-only c = λ b at.
    let slots = take c.args.rule.now.goal.parameters c.args.rule.now.goal.slots in
    let its = (pieces c.args.rule.now c.args.window.now c.args.map.now c.args.dead.now c.requires.goal c.one_instruction.ensures c.goal_lengths.ensures b at).slots in
    let same = read_are c.args.rule.now c.args.window.now c.args.map.now c.args.dead.now c.requires.goal c.one_instruction.ensures c.goal_lengths.ensures b at c.gprs_at-gpr.result (omega arith)
    (λ k lt. c.gprs_at-gpr.ensures.read at.words at.found at.matches.window.words at.are k lt) c.gprs_at-gpr.ensures.past in
    absurd (c.in_err-slot.ensures (subst (λ g. ArePlaces slots c.args.map.now g) (sym same) (places_of slots c.args.map.now b.gpr b.slot its)))

pub returns-then-is_match_at-clause-only : goal.returns-then-is_match_at-clause-only
returns-then-is_match_at-clause-only c = λ b at.
    ap Some (the_binding c.args.rule.now c.args.window.now c.args.map.now c.args.dead.now c.requires.goal c.one_instruction.ensures c.goal_lengths.ensures b at c.gprs_at-gpr.result c.in_ok-slot.slot (omega arith)
    (λ k lt. c.gprs_at-gpr.ensures.read at.words at.found at.matches.window.words at.are k lt) c.gprs_at-gpr.ensures.past c.in_ok-slot.ensures)

pub returns-else-is_match_at-clause-only : goal.returns-else-is_match_at-clause-only
returns-else-is_match_at-clause-only c = λ b at.
    let same = the_binding c.args.rule.now c.args.window.now c.args.map.now c.args.dead.now c.requires.goal c.one_instruction.ensures c.goal_lengths.ensures b at c.gprs_at-gpr.result c.in_ok-slot.slot (omega arith)
    (λ k lt. c.gprs_at-gpr.ensures.read at.words at.found at.matches.window.words at.are k lt) c.gprs_at-gpr.ensures.past c.in_ok-slot.ensures in
    absurd (false≢true (sym c.if-is_match_at.false ∙ c.is_match_at.ensures.1 (subst (λ x. IsBindingAt c.args.rule.now c.args.window.now c.args.map.now c.args.dead.now x) (sym same) at)))

pub returns-then-window-goal-clause-none : goal.returns-then-window-goal-clause-none
returns-then-window-goal-clause-none c =
    no_match c.args.rule.now c.args.window.now c.args.map.now c.args.dead.now c.requires.goal c.one_instruction.ensures c.goal_lengths.ensures (returns-then-window-goal-clause-only c)

pub returns-in_err-slot-clause-none : goal.returns-in_err-slot-clause-none
returns-in_err-slot-clause-none c =
    no_match c.args.rule.now c.args.window.now c.args.map.now c.args.dead.now c.requires.goal c.one_instruction.ensures c.goal_lengths.ensures (returns-in_err-slot-clause-only c)

pub returns-else-is_match_at-clause-none : goal.returns-else-is_match_at-clause-none
returns-else-is_match_at-clause-none c =
    no_match c.args.rule.now c.args.window.now c.args.map.now c.args.dead.now c.requires.goal c.one_instruction.ensures c.goal_lengths.ensures (returns-else-is_match_at-clause-only c)
