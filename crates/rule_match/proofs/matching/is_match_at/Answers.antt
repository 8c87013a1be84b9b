use Rattle.std.proofs.Common.{◌≡◌, Bool, not, false, true, sym, ◌∙◌, subst, take, refl, arith}
use Rattle.std.proofs.lemmas.Bool.{false≢true}
use Rattle.std.specs.Cmp.Lexicographic.{same_text, other_text}
use Rattle.rule_match.specs.SlotNumbers.{AreSlotNumbers}
use Rattle.rule_match.proofs.SlotCounts.{same_numbers, places_of}
use Rattle.rule_match.proofs.Pieces.{pieces, joined}
use Rattle.rule_match.proofs.matching.is_match_at.Goals as goal

not_true : (b : Bool) → true ≡ not b → false ≡ b
not_true true e = sym e
not_true false e = refl

not_false : (b : Bool) → false ≡ not b → true ≡ b
not_false true e = refl
not_false false e = sym e

pub returns-then-window-goal : goal.returns-then-window-goal
returns-then-window-goal c = (
  λ e. absurd (false≢true e),
  λ at. let l = (pieces c.args.rule.now c.args.window.now c.args.map.now c.args.dead.now c.requires.goal c.one_instruction.ensures c.goal_lengths.ensures c.args.binding.now at).many in absurd (c.if-window-goal.true l),
)

pub returns-then-not-gprs_fit : goal.returns-then-not-gprs_fit
returns-then-not-gprs_fit c = (
  λ e. absurd (false≢true e),
  λ at. sym c.if-not-gprs_fit.true ∙ c.gprs_fit.ensures.1 (pieces c.args.rule.now c.args.window.now c.args.map.now c.args.dead.now c.requires.goal c.one_instruction.ensures c.goal_lengths.ensures c.args.binding.now at).gprs,
)

pub returns-then-not-are_apart : goal.returns-then-not-are_apart
returns-then-not-are_apart c = (
  λ e. absurd (false≢true e),
  λ at. sym c.if-not-are_apart.true ∙ c.are_apart.ensures.1 (pieces c.args.rule.now c.args.window.now c.args.map.now c.args.dead.now c.requires.goal c.one_instruction.ensures c.goal_lengths.ensures c.args.binding.now at).apart,
)

pub returns-in_default : goal.returns-in_default
returns-in_default c = (
  λ e. absurd (false≢true e),
  λ at. absurd (c.in_default.ensures (places_of (take c.args.rule.now.goal.parameters c.args.rule.now.goal.slots) c.args.map.now c.args.binding.now.gpr c.args.binding.now.slot
      (pieces c.args.rule.now c.args.window.now c.args.map.now c.args.dead.now c.requires.goal c.one_instruction.ensures c.goal_lengths.ensures c.args.binding.now at).slots)),
)

pub returns-then-ne : goal.returns-then-ne
returns-then-ne c = (
  λ e. absurd (false≢true e),
  λ at. absurd (other_text c.in-Some.slot c.args.binding.now.slot (not_true _ c.if-ne.ensures)
      (same_numbers (take c.args.rule.now.goal.parameters c.args.rule.now.goal.slots) c.args.map.now c.args.binding.now.gpr c.in-Some.slot c.args.binding.now.slot c.in-Some.ensures
      (pieces c.args.rule.now c.args.window.now c.args.map.now c.args.dead.now c.requires.goal c.one_instruction.ensures c.goal_lengths.ensures c.args.binding.now at).slots)),
)

pub returns-then-words_fit : goal.returns-then-words_fit
returns-then-words_fit c =
    let slots = take c.args.rule.now.goal.parameters c.args.rule.now.goal.slots in
    let same = same_text c.in-Some.slot c.args.binding.now.slot (not_false _ c.if-ne.ensures) in (
      λ e. joined c.args.rule.now c.args.window.now c.args.map.now c.args.dead.now c.requires.goal c.one_instruction.ensures c.goal_lengths.ensures c.args.binding.now (omega arith) c.requires.map
          (record {
            many = c.if-window-goal.false;
            gprs = c.gprs_fit.ensures.0 c.if-not-gprs_fit.false;
            apart = c.are_apart.ensures.0 c.if-not-are_apart.false;
            slots = subst (λ s. AreSlotNumbers slots c.args.map.now c.args.binding.now.gpr s) same c.in-Some.ensures;
            words = c.words_fit.ensures.0 c.if-words_fit.true;
            names = c.are_dead.ensures.0 e;
          }),
      λ at. c.are_dead.ensures.1 (pieces c.args.rule.now c.args.window.now c.args.map.now c.args.dead.now c.requires.goal c.one_instruction.ensures c.goal_lengths.ensures c.args.binding.now at).names,
    )

pub returns-else-words_fit : goal.returns-else-words_fit
returns-else-words_fit c = (
  λ e. absurd (false≢true (sym c.if-words_fit.false ∙ e)),
  λ at. c.words_fit.ensures.1 (pieces c.args.rule.now c.args.window.now c.args.map.now c.args.dead.now c.requires.goal c.one_instruction.ensures c.goal_lengths.ensures c.args.binding.now at).words,
)
