use Rattle.std.proofs.Common.{if◌then◌else◌, sym, ap, ◌∙◌}
use Rattle.chosen_inputs.specs.Choices.{chosen_map, chosen_none_at}
use Rattle.row_circuits.proofs.Running.{if_ok_map}
use Rattle.row_circuits.proofs.choices.word_where.Goals as goal

pub returns-then-asked-clause-chosen : goal.returns-then-asked-clause-chosen
returns-then-asked-clause-chosen c = if_ok_map _ _ c.input_word.result (λ r f n h. chosen_map _ _ _ _ (λ w e. e ∙ sym (ap (λ a. if a then n else 0) c.if-asked.true)) (f n h)) c.input_word.ensures.chosen

pub returns-else-asked-clause-chosen : goal.returns-else-asked-clause-chosen
returns-else-asked-clause-chosen c = λ n h. chosen_none_at _ _ _ (ap (λ s. s.nodes.keys) c.lit.ensures.same) (λ w. c.lit.ensures.means w ∙ sym (ap (λ a. if a then n else 0) c.if-asked.false))
