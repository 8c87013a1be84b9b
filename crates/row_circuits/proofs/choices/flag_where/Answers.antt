use Rattle.std.proofs.Common.{◌&&◌, sym, ap, ◌∙◌}
use Rattle.chosen_inputs.specs.Choices.{chosen_map, chosen_none_at}
use Rattle.row_circuits.proofs.Running.{if_ok_map}
use Rattle.row_circuits.proofs.choices.flag_where.Goals as goal

pub returns-then-asked-clause-chosen : goal.returns-then-asked-clause-chosen
returns-then-asked-clause-chosen c = if_ok_map _ _ c.input_flag.result (λ r f b. chosen_map _ _ _ _ (λ w e. e ∙ sym (ap (λ a. a && b) c.if-asked.true)) (f b)) c.input_flag.ensures.chosen

pub returns-else-asked-clause-chosen : goal.returns-else-asked-clause-chosen
returns-else-asked-clause-chosen c = λ b. chosen_none_at _ _ _ (ap (λ s. s.nodes.keys) c.flag.ensures.same) (λ w. c.flag.ensures.means w ∙ sym (ap (λ a. a && b) c.if-asked.false))
