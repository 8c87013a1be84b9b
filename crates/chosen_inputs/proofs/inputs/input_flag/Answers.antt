use Rattle.chosen_inputs.proofs.Choosing.{flag_chosen, nodes_begin, nodes_go_on}
use Rattle.chosen_inputs.proofs.inputs.input_flag.Goals as goal

pub returns-clause-chosen : goal.returns-clause-chosen
returns-clause-chosen c = λ b. flag_chosen c.args.gates.now.nodes.keys _ c.in_ok-flag.flag b c.in_ok-flag.ensures.next c.in_ok-flag.ensures.stands

pub returns-clause-held : goal.returns-clause-held
returns-clause-held c = nodes_go_on 0 c.args.gates.now.nodes.keys c.args.gates.now.nodes.keys _ (nodes_begin c.args.gates.now.nodes.keys) c.in_ok-flag.ensures.held
