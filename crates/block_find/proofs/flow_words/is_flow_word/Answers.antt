use Rattle.block_find.proofs.Reading.{flow_of_some}
use Rattle.block_find.proofs.flow_words.is_flow_word.Goals as goal

pub returns-in-Some : goal.returns-in-Some
returns-in-Some c = flow_of_some c.args.word c.in-Some.instr c.is_flow.result c.in-Some.ensures.found c.in-Some.ensures.only c.is_flow.ensures
