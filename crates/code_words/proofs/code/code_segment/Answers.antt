use Rattle.code_words.proofs.CodeSegment.{is_code_segment_of, entry_is_word}
use Rattle.code_words.proofs.code.code_segment.Goals as goal

pub returns-clause-low : goal.returns-clause-low
returns-clause-low c =
    (is_code_segment_of c.requires.0 c.args.program.now c.requires.1 c.as_slice.result.now c.index-as_slice-program.result c.as_slice.ensures c.index-as_slice-program.is).low

pub returns-clause-short : goal.returns-clause-short
returns-clause-short c =
    (is_code_segment_of c.requires.0 c.args.program.now c.requires.1 c.as_slice.result.now c.index-as_slice-program.result c.as_slice.ensures c.index-as_slice-program.is).short

pub returns-clause-entry : goal.returns-clause-entry
returns-clause-entry c = entry_is_word c.requires.0 c.args.program.now c.requires.1
