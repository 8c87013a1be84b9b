use Rattle.std.proofs.Common.{sym, ◌∙◌}
use Rattle.line_text.proofs.Hexadecimals.{no_word, one_word}
use Rattle.line_text.proofs.hexadecimal.word_of.Goals as goal

pub returns-then-is_err : goal.returns-then-is_err
returns-then-is_err c = λ w h e. no_word c.args.text.now c.decode_to_slice.new.out c.decode_to_slice.result c.decode_to_slice.ensures.value (sym c.is_err.ensures.value ∙ c.if-is_err.true) w e

pub returns : goal.returns
returns c = one_word c.args.text.now c.decode_to_slice.new.out c.decode_to_slice.result c.decode_to_slice.ensures.value c.word_in.result c.word_in.ensures
