use Rattle.line_text.proofs.Hexadecimals.{front, compared}
use Rattle.line_text.proofs.hexadecimal.is_hexadecimal.Goals as goal

pub returns : goal.returns
returns c = let w = rw c.unwrap.ensures at c.encode_to_slice.ensures.written in compared c.args.text.now _ _ c.is.result (front c.encode_to_slice.new.output _ c.args.bytes.now w) c.is.ensures
