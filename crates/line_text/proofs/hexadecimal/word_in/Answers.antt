use Rattle.std.proofs.Common.{◌∙◌}
use Rattle.line_text.proofs.Hexadecimals.{again}
use Rattle.line_text.proofs.hexadecimal.word_in.Goals as goal

pub returns-then-is_hexadecimal : goal.returns-then-is_hexadecimal
returns-then-is_hexadecimal c =
    c.is_hexadecimal.ensures.0 c.if-is_hexadecimal.true ∙ again c.args.bytes.now c.from_be_bytes.result c.requires (λ i. (c.type_inv.bytes i).fits) c.from_be_bytes.ensures
