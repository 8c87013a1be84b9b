use Rattle.std.proofs.Common.{arith}
use Rattle.std.proofs.lemmas.Grind.{common_steps}
use Rattle.outside.specs.Numerals.{BeginsNumeral}
use Rattle.outside.proofs.Decimals.{unbegun, no_text, unread, read, other}
use Rattle.outside.proofs.numerals.decimal.Goals as goal

pub returns-then-not-begins_numeral : goal.returns-then-not-begins_numeral
returns-then-not-begins_numeral c = λ n le.
    let none : BeginsNumeral c.args.text.now → ⊥ = λ begins. grind (arith, common_steps, c.begins_numeral.ensures.1 begins) in
    unbegun c.args.text.now n none (omega (arith, le, c.ranges.most.fits))

pub returns-in_default : goal.returns-in_default
returns-in_default c = λ n le. no_text c.args.text.now n c.in_default.ensures.cases.0 (omega (arith, le, c.ranges.most.fits))

pub returns-in_default-parse : goal.returns-in_default-parse
returns-in_default-parse c = λ n le.
    unread c.in-Ok.text.now c.args.text.now n c.parse.result c.in_default-parse.field-0 c.in-Ok.ensures.cases.0 c.parse.ensures.value.0
    c.in_default-parse.is (omega (arith, le, c.ranges.most.fits))

pub returns-then-number-most : goal.returns-then-number-most
returns-then-number-most c =
    let begins = c.begins_numeral.ensures.0 (grind (arith, common_steps)) in
    (omega (arith, c.if-number-most.true), (read c.in-Ok.text.now c.args.text.now c.in-Ok-parse.number c.parse.result c.in-Ok.ensures.cases.0 begins c.parse.ensures.value.0 c.in-Ok-parse.is).0)

pub returns-else-number-most : goal.returns-else-number-most
returns-else-number-most c = λ n le.
    let begins = c.begins_numeral.ensures.0 (grind (arith, common_steps)) in
    let is = read c.in-Ok.text.now c.args.text.now c.in-Ok-parse.number c.parse.result c.in-Ok.ensures.cases.0 begins c.parse.ensures.value.0 c.in-Ok-parse.is in
    other c.args.text.now c.in-Ok-parse.number n is.0 is.1 (omega (arith, le, c.if-number-most.false))
