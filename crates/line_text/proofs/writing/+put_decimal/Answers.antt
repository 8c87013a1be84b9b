use Rattle.std.proofs.Common.{◌+◌, ◌/◌, ◌%◌, ◌++◌, ◌∷◌, [], ap, sym, ◌∙◌, append_assoc, arith, decimal}
use Rattle.std.proofs.lemmas.Fmt.{decimal_digit, decimal_step}
use Rattle.line_text.proofs.writing.+put_decimal.Goals as goal

pub returns-then-number-lt10 : goal.returns-then-number-lt10
returns-then-number-lt10 t c = c.in_ok-push.ensures.items ∙ ap (λ l. c.args.out.now.items ++ l) (sym (decimal_digit c.args.number c.if-number-lt10.true))

pub returns : goal.returns
returns t c =
    c.in_ok-push-2.ensures.items ∙ ap (λ l. l ++ (48 + c.args.number % 10) ∷ []) c.in_ok-put_decimal.ensures
    ∙ append_assoc c.args.out.now.items (decimal (c.args.number / 10)) ((48 + c.args.number % 10) ∷ [])
    ∙ ap (λ l. c.args.out.now.items ++ l) (sym (decimal_step c.args.number c.if-number-lt10.false (omega (arith, c.ranges.number.fits))))
