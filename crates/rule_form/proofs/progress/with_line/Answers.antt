use Rattle.std.proofs.Common.{◌≡◌, sym, subst, ◌∙◌, arith}
use Rattle.std.proofs.lemmas.Bool.{false≢true}
use Rattle.rule_body.specs.declared.line.HostLine.{HostLine}
use Rattle.rule_body.specs.Prelude.{template_of, AreHostLines, lines_of, no_line}
use Rattle.rule_form.proofs.Growing.{take-set, clear-set, hosts-more, length-take}
use Rattle.rule_form.proofs.progress.with_line.Goals as goal

pub returns : goal.returns
returns c =
    let b = c.args.body in
    let t = template_of c.args.goal.now in
    let n = length-take b.count b.lines (omega (arith, c.if-body-ge4.false)) in
    let grown = take-set b.lines b.count c.args.line (omega (arith, c.if-body-ge4.false)) in (
      record {
        count = omega (arith, c.if-body-ge4.false);
        lines = subst (AreHostLines t) (sym grown) (hosts-more t (lines_of b) c.args.line c.requires.body.lines (omega (arith, n, c.if-body-ge4.false)) (c.fits.ensures.0 c.if-not-fits.false)
            (λ one some. false≢true (sym c.if-is_second.false ∙ c.is_second.ensures.1 (one, some))));
        clear = clear-set (λ (line : HostLine). line ≡ no_line) b.lines b.count c.args.line (omega (arith, c.if-body-ge4.false)) c.requires.body.clear;
      },
      grown,
    )
