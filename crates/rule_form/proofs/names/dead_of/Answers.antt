use Rattle.std.proofs.Common.{map, ap, sym, ◌∙◌}
use Rattle.std.proofs.lemmas.Bool.{false≢true}
use Rattle.rule_form.proofs.DeadNames.{dead-said}
use Rattle.rule_form.proofs.names.dead_of.Goals as goal

pub returns : goal.returns
returns c =
    dead-said c.args.word.now (map (λ p. p.now) c.deref.result.now) c.bits_of.result (λ d. false≢true (sym c.if-is.false ∙ c.is.ensures.1 d))
    (ap (map (λ p. p.now)) c.deref.ensures.value ∙ c.in_ok-pieces.ensures) c.bits_of.ensures
