use Rattle.std.proofs.Common.{◌⊎◌, IsBitSet}
use Rattle.rule_body.specs.Prelude.{named, guests_of}
use Rattle.rule_form.specs.Prelude.{WrittenAt}
use Rattle.rule_form.proofs.Growing.{at-or-below}
use Rattle.rule_form.proofs.window.are_written.Goals as goal

pub loop-name-preserved : goal.loop-name-preserved
loop-name-preserved c =
    let gs = guests_of c.args.goal.now in
    at-or-below (λ k. IsBitSet c.args.dead k → WrittenAt gs 0 (named k) ⊎ (WrittenAt gs 1 (named k) ⊎ WrittenAt gs 2 (named k))) c.loop-name.name c.loop-name.invariant (c.is_settled.ensures.0 c.if-not-is_settled.false)
