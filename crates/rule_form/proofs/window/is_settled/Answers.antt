use Rattle.std.proofs.Common.{ℕ, ◌⊎◌, subst, sym}
use Rattle.rule_body.specs.Prelude.{guests_of}
use Rattle.rule_form.specs.Prelude.{WrittenAt}
use Rattle.rule_form.proofs.window.is_settled.Goals as goal

pub returns-then-has_bit : goal.returns-then-has_bit
returns-then-has_bit c =
    let gs = guests_of c.args.goal.now in
    let Written : ℕ → Type 0 = λ x. WrittenAt gs 0 x ⊎ (WrittenAt gs 1 x ⊎ WrittenAt gs 2 x) in
    let here = c.has_bit.ensures.0 c.if-has_bit.true in
    (λ t set. subst Written c.named.ensures.location (c.is_written.ensures.0 t), λ h. c.is_written.ensures.1 (subst Written (sym c.named.ensures.location) (h here)))
