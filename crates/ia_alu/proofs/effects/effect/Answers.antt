use Rattle.std.proofs.Common.{◌∙◌, ap, IfOk, Ok, Err}
use Rattle.std.specs.declared.result.Result.{Result}
use Rattle.ia_alu.specs.Values.{meant, outcome_of}
use Rattle.ia_alu.proofs.Meanings.{row_is}
use Rattle.ia_alu.proofs.effects.effect.Goals as goal

mapped : {T E : Type 0} (r : Result T E) {P Q : T → Type 0} → IfOk r P → ((x : T) → P x → Q x) → IfOk r Q
mapped (Ok x) p f = f x p
mapped (Err e) p f = tt

pub returns-clause-gives : goal.returns-clause-gives
returns-clause-gives g c = mapped c.row.result c.row.ensures.gives (λ r m. record {
  owned = m.owned;
  means = λ v h.
      ap (λ e. outcome_of (λ n. n) (λ b. b) e) (m.means v h)
      ∙ row_is c.args.op.now (meant (λ w. g.A.Alg.word w v) (λ b. g.A.Alg.truth b v) c.args.from.now) c.requires.profile
      (g.met.A.Alg.in_range c.args.alg.now c.args.from.now.x v c.requires.owned.x_owned)
      (g.met.A.Alg.in_range c.args.alg.now c.args.from.now.y v c.requires.owned.y_owned);
})
