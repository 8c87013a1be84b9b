use Rattle.std.proofs.Common.{◌∙◌, ap, true}
use Rattle.word_kit.specs.Prelude.{shifted_arith, quotient}
use Rattle.ppc_sums.proofs.Quotients.{signed_is}
use Rattle.ppc_sums.proofs.products.signed_quotient.Goals as goal

pub returns-clause-gives : goal.returns-clause-gives
returns-clause-gives g c = record {
  owned = c.in_ok-quotient.ensures.quotient_owned;
  means = λ v h.
      let x = g.A.Alg.word c.args.x v in
      let y = g.A.Alg.word c.args.y v in
      let within_x = g.met.A.Alg.in_range c.args.alg.now c.args.x v c.requires.x_owned in
      let within_y = g.met.A.Alg.in_range c.args.alg.now c.args.y v c.requires.y_owned in
      let signs = c.in_ok-signs.ensures.means v (c.div.ensures.later.earlier v h) ∙ ap (λ k. shifted_arith x k) (c.lit-most.ensures.means v) in
      c.in_ok-quotient.ensures.quotient v h ∙ ap (λ w. quotient w x y true) signs ∙ signed_is x y within_x within_y;
}
