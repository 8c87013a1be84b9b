use Rattle.std.proofs.Common.{ℕ, cond, ◌∙◌, ap}
use Rattle.machines.specs.Prelude.{put_cr, put_xer}
use Rattle.ppc_step.proofs.results.put_results.Goals as goal

pub returns : goal.returns
returns c =
    c.put_xer.ensures ∙ ap (λ (f : ℕ → ℕ). cond c.args.form.carries (put_xer c.args.effect.now.xer f) f)
    (c.put_cr.ensures ∙ ap (λ (f : ℕ → ℕ). cond c.args.form.records (put_cr c.args.effect.now.cr f) f) c.put_gpr.ensures)
