use Rattle.std.proofs.Common.{◌≡◌, ℕ, ◌∙◌, ap}
use Rattle.std.proofs.lemmas.Bool.{OnTrue_at}
use Rattle.ppc_step.proofs.States.{with_memory}
use Rattle.ppc_step.proofs.state.State.store_word.Goals as goal

pub returns : goal.returns
returns c = λ p g is inside.
    let word : c.gpr-word.result ≡ g.locs c.args.x = c.gpr-word.ensures ∙ ap (λ (f : ℕ → ℕ). f c.args.x) is.registers in
    rw (← word)
    (with_memory p c.args.self.now g _ _ is (OnTrue_at (c.store_big.ensures.answer p g.bytes is.memory ∙ inside) c.store_big.ensures.stored p g.bytes is.memory))
