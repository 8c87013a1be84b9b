use Rattle.std.proofs.Common.{◌≢◌, ℕ, subst, arith}
use Rattle.block_find.specs.Prelude.{address_of}
use Rattle.code_layout.proofs.Laying.{nowhere}
use Rattle.code_layout.proofs.block_code.live_before.Goals as goal

pub returns-in-None : goal.returns-in-None
returns-in-None c =
    let sets = c.args.live.now in
    let here = c.first.ensures in
    let many = c.len.ensures in
    nowhere sets.first sets.bits 0 c.args.address (λ k lt. subst (λ (f : ℕ). c.args.address ≢ address_of f k) here (c.in-None.ensures k (omega (arith, lt, many))))
