use Rattle.std.proofs.Common.{ℕ, sym, subst}
use Rattle.block_find.specs.Prelude.{Names}
use Rattle.liveness.proofs.reading.target.Goals as goal

pub returns-in-Some : goal.returns-in-Some
returns-in-Some c =
    let named = c.in-Some.ensures in
    λ s lt. (
      λ e. subst (λ (k : ℕ). Names c.args.code.now.first c.args.code.now.words.now c.args.place k) e named.1,
      λ names. sym (named.2 s names),
    )
