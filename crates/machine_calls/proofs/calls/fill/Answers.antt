use Rattle.std.proofs.Common.{subst, take}
use Rattle.access.specs.Kept.{Keeps}
use Rattle.machines.specs.Prelude.{put_block}
use Rattle.machine_calls.proofs.calls.fill.Goals as goal

pub returns-clause-bytes : goal.returns-clause-bytes
returns-clause-bytes c = λ p kept keeps.
    subst (λ n. Keeps p (put_block c.args.at (take n c.args.bytes.now) kept) c.put.new.space) c.min-taken.ensures (c.put.ensures p kept keeps)
