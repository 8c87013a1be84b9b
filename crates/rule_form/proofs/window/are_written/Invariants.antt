use Rattle.std.proofs.Common.{ℕ, ◌<◌, ◌⊎◌, IsBitSet}
use Rattle.rule_body.specs.Prelude.{named, guests_of}
use Rattle.rule_form.specs.Prelude.{WrittenAt}
use Rattle.rule_form.proofs.window.are_written.Given as goal

abbrev pub invariant-loop-name : goal.invariant-loop-name
invariant-loop-name l =
    (k : ℕ) → k < l.name → IsBitSet l.dead k → WrittenAt (guests_of l.goal) 0 (named k) ⊎ (WrittenAt (guests_of l.goal) 1 (named k) ⊎ WrittenAt (guests_of l.goal) 2 (named k))
