use Rattle.std.proofs.Common.{◌≡◌, map, take, decimal}
use Rattle.plan_form.specs.Prelude.{AreWrittenLabels}
use Rattle.plan_form.proofs.line.numbers_of.Given as goal

abbrev pub invariant-loop-word : goal.invariant-loop-word
invariant-loop-word l = record { fit : AreWrittenLabels l.numbers.items; is : map (λ w. w.now) (take l.word-index l.words) ≡ map decimal l.numbers.items }
