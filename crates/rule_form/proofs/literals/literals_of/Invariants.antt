use Rattle.std.proofs.Common.{◌≡◌, map, take}
use Rattle.std.specs.List.{AllByRecursion}
use Rattle.word_kit.specs.Prelude.{IsLiteral}
use Rattle.rule_form.specs.Prelude.{literal_word}
use Rattle.rule_form.proofs.literals.literals_of.Given as goal

abbrev pub invariant-loop-word : goal.invariant-loop-word
invariant-loop-word l = record { fit : AllByRecursion IsLiteral l.literals.items; is : map (λ w. w.now) (take l.word-index l.words) ≡ map literal_word l.literals.items }
