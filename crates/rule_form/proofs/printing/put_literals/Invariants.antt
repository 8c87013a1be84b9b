use Rattle.std.proofs.Common.{◌≡◌, ◌++◌, ◌∷◌, take}
use Rattle.std.specs.List.{flat_map}
use Rattle.rule_form.specs.Prelude.{literal_word}
use Rattle.rule_form.proofs.printing.put_literals.Given as goal

abbrev pub invariant-loop-literal : goal.invariant-loop-literal
invariant-loop-literal l = l.out.items ≡ l.fn.out.items ++ flat_map (λ z. 32 ∷ literal_word z) (take l.literal-index l.literals)
