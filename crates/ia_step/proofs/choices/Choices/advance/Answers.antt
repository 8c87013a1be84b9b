use Rattle.std.proofs.Common.{drop, map, ap, sym, ◌∙◌}
use Rattle.std.proofs.lemmas.List.{drop-map, drop-drop}
use Rattle.ia_step.specs.Prelude.{choice_of}
use Rattle.ia_step.proofs.choices.Choices.advance.Goals as goal

pub returns-then-self-len : goal.returns-then-self-len
returns-then-self-len c =
    ap (map choice_of) (sym (drop-drop 1 c.self.inside.used c.self.inside.items.items)) ∙ sym (drop-map choice_of 1 (drop c.self.inside.used c.self.inside.items.items)) ∙ ap (drop 1) c.self.view_is
