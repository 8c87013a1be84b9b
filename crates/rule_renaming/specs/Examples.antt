-- A worked rule: p1 = p2 + p3, each in a slot, is one lea. This project's own.
use Rattle.std.specs.Prelude.{◌≡◌, true, false, [], ◌∷◌, None}
use Rattle.std.specs.List.{AllByRecursion}
use Rattle.machines.specs.Prelude.{Pair, Lea, ebx, esi, edi}
use Rattle.rule_body.specs.declared.goal.Goal.{Goal}
use Rattle.rule_body.specs.declared.body.Body.{Body}
use Rattle.rule_body.specs.declared.rule.Rule.{Rule}
use Rattle.rule_body.specs.Prelude.{no_line, AreRising, IsRule}
use Rattle.rule_soundness.specs.Prelude.{IsSound}

-- the window is the word 0x7c221a14, add 1,2,3; its three parameters are in slots, and nothing is dead
abbrev pub add_goal : Goal
add_goal = record {
  words = 0x7c221a14 ∷ 0 ∷ 0 ∷ [];
  free = false ∷ false ∷ false ∷ [];
  count = 1;
  slots = true ∷ true ∷ true ∷ false ∷ false ∷ false ∷ [];
  parameters = 3;
  dead = record { bits = 0 };
}

-- lea ebx,[esi + edi]
abbrev pub lea_body : Body
lea_body = record { lines = record { op = Lea ebx (Pair esi edi 0 0); hole = None } ∷ no_line ∷ no_line ∷ no_line ∷ []; count = 1; take = None }

-- The rule with this goal and body, and any log, is one of the grammar, and sound.
abbrev pub AdditionIsSound : Type 0
AdditionIsSound = (rule : Rule) → rule.goal ≡ add_goal → rule.body ≡ lea_body → AllByRecursion (AreRising 0) rule.log.clauses → IsRule rule × IsSound rule
