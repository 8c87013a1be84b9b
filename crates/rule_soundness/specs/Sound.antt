-- When a rule is sound. This project's own.
use Rattle.std.specs.Prelude.{◌≡◌, ℕ, ◌+◌, ◌^◌, ◌==◌, ◌&&◌, not, nat_lt, bit_and, if◌then◌else◌, Bool, List, map as list_map, Option, Some, None}
use Rattle.std.specs.List.{list_any, range_with_len}
use Rattle.machines.specs.Prelude.{Instr, Map, IsMap, Op, Condition, condition_number}
use Rattle.symbolic_tiles.specs.Prelude.{op_at, Window, Implements}
use Rattle.rule_body.specs.declared.goal.Goal.{Goal}
use Rattle.rule_body.specs.declared.rule.Rule.{Rule}
use Rattle.rule_body.specs.Prelude.{IsWindow, named, guests_of, template_of}
use Rattle.rule_soundness.specs.Matches.{Match, IsMatch}
use Rattle.rule_soundness.specs.LaidWords.{laid_words}
use Rattle.rule_soundness.specs.LaidOps.{laid_ops}
use Rattle.rule_soundness.specs.Windows.{window}
use Rattle.rule_soundness.specs.Accesses.{AccessWindow}

-- the location of a name of what may be dead: that of a parameter is its GPR
abbrev pub location_named : Match → ℕ → ℕ
location_named m k = if nat_lt k 6 then m.gpr (k + 1) else named k

-- name k is one of the dead
abbrev pub is_dead_name : Goal → ℕ → Bool
is_dead_name goal k = not (bit_and goal.dead.bits (2 ^ k) == 0)

-- the location is that of a dead name
unfoldable pub dead_of : Goal → Match → ℕ → Bool
dead_of goal m x = list_any (λ k. is_dead_name goal k && location_named m k == x) (range_with_len 0 20)

-- the condition has the number of a body's take, and there is none where it has none
abbrev pub IsConditionOf : Option ℕ → Option Condition → Type 0
IsConditionOf None None = Unit {0}
IsConditionOf (Some n) (Some condition) = condition_number condition ≡ n
IsConditionOf _ _ = ⊥

-- a rule's window and its ops where it is laid, over a home page; `words` are its words over parameters
abbrev pub window_of_rule : Rule → List Instr → Option Condition → Match → Window
window_of_rule rule words condition m = window (laid_words m 0 (guests_of rule.goal) words) (dead_of rule.goal m) condition

abbrev pub ops_of_rule : Rule → Match → ℕ → List Op
ops_of_rule rule m area = list_map (op_at area) (laid_ops m rule.body)

-- There the ops do what the window does, and access what it accesses.
pub record IsSoundAt (rule : Rule) (words : List Instr) (condition : Option Condition) (map : Map) (m : Match) (area : ℕ) : Type 0 where
  pub does : Implements (window_of_rule rule words condition m) map area (ops_of_rule rule m area)
  pub accesses : AccessWindow (window_of_rule rule words condition m) map area (ops_of_rule rule m area)

-- A rule is sound where this is so wherever it is laid: with its parameters as any different GPRs, each in a slot or at home
-- as the rule has it, under every map, for every constant of the free words and every target, and over every home page.
abbrev pub IsSound : Rule → Type 0
IsSound rule =
    (words : List Instr) (condition : Option Condition) (map : Map) (m : Match) (area : ℕ) → IsWindow (guests_of rule.goal) words → IsConditionOf rule.body.take condition →
    IsMap map → IsMatch (template_of rule.goal).slots words map m → IsSoundAt rule words condition map m area
