-- One instance of a rule: with each parameter as the GPR of its own number. This project's own.
use Rattle.std.specs.Prelude.{◌≡◌, ℕ, ◌+◌, ◌^◌, ◌<◌, Bool, true, List, slice_get, Option, Some, None}
use Rattle.machines.specs.Prelude.{Instr, Map, IsMap, Condition}
use Rattle.reg_map.specs.Prelude.{slot_of}
use Rattle.rule_body.specs.declared.rule.Rule.{Rule}
use Rattle.rule_body.specs.Prelude.{IsRule, IsWindow, guests_of, template_of}
use Rattle.rule_soundness.specs.Prelude.{Match, body_slot, IsConditionOf, IsSoundAt, IsSound}

-- the match with these constants and this target that gives each parameter the GPR of its own number, and leaves each register
-- of the body as it is
abbrev pub plain : Match → Match
plain m = record m { gpr = λ p. p; register = λ r. r }

-- The map holds GPR k + 1 in the register of the body for parameter k + 1, where that is in a slot, and nothing else.
pub record IsOwnMap (slots : List Bool) (own : Map) : Type 0 where
  pub is_map : IsMap own
  pub in_slots : (k : ℕ) → slice_get slots k ≡ Some true → slot_of own (k + 1) ≡ Some (body_slot slots k)
  pub none_else : (x : ℕ) → ((k : ℕ) → slice_get slots k ≡ Some true → x ≡ k + 1 → ⊥) → slot_of own x ≡ None

-- The rule does so at that one match, under that one map, for all constants and every target, over every home page.
abbrev pub IsPlainSound : Rule → Type 0
IsPlainSound rule =
    (words : List Instr) (condition : Option Condition) (own : Map) (m : Match) (area : ℕ) → IsWindow (guests_of rule.goal) words → IsConditionOf rule.body.take condition →
    IsOwnMap (template_of rule.goal).slots own → ((j : ℕ) → m.constant j < 2 ^ 16) → IsSoundAt rule words condition own (plain m) area

-- That is enough: such a rule is sound at every match.
abbrev pub OneInstanceIsEnough : Type 0
OneInstanceIsEnough = (rule : Rule) → IsRule rule → IsPlainSound rule → IsSound rule
