-- Under which binding a rule matches. This project's own.
use Rattle.std.specs.Prelude.{◌≡◌, ◌≢◌, ℕ, ◌<◌, ◌≤◌, ◌/◌, ◌%◌, ◌^◌, ◌==◌, Bool, if◌then◌else◌, List, [], ◌∷◌, length, slice_index_or, Option, Some, None}
use Rattle.machines.specs.Prelude.{Instr, Locs, Map, IsWordOf}
use Rattle.reg_map.specs.Prelude.{holds}
use Rattle.rule_body.specs.declared.goal.Goal.{Goal}
use Rattle.rule_body.specs.declared.goal.Guest.{Guest}
use Rattle.rule_body.specs.declared.rule.Rule.{Rule}
use Rattle.rule_body.specs.Prelude.{slot_count, template_of}
use Rattle.rule_soundness.specs.Prelude.{Match, base_field, IsMatchAt, AreWordsOf}
use Rattle.rule_soundness.specs.LaidWords.{laid_word}
use Rattle.rule_soundness.specs.Fields.{s_field, a_field, b_field}
use Rattle.rule_match.specs.declared.binding.Binding.{Binding}
use Rattle.rule_match.specs.Bindings.{constant_of, target_field, is_absolute, gpr_of, register_for, match_of}

-- the location is in the set
abbrev pub is_in : Locs → ℕ → Bool
is_in set x = set.bits / 2 ^ x % 2 == 1

-- Six GPRs, of which none stands past the parameters, and three numbers of slots, of which none stands past the parameters in
-- slots.
pub record IsTidy (goal : Goal) (b : Binding) : Type 0 where
  pub six : length b.gpr ≡ 6
  pub three : length b.slot ≡ 3
  pub gprs : (k : ℕ) → goal.parameters ≤ k → slice_index_or b.gpr k 0 ≡ 0
  pub numbers : (k : ℕ) → slice_index_or b.slot k 0 < 3
  pub slots : (k : ℕ) → slot_count (template_of goal).slots ≤ k → slice_index_or b.slot k 0 ≡ 0

-- The rule matches at these words of memory, under a map, where these locations are dead behind them, and the binding says how.
pub record IsBindingAt (rule : Rule) (memory : List ℕ) (map : Map) (dead : Locs) (b : Binding) : Type 0 where
  pub tidy : IsTidy rule.goal b
  pub words : List Instr
  pub found : List Instr
  pub are : AreWordsOf memory found
  pub matches : IsMatchAt rule words found map (is_in dead) (match_of found b)

-- the match of a binding at one instruction
abbrev pub match_of_word : Instr → Binding → Match
match_of_word found b = record { gpr = gpr_of b; register = register_for b; constant = λ j. constant_of found; target = target_field found; absolute = is_absolute found }

-- a word of a rule, where it is laid under a binding, is this word of memory; in the place of a base no parameter is GPR 0
pub record IsLaidWord (b : Binding) (guest : Guest) (w : ℕ) : Type 0 where
  pub word : Instr
  pub found : Instr
  pub of_rule : IsWordOf guest.word word
  pub of_memory : IsWordOf w found
  pub same : laid_word (match_of_word found b) 0 guest word ≡ found
  pub base : (p : ℕ) → base_field word ≡ Some p → p ≢ 0 → gpr_of b p ≢ 0

-- each of the words of a rule is
abbrev pub AreLaidWords : Binding → List Guest → List ℕ → Type 0
AreLaidWords b [] [] = Unit {0}
AreLaidWords b (guest ∷ guests) (w ∷ ws) = IsLaidWord b guest w × AreLaidWords b guests ws
AreLaidWords b _ _ = ⊥

-- what stands in the first field of an instruction, from the left, in which another has the number
abbrev pub register_in : Instr → Instr → ℕ → Option ℕ
register_in i found p =
    if holds (s_field i) p then s_field found
    else if holds (a_field i) p then a_field found
    else if holds (b_field i) p then b_field found
    else None

abbrev pub or_else : Option ℕ → ℕ → ℕ
or_else (Some r) n = r
or_else None n = n

-- what stands in the first field of instructions in which others have the number; 0 where none has
abbrev pub register_read : List Instr → List Instr → ℕ → ℕ
register_read (i ∷ is) (f ∷ fs) p = or_else (register_in i f p) (register_read is fs p)
register_read _ _ p = 0

-- the GPRs are below 32, and there are none past the parameters
abbrev pub AreGprs : ℕ → List ℕ → Type 0
AreGprs parameters gprs = (k : ℕ) → k < 6 → (slice_index_or gprs k 0 < 32) × (parameters ≤ k → slice_index_or gprs k 0 ≡ 0)
