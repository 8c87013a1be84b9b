-- Where a rule matches. This project's own.
use Rattle.std.specs.Prelude.{◌≡◌, ℕ, Bool, true, List, [], ◌∷◌}
use Rattle.machines.specs.Prelude.{Instr, BranchConditional, Map, IsWordOf, IsMap, behind, branch_target}
use Rattle.rule_body.specs.declared.rule.Rule.{Rule}
use Rattle.rule_body.specs.Prelude.{IsWindow, guests_of, template_of}
use Rattle.rule_soundness.specs.Matches.{Match, IsMatch}
use Rattle.rule_soundness.specs.LaidWords.{laid_words}
use Rattle.rule_soundness.specs.Sound.{dead_of}

-- The rule matches at these instructions, under a map, where these locations are dead behind them: its window with the GPRs of
-- the match in the place of parameters, and with its constants and its target, are these; and each dead name is dead.
pub record IsMatchAt (rule : Rule) (words found : List Instr) (map : Map) (dead : ℕ → Bool) (m : Match) : Type 0 where
  pub is_map : IsMap map
  pub window : IsWindow (guests_of rule.goal) words
  pub fits : IsMatch (template_of rule.goal).slots words map m
  pub same : laid_words m 0 (guests_of rule.goal) words ≡ found
  pub unneeded : (x : ℕ) → dead_of rule.goal m x ≡ true → dead x ≡ true

-- each of these words of memory is that of its instruction
abbrev pub AreWordsOf : List ℕ → List Instr → Type 0
AreWordsOf [] [] = Unit {0}
AreWordsOf (w ∷ ws) (i ∷ is) = IsWordOf w i × AreWordsOf ws is
AreWordsOf _ _ = ⊥

-- the same of words of memory
abbrev pub Matches : Rule → List ℕ → Map → (ℕ → Bool) → Match → Type 0
Matches rule memory map dead m = (words : List Instr) × (found : List Instr) × AreWordsOf memory found × IsMatchAt rule words found map dead m

-- where a branch leads that stands at an address
abbrev pub target_at : Instr → ℕ → ℕ
target_at (BranchConditional bo bi target absolute link) at = branch_target 14 target absolute at
target_at i at = at

-- the guest address to which a last branch leads, where the first of the instructions stands at an address
unfoldable pub target_of : List Instr → ℕ → ℕ
target_of [] at = at
target_of (i ∷ []) at = target_at i at
target_of (i ∷ j ∷ is) at = target_of (j ∷ is) (behind at)
