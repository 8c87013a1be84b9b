-- What holds of a sound rule that is laid where it matches. This project's own.
use Rattle.std.specs.Prelude.{◌≡◌, ℕ, ◌+◌, ◌≤◌, Bool, true, false, List, [], ◌∷◌, length, Option, Some, None}
use Rattle.machines.specs.Prelude.{Instr, Map, Condition, Anywhere, Advance, Guest, behind, Host}
use Rattle.symbolic_tiles.specs.Prelude.{Window, OpsAt}
use Rattle.simulation.specs.Prelude.{behind_all, SimulationContext, IsWordAt, ForksAt, MatchesState, PlanStep, Tile, BranchTile, word_count, room, HasFewMoves, EdgeAt, BlockAt, Simulates}
use Rattle.rule_body.specs.declared.rule.Rule.{Rule}
use Rattle.rule_body.specs.Prelude.{IsRule}
use Rattle.rule_soundness.specs.Prelude.{Match, laid_ops, window, IsSound, IsConditionOf, dead_of, ops_of_rule, IsMatchAt, target_of}

-- the window of the instructions at which a rule matches, with its dead locations dead behind it
abbrev pub window_at : Rule → List Instr → Match → Option Condition → Window
window_at rule found m condition = window found (dead_of rule.goal m) condition

-- The step of a plan that lays a rule without a take code.
abbrev pub tile_of : Rule → List Instr → Match → PlanStep
tile_of rule found m = Tile found (window_at rule found m None) (laid_ops m rule.body)

-- The step of a plan that lays a rule with one, whose words stand at a guest address.
abbrev pub branch_tile_of : Rule → List Instr → Match → Condition → ℕ → PlanStep
branch_tile_of rule found m condition w = BranchTile found (window_at rule found m (Some condition)) (laid_ops m rule.body) condition (target_of found w)

module _ (s : SimulationContext) where
  -- these instructions stand at a guest address, one behind another
  abbrev pub StandWords : ℕ → List Instr → Type 0
  StandWords w [] = Unit {0}
  StandWords w (i ∷ is) = IsWordAt s w (Some i) × StandWords (behind w) is

  -- A sound rule is laid where it matches: at a guest address stand instructions at which it does, and from one host address up
  -- to another its ops.
  pub record IsLaid (rule : Rule) (words found : List Instr) (map : Map) (dead : ℕ → Bool) (m : Match) (w from to : ℕ) : Type 0 where
    pub is_rule : IsRule rule
    pub sound : IsSound rule
    pub matches : IsMatchAt rule words found map dead m
    pub fetched : StandWords w found
    pub stands : OpsAt s.host s.host_step from (ops_of_rule rule m s.area) to

  -- what is dead isn't live at a guest address
  abbrev pub IsDeadAt : (ℕ → Bool) → ℕ → Type 0
  IsDeadAt dead next = (x : ℕ) → dead x ≡ true → s.live next x ≡ false

  -- A rule without a take code is a tile of a plan, before the steps that stand behind it.
  abbrev pub RuleIsTile : Type 0
  RuleIsTile =
      (rule : Rule) (words found : List Instr) (map : Map) (dead : ℕ → Bool) (m : Match) (w from to : ℕ) (steps : List PlanStep) →
      IsLaid rule words found map dead m w from to → rule.body.take ≡ None → IsDeadAt dead (behind_all w found) → BlockAt s map (behind_all w found) to steps →
      BlockAt s map w from (tile_of rule found m ∷ steps)

  -- The jump on a rule's condition stands behind its ops at a host address, and leads to the edges to the branch's target
  -- and to the next word.
  pub record IsForked (map : Map) (condition : Condition) (at taken next : ℕ) : Type 0 where
    pub holds : ℕ
    pub fails : ℕ
    pub fork : ForksAt s condition at holds fails
    pub to_target : EdgeAt s map taken holds
    pub to_next : EdgeAt s map next fails

  -- A rule with a take code is the tile with two edges that ends a block.
  abbrev pub RuleIsBranchTile : Type 0
  RuleIsBranchTile =
      (rule : Rule) (words found : List Instr) (map : Map) (dead : ℕ → Bool) (m : Match) (w from to : ℕ) (condition : Condition) →
      IsLaid rule words found map dead m w from to → IsConditionOf rule.body.take (Some condition) →
      IsDeadAt dead (target_of found w) → IsDeadAt dead (behind_all w found) → IsForked map condition to (target_of found w) (behind_all w found) →
      BlockAt s map w from (branch_tile_of rule found m condition w ∷ [])

  abbrev pub Advances : ℕ → ℕ → Guest → Host → Type 0
  Advances p q g h = Advance s.guest_step s.host_step Anywhere (Simulates s) p q g h

  -- So where the states stand for each other before such a tile the simulation goes on: the guest through the words and the
  -- host through the ops to states that meet again, or the guest through some of the words and then outside.
  abbrev pub RuleKeeps : Type 0
  RuleKeeps =
      (rule : Rule) (words found : List Instr) (map : Map) (dead : ℕ → Bool) (m : Match) (to : ℕ) (steps : List PlanStep) (p q : ℕ) (g : Guest) (h : Host) →
      MatchesState s map g h.core → IsLaid rule words found map dead m g.next h.eip to → rule.body.take ≡ None → IsDeadAt dead (behind_all g.next found) → BlockAt s map (behind_all g.next found) to steps →
      p + (length found + word_count steps) ≤ 64 → HasFewMoves steps → room steps ≤ 40 → q ≤ 40 → Advances p q g h

  abbrev pub RuleBranchKeeps : Type 0
  RuleBranchKeeps =
      (rule : Rule) (words found : List Instr) (map : Map) (dead : ℕ → Bool) (m : Match) (to : ℕ) (condition : Condition) (p q : ℕ) (g : Guest) (h : Host) →
      MatchesState s map g h.core → IsLaid rule words found map dead m g.next h.eip to → IsConditionOf rule.body.take (Some condition) →
      IsDeadAt dead (target_of found g.next) → IsDeadAt dead (behind_all g.next found) → IsForked map condition to (target_of found g.next) (behind_all g.next found) →
      p + length found ≤ 64 → q ≤ 40 → Advances p q g h
