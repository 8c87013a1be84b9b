-- A sound rule that is laid where it matches is a tile of the plan, and keeps the simulation. This project's own.
use Rattle.std.proofs.Common.{◌≡◌, ℕ, ◌<◌, ◌≤◌, Bool, true, false, cond, List, [], ◌∷◌, length, Option, Some, None, refl, sym, ap, ◌∙◌, subst, arith}
use Rattle.std.proofs.lemmas.List.{length-take, length-map}
use Rattle.machines.specs.Prelude.{Instr, Map, HasOneInstruction, Condition, behind}
use Rattle.symbolic_tiles.specs.Prelude.{Implements}
use Rattle.simulation.specs.Prelude.{behind_all, SimulationContext, IsTile, AreWordsAt, IsInside, IsUnneeded, IsTranslation, SimulationAdvances, at_block}
use Rattle.rule_body.specs.declared.rule.Rule.{Rule}
use Rattle.rule_body.specs.Prelude.{lines_of}
use Rattle.rule_soundness.specs.Prelude.{Match, laid_line, laid_ops, window, taken_of, IsConditionOf, dead_of, ops_of_rule, target_of}
use Rattle.rule_soundness.proofs.Passing.{AreRuleWords, words_passed, linked_of}
use Rattle.rule_soundness.proofs.Grammar.{has_take, rule_words}
use Rattle.rule_tiles.specs.Laws.{window_at, StandWords, IsLaid, IsDeadAt, tile_of, branch_tile_of, RuleIsTile, RuleIsBranchTile, RuleKeeps, RuleBranchKeeps}

some_words : (forks : Bool) (words : List Instr) → AreRuleWords forks words → 0 < length words
some_words forks [] are = absurd are
some_words forks (i ∷ is) are = omega arith

few_ops : (rule : Rule) (m : Match) → rule.body.count ≤ 4 → length (laid_ops m rule.body) ≤ 128
few_ops rule m few =
    let n = length-map (lines_of rule.body) (laid_line m) in
    let k = length-take rule.body.count rule.body.lines in
    omega (arith, n, k, few)

has_one : (taken : Option ℕ) (condition : Condition) → IsConditionOf taken (Some condition) → has_take taken ≡ true
has_one None condition is = absurd is
has_one (Some n) condition is = refl

module _ (one : (w : ℕ) → HasOneInstruction w) (s : SimulationContext) (t : IsTranslation s) where
  words_at : (forks : Bool) (words : List Instr) (w : ℕ) → AreRuleWords forks words → StandWords s w words → AreWordsAt s w words
  words_at forks [] w are at = tt
  words_at true (i ∷ []) w are at = (at.0, linked_of s.guest true i [] are, tt)
  words_at false (i ∷ []) w are at = (at.0, linked_of s.guest false i [] are, tt)
  words_at forks (i ∷ j ∷ is) w are at = (at.0, linked_of s.guest forks i (j ∷ is) are, words_at forks (j ∷ is) (behind w) are.1 at.1)

  module _ (rule : Rule) (words found : List Instr) (map : Map) (dead : ℕ → Bool) (m : Match) (w from to : ℕ) (laid : IsLaid s rule words found map dead m w from to) where
    are_words : AreRuleWords (has_take rule.body.take) found
    are_words = subst (AreRuleWords (has_take rule.body.take)) laid.matches.same (rule_words one rule laid.is_rule words laid.matches.window m)

    does : (condition : Option Condition) → IsConditionOf rule.body.take condition → Implements (window_at rule found m condition) map s.area (ops_of_rule rule m s.area)
    does condition takes =
        subst (λ ws. Implements (window ws (dead_of rule.goal m) condition) map s.area (ops_of_rule rule m s.area)) laid.matches.same
        (laid.sound words condition map m s.area laid.matches.window takes laid.matches.is_map laid.matches.fits).does

    insides : (condition : Option Condition) → IsInside s (window_at rule found m condition)
    insides condition = record {
      loads = λ g g' a goes c. (words_passed s.guest (has_take rule.body.take) found are_words g g' goes).loads a c;
      stores = λ g g' a goes c. let e = (words_passed s.guest (has_take rule.body.take) found are_words g g' goes).stores a c in (t.writes_held a e, e);
    }

    tile : (condition : Option Condition) → IsConditionOf rule.body.take condition → IsTile s map w found (window_at rule found m condition) (laid_ops m rule.body)
    tile condition takes = record {
      some = some_words (has_take rule.body.take) found are_words;
      few = few_ops rule m laid.is_rule.body.count;
      fetched = words_at (has_take rule.body.take) found w are_words laid.fetched;
      rows = λ g. refl;
      inside = insides condition;
      does = does condition takes;
    }

    unneeded : (condition : Option Condition) (next : ℕ) → IsDeadAt s dead next → IsUnneeded s (window_at rule found m condition) next
    unneeded condition next is x e = is x (laid.matches.unneeded x e)

  pub rule_is_tile : RuleIsTile s
  rule_is_tile rule words found map dead m w from to steps laid none is rest =
      let are : AreRuleWords false found = subst (λ o. AreRuleWords (has_take o) found) none (are_words rule words found map dead m w from to laid) in (
        to,
        (tile rule words found map dead m w from to laid None (subst (λ o. IsConditionOf o None) (sym none) tt), laid.stands),
        unneeded rule words found map dead m w from to laid None (behind_all w found) is,
        (λ g g' here goes. (words_passed s.guest false found are g g' goes).next_is ∙ ap (λ a. behind_all a found) here),
        rest,
      )

  pub rule_is_branch_tile : RuleIsBranchTile s
  rule_is_branch_tile rule words found map dead m w from to condition laid takes taken_dead next_dead forked =
      let are : AreRuleWords true found = subst (λ b. AreRuleWords b found) (has_one rule.body.take condition takes) (are_words rule words found map dead m w from to laid) in (
        to,
        forked.holds,
        forked.fails,
        (tile rule words found map dead m w from to laid (Some condition) takes, laid.stands),
        refl,
        unneeded rule words found map dead m w from to laid (Some condition) (target_of found w) taken_dead,
        unneeded rule words found map dead m w from to laid (Some condition) (behind_all w found) next_dead,
        (λ g g' here goes. (words_passed s.guest true found are g g' goes).next_is ∙ ap (λ a. cond (taken_of found g) (target_of found a) (behind_all a found)) here),
        forked.fork,
        forked.to_target,
        forked.to_next,
      )

module _ (s : SimulationContext) (advances : SimulationAdvances s) where
  pub rule_keeps : RuleIsTile s → RuleKeeps s
  rule_keeps tiles rule words found map dead m to steps p q g h stood laid none is rest in_block few few_first le_q =
      advances p q g h (at_block map (tile_of rule found m ∷ steps) stood (tiles rule words found map dead m g.next h.eip to steps laid none is rest) in_block (few_first, few) (omega arith))

  pub rule_branch_keeps : RuleIsBranchTile s → RuleBranchKeeps s
  rule_branch_keeps tiles rule words found map dead m to condition p q g h stood laid takes taken_dead next_dead forked in_block le_q =
      advances p q g h (at_block map (branch_tile_of rule found m condition g.next ∷ []) stood (tiles rule words found map dead m g.next h.eip to condition laid takes taken_dead next_dead forked) (omega arith) (omega arith, tt) (omega arith))
