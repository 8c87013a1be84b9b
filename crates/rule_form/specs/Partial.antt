-- Goals and bodies whose lines were read in part.
use Rattle.std.specs.Prelude.{◌≡◌, ℕ, ◌≤◌, false, IsTrue, List, Some, drop, slice_get, Contains}
use Rattle.std.specs.List.{AllByRecursion, flat_map}
use Rattle.ppc_isa.specs.declared.instr.Instr.{Instr}
use Rattle.ppc_isa.specs.Legal.{IsWordOf}
use Rattle.ppc_isa.specs.Locations.{locations_written}
use Rattle.rule_body.specs.declared.goal.Goal.{Goal}
use Rattle.rule_body.specs.declared.goal.Guest.{Guest}
use Rattle.rule_body.specs.declared.body.Body.{Body}
use Rattle.rule_body.specs.Prelude.{has_access, numbers, highest, IsWindow, guests_of, template_of, AreHostLines, lines_of, no_line}

-- the words so far, and how many parameters they have
pub record IsPartial (goal : Goal) : Type 0 where
  pub count : goal.count ≤ 3
  pub words : AllByRecursion (λ w. w ≡ 0) (drop goal.count goal.words)
  pub free : AllByRecursion (λ f. f ≡ false) (drop goal.count goal.free)
  pub window : List Instr
  pub is : IsWindow (guests_of goal) window
  pub parameters : goal.parameters ≡ highest (flat_map numbers window)

-- the word at a place loads or stores
abbrev pub AccessAt : List Guest → ℕ → Type 0
AccessAt guests k = (g : Guest) × (slice_get guests k ≡ Some g) × ((i : Instr) × IsWordOf g.word i × IsTrue (has_access i))

-- the word at a place writes the location
abbrev pub WrittenAt : List Guest → ℕ → ℕ → Type 0
WrittenAt guests k location = (g : Guest) × (slice_get guests k ≡ Some g) × ((i : Instr) × IsWordOf g.word i × Contains (locations_written i) location)

-- the lines so far
pub record IsPartialBody (goal : Goal) (body : Body) : Type 0 where
  pub count : body.count ≤ 4
  pub lines : AreHostLines (template_of goal) (lines_of body)
  pub clear : AllByRecursion (λ line. line ≡ no_line) (drop body.count body.lines)
