-- The text of plans: line by line, in order. This project's own.
use Rattle.std.specs.Prelude.{◌≡◌, ℕ, ◌+◌, ◌<◌, ◌≤◌, ◌^◌, ◌==◌, ◌++◌, if◌then◌else◌, List, [], ◌∷◌, length, map, Option, Some, None, decimal, codes}
use Rattle.std.specs.List.{AllByRecursion, flat_map, join_with_byte}
use Rattle.std.specs.Int.{w32, to_be_bytes}
use Rattle.hex.specs.Hex.{encode_lower}
use Rattle.machines.specs.Prelude.{Map, IsMap}
use Rattle.reg_map.specs.declared.moves.Move.TheVariants.{Drop, Take}
use Rattle.line_text.specs.Lines.{line_of}
use Rattle.plan_form.specs.declared.problem.BlockPlan.{BlockPlan}
use Rattle.plan_form.specs.declared.problem.Step.{Step}
use Rattle.plan_form.specs.declared.problem.Step.TheVariants.{Go, Lay}
use Rattle.plan_form.specs.declared.problem.Tile.TheVariants.{Base, Rule}
use Rattle.plan_form.specs.Labels.{values_of}

-- the slots by their names
abbrev pub slot_word : ℕ → List ℕ
slot_word slot = if slot == 0 then codes "ebx" else if slot == 1 then codes "esi" else codes "edi"

-- the content of a slot: r and the number of a GPR, or a dash
abbrev pub content_word : Option ℕ → List ℕ
content_word None = codes "-"
content_word (Some g) = codes "r" ++ decimal g

-- a map: the contents of its slots, with commas between them
abbrev pub map_word : Map → List ℕ
map_word m = join_with_byte 44 (content_word m.ebx ∷ content_word m.esi ∷ content_word m.edi ∷ [])

abbrev pub step_words : Step → List (List ℕ)
step_words (Lay Base) = codes "base" ∷ []
step_words (Lay (Rule n)) = codes "rule" ∷ decimal n ∷ []
step_words (Go (Drop slot)) = codes "drop" ∷ slot_word slot ∷ []
step_words (Go (Take slot g)) = codes "take" ∷ slot_word slot ∷ decimal g ∷ []

-- what a line says
pub data Item : Type 0 where
  Title : Item
  Head : ℕ → ℕ → Map → Map → Item
  Does : Step → Item
  Row : ℕ → List ℕ → Item
  End : Item

abbrev pub words_of : Item → List (List ℕ)
words_of Title = codes "plan" ∷ codes "1" ∷ []
words_of (Head at words entry exit) = codes "block" ∷ encode_lower (to_be_bytes w32 at) ∷ decimal words ∷ map_word entry ∷ map_word exit ∷ []
words_of (Does step) = step_words step
words_of (Row p labels) = codes "at" ∷ decimal p ∷ map decimal labels
words_of End = codes "end" ∷ []

-- The plan of a block as lists, without where they lie in memory.
pub record BlockText : Type 0 where
  pub at : ℕ
  pub words : ℕ
  pub entry : Map
  pub exit : Map
  pub steps : List Step
  pub labels : List (List ℕ)

abbrev pub written : BlockPlan → BlockText
written b = record { at = b.at; words = b.words; entry = b.entry; exit = b.exit; steps = b.plan.steps.items; labels = values_of b.labels }

-- a line can say the step: there are three slots and 32 GPRs, and numbers are below 2^32
abbrev pub IsWrittenStep : Step → Type 0
IsWrittenStep (Lay Base) = Unit {0}
IsWrittenStep (Lay (Rule n)) = n < 2 ^ 32
IsWrittenStep (Go (Drop slot)) = slot < 3
IsWrittenStep (Go (Take slot g)) = (slot < 3) × (g < 32)

-- a line can say the labels
abbrev pub AreWrittenLabels : List ℕ → Type 0
AreWrittenLabels labels = AllByRecursion (λ n. n < 2 ^ 32) labels

-- a text can hold the plan of the block
pub record IsWritten (b : BlockText) : Type 0 where
  pub at : b.at < 2 ^ 32
  pub words : b.words < 2 ^ 32
  pub entry : IsMap b.entry
  pub exit : IsMap b.exit
  pub steps : AllByRecursion IsWrittenStep b.steps
  pub places : length b.labels ≤ 2 ^ 32
  pub labels : AllByRecursion AreWrittenLabels b.labels

abbrev pub AreWritten : List BlockText → Type 0
AreWritten plans = AllByRecursion IsWritten plans

-- the lists of labels, by their places from p on
abbrev pub rows : ℕ → List (List ℕ) → List Item
rows p [] = []
rows p (labels ∷ more) = Row p labels ∷ rows (p + 1) more

-- a block's lines but for the last
abbrev pub opened : BlockText → List Item
opened b = Head b.at b.words b.entry b.exit ∷ (map Does b.steps ++ rows 0 b.labels)

abbrev pub items_of : List BlockText → List Item
items_of plans = Title ∷ flat_map (λ b. opened b ++ End ∷ []) plans

-- the one text of the plans
abbrev pub text_of : List BlockText → List ℕ
text_of plans = flat_map (λ x. line_of (words_of x)) (items_of plans)

-- the lines are those of the text of some plans
abbrev pub IsPlanText : List (List ℕ) → Type 0
IsPlanText lines = (plans : List BlockText) × AreWritten plans × (lines ≡ map (λ x. line_of (words_of x)) (items_of plans))
