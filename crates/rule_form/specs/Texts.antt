-- The text of rules: line by line, in order.
use Rattle.std.specs.Prelude.{◌≡◌, ℕ, ◌≤◌, ◌++◌, if◌then◌else◌, Bool, List, [], ◌∷◌, length, map, Option, ℤ, codes}
use Rattle.std.specs.List.{AllByRecursion, flat_map}
use Rattle.std.specs.Int.{w32, to_be_bytes}
use Rattle.hex.specs.Hex.{encode_lower}
use Rattle.ia_codec.specs.Prelude.{spelling}
use Rattle.line_text.specs.Lines.{line_of}
use Rattle.rule_body.specs.declared.goal.Guest.{Guest}
use Rattle.rule_body.specs.declared.line.HostLine.{HostLine}
use Rattle.rule_body.specs.declared.rule.Rule.{Rule}
use Rattle.rule_body.specs.Prelude.{Template, IsTemplate, template_of, AreHostLines, IsTake, lines_of, AreRising}
use Rattle.rule_form.specs.Words.{slots_word, dead_word, hole_word, take_word, literal_word}

-- what a line says
pub data Item : Type 0 where
  Title : Item
  Open : Item
  GuestLine : Guest → Item
  At : List Bool → Item
  Dead : ℕ → Item
  Host : HostLine → Item
  Take : Option ℕ → Item
  Clause : List ℤ → Item
  End : Item

abbrev pub words_of : Item → List (List ℕ)
words_of Title = codes "rules" ∷ codes "1" ∷ []
words_of Open = codes "rule" ∷ []
words_of (GuestLine guest) = codes "guest" ∷ encode_lower (to_be_bytes w32 guest.word) ∷ (if guest.free then codes "any" else codes "lit") ∷ []
words_of (At slots) = codes "at" ∷ slots_word slots ∷ []
words_of (Dead bits) = codes "dead" ∷ dead_word bits ∷ []
words_of (Host line) = codes "host" ∷ encode_lower (spelling line.op) ∷ hole_word line.hole ∷ []
words_of (Take condition) = codes "take" ∷ take_word condition ∷ []
words_of (Clause literals) = codes "clause" ∷ (map literal_word literals ++ codes "0" ∷ [])
words_of End = codes "end" ∷ []

-- A rule as its lists, without where they lie in arrays.
pub record RuleText : Type 0 where
  pub template : Template
  pub lines : List HostLine
  pub take : Option ℕ
  pub clauses : List (List ℤ)

abbrev pub written : Rule → RuleText
written rule = record { template = template_of rule.goal; lines = lines_of rule.body; take = rule.body.take; clauses = rule.log.clauses }

-- the arrays are as long as their types say
pub record HasRoom (rule : Rule) : Type 0 where
  pub words : length rule.goal.words ≡ 3
  pub free : length rule.goal.free ≡ 3
  pub slots : length rule.goal.slots ≡ 6
  pub lines : length rule.body.lines ≡ 4

-- the lists are those of a rule
pub record IsWritten (r : RuleText) : Type 0 where
  pub template : IsTemplate r.template
  pub lines : AreHostLines r.template r.lines
  pub taken : IsTake r.template.guests r.take
  pub clauses : AllByRecursion (AreRising 0) r.clauses

-- the lines of a window
abbrev pub front_of : Template → List Item
front_of t = Open ∷ (map GuestLine t.guests ++ (At t.slots ∷ Dead t.dead ∷ []))

-- a rule's lines but for the last
abbrev pub opened : RuleText → List Item
opened r =
    Open ∷ (map GuestLine r.template.guests ++ (At r.template.slots ∷ Dead r.template.dead ∷ (map Host r.lines ++ (Take r.take ∷ map Clause r.clauses))))

abbrev pub items_of : List RuleText → List Item
items_of rules = Title ∷ flat_map (λ r. opened r ++ End ∷ []) rules

-- at most 1024 rules
pub record AreWritten (rules : List RuleText) : Type 0 where
  pub few : length rules ≤ 1024
  pub each : AllByRecursion IsWritten rules

-- the one text of the rules
abbrev pub text_of : List RuleText → List ℕ
text_of rules = flat_map (λ x. line_of (words_of x)) (items_of rules)

-- the lines are those of the text of some rules
abbrev pub IsRuleText : List (List ℕ) → Type 0
IsRuleText lines = (rules : List RuleText) × AreWritten rules × (lines ≡ map (λ x. line_of (words_of x)) (items_of rules))
