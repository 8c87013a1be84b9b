-- What is known after some lines of a rule text.
use Rattle.std.specs.Prelude.{ℕ, ◌<◌, ◌≤◌, ◌^◌, ◌++◌, Bool, List, [], ◌∷◌, length, map, Option, Some, None}
use Rattle.std.specs.List.{AllByRecursion}
use Rattle.ppc_isa.specs.declared.instr.Instr.{Instr}
use Rattle.ia_codec.specs.Prelude.{IsInProfile}
use Rattle.rule_body.specs.declared.goal.Guest.{Guest}
use Rattle.rule_body.specs.declared.line.Hole.{Hole}
use Rattle.rule_body.specs.declared.line.HostLine.{HostLine}
use Rattle.rule_body.specs.Prelude.{Template, IsWindow, IsPlaced, IsTemplate, AreHostLines, AreRising}
use Rattle.rule_form.specs.Texts.{Item, Title, Open, GuestLine, At, Dead, Host, Take, Clause, End, RuleText, IsWritten, AreWritten, opened, items_of}

-- the hole's word is a number of a byte
abbrev pub IsHoleWord : Option (Hole × ℕ) → Type 0
IsHoleWord None = Unit {0}
IsHoleWord (Some hole) = hole.1 < 2 ^ 8

abbrev pub IsTakeWord : Option ℕ → Type 0
IsTakeWord None = Unit {0}
IsTakeWord (Some condition) = condition < 16

-- what an item says can be written in words, wherever it stands
abbrev pub IsItem : Item → Type 0
IsItem Title = Unit {0}
IsItem Open = Unit {0}
IsItem (GuestLine guest) = guest.word < 2 ^ 32
IsItem (At slots) = length slots ≤ 6
IsItem (Dead bits) = bits < 2 ^ 20
IsItem (Host line) = IsInProfile line.op × IsHoleWord line.hole
IsItem (Take condition) = IsTakeWord condition
IsItem (Clause literals) = AreRising 0 literals
IsItem End = Unit {0}

pub data State : Type 0 where
  Start : State
  Between : List RuleText → State
  InGuests : List RuleText → List Guest → State
  InDead : List RuleText → List Guest → List Bool → State
  InHosts : List RuleText → Template → List HostLine → State
  InClauses : List RuleText → RuleText → State

-- the state after one more line, where such a line may stand there
abbrev pub next : State → Item → Option State
next Start Title = Some (Between [])
next (Between done) Open = Some (InGuests done [])
next (InGuests done guests) (GuestLine guest) = Some (InGuests done (guests ++ guest ∷ []))
next (InGuests done guests) (At slots) = Some (InDead done guests slots)
next (InDead done guests slots) (Dead bits) = Some (InHosts done (record { guests = guests; slots = slots; dead = bits }) [])
next (InHosts done t lines) (Host line) = Some (InHosts done t (lines ++ line ∷ []))
next (InHosts done t lines) (Take condition) = Some (InClauses done (record { template = t; lines = lines; take = condition; clauses = [] }))
next (InClauses done r) (Clause literals) = Some (InClauses done (record r { clauses = r.clauses ++ literals ∷ [] }))
next (InClauses done r) End = Some (Between (done ++ r ∷ []))
next _ _ = None

-- the lines that lead to a state
abbrev pub shown : State → List Item
shown Start = []
shown (Between done) = items_of done
shown (InGuests done guests) = items_of done ++ Open ∷ map GuestLine guests
shown (InDead done guests slots) = items_of done ++ Open ∷ (map GuestLine guests ++ At slots ∷ [])
shown (InHosts done t lines) = items_of done ++ Open ∷ (map GuestLine t.guests ++ (At t.slots ∷ Dead t.dead ∷ map Host lines))
shown (InClauses done r) = items_of done ++ opened r

-- rules behind which one more may stand
abbrev pub HaveRoom : List RuleText → Type 0
HaveRoom done = (length done < 1024) × AllByRecursion IsWritten done

-- some text leads there
abbrev pub IsFront : List Guest → Type 0
IsFront guests = (window : List Instr) × IsWindow guests window

abbrev pub IsGood : State → Type 0
IsGood Start = Unit {0}
IsGood (Between done) = AreWritten done
IsGood (InGuests done guests) = HaveRoom done × IsFront guests
IsGood (InDead done guests slots) = HaveRoom done × IsPlaced guests slots
IsGood (InHosts done t lines) = HaveRoom done × IsTemplate t × AreHostLines t lines
IsGood (InClauses done r) = HaveRoom done × IsWritten r
