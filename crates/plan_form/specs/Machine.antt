-- What is known after some lines of a plan text. This project's own.
use Rattle.std.specs.Prelude.{◌<◌, ◌^◌, ◌==◌, ◌++◌, if◌then◌else◌, List, [], ◌∷◌, length, Option, Some, None}
use Rattle.machines.specs.Prelude.{IsMap}
use Rattle.plan_form.specs.Texts.{Item, Title, Head, Does, Row, End, BlockText, IsWrittenStep, AreWrittenLabels, IsWritten, AreWritten, opened, items_of}

-- what an item says can be written in words, wherever it stands
abbrev pub IsItem : Item → Type 0
IsItem Title = Unit {0}
IsItem (Head at words entry exit) = (at < 2 ^ 32) × (words < 2 ^ 32) × IsMap entry × IsMap exit
IsItem (Does step) = IsWrittenStep step
IsItem (Row p labels) = (p < 2 ^ 32) × AreWrittenLabels labels
IsItem End = Unit {0}

pub data State : Type 0 where
  Start : State
  Between : List BlockText → State
  Within : List BlockText → BlockText → State

-- the state after one more line, where such a line may stand there: steps before labels, and labels by their places
abbrev pub next : State → Item → Option State
next Start Title = Some (Between [])
next (Between done) (Head at words entry exit) = Some (Within done (record { at = at; words = words; entry = entry; exit = exit; steps = []; labels = [] }))
next (Within done b) (Does step) = if length b.labels == 0 then Some (Within done (record b { steps = b.steps ++ step ∷ [] })) else None
next (Within done b) (Row p labels) = if p == length b.labels then Some (Within done (record b { labels = b.labels ++ labels ∷ [] })) else None
next (Within done b) End = Some (Between (done ++ b ∷ []))
next _ _ = None

-- the lines that lead to a state
abbrev pub shown : State → List Item
shown Start = []
shown (Between done) = items_of done
shown (Within done b) = items_of done ++ opened b

-- some text leads there
abbrev pub IsGood : State → Type 0
IsGood Start = Unit {0}
IsGood (Between done) = AreWritten done
IsGood (Within done b) = AreWritten done × IsWritten b
