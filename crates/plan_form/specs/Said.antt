-- What a line of the code says, and the state of the grammar that the code's progress is. This project's own.
use Rattle.std.specs.Prelude.{map}
use Rattle.plan_form.specs.declared.line.Line.{Line}
use Rattle.plan_form.specs.declared.line.Line.TheVariants as line
use Rattle.plan_form.specs.declared.progress.Progress.{Progress}
use Rattle.plan_form.specs.declared.progress.Progress.TheVariants as progress
use Rattle.plan_form.specs.Texts.{Item, Title, Head, Does, Row, End, written}
use Rattle.plan_form.specs.Machine.{State, Start, Between, Within}

abbrev pub item_of : Line → Item
item_of line.Title = Title
item_of (line.Head at words entry exit) = Head at words entry exit
item_of (line.Does step) = Does step
item_of (line.Row p labels) = Row p labels.items
item_of line.End = End

abbrev pub state_of : Progress → State
state_of progress.Start = Start
state_of (progress.Between plans) = Between (map written plans.items)
state_of (progress.Within plans b) = Within (map written plans.items) (written b)
