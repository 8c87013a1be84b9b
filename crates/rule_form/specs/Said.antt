-- What a line of the code says.
use Rattle.std.specs.Prelude.{take}
use Rattle.rule_form.specs.declared.line.Line.{Line}
use Rattle.rule_form.specs.declared.line.Line.TheVariants as line
use Rattle.rule_form.specs.Slots.{AreSlots}
use Rattle.rule_form.specs.Texts.{Item, Title, Open, GuestLine, At, Dead, Host, Take, Clause, End}

abbrev pub item_of : Line → Item
item_of line.Title = Title
item_of line.Open = Open
item_of (line.Guest guest) = GuestLine guest
item_of (line.At slots) = At (take slots.count slots.slots)
item_of (line.Dead bits) = Dead bits
item_of (line.Host host) = Host host
item_of (line.Take condition) = Take condition
item_of (line.Clause literals) = Clause literals.items
item_of line.End = End

-- nothing stands past the places of an at line
abbrev pub IsLine : Line → Type 0
IsLine (line.At slots) = AreSlots slots
IsLine _ = Unit {0}
