-- The places that a layout has.
use Rattle.std.specs.Prelude.{length}
use Rattle.code_layout.specs.Places.{no_moves, Places, entry_of}
use Rattle.code_layout.specs.declared.places.Layout.{Layout}

-- where edges lead by these entries, with no moves
abbrev pub places_of : Layout → Places
places_of layout = record {
  area = layout.area;
  hold = layout.code;
  table = layout.table;
  first = layout.first;
  count = length layout.entries.now;
  targets = entry_of layout.first layout.entries.now layout.code;
  switch = no_moves;
}
