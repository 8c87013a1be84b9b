-- Where the parts of a written file stand. This project's own.
use Rattle.std.specs.Prelude.{ℕ, ◌+◌, ◌-◌, ◌/◌, ◌==◌, List, [], length, slice_index_or, None, if◌then◌else◌}
use Rattle.machines.specs.Prelude.{Map, Op}
use Rattle.block_find.specs.Prelude.{address_of}

-- the map that holds no GPR: that of every block so far
abbrev pub no_registers : Map
no_registers = record { ebx = None; esi = None; edi = None }

-- The moves of an edge: each has the map to which it leads, and its ops. For each guest address those before the jump.
abbrev pub Moves : Type 0
Moves = List (Map × List Op)

-- where every block begins and ends with no GPR in a register, edges have no moves
abbrev pub no_moves : ℕ → Moves
no_moves address = []

-- Where the parts of the file stand: the home page, `hold`, the table; the first code word's address, and how many there
-- are; where an edge to a guest address leads, and by which moves.
pub record Places : Type 0 where
  pub area : ℕ
  pub hold : ℕ
  pub table : ℕ
  pub first : ℕ
  pub count : ℕ
  pub targets : ℕ → ℕ
  pub switch : ℕ → Moves

-- the place of the code word that would stand at an address
abbrev pub place_of : ℕ → ℕ → ℕ
place_of first address = (address - first) / 4

-- where an edge to a guest address leads: to the entry of the code word there, and where none stands there to `hold`
abbrev pub entry_of : ℕ → List ℕ → ℕ → ℕ → ℕ
entry_of first entries hold address =
    if address == address_of first (place_of first address) then slice_index_or entries (place_of first address) hold else hold

-- in a host area that begins at `area`, with a table that has a word for each code word: the home page of 0x1000 bytes, the
-- table with room for 0x80000, and the code; edges lead where the table says, with no moves
abbrev pub places_in : ℕ → ℕ → List ℕ → Places
places_in area first table = record {
  area = area;
  hold = area + 0x81000;
  table = area + 0x1000;
  first = first;
  count = length table;
  targets = entry_of first table (area + 0x81000);
  switch = no_moves;
}
