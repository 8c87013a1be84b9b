-- Windows and bodies as lists.
use Rattle.std.specs.Prelude.{ℕ, true, List, None, get_or}
use Rattle.ppc_isa.specs.declared.instr.Instr.TheVariants.{Isync}
use Rattle.ia_codec.specs.declared.op.Op.TheVariants.{Ud2}
use Rattle.row_runs.specs.Windows.{Row}
use Rattle.row_runs.specs.Bodies.{Line}
use Rattle.place_circuits.specs.declared.sources.Source.TheVariants.{Zero}
use Rattle.place_circuits.specs.declared.results.Results.TheVariants.{Nowhere}
use Rattle.row_circuits.specs.Windows.{row_of}
use Rattle.row_circuits.specs.Bodies.{line_of}
use Rattle.row_circuits.specs.declared.rows.WindowRow.{WindowRow}
use Rattle.row_circuits.specs.declared.lines.BodyLine.{BodyLine}
use Rattle.row_circuits.specs.declared.lines.Operand.TheVariants.{Own}

abbrev pub no_row : WindowRow
no_row = record { instr = Isync; width = 0; a = Zero; b = Zero; s = Zero; d_to = None; a_to = None }

abbrev pub no_line : BodyLine
no_line = record { op = Ud2; leaves = record { value = true; cf = true; zf = true; sf = true; of = true }; x = Zero; y = Own Zero; results = Nowhere }

-- the rows and the lines as they run over numbers, by their place in the list
abbrev pub row_at : List WindowRow → ℕ → Row
row_at rows k = row_of (get_or rows k no_row)

abbrev pub line_at : List BodyLine → ℕ → Line
line_at lines k = line_of (get_or lines k no_line)
