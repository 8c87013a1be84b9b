-- The listing of PowerPC code: a line for each word. What is written for an illegal word is this project's own.
use Rattle.std.specs.Prelude.{ℕ, zero, suc, ◌+◌, List, [], ◌++◌, codes, Option, Some, None}
use Rattle.std.specs.Int.{w32, to_be_bytes}
use Rattle.space.specs.declared.program.Segment.{Segment}
use Rattle.space.specs.Memory.{word_in}
use Rattle.ppc_isa.specs.declared.instr.Instr.{Instr}
use Rattle.ppc_isa.specs.Names.{mnemonic_of}
use Rattle.listing.specs.Lines.{line}

abbrev pub word_name : Option Instr → List ℕ
word_name (Some instr) = mnemonic_of instr
word_name None = codes "illegal"

-- the line of the word at an address, and nothing where no word of the code begins there
abbrev pub word_line : (ℕ → Option Instr) → ℕ → Option ℕ → List ℕ
word_line read address (Some word) = line address (to_be_bytes w32 word) (word_name (read word))
word_line read address None = []

-- the lines of the words of the code that begin at one of the `count` addresses from this one on
unfoldable pub word_lines : (ℕ → Option Instr) → Segment → (address count : ℕ) → List ℕ
word_lines read code address zero = []
word_lines read code address (suc count) =
    word_line read address (word_in address code) ++ word_lines read code (address + 1) count
