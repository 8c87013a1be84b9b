-- The listing of a program, over the one reading of words and that of bytes.
use Rattle.std.specs.Prelude.{◌≡◌, ℕ, ◌+◌, ◌^◌, ◌≤◌, List, [], length, Option, Some, None, slice_get}
use Rattle.space.specs.declared.program.Kind.{Kind}
use Rattle.space.specs.declared.program.Kind.TheVariants.{PowerPc, Ia32}
use Rattle.space.specs.declared.program.Segment.{Segment}
use Rattle.space.specs.declared.program.Program.{Program}
use Rattle.ppc_isa.specs.declared.instr.Instr.{Instr}
use Rattle.ia_codec.specs.declared.op.Op.{Op}
use Rattle.listing.specs.Words.{word_lines}
use Rattle.listing.specs.Ops.{op_lines}

module _ (words : ℕ → Option Instr) (ops : List ℕ → Option (Op × ℕ)) where
  -- the listing of a code segment, from its first byte on
  abbrev pub text_in : Kind → Segment → List ℕ
  text_in PowerPc code = word_lines words code code.at (length code.bytes)
  text_in Ia32 code = op_lines ops (length code.bytes) code.at code.bytes

  abbrev pub text_of_code : Kind → Option Segment → List ℕ
  text_of_code kind (Some code) = text_in kind code
  text_of_code kind None = []

  abbrev pub text_of : Program → List ℕ
  text_of program = text_of_code program.kind (slice_get program.segments program.code)

-- the program has a code segment, all of whose bytes have an address
abbrev pub HasCode : Program → Type 0
HasCode program = (code : Segment) × (slice_get program.segments program.code ≡ Some code) × (code.at + length code.bytes ≤ 2 ^ 32)
