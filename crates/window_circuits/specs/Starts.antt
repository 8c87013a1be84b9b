-- The inputs of a rule, and where a window and a body begin.
use Rattle.std.specs.Prelude.{◌<◌, ◌≤◌, ◌+◌, ◌^◌, ℕ, zero, suc, false, List, [], slice_index_or, get_or}
use Rattle.word_kit.specs.Prelude.{bit_of, with_bit}
use Rattle.ia_codec.specs.Prelude.{Flags}
use Rattle.row_runs.specs.Windows.{WindowRun}
use Rattle.row_runs.specs.Bodies.{BodyRun, Pick}
use Rattle.place_circuits.specs.Places.{with_place}
use Rattle.place_circuits.specs.Fields.{field_value}
use Rattle.place_circuits.specs.declared.fields.Field.{Field}

-- how many bits of each place are inputs
abbrev pub AreWidths : List ℕ → Type 0
AreWidths widths = (k : ℕ) → k < 64 → slice_index_or widths k 0 ≤ 32

-- numbers of so many bits
abbrev pub AreWithin : List ℕ → (ℕ → ℕ) → Type 0
AreWithin widths t = (k : ℕ) → k < 64 → t k < 2 ^ slice_index_or widths k 0

-- how many bits the first n places have together
unfoldable pub bits_before : ℕ → List ℕ → ℕ
bits_before zero widths = 0
bits_before (suc n) widths = bits_before n widths + slice_index_or widths n 0

-- The inputs by place, in their order: 0 to 5 the parameters, 6 CR, 7 to 10 the bits 0 to 6 of XER, CA, OV and SO, 11 LR,
-- 12 CTR, 13 to 15 eax, ecx and edx, 16 to 19 CF, ZF, SF and OF, 20 to 22 the constants, 23 to 26 the loaded bytes.

-- XER has CA at bit 29, OV at 30 and SO at 31
abbrev pub xer_of : (ℕ → ℕ) → ℕ
xer_of t = with_bit (with_bit (with_bit (t 7) 29 (bit_of (t 8) 0)) 30 (bit_of (t 9) 0)) 31 (bit_of (t 10) 0)

abbrev pub flags_of : (ℕ → ℕ) → Flags
flags_of t = record { cf = bit_of (t 16) 0; zf = bit_of (t 17) 0; sf = bit_of (t 18) 0; of = bit_of (t 19) 0 }

abbrev pub loaded_bytes : (ℕ → ℕ) → ℕ → ℕ
loaded_bytes t k = t (23 + k)

-- a window begins with the inputs, and XER whole
abbrev pub window_begins : (ℕ → ℕ) → WindowRun
window_begins t = record { places = with_place 7 (xer_of t) t; accesses = []; taken = false }

abbrev pub no_field : Field
no_field = record { place = 0; low = 0; count = 1 }

-- the inputs, and from place 32 on the bytes of the homes, which are bits of inputs
unfoldable pub with_homes : ℕ → List Field → (ℕ → ℕ) → ℕ → ℕ
with_homes zero homes t = t
with_homes (suc n) homes t = with_place (32 + n) (field_value (get_or homes n no_field) t) (with_homes n homes t)

abbrev pub body_begins : List Field → (ℕ → ℕ) → BodyRun
body_begins homes t = record { places = with_homes 20 homes t; flags = flags_of t; accesses = [] }

-- what the processor picks is a word
abbrev pub ArePicks : (ℕ → Pick) → Type 0
ArePicks picks = (k : ℕ) → (picks k).value < 2 ^ 32
