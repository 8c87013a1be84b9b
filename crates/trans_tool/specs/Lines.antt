-- The status number and the line of each cause, and what the sink of errors then shows.
use Rattle.std.specs.Prelude.{◌≡◌, ◌≢◌, ◌⊎◌, ℕ, List, [], ◌++◌, ◌%◌, codes, decimal, Option}
use Rattle.std.specs.Io.KnownBytes.{Appends}
use Rattle.outside.specs.Causes.{Rose}
use Rattle.outside.specs.Streams.{AppendsPrefix}
use Rattle.trans_tool.specs.declared.cause.Cause.{Cause}
use Rattle.trans_tool.specs.declared.cause.Cause.TheVariants.{Done, GuestExit, Usage, BadElf, TooLong, FileRead, FileWrite, OutFault, ErrFault, Memory, StepsSpent, Trap, Illegal, Outside, DivideFault}
use Rattle.elf_load.specs.Prelude.{number_of}

abbrev pub code_of : Cause → ℕ
code_of Done = 0
code_of (GuestExit number) = number % 256
code_of Usage = 64
code_of (BadElf rule offset) = 65
code_of (TooLong file) = 69
code_of (FileRead file) = 70
code_of (FileWrite file) = 71
code_of OutFault = 72
code_of ErrFault = 73
code_of Memory = 74
code_of StepsSpent = 75
code_of Trap = 76
code_of Illegal = 77
code_of Outside = 78
code_of DivideFault = 79

abbrev pub refusal_text : ℕ → ℕ → List ℕ
refusal_text number offset =
    codes "trans: elf refusal " ++ decimal number ++ codes " at offset " ++ decimal offset ++ codes "\n"

abbrev pub line_of : Cause → List ℕ
line_of Done = []
line_of (GuestExit number) = []
line_of Usage = codes "trans: bad words\n"
line_of (BadElf rule offset) = refusal_text (number_of rule) offset
line_of (TooLong file) = codes "trans: file " ++ decimal file ++ codes " is too long\n"
line_of (FileRead file) = codes "trans: cannot read file " ++ decimal file ++ codes "\n"
line_of (FileWrite file) = codes "trans: cannot write file " ++ decimal file ++ codes "\n"
line_of OutFault = codes "trans: output failed\n"
line_of ErrFault = []
line_of Memory = codes "trans: out of memory\n"
line_of StepsSpent = codes "trans: steps spent\n"
line_of Trap = codes "trans: trap\n"
line_of Illegal = codes "trans: illegal instruction\n"
line_of Outside = codes "trans: outside access\n"
line_of DivideFault = codes "trans: divide fault\n"

-- A cause without a line puts nothing, and the sink stands. The line of another was put whole, or a prefix of it and then
-- the sink failed.
abbrev pub IsTold : Cause → Cause → Option (List ℕ) → Option (List ℕ) → ℕ → ℕ → Type 0
IsTold cause told old new faults faults' =
    ((line_of cause ≡ []) × (told ≡ cause) × (new ≡ old) × (faults' ≡ faults))
    ⊎ ((line_of cause ≢ []) × (told ≡ cause) × Appends old new (line_of cause))
    ⊎ ((line_of cause ≢ []) × (told ≡ ErrFault) × Rose faults faults' × AppendsPrefix old new (line_of cause))
