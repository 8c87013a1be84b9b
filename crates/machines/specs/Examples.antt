-- Small programs whose reports are told in full: what the guest's definitions say, to be compared with the standard
-- and with Linux by hand.
use Rattle.std.specs.Prelude.{◌≡◌, ℕ, ◌/◌, ◌%◌, ◌^◌, ◌<◌, ◌≤◌, false, true, List, [], ◌∷◌, ◌++◌, length, get_or, replicate, Option}
use Rattle.space.specs.declared.program.Program.{Program}
use Rattle.space.specs.declared.program.Kind.TheVariants.{PowerPc}
use Rattle.space.specs.declared.call.End.{End}
use Rattle.space.specs.declared.call.End.TheVariants.{Running, Exit, Outside, Dry}
use Rattle.space.specs.Reports.{Read, Write, AnswerValue, Got, Took, Error, Report, ended, listed}
use Rattle.ppc_isa.specs.declared.instr.Instr.{Instr}
use Rattle.ppc_isa.specs.Legal.{ReadsWords}
use Rattle.machines.specs.Guest.{guest_run}

-- the bytes of words, each with its highest byte first
abbrev pub bytes_of : List ℕ → List ℕ
bytes_of [] = []
bytes_of (w ∷ ws) = w / 2 ^ 24 ∷ w / 2 ^ 16 % 256 ∷ w / 2 ^ 8 % 256 ∷ w % 256 ∷ bytes_of ws

-- the stack segment: 2^20 bytes, all 0
pub record IsStack (stack : List ℕ) : Type 0 where
  pub long : length stack ≡ 2 ^ 20
  pub zeros : (i : ℕ) → get_or stack i 0 ≡ 0

-- the program of these code words at 0x10000000, entered at the first of them
abbrev pub program_of : List ℕ → List ℕ → Program
program_of words stack = record {
  kind = PowerPc;
  entry = 0x10000000;
  segments = record { at = 0x10000000; write = false; exec = true; bytes = bytes_of words } ∷ record { at = 0x7F000000; write = true; exec = false; bytes = stack } ∷ [];
  code = 0;
}

-- what the program of these words reports after n steps, whatever the answers
abbrev pub Reports : List ℕ → ℕ → Report → Type 0
Reports program n report =
    (words : ℕ → Option Instr) (stack : List ℕ) → ReadsWords words → IsStack stack →
    (answers : List AnswerValue) → guest_run words (program_of program stack) answers n ≡ report

-- what it reports after n steps with these answers
abbrev pub ReportsWith : List ℕ → List AnswerValue → ℕ → Report → Type 0
ReportsWith program answers n report =
    (words : ℕ → Option Instr) (stack : List ℕ) → ReadsWords words → IsStack stack →
    guest_run words (program_of program stack) answers n ≡ report

-- a run that makes no call in its first steps, and from step `last` on has ended so
pub record EndsAt (program : List ℕ) (last : ℕ) (how : End) : Type 0 where
  pub before : (n : ℕ) → n < last → Reports program n (ended Running)
  pub after : (n : ℕ) → last ≤ n → Reports program n (ended how)

-- addi r0,0,1; addi r3,0,7; sc
abbrev pub exit_seven : List ℕ
exit_seven = 0x38000001 ∷ 0x38600007 ∷ 0x44000002 ∷ []

-- addi r0,0,99; sc; addi r0,0,1; sc
abbrev pub unknown_call : List ℕ
unknown_call = 0x38000063 ∷ 0x44000002 ∷ 0x38000001 ∷ 0x44000002 ∷ []

-- b 8; addi r3,0,1; addi r3,0,7; addi r0,0,1; sc
abbrev pub jump : List ℕ
jump = 0x48000008 ∷ 0x38600001 ∷ 0x38600007 ∷ 0x38000001 ∷ 0x44000002 ∷ []

-- addi r0,0,4; addi r3,0,1; addi r4,r1,0; addi r5,0,64; sc: writes the 64 bytes above r1
abbrev pub write_64 : List ℕ
write_64 = 0x38000004 ∷ 0x38600001 ∷ 0x38810000 ∷ 0x38A00040 ∷ 0x44000002 ∷ []

-- the same with one byte more, which lies behind the stack
abbrev pub write_65 : List ℕ
write_65 = 0x38000004 ∷ 0x38600001 ∷ 0x38810000 ∷ 0x38A00041 ∷ 0x44000002 ∷ []

abbrev pub wrote_64 : Report → Report
wrote_64 rest = listed (Write 1 (replicate 64 0)) rest

-- The call is listed before its answer; without one the run is dry. Behind the call it runs off the code.
pub record WritesStack : Type 0 where
  pub dry : (n : ℕ) → 5 ≤ n → ReportsWith write_64 [] n (wrote_64 (ended Dry))
  pub off : (a : AnswerValue) (rest : List AnswerValue) (n : ℕ) → 6 ≤ n → ReportsWith write_64 (a ∷ rest) n (wrote_64 (ended Outside))

-- write_64 and then addi r0,0,1; sc: exits with what the write gave in r3
abbrev pub write_and_exit : List ℕ
write_and_exit = write_64 ++ 0x38000001 ∷ 0x44000002 ∷ []

abbrev pub WriteGives : AnswerValue → ℕ → Type 0
WriteGives answer number = (rest : List AnswerValue) (n : ℕ) → 7 ≤ n → ReportsWith write_and_exit (answer ∷ rest) n (wrote_64 (ended (Exit number)))

-- A write puts no more than it has; bytes are no answer to it. An error leaves its number, and 5 where it is none.
pub record WriteAnswers : Type 0 where
  pub all : WriteGives (Took 64) 64
  pub some : WriteGives (Took 10) 10
  pub none : WriteGives (Took 0) 0
  pub more : WriteGives (Took 100) 64
  pub bytes : WriteGives (Got (1 ∷ 2 ∷ [])) 0
  pub error : WriteGives (Error 9) 9
  pub no_error : WriteGives (Error 0) 5
  pub wide_error : WriteGives (Error 4096) 5

-- addi r0,0,3; addi r3,0,0; addi r4,r1,0; addi r5,0,4; sc reads 4 bytes to r1;
-- addi r5,r3,0; addi r0,0,4; addi r3,0,1; sc writes as many bytes from there as r3 says
abbrev pub echo : List ℕ
echo = 0x38000003 ∷ 0x38600000 ∷ 0x38810000 ∷ 0x38A00004 ∷ 0x44000002 ∷ 0x38A30000 ∷ 0x38000004 ∷ 0x38600001 ∷ 0x44000002 ∷ []

abbrev pub Echoes : AnswerValue → List ℕ → Type 0
Echoes answer bytes = (n : ℕ) → 9 ≤ n → ReportsWith echo (answer ∷ []) n (listed (Read 0 4) (listed (Write 1 bytes) (ended Dry)))

-- A read gets no more than it asked for; a number is no answer to it. After an error nothing is read, and its number
-- of zeros stands on the stack.
pub record ReadAnswers : Type 0 where
  pub dry : (n : ℕ) → 5 ≤ n → ReportsWith echo [] n (listed (Read 0 4) (ended Dry))
  pub some : Echoes (Got (104 ∷ 105 ∷ [])) (104 ∷ 105 ∷ [])
  pub empty : Echoes (Got []) []
  pub more : Echoes (Got (1 ∷ 2 ∷ 3 ∷ 4 ∷ 5 ∷ 6 ∷ [])) (1 ∷ 2 ∷ 3 ∷ 4 ∷ [])
  pub number : Echoes (Took 3) []
  pub error : Echoes (Error 5) (0 ∷ 0 ∷ 0 ∷ 0 ∷ 0 ∷ [])

-- b 12; addi r0,0,1; sc; addi r3,0,7; b -12
abbrev pub jump_back : List ℕ
jump_back = 0x4800000C ∷ 0x38000001 ∷ 0x44000002 ∷ 0x38600007 ∷ 0x4BFFFFF4 ∷ []

-- addi r3,0,5; addi r4,0,-2; add r3,r3,r4; addi r0,0,1; sc
abbrev pub add_negative : List ℕ
add_negative = 0x38600005 ∷ 0x3880FFFE ∷ 0x7C632214 ∷ 0x38000001 ∷ 0x44000002 ∷ []

-- a word that is no instruction
abbrev pub no_instruction : List ℕ
no_instruction = 0 ∷ []

-- addis r4,0,0x1000; lwz r3,0(r4); addi r0,0,1; sc: loads the first word of the program
abbrev pub load_word : List ℕ
load_word = 0x3C801000 ∷ 0x80640000 ∷ 0x38000001 ∷ 0x44000002 ∷ []

-- stwu r1,-16(r1); lbz r3,3(r1); addi r0,0,1; sc: the lowest byte of the old r1 stands last
abbrev pub push_frame : List ℕ
push_frame = 0x9421FFF0 ∷ 0x88610003 ∷ 0x38000001 ∷ 0x44000002 ∷ []

-- addi r30,0,5; addi r31,0,9; stmw r30,0(r1); lmw r29,0(r1); addi r3,r30,0; addi r0,0,1; sc
abbrev pub move_many : List ℕ
move_many = 0x3BC00005 ∷ 0x3BE00009 ∷ 0xBFC10000 ∷ 0xBBA10000 ∷ 0x387E0000 ∷ 0x38000001 ∷ 0x44000002 ∷ []

-- addi r3,0,7; cmpi 1,r3,8; bc 12,4,8; addi r3,0,1; addi r0,0,1; sc: a branch where LT of field 1 is set
abbrev pub compare : List ℕ
compare = 0x38600007 ∷ 0x2C830008 ∷ 0x41840008 ∷ 0x38600001 ∷ 0x38000001 ∷ 0x44000002 ∷ []

-- addi r3,0,3; addic. r3,r3,-1; mfspr r4,1; mfcr r5; add r3,r4,r5; addi r0,0,1; sc: CA and GT of field 0 are set
abbrev pub record_and_carry : List ℕ
record_and_carry = 0x38600003 ∷ 0x3463FFFF ∷ 0x7C8102A6 ∷ 0x7CA00026 ∷ 0x7C642A14 ∷ 0x38000001 ∷ 0x44000002 ∷ []

-- addi r4,0,2; mtspr 9,r4; addi r3,r3,1; bc 16,0,-4; addi r0,0,1; sc: a loop that CTR counts
abbrev pub count_down : List ℕ
count_down = 0x38800002 ∷ 0x7C8903A6 ∷ 0x38630001 ∷ 0x4200FFFC ∷ 0x38000001 ∷ 0x44000002 ∷ []

-- b 16 with LK; mfspr r3,8; addi r0,0,1; sc; bclr 20,0 with LK: back to the second word, and LR has the address behind
abbrev pub link : List ℕ
link = 0x48000011 ∷ 0x7C6802A6 ∷ 0x38000001 ∷ 0x44000002 ∷ 0x4E800021 ∷ []

-- twi 16,r0,0; twi 4,r0,0: 0 isn't less than 0, but equal
abbrev pub trap_equal : List ℕ
trap_equal = 0x0E000000 ∷ 0x0C800000 ∷ []

-- lwz r3,0(0)
abbrev pub load_outside : List ℕ
load_outside = 0x80600000 ∷ []

-- addis r4,0,0x1000; stw r3,0(r4): no code is written
abbrev pub store_to_code : List ℕ
store_to_code = 0x3C801000 ∷ 0x90640000 ∷ []
