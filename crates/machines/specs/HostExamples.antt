-- Small host programs whose reports are told in full.
use Rattle.std.specs.Prelude.{◌≡◌, ℕ, ◌<◌, ◌≤◌, false, true, List, [], ◌∷◌, Option}
use Rattle.space.specs.declared.program.Program.{Program}
use Rattle.space.specs.declared.program.Kind.TheVariants.{Ia32}
use Rattle.space.specs.declared.call.End.{End}
use Rattle.space.specs.declared.call.End.TheVariants.{Running}
use Rattle.space.specs.Reports.{AnswerValue, ended}
use Rattle.machines.specs.Readings.{Fetched, ReadsOps}
use Rattle.machines.specs.Host.{Choice, host_run}

-- the program of these code bytes at 0x08048000, with four bytes of data at 0x09000000
abbrev pub host_program : List ℕ → Program
host_program code = record {
  kind = Ia32;
  entry = 0x08048000;
  segments = record { at = 0x08048000; write = false; exec = true; bytes = code } ∷ record { at = 0x09000000; write = true; exec = false; bytes = 0 ∷ 0 ∷ 0 ∷ 0 ∷ [] } ∷ [];
  code = 0;
}

-- The run makes no call, and from step `last` on has ended as the processor's choices have it, whatever the answers.
pub record HostEndsBy (code : List ℕ) (last : ℕ) (how : List Choice → End) : Type 0 where
  pub before : (n : ℕ) → n < last → (ops : List ℕ → Option Fetched) → ReadsOps ops → (answers : List AnswerValue) (choices : List Choice) → host_run ops (host_program code) answers choices n ≡ ended Running
  pub after : (n : ℕ) → last ≤ n → (ops : List ℕ → Option Fetched) → ReadsOps ops → (answers : List AnswerValue) (choices : List Choice) → host_run ops (host_program code) answers choices n ≡ ended (how choices)

-- whatever it chooses
abbrev pub HostEndsAt : List ℕ → ℕ → End → Type 0
HostEndsAt code last how = HostEndsBy code last (λ choices. how)

-- mov eax,1; mov ebx,7; int 0x80
abbrev pub host_exit : List ℕ
host_exit = 0xB8 ∷ 1 ∷ 0 ∷ 0 ∷ 0 ∷ 0xBB ∷ 7 ∷ 0 ∷ 0 ∷ 0 ∷ 0xCD ∷ 0x80 ∷ []

-- mov eax,99; int 0x80; mov ebx,eax; mov eax,1; int 0x80
abbrev pub host_unknown : List ℕ
host_unknown = 0xB8 ∷ 99 ∷ 0 ∷ 0 ∷ 0 ∷ 0xCD ∷ 0x80 ∷ 0x89 ∷ 0xC3 ∷ 0xB8 ∷ 1 ∷ 0 ∷ 0 ∷ 0 ∷ 0xCD ∷ 0x80 ∷ []

-- mov eax,1; cmp eax,1; je 10; mov ebx,9; jmp 5; mov ebx,7; int 0x80
abbrev pub host_branch : List ℕ
host_branch = 0xB8 ∷ 1 ∷ 0 ∷ 0 ∷ 0 ∷ 0x81 ∷ 0xF8 ∷ 1 ∷ 0 ∷ 0 ∷ 0 ∷ 0x0F ∷ 0x84 ∷ 10 ∷ 0 ∷ 0 ∷ 0 ∷ 0xBB ∷ 9 ∷ 0 ∷ 0 ∷ 0 ∷ 0xE9 ∷ 5 ∷ 0 ∷ 0 ∷ 0 ∷ 0xBB ∷ 7 ∷ 0 ∷ 0 ∷ 0 ∷ 0xCD ∷ 0x80 ∷ []

-- mov eax,1; cmp eax,2; je 10; mov ebx,9; jmp 5; mov ebx,7; int 0x80
abbrev pub host_no_branch : List ℕ
host_no_branch = 0xB8 ∷ 1 ∷ 0 ∷ 0 ∷ 0 ∷ 0x81 ∷ 0xF8 ∷ 2 ∷ 0 ∷ 0 ∷ 0 ∷ 0x0F ∷ 0x84 ∷ 10 ∷ 0 ∷ 0 ∷ 0 ∷ 0xBB ∷ 9 ∷ 0 ∷ 0 ∷ 0 ∷ 0xE9 ∷ 5 ∷ 0 ∷ 0 ∷ 0 ∷ 0xBB ∷ 7 ∷ 0 ∷ 0 ∷ 0 ∷ 0xCD ∷ 0x80 ∷ []

-- mov eax,0x11223344; mov [0x09000000],eax; movzx ebx,byte [0x09000001]; mov eax,1; int 0x80
abbrev pub host_memory : List ℕ
host_memory = 0xB8 ∷ 0x44 ∷ 0x33 ∷ 0x22 ∷ 0x11 ∷ 0x89 ∷ 0x05 ∷ 0 ∷ 0 ∷ 0 ∷ 9 ∷ 0x0F ∷ 0xB6 ∷ 0x1D ∷ 1 ∷ 0 ∷ 0 ∷ 9 ∷ 0xB8 ∷ 1 ∷ 0 ∷ 0 ∷ 0 ∷ 0xCD ∷ 0x80 ∷ []

-- mov [0x08048000],eax: no code is written
abbrev pub host_code_write : List ℕ
host_code_write = 0x89 ∷ 0x05 ∷ 0 ∷ 0x80 ∷ 4 ∷ 8 ∷ []

-- int3; ud2; a byte with which no spelling begins; mov eax,eax and then nothing
abbrev pub host_trap : List ℕ
host_trap = 0xCC ∷ []

abbrev pub host_ud2 : List ℕ
host_ud2 = 0x0F ∷ 0x0B ∷ []

abbrev pub host_nothing : List ℕ
host_nothing = 0 ∷ []

abbrev pub host_off : List ℕ
host_off = 0x89 ∷ 0xC0 ∷ []

-- mov eax,1; mov ecx,2; shl eax,cl; setl cl; movzx ebx,cl; mov eax,1; int 0x80: 4 is positive, so OF decides
abbrev pub host_shift : List ℕ
host_shift = 0xB8 ∷ 1 ∷ 0 ∷ 0 ∷ 0 ∷ 0xB9 ∷ 2 ∷ 0 ∷ 0 ∷ 0 ∷ 0xD3 ∷ 0xE0 ∷ 0x0F ∷ 0x9C ∷ 0xC1 ∷ 0x0F ∷ 0xB6 ∷ 0xD9 ∷ 0xB8 ∷ 1 ∷ 0 ∷ 0 ∷ 0 ∷ 0xCD ∷ 0x80 ∷ []

-- mov eax,0x11223344; cmp eax,eax; sete al; mov ebx,eax; mov eax,1; int 0x80
abbrev pub host_byte : List ℕ
host_byte = 0xB8 ∷ 0x44 ∷ 0x33 ∷ 0x22 ∷ 0x11 ∷ 0x39 ∷ 0xC0 ∷ 0x0F ∷ 0x94 ∷ 0xC0 ∷ 0x89 ∷ 0xC3 ∷ 0xB8 ∷ 1 ∷ 0 ∷ 0 ∷ 0 ∷ 0xCD ∷ 0x80 ∷ []

-- mov eax,17; mov edx,0; mov ecx,5; div ecx; lea ebx,[eax+edx*8]; mov eax,1; int 0x80
abbrev pub host_divide : List ℕ
host_divide = 0xB8 ∷ 17 ∷ 0 ∷ 0 ∷ 0 ∷ 0xBA ∷ 0 ∷ 0 ∷ 0 ∷ 0 ∷ 0xB9 ∷ 5 ∷ 0 ∷ 0 ∷ 0 ∷ 0xF7 ∷ 0xF1 ∷ 0x8D ∷ 0x9C ∷ 0xD0 ∷ 0 ∷ 0 ∷ 0 ∷ 0 ∷ 0xB8 ∷ 1 ∷ 0 ∷ 0 ∷ 0 ∷ 0xCD ∷ 0x80 ∷ []

-- mov ecx,0; div ecx
abbrev pub host_divide_by_zero : List ℕ
host_divide_by_zero = 0xB9 ∷ 0 ∷ 0 ∷ 0 ∷ 0 ∷ 0xF7 ∷ 0xF1 ∷ []

-- mov dword [0x09000000],0x08048015; jmp [0x09000000]; mov ebx,9; mov ebx,7; mov eax,1; int 0x80
abbrev pub host_jump : List ℕ
host_jump = 0xC7 ∷ 0x05 ∷ 0 ∷ 0 ∷ 0 ∷ 9 ∷ 0x15 ∷ 0x80 ∷ 4 ∷ 8 ∷ 0xFF ∷ 0x25 ∷ 0 ∷ 0 ∷ 0 ∷ 9 ∷ 0xBB ∷ 9 ∷ 0 ∷ 0 ∷ 0 ∷ 0xBB ∷ 7 ∷ 0 ∷ 0 ∷ 0 ∷ 0xB8 ∷ 1 ∷ 0 ∷ 0 ∷ 0 ∷ 0xCD ∷ 0x80 ∷ []
