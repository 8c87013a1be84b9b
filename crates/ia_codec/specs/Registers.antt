-- The registers of the profile by their numbers in opcodes and ModRM bytes (Intel SDM volume 2, table 2-2).
use Rattle.std.specs.Prelude.{ℕ}

abbrev pub eax : ℕ
eax = 0

abbrev pub ecx : ℕ
ecx = 1

abbrev pub edx : ℕ
edx = 2

abbrev pub ebx : ℕ
ebx = 3

abbrev pub esi : ℕ
esi = 6

abbrev pub edi : ℕ
edi = 7
