-- The numbers in an ELF file: System V ABI, "Data Encoding". A file for PowerPC has the highest byte first, a file for IA-32 the lowest.
use Rattle.std.specs.Prelude.{ℕ, List, drop}
use Rattle.byteorder.specs.Endian.{big_number, little_number}
use Rattle.space.specs.declared.program.Kind.{Kind}
use Rattle.space.specs.declared.program.Kind.TheVariants.{PowerPc, Ia32}

-- the number in the two bytes from the offset `at` on
unfoldable pub half_at : Kind → List ℕ → ℕ → ℕ
half_at PowerPc bytes at = big_number 2 (drop at bytes)
half_at Ia32 bytes at = little_number 2 (drop at bytes)

-- the number in the four bytes from the offset `at` on
unfoldable pub word_at : Kind → List ℕ → ℕ → ℕ
word_at PowerPc bytes at = big_number 4 (drop at bytes)
word_at Ia32 bytes at = little_number 4 (drop at bytes)
