-- Reading the fields of the file header.
use Rattle.std.proofs.Common.{◌≡◌, ℕ, ◌+◌, ◌*◌, ◌^◌, ◌<◌, ◌≤◌, List, [], ◌∷◌, ◌++◌, length, take, drop, get_or, refl, sym, ap, ◌∙◌, arith}
use Rattle.std.proofs.lemmas.List.{drop_at, drop-drop, length-append}
use Rattle.byteorder.specs.Endian.{little_bytes, little_number}
use Rattle.byteorder.specs.Numbers.{little_number-reads_back}
use Rattle.space.specs.declared.program.Kind.TheVariants.{Ia32}
use Rattle.elf_load.specs.Prelude.{half_at, word_at}
use Rattle.elf_emit.specs.Prelude.{identification, no_sections, file_header}

-- a word is read back where it stands
pub word_here : (file : List ℕ) (at x : ℕ) (rest : List ℕ) → x < 2 ^ 32 → drop at file ≡ little_bytes 4 x ++ rest → word_at Ia32 file at ≡ x
unfolding word_at
word_here file at x rest h e = ap (little_number 4) e ∙ little_number-reads_back 4 x rest h

-- so is a half
pub half_here : (file : List ℕ) (at x : ℕ) (rest : List ℕ) → x < 2 ^ 16 → drop at file ≡ little_bytes 2 x ++ rest → half_at Ia32 file at ≡ x
unfolding half_at
half_here file at x rest h e = ap (little_number 2) e ∙ little_number-reads_back 2 x rest h

-- the file behind a place, further on by the length of what stands there
pub behind : (file : List ℕ) (at n : ℕ) (first rest : List ℕ) → drop at file ≡ first ++ rest → length first ≡ n → drop (at + n) file ≡ rest
behind file at n first rest e l = sym (drop-drop n at file) ∙ ap (drop n) e ∙ drop_at first rest n l

-- the file header stands in front
abbrev with_header : ℕ → ℕ → List ℕ → List ℕ
with_header entry count rest = file_header entry count ++ rest

pub magic : (entry count : ℕ) (rest : List ℕ) → take 4 (with_header entry count rest) ≡ 0x7F ∷ 0x45 ∷ 0x4C ∷ 0x46 ∷ []
unfolding file_header identification
magic entry count rest = refl

pub class_byte : (entry count : ℕ) (rest : List ℕ) → get_or (with_header entry count rest) 4 0 ≡ 1
unfolding file_header identification
class_byte entry count rest = refl

pub order_byte : (entry count : ℕ) (rest : List ℕ) → get_or (with_header entry count rest) 5 0 ≡ 1
unfolding file_header identification
order_byte entry count rest = refl

pub version_byte : (entry count : ℕ) (rest : List ℕ) → get_or (with_header entry count rest) 6 0 ≡ 1
unfolding file_header identification
version_byte entry count rest = refl

pub type_field : (entry count : ℕ) (rest : List ℕ) → half_at Ia32 (with_header entry count rest) 16 ≡ 2
unfolding file_header identification half_at
type_field entry count rest = refl

pub machine_field : (entry count : ℕ) (rest : List ℕ) → half_at Ia32 (with_header entry count rest) 18 ≡ 3
unfolding file_header identification half_at
machine_field entry count rest = refl

pub version_field : (entry count : ℕ) (rest : List ℕ) → word_at Ia32 (with_header entry count rest) 20 ≡ 1
unfolding file_header identification word_at
version_field entry count rest = refl

pub entry_field : (entry count : ℕ) (rest : List ℕ) → entry < 2 ^ 32 → word_at Ia32 (with_header entry count rest) 24 ≡ entry
unfolding file_header identification
entry_field entry count rest h = word_here (with_header entry count rest) 24 entry _ h refl

pub table_field : (entry count : ℕ) (rest : List ℕ) → word_at Ia32 (with_header entry count rest) 28 ≡ 52
unfolding file_header identification word_at
table_field entry count rest = refl

pub size_field : (entry count : ℕ) (rest : List ℕ) → half_at Ia32 (with_header entry count rest) 42 ≡ 32
unfolding file_header identification half_at
size_field entry count rest = refl

pub count_field : (entry count : ℕ) (rest : List ℕ) → count < 2 ^ 16 → half_at Ia32 (with_header entry count rest) 44 ≡ count
unfolding file_header identification no_sections
count_field entry count rest h = half_here (with_header entry count rest) 44 count _ h refl

pub length_header : (entry count : ℕ) → length (file_header entry count) ≡ 52
unfolding file_header identification no_sections
length_header entry count = refl

-- what the rules read in the file header
pub record HasFields (file : List ℕ) (entry count : ℕ) : Type 0 where
  pub long : 52 + 32 * count ≤ length file
  pub magic : take 4 file ≡ 0x7F ∷ 0x45 ∷ 0x4C ∷ 0x46 ∷ []
  pub class : get_or file 4 0 ≡ 1
  pub order : get_or file 5 0 ≡ 1
  pub version : get_or file 6 0 ≡ 1
  pub kind : half_at Ia32 file 16 ≡ 2
  pub machine : half_at Ia32 file 18 ≡ 3
  pub format : word_at Ia32 file 20 ≡ 1
  pub entry_is : word_at Ia32 file 24 ≡ entry
  pub table : word_at Ia32 file 28 ≡ 52
  pub size : half_at Ia32 file 42 ≡ 32
  pub count_is : half_at Ia32 file 44 ≡ count

pub has_fields : (entry count : ℕ) (rest : List ℕ) → entry < 2 ^ 32 → count < 2 ^ 16 → 32 * count ≤ length rest
    → HasFields (with_header entry count rest) entry count
has_fields entry count rest e c l = record {
  long = omega (arith, length-append (file_header entry count) rest, length_header entry count);
  magic = magic entry count rest;
  class = class_byte entry count rest;
  order = order_byte entry count rest;
  version = version_byte entry count rest;
  kind = type_field entry count rest;
  machine = machine_field entry count rest;
  format = version_field entry count rest;
  entry_is = entry_field entry count rest e;
  table = table_field entry count rest;
  size = size_field entry count rest;
  count_is = count_field entry count rest c;
}
