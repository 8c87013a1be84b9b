-- Each program header of a written file describes its segment, and the segment's bytes stand where it says.
use Rattle.std.proofs.Common.{◌≡◌, ℕ, zero, suc, ◌+◌, ◌-◌, ◌*◌, ◌%◌, ◌^◌, ◌<◌, ◌≤◌, Bool, true, false, List, [], ◌∷◌, ◌++◌, length, take, drop, replicate, get_or, refl, sym, ap, ◌∙◌, subst, arith}
use Rattle.std.specs.Prelude.{if◌then◌else◌, ◌==◌}
use Rattle.std.specs.List.{All, sum_by}
use Rattle.std.proofs.lemmas.Bool.{eqb-true, eqb-false}
use Rattle.std.proofs.lemmas.List.{drop_at, take_at, drop-drop, append_assoc, length-append, length-drop, length-replicate, nil_from_length}
use Rattle.std.proofs.lemmas.List.Elements.{All-head, All-tail}
use Rattle.std.proofs.lemmas.List.Sums.{sum_by-cons}
use Rattle.space.specs.declared.program.Kind.TheVariants.{Ia32}
use Rattle.elf_load.specs.Prelude.{word_at, header}
use Rattle.elf_load.specs.declared.headers.ProgramHeader.{ProgramHeader}
use Rattle.elf_emit.specs.Prelude.{FileSegment, word, flags_of, file_header, program_header, offset_of, end_of, program_headers, contents, headers_end, elf_file, IsSound}
use Rattle.elf_emit.proofs.Fields.{word_here, behind, table_field, length_header}

abbrev described_by : (kind offset at filesz memsz flags : ℕ) → ProgramHeader
described_by kind offset at filesz memsz flags = record {
  segment_type = kind;
  offset = offset;
  vaddr = at;
  filesz = filesz;
  memsz = memsz;
  flags = flags;
}

-- the header of a segment whose bytes stand at the offset
abbrev pub described : FileSegment → ℕ → ProgramHeader
described s offset = described_by 1 offset s.at (length s.bytes) s.size (flags_of s)

same_header : (a b c d e f a' b' c' d' e' f' : ℕ) → a ≡ a' → b ≡ b' → c ≡ c' → d ≡ d' → e ≡ e' → f ≡ f'
    → described_by a b c d e f ≡ described_by a' b' c' d' e' f'
same_header a b c d e f a' b' c' d' e' f' p q r s t u = cc

flags_fit : (s : FileSegment) → flags_of s < 2 ^ 32
flags_fit s = flags_below s.write s.exec where
  flags_below : (w x : Bool) → 4 + (if w then 2 else 0) + (if x then 1 else 0) < 2 ^ 32
  flags_below true true = omega arith
  flags_below true false = omega arith
  flags_below false true = omega arith
  flags_below false false = omega arith

-- a field of a program header that stands at a place of the file
field : (file : List ℕ) (at n x : ℕ) (all rest : List ℕ) → drop at file ≡ all → drop n all ≡ word x ++ rest → x < 2 ^ 32 → word_at Ia32 file (at + n) ≡ x
field file at n x all rest e f h = word_here file (at + n) x rest h (sym (drop-drop n at file) ∙ ap (drop n) e ∙ f)

-- a program header is read back
pub header_here : (file : List ℕ) (number offset : ℕ) (s : FileSegment) (rest : List ℕ) → word_at Ia32 file 28 ≡ 52
    → IsSound s → offset < 2 ^ 32 → drop (52 + 32 * number) file ≡ program_header s offset ++ rest
    → header Ia32 file number ≡ described s offset
unfolding header program_header
header_here file number offset s rest table sound h e =
    let fits = sound.fits in
    let low = sound.low in
    rw table (same_header _ _ _ _ _ _ _ _ _ _ _ _
    (word_here file (52 + 32 * number) 1 _ (omega arith) e)
    (field file (52 + 32 * number) 4 offset _ _ e refl h)
    (field file (52 + 32 * number) 8 s.at _ _ e refl (omega arith))
    (field file (52 + 32 * number) 16 (length s.bytes) _ _ e refl (omega arith))
    (field file (52 + 32 * number) 20 s.size _ _ e refl (omega arith))
    (field file (52 + 32 * number) 24 (flags_of s) _ _ e refl (flags_fit s)))

pub length_program_header : (s : FileSegment) (offset : ℕ) → length (program_header s offset) ≡ 32
unfolding program_header
length_program_header s offset = refl

pub length_headers : (segments : List FileSegment) (end : ℕ) → length (program_headers segments end) ≡ 32 * length segments
unfolding program_headers
length_headers [] end = refl
length_headers (s ∷ ss) end =
    omega (
      arith,
      length-append (program_header s (offset_of s end)) (program_headers ss (end_of s end)),
      length_program_header s (offset_of s end),
      length_headers ss (end_of s end),
    )

-- the header of this number describes the segment, whose bytes stand in the file
pub record IsDescribed (file : List ℕ) (number : ℕ) (s : FileSegment) : Type 0 where
  pub offset : ℕ
  pub is : header Ia32 file number ≡ described s offset
  pub inside : offset + length s.bytes ≤ length file
  pub bytes : take (length s.bytes) (drop offset file) ≡ s.bytes

abbrev offset_by : Bool → FileSegment → ℕ → ℕ
offset_by b s end = if b then 0 else end + (s.at + (4096 - end % 4096)) % 4096

abbrev end_by : Bool → FileSegment → ℕ → ℕ
end_by b s end = if b then end else offset_by b s end + length s.bytes

nothing_before : (end : ℕ) → replicate {A = ℕ} (0 - end) 0 ≡ []
nothing_before end = let e : 0 - end ≡ 0 = omega arith in rw e refl

placed_by : (b : Bool) (file : List ℕ) (s : FileSegment) (more : List ℕ) (end : ℕ) → (length s.bytes == 0) ≡ b → end ≤ length file
    → drop end file ≡ (replicate (offset_by b s end - end) 0 ++ s.bytes) ++ more
    → (offset_by b s end ≤ end + 4095) × (offset_by b s end + length s.bytes ≤ length file)
    × (take (length s.bytes) (drop (offset_by b s end) file) ≡ s.bytes)
    × (drop (end_by b s end) file ≡ more) × (end_by b s end ≤ end + 4095 + length s.bytes) × (end_by b s end ≤ length file)
placed_by true file s more end t within e =
    let none : s.bytes ≡ [] = nil_from_length s.bytes (eqb-true _ _ t) in
    let long : length s.bytes ≡ 0 = eqb-true _ _ t in
    let front : replicate (0 - end) 0 ++ s.bytes ≡ [] = rw (nothing_before end, none) refl in (
      omega arith,
      omega arith,
      rw none refl,
      e ∙ ap (λ (x : List ℕ). x ++ more) front,
      omega arith,
      within,
    )
placed_by false file s more end t within e =
    let gap : ℕ = (s.at + (4096 - end % 4096)) % 4096 in
    let some : length s.bytes ≡ 0 → ⊥ = eqb-false _ _ t in
    let same : end + gap - end ≡ gap = omega arith in
    let stands : drop end file ≡ replicate gap 0 ++ (s.bytes ++ more) =
    e ∙ ap (λ (n : ℕ). (replicate n 0 ++ s.bytes) ++ more) same ∙ append_assoc (replicate gap 0) s.bytes more in
    let there : drop (end + gap) file ≡ s.bytes ++ more = behind file end gap (replicate gap 0) (s.bytes ++ more) stands (length-replicate gap 0) in
    let long : length file - (end + gap) ≡ length s.bytes + length more =
    sym (length-drop (end + gap) file) ∙ ap length there ∙ length-append s.bytes more in (
      omega arith,
      omega arith,
      rw there (take_at s.bytes more (length s.bytes) refl),
      behind file (end + gap) (length s.bytes) s.bytes more there refl,
      omega arith,
      omega arith,
    )

-- the same, with whether the segment has bytes
placed : (file : List ℕ) (s : FileSegment) (ss : List FileSegment) (end : ℕ) → end ≤ length file → drop end file ≡ contents (s ∷ ss) end
    → (offset_of s end ≤ end + 4095) × (offset_of s end + length s.bytes ≤ length file)
    × (take (length s.bytes) (drop (offset_of s end) file) ≡ s.bytes)
    × (drop (end_of s end) file ≡ contents ss (end_of s end)) × (end_of s end ≤ end + 4095 + length s.bytes) × (end_of s end ≤ length file)
unfolding contents
placed file s ss end within e = placed_by (length s.bytes == 0) file s (contents ss (end_of s end)) end refl within e

headers_split : (file : List ℕ) (at : ℕ) (s : FileSegment) (ss : List FileSegment) (end : ℕ) (rest : List ℕ)
    → drop at file ≡ program_headers (s ∷ ss) end ++ rest
    → drop at file ≡ program_header s (offset_of s end) ++ (program_headers ss (end_of s end) ++ rest)
unfolding program_headers
headers_split file at s ss end rest e = e ∙ append_assoc (program_header s (offset_of s end)) (program_headers ss (end_of s end)) rest

-- each segment whose header and bytes stand from some number and place on is described
pub each_from : (file : List ℕ) (segments : List FileSegment) (number end : ℕ) (rest : List ℕ) → word_at Ia32 file 28 ≡ 52
    → All IsSound segments → end + 4096 * length segments + sum_by (λ s. s.size) segments < 2 ^ 32 → end ≤ length file
    → drop (52 + 32 * number) file ≡ program_headers segments end ++ rest → drop end file ≡ contents segments end
    → (k : ℕ) (d : FileSegment) → k < length segments → IsDescribed file (number + k) (get_or segments k d)
each_from file [] number end rest table sound fits within headers bytes k d lt = absurd (omega arith)
each_from file (s ∷ ss) number end rest table sound fits within headers bytes zero d lt =
    let here = placed file s ss end within bytes in
    let first : IsSound s = All-head IsSound s ss sound in
    let split = headers_split file (52 + 32 * number) s ss end rest headers in
    let is : header Ia32 file number ≡ described s (offset_of s end) =
    header_here file number (offset_of s end) s _ table first (omega (arith, here.0)) split in
    let same : number ≡ number + 0 = omega arith in
    subst (λ (n : ℕ). IsDescribed file n s) same (record {
      offset = offset_of s end;
      is = is;
      inside = here.1;
      bytes = here.2;
    })
each_from file (s ∷ ss) number end rest table sound fits within headers bytes (suc k) d lt =
    let here = placed file s ss end within bytes in
    let split = headers_split file (52 + 32 * number) s ss end rest headers in
    let first : IsSound s = All-head IsSound s ss sound in
    let short : length s.bytes ≤ s.size = first.fits in
    let sum : sum_by (λ t. t.size) (s ∷ ss) ≡ s.size + sum_by (λ t. t.size) ss = sum_by-cons (λ t. t.size) s ss in
    let moved : drop (52 + 32 * number + 32) file ≡ program_headers ss (end_of s end) ++ rest =
    behind file (52 + 32 * number) 32 (program_header s (offset_of s end)) _ split (length_program_header s (offset_of s end)) in
    let place : 52 + 32 * number + 32 ≡ 52 + 32 * (number + 1) = omega arith in
    let next = each_from file ss (number + 1) (end_of s end) rest table (All-tail IsSound s ss sound)
    (omega (arith, here.4, sum)) here.5 (subst (λ (n : ℕ). drop n file ≡ program_headers ss (end_of s end) ++ rest) place moved)
    here.3 k d (omega arith) in
    let same : number + 1 + k ≡ number + suc k = omega arith in
    subst (λ (n : ℕ). IsDescribed file n (get_or ss k d)) same next

-- each segment of a whole file is described
pub described_in_file : (entry : ℕ) (segments : List FileSegment) → length segments ≤ 96 → All IsSound segments
    → sum_by (λ s. s.size) segments ≤ 0x10000000
    → (k : ℕ) (d : FileSegment) → k < length segments → IsDescribed (elf_file entry segments) k (get_or segments k d)
unfolding elf_file
described_in_file entry segments few sound memory k d lt =
    let count : ℕ = length segments in
    let headers : List ℕ = program_headers segments (headers_end count) in
    let bytes : List ℕ = contents segments (headers_end count) in
    let file : List ℕ = file_header entry count ++ headers ++ bytes in
    let split : file ≡ file_header entry count ++ (headers ++ bytes) = append_assoc (file_header entry count) headers bytes in
    let table : word_at Ia32 file 28 ≡ 52 = rw split (table_field entry count (headers ++ bytes)) in
    let long : length (file_header entry count ++ headers) ≡ headers_end count =
    omega (arith, length-append (file_header entry count) headers, length_header entry count, length_headers segments (headers_end count)) in
    let after : drop 52 file ≡ headers ++ bytes = rw split (drop_at (file_header entry count) (headers ++ bytes) 52 (length_header entry count)) in
    let behind_headers : drop (headers_end count) file ≡ bytes =
    drop_at (file_header entry count ++ headers) bytes (headers_end count) long in
    let within : headers_end count ≤ length file =
    omega (arith, length-append (file_header entry count ++ headers) bytes) in
    let all = each_from file segments 0 (headers_end count) bytes table sound (omega arith) within after behind_headers k d lt in
    let same : 0 + k ≡ k = omega arith in
    subst (λ (n : ℕ). IsDescribed file n (get_or segments k d)) same all
