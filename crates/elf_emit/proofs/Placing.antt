-- Segments that are put one after another.
use Rattle.std.proofs.Common.{◌≡◌, ◌≤◌, ◌<◌, ◌+◌, ◌-◌, ◌*◌, ℕ, take, List, [], ◌∷◌, ◌++◌, length, get_or, drop, replicate, refl, ap, sym, ◌∙◌, append_assoc, arith}
use Rattle.std.specs.List.{All, sum_by}
use Rattle.std.proofs.lemmas.List.{append-nil, drop_more, drop_all, length-map}
use Rattle.std.proofs.lemmas.List.Elements.{All-head, All-tail}
use Rattle.std.proofs.lemmas.List.Sums.{sum_by-cons}
use Rattle.elf_load.specs.Prelude.{zeros}
use Rattle.elf_emit.specs.Prelude.{FileSegment, word, file_header, elf_file, program_header, program_headers, contents, headers_end, offset_of, end_of, IsSound, shown, all_shown, home_page, Part}

-- what is left from a place on begins with the segment there
left_from : (parts : List Part) (i : ℕ) (d : Part) → i < length parts
    → all_shown (drop i parts) ≡ shown (get_or parts i d) ∷ all_shown (drop (i + 1) parts)
left_from parts i d lt = ap all_shown (drop_more parts i d lt)

none_left : (parts : List Part) (i : ℕ) → length parts ≤ i → all_shown (drop i parts) ≡ []
none_left parts i le = ap all_shown (drop_all i parts le)

contents_left : (s : FileSegment) (ss : List FileSegment) (n : ℕ)
    → contents (s ∷ ss) n ≡ (replicate (offset_of s n - n) 0 ++ s.bytes) ++ contents ss (end_of s n)
unfolding contents
contents_left s ss n = refl

headers_left : (s : FileSegment) (ss : List FileSegment) (n : ℕ)
    → program_headers (s ∷ ss) n ≡ program_header s (offset_of s n) ++ program_headers ss (end_of s n)
unfolding program_headers
headers_left s ss n = refl

-- what stands already, and the segments that are left, are the whole
pub contents_more : (parts : List Part) (i n m : ℕ) (d : Part) (old new all : List ℕ) → i < length parts
    → new ≡ old ++ (replicate (offset_of (shown (get_or parts i d)) n - n) 0 ++ (get_or parts i d).bytes.now)
    → m ≡ end_of (shown (get_or parts i d)) n
    → old ++ contents (all_shown (drop i parts)) n ≡ all → new ++ contents (all_shown (drop (i + 1) parts)) m ≡ all
contents_more parts i n m d old new all lt made end so =
    rw (made, end) (append_assoc old _ _
    ∙ ap (λ (v : List ℕ). old ++ v) (sym (ap (λ (ss : List FileSegment). contents ss n) (left_from parts i d lt)
    ∙ contents_left (shown (get_or parts i d)) (all_shown (drop (i + 1) parts)) n)) ∙ so)

pub headers_more : (parts : List Part) (i n m offset : ℕ) (d : Part) (old new all : List ℕ) → i < length parts
    → new ≡ old ++ program_header (shown (get_or parts i d)) offset → offset ≡ offset_of (shown (get_or parts i d)) n
    → m ≡ end_of (shown (get_or parts i d)) n
    → old ++ program_headers (all_shown (drop i parts)) n ≡ all → new ++ program_headers (all_shown (drop (i + 1) parts)) m ≡ all
headers_more parts i n m offset d old new all lt made here end so =
    rw (made, here, end) (append_assoc old _ _
    ∙ ap (λ (v : List ℕ). old ++ v) (sym (ap (λ (ss : List FileSegment). program_headers ss n) (left_from parts i d lt)
    ∙ headers_left (shown (get_or parts i d)) (all_shown (drop (i + 1) parts)) n)) ∙ so)

pub contents_all : (parts : List Part) (i n : ℕ) (old all : List ℕ) → length parts ≤ i → old ++ contents (all_shown (drop i parts)) n ≡ all → old ≡ all
unfolding contents
contents_all parts i n old all le so =
    sym (append-nil old) ∙ ap (λ (ss : List FileSegment). old ++ contents ss n) (sym (none_left parts i le)) ∙ so

pub headers_all : (parts : List Part) (i n : ℕ) (old all : List ℕ) → length parts ≤ i → old ++ program_headers (all_shown (drop i parts)) n ≡ all → old ≡ all
unfolding program_headers
headers_all parts i n old all le so =
    sym (append-nil old) ∙ ap (λ (ss : List FileSegment). old ++ program_headers ss n) (sym (none_left parts i le)) ∙ so

-- where the file ends at most, if it ends at `end` and these segments are put behind it
abbrev pub most : ℕ → List FileSegment → ℕ
most end ss = end + 4096 * length ss + sum_by (λ s. length s.bytes) ss

-- no file of few segments is longer
abbrev pub limit : ℕ
limit = 52 + 32 * 96 + 4096 * 96 + 0x10000000

most_left : (parts : List Part) (i n : ℕ) (d : Part) → i < length parts
    → most n (all_shown (drop i parts)) ≡ n + 4096 + length (get_or parts i d).bytes.now + 4096 * length (all_shown (drop (i + 1) parts))
    + sum_by (λ s. length s.bytes) (all_shown (drop (i + 1) parts))
most_left parts i n d lt =
    let s : FileSegment = shown (get_or parts i d) in
    let ss : List FileSegment = all_shown (drop (i + 1) parts) in
    let cons : sum_by (λ t. length t.bytes) (s ∷ ss) ≡ length s.bytes + sum_by (λ t. length t.bytes) ss = sum_by-cons (λ (t : FileSegment). length t.bytes) s ss in
    let all : most n (s ∷ ss) ≡ n + 4096 + length s.bytes + 4096 * length ss + sum_by (λ t. length t.bytes) ss = omega arith in
    ap (most n) (left_from parts i d lt) ∙ all

pub most_more : (parts : List Part) (i n m : ℕ) (d : Part) → i < length parts → most n (all_shown (drop i parts)) ≤ limit
    → m < n + 4096 + length (get_or parts i d).bytes.now → most m (all_shown (drop (i + 1) parts)) ≤ limit
most_more parts i n m d lt le bound = omega (arith, most_left parts i n d lt)

pub elf_file_parts : (entry : ℕ) (parts : List Part) (none headed listed all : List ℕ) (n : ℕ) → none ≡ []
    → headed ≡ none ++ file_header entry (length parts)
    → listed ≡ headed ++ program_headers (all_shown parts) (headers_end (length parts)) → n ≡ headers_end (length parts)
    → all ≡ listed ++ contents (all_shown parts) n → all ≡ elf_file entry (all_shown parts)
unfolding elf_file
elf_file_parts entry parts none headed listed all n e0 e1 e2 e3 e4 =
    let same = length-map parts shown in
    rw (e4, e3, e2, e1, e0, same) refl

pub home_page_parts : (none one two all : List ℕ) (n : ℕ) → none ≡ [] → one ≡ none ++ word 0 → two ≡ one ++ word 0x7F0FFFC0 → n ≡ 8
    → all ≡ take 4096 two ++ replicate (4096 - n) 0 → all ≡ home_page
unfolding home_page zeros
home_page_parts none one two all n e0 e1 e2 e3 e4 = rw (e4, e3, e2, e1, e0) refl

-- the bytes in the file are no more than the memory
pub bytes_within : (ss : List FileSegment) → All IsSound ss → sum_by (λ s. length s.bytes) ss ≤ sum_by (λ s. s.size) ss
bytes_within [] sound = omega arith
bytes_within (s ∷ ss) sound =
    let first : IsSound s = All-head IsSound s ss sound in
    let fits = first.fits in
    omega (
      arith,
      sum_by-cons (λ (t : FileSegment). length t.bytes) s ss,
      sum_by-cons (λ (t : FileSegment). t.size) s ss,
      bytes_within ss (All-tail IsSound s ss sound),
    )
