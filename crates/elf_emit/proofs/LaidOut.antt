-- What a file lays out whose headers describe these segments.
use Rattle.std.proofs.Common.{◌≡◌, ℕ, zero, suc, ◌+◌, ◌<◌, ◌≤◌, Bool, true, false, cond, Some, None, List, [], ◌∷◌, ◌++◌, length, map, take, drop, get_or, refl, sym, ap, ◌∙◌, arith, nat_lt}
use Rattle.std.specs.Prelude.{if◌then◌else◌, ◌==◌, not, bit_and}
use Rattle.std.specs.List.{All, sum_by, position, position_or_len}
use Rattle.std.proofs.lemmas.Bool.{lt-ltb, false_from_ne_true}
use Rattle.std.proofs.lemmas.List.{map_more, length-map, get_or-map}
use Rattle.std.proofs.lemmas.List.Sums.{sum_by_more, position_or_len_is}
use Rattle.space.specs.declared.program.Kind.TheVariants.{Ia32}
use Rattle.space.specs.declared.program.Segment.{Segment}
use Rattle.elf_load.specs.Headers as load
use Rattle.elf_load.specs.Prelude.{header, is_load, is_segment, is_writable, is_executable, segment_of, segments_before, is_code_segment, memory_before}
use Rattle.elf_load.specs.declared.headers.ProgramHeader.{ProgramHeader}
use Rattle.elf_emit.specs.Prelude.{FileSegment, in_memory, is_code, IsSound, AreLoadable}
use Rattle.elf_emit.proofs.Described.{described, IsDescribed}

pub nothing : FileSegment
nothing = record { at = 0; size = 0; write = false; exec = false; bytes = [] }

flags_write : (w x : Bool) → not (bit_and (4 + (if w then 2 else 0) + (if x then 1 else 0)) 2 == 0) ≡ w
flags_write true true = refl
flags_write true false = refl
flags_write false true = refl
flags_write false false = refl

flags_exec : (w x : Bool) → not (bit_and (4 + (if w then 2 else 0) + (if x then 1 else 0)) 1 == 0) ≡ x
flags_exec true true = refl
flags_exec true false = refl
flags_exec false true = refl
flags_exec false false = refl

pub writable : (s : FileSegment) (offset : ℕ) → is_writable (described s offset) ≡ s.write
writable s offset = flags_write s.write s.exec

pub executable : (s : FileSegment) (offset : ℕ) → is_executable (described s offset) ≡ s.exec
executable s offset = flags_exec s.write s.exec

pub segment : (s : FileSegment) (offset : ℕ) → IsSound s → is_segment (described s offset) ≡ true
segment s offset sound = lt-ltb 0 s.size sound.some

pub code_header : (s : FileSegment) (offset : ℕ) → IsSound s → load.is_code (described s offset) ≡ is_code s
code_header s offset sound =
    let a = segment s offset sound in
    let b = executable s offset in
    let c = writable s offset in
    rw (a, b, c) refl

shown : (file : List ℕ) (s : FileSegment) (offset : ℕ) → take (length s.bytes) (drop offset file) ≡ s.bytes
    → segment_of file (described s offset) ≡ in_memory s
shown file s offset e =
    let b = executable s offset in
    let c = writable s offset in
    rw (e, b, c) refl

-- every segment is described by the header of its number
abbrev pub AreDescribed : List ℕ → List FileSegment → Type 0
AreDescribed file segments = (k : ℕ) (d : FileSegment) → k < length segments → IsDescribed file k (get_or segments k d)

header_memory : (h : ProgramHeader) (s : FileSegment) (offset : ℕ) → h ≡ described s offset → (if is_load h then h.memsz else 0) ≡ s.size
header_memory h s offset e = rw e refl

pub memory_is : (file : List ℕ) (segments : List FileSegment) → AreDescribed file segments → (n : ℕ) → n ≤ length segments
    → memory_before Ia32 file n ≡ sum_by (λ s. s.size) (take n segments)
unfolding memory_before
memory_is file segments all zero lt = refl
memory_is file segments all (suc n) lt =
    let h = all n nothing (omega arith) in
    let before = memory_is file segments all n (omega arith) in
    let here = header_memory (header Ia32 file n) (get_or segments n nothing) h.offset h.is in
    let more : sum_by (λ s. s.size) (take (n + 1) segments) ≡ sum_by (λ s. s.size) (take n segments) + (get_or segments n nothing).size =
    sum_by_more (λ s. s.size) segments n nothing (omega arith) in
    let next : n + 1 ≡ suc n = omega arith in
    rw (before, here) (sym (ap (λ (m : ℕ). sum_by (λ s. s.size) (take m segments)) (sym next) ∙ more))

header_segment : (file : List ℕ) (h : ProgramHeader) (s : FileSegment) (offset : ℕ) → h ≡ described s offset → IsSound s
    → take (length s.bytes) (drop offset file) ≡ s.bytes
    → (if is_segment h then segment_of file h ∷ [] else []) ≡ in_memory s ∷ []
header_segment file h s offset e sound bytes =
    let a = segment s offset sound in
    rw (e, a) (ap (λ (x : Segment). x ∷ []) (shown file s offset bytes))

pub segments_are : (file : List ℕ) (segments : List FileSegment) → AreDescribed file segments → All IsSound segments
    → (n : ℕ) → n ≤ length segments → segments_before Ia32 file n ≡ map in_memory (take n segments)
unfolding segments_before
segments_are file segments all sound zero lt = refl
segments_are file segments all sound (suc n) lt =
    let h = all n nothing (omega arith) in
    let before = segments_are file segments all sound n (omega arith) in
    let here = header_segment file (header Ia32 file n) (get_or segments n nothing) h.offset h.is (sound n nothing (omega arith)) h.bytes in
    let more : map in_memory (take (n + 1) segments) ≡ map in_memory (take n segments) ++ in_memory (get_or segments n nothing) ∷ [] =
    map_more in_memory segments n nothing (omega arith) in
    let next : n + 1 ≡ suc n = omega arith in
    rw (before, here) (sym (ap (λ (m : ℕ). map in_memory (take m segments)) (sym next) ∙ more))

some_place : (n code length : ℕ) → n ≡ code → code < length → cond (nat_lt n length) (Some n) None ≡ Some code
some_place n code length e lt = rw e (rw (lt-ltb code length lt) refl)

-- the code segment is found
pub code_is_found : (segments : List FileSegment) (code : ℕ) → AreLoadable segments code
    → position is_code_segment (map in_memory segments) ≡ Some code
code_is_found segments code sound =
    let d : Segment = in_memory nothing in
    let same : length (map in_memory segments) ≡ length segments = length-map segments in_memory in
    let place : position_or_len is_code_segment (map in_memory segments) ≡ code =
    position_or_len_is is_code_segment (map in_memory segments) code d (let w = sound.within in omega arith)
    (λ k lt. false_from_ne_true _ (λ t. let w = sound.within in let e : k ≡ code =
    sound.alone k nothing (omega arith) (sym (ap is_code_segment (get_or-map in_memory segments k nothing d (omega arith))) ∙ t) in omega arith))
    (λ lt. ap is_code_segment (get_or-map in_memory segments code nothing d sound.within) ∙ sound.here nothing) in
    some_place _ code _ place (let w = sound.within in omega arith)
