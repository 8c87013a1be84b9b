-- The segments that are written are those of the file.
use Rattle.std.proofs.Common.{◌≡◌, ◌<◌, ◌^◌, ℕ, Bool, List, [], ◌∷◌, ◌++◌, length, map, Result, Ok, Err, Vec, Global, IfOk, ap, sym, ◌∙◌, subst, append_assoc, arith}
use Rattle.std.specs.List.{All}
use Rattle.std.proofs.lemmas.List.{map_push}
use Rattle.std.proofs.lemmas.List.Elements.{All-weaker}
use Rattle.space.specs.declared.program.Kind.TheVariants.{PowerPc, Ia32}
use Rattle.space.specs.declared.program.Segment.{Segment}
use Rattle.space.specs.declared.program.Program.{Program}
use Rattle.branch_table.specs.declared.code.Code.{Code}
use Rattle.elf_load.specs.Prelude.{IsArea, IsProgramOf}
use Rattle.elf_emit.specs.Prelude.{FileSegment, elf_file, shown, all_shown, AreFew, source, whole, home_segment, table_segment, table_bytes, code_segment, file_segments, translated, FitsArea, Part}
use Rattle.elf_emit.proofs.Loadable.{file_segments_load, file_loads}
use Rattle.elf_emit.proofs.Placing.{bytes_within}
use Rattle.elf_emit.proofs.Source.{HasPlace, of_program}

-- the program's segments are short enough for their sizes to be words
short : (s : Segment) → HasPlace s → length s.bytes < 2 ^ 32
short s place = let low = place.low in omega arith

pub segments_short : (program : Program) → (bytes : List ℕ) × IsProgramOf PowerPc bytes program → All (λ s. length s.bytes < 2 ^ 32) program.segments
segments_short program is =
    All-weaker HasPlace (λ s. length s.bytes < 2 ^ 32) short program.segments (of_program is.0 program is.1).placed

abbrev filled : (at size : ℕ) → (write exec : Bool) → List ℕ → FileSegment
filled at size write exec bytes = record { at = at; size = size; write = write; exec = exec; bytes = bytes }

-- a segment of the file that has all bytes of a segment
pub is_whole : (at size : ℕ) (write exec : Bool) (bytes : List ℕ) (s : Segment) → at ≡ s.at → size ≡ length s.bytes → write ≡ s.write → exec ≡ s.exec
    → bytes ≡ s.bytes → filled at size write exec bytes ≡ whole s
is_whole at size write exec bytes s e0 e1 e2 e3 e4 = cc

-- the segments of the program with three more
pub parts_of_file : (program : Program) (code : Code) (area : ℕ) (p0 p1 p2 p3 : List Part) (a b c : Part) → all_shown p0 ≡ map source program.segments
    → p1 ≡ p0 ++ a ∷ [] → p2 ≡ p1 ++ b ∷ [] → p3 ≡ p2 ++ c ∷ [] → shown a ≡ whole (home_segment area) → shown b ≡ whole (table_segment area (table_bytes code))
    → shown c ≡ whole (code_segment area code.bytes) → all_shown p3 ≡ file_segments program code area
parts_of_file program code area p0 p1 p2 p3 a b c e0 e1 e2 e3 as_home as_table as_ops =
    let ss : List FileSegment = map source program.segments in
    let one : all_shown p1 ≡ ss ++ shown a ∷ [] =
    ap all_shown e1 ∙ map_push shown p0 a ∙ ap (λ (x : List FileSegment). x ++ shown a ∷ []) e0 in
    let two : all_shown p2 ≡ (ss ++ shown a ∷ []) ++ shown b ∷ [] =
    ap all_shown e2 ∙ map_push shown p1 b ∙ ap (λ (x : List FileSegment). x ++ shown b ∷ []) one in
    let three : all_shown p3 ≡ ((ss ++ shown a ∷ []) ++ shown b ∷ []) ++ shown c ∷ [] =
    ap all_shown e3 ∙ map_push shown p2 c ∙ ap (λ (x : List FileSegment). x ++ shown c ∷ []) two in
    let group : ((ss ++ shown a ∷ []) ++ shown b ∷ []) ++ shown c ∷ [] ≡ ss ++ shown a ∷ shown b ∷ shown c ∷ [] =
    append_assoc (ss ++ shown a ∷ []) (shown b ∷ []) (shown c ∷ []) ∙ append_assoc ss (shown a ∷ []) (shown b ∷ shown c ∷ []) in
    three ∙ group
    ∙ ap (λ (x : FileSegment). ss ++ x ∷ shown b ∷ shown c ∷ []) as_home
    ∙ ap (λ (x : FileSegment). ss ++ whole (home_segment area) ∷ x ∷ shown c ∷ []) as_table
    ∙ ap (λ (x : FileSegment). ss ++ whole (home_segment area) ∷ whole (table_segment area (table_bytes code)) ∷ x ∷ []) as_ops

-- they are few enough to be written
pub few_parts : (program : Program) (code : Code) (area : ℕ) (segments : List FileSegment) → (bytes : List ℕ) × IsProgramOf PowerPc bytes program
    → IsArea program.segments area → FitsArea code → segments ≡ file_segments program code area → AreFew segments
few_parts program code area segments is free fits same =
    let load = file_segments_load program code area (of_program is.0 program is.1) free fits in
    let memory = load.memory in
    let bytes = bytes_within (file_segments program code area) load.sound in
    subst AreFew (sym same) (record { few = load.few; small = omega arith })

-- what was written, where there was memory
pub written_file : {E : Type 0} (entry : ℕ) (segments segments' : List FileSegment) (result : Result (Vec ℕ Global) E)
    → IfOk result (λ v. v.items ≡ elf_file entry segments') → segments' ≡ segments
    → IfOk result (λ v. v.items ≡ elf_file entry segments)
written_file entry segments segments' (Ok v) is same = is ∙ ap (elf_file entry) same
written_file entry segments segments' (Err e) is same = tt

pub written_program : {E : Type 0} (program : Program) (code : Code) (area : ℕ) (result : Result (Vec ℕ Global) E)
    → (bytes : List ℕ) × IsProgramOf PowerPc bytes program → IsArea program.segments area → FitsArea code → code.start < 2 ^ 32
    → IfOk result (λ v. v.items ≡ elf_file code.start (file_segments program code area))
    → IfOk result (λ v. IsProgramOf Ia32 v.items (translated program code area))
written_program program code area (Ok v) loaded free fits start is =
    subst (λ (file : List ℕ). IsProgramOf Ia32 file (translated program code area)) (sym is)
    (file_loads loaded.0 program code area loaded.1 free fits start)
written_program program code area (Err e) loaded free fits start is = tt
