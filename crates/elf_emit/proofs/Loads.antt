-- A file of segments that can be loaded breaks no rule, and lays out the program of its segments.
use Rattle.std.proofs.Common.{◌≡◌, ℕ, ◌+◌, ◌^◌, ◌<◌, ◌≤◌, List, ◌++◌, length, map, get_or, refl, sym, ap, ◌∙◌, subst, inl, inr, arith}
use Rattle.std.specs.List.{All}
use Rattle.std.proofs.lemmas.List.{append_assoc, append-nil, length-append, take_all}
use Rattle.std.proofs.lemmas.List.Sums.{sum_by-take-le}
use Rattle.space.specs.declared.program.Kind.TheVariants.{PowerPc, Ia32}
use Rattle.elf_load.specs.Prelude.{header, header_count, segments_before, segments_of, IsFirstHeader, HasOneCode, Passes, IsProgramOf}
use Rattle.elf_load.specs.Headers as load
use Rattle.elf_load.specs.declared.headers.ProgramHeader.{ProgramHeader}
use Rattle.elf_load.specs.declared.faults.HeaderRule.TheVariants as header_rule
use Rattle.elf_load.specs.declared.refusal.ElfRefusal.{ElfRefusal}
use Rattle.elf_load.specs.declared.refusal.ElfRefusal.TheVariants as refusal
use Rattle.elf_emit.specs.Prelude.{FileSegment, file_header, program_headers, contents, headers_end, elf_file, in_memory, is_code, IsSound, AreLoadable, program_of}
use Rattle.elf_emit.proofs.Fields.{HasFields, has_fields}
use Rattle.elf_emit.proofs.Described.{IsDescribed, described_in_file, length_headers}
use Rattle.elf_emit.proofs.LaidOut.{AreDescribed, nothing, code_header, memory_is, segments_are, code_is_found}

-- the segment's header, by its number
record IsHeader (file : List ℕ) (segments : List FileSegment) (k : ℕ) : Type 0 where
  type_is : (header Ia32 file k).segment_type ≡ 1
  place : (header Ia32 file k).offset + (header Ia32 file k).filesz ≤ length file
  sizes : (header Ia32 file k).filesz ≤ (header Ia32 file k).memsz
  vaddr : (header Ia32 file k).vaddr ≡ (get_or segments k nothing).at
  memsz : (header Ia32 file k).memsz ≡ (get_or segments k nothing).size
  low : (header Ia32 file k).vaddr + (header Ia32 file k).memsz ≤ 0xC0000000
  code : load.is_code (header Ia32 file k) ≡ is_code (get_or segments k nothing)

is_header : (file : List ℕ) (segments : List FileSegment) → AreDescribed file segments → All IsSound segments
    → (k : ℕ) → k < length segments → IsHeader file segments k
is_header file segments all sound k lt =
    let s : FileSegment = get_or segments k nothing in
    let h : IsDescribed file k s = all k nothing lt in
    let good : IsSound s = sound k nothing lt in
    let some = good.some in
    let fits = good.fits in
    let low = good.low in
    let inside = h.inside in
    let o : (header Ia32 file k).offset ≡ h.offset = ap (λ (x : ProgramHeader). x.offset) h.is in
    let f : (header Ia32 file k).filesz ≡ length s.bytes = ap (λ (x : ProgramHeader). x.filesz) h.is in
    let v : (header Ia32 file k).vaddr ≡ s.at = ap (λ (x : ProgramHeader). x.vaddr) h.is in
    let m : (header Ia32 file k).memsz ≡ s.size = ap (λ (x : ProgramHeader). x.memsz) h.is in
    record {
      type_is = ap (λ (x : ProgramHeader). x.segment_type) h.is;
      place = omega arith;
      sizes = omega arith;
      vaddr = v;
      memsz = m;
      low = omega arith;
      code = ap load.is_code h.is ∙ code_header s h.offset good;
    }

-- the file, with its fields, and its headers as they describe the segments
record IsGood (file : List ℕ) (entry : ℕ) (segments : List FileSegment) (code : ℕ) : Type 0 where
  fields : HasFields file entry (length segments)
  all : AreDescribed file segments
  loadable : AreLoadable segments code

within : (file : List ℕ) (entry : ℕ) (segments : List FileSegment) (code : ℕ) → IsGood file entry segments code
    → (k : ℕ) → k < header_count Ia32 file → k < length segments
within file entry segments code good k lt = subst (λ (n : ℕ). k < n) good.fields.count_is lt

header_of : (file : List ℕ) (entry : ℕ) (segments : List FileSegment) (code : ℕ) → IsGood file entry segments code
    → (k : ℕ) → k < header_count Ia32 file → IsHeader file segments k
header_of file entry segments code good k lt =
    is_header file segments good.all good.loadable.sound k (within file entry segments code good k lt)

not_dynamic : (file : List ℕ) (entry : ℕ) (segments : List FileSegment) (code : ℕ) → IsGood file entry segments code
    → (offset : ℕ) → ¬ IsFirstHeader header_rule.Dynamic Ia32 file offset
not_dynamic file entry segments code good offset first =
    let h = header_of file entry segments code good first.number first.within in
    let t = h.type_is in
    elim first.breaks [ inl e ↦ absurd (omega arith) | inr e ↦ absurd (omega arith) ]

not_outside : (file : List ℕ) (entry : ℕ) (segments : List FileSegment) (code : ℕ) → IsGood file entry segments code
    → (offset : ℕ) → ¬ IsFirstHeader header_rule.SegmentOutside Ia32 file offset
not_outside file entry segments code good offset first =
    let h = header_of file entry segments code good first.number first.within in
    let p = h.place in
    let b = first.breaks.1 in
    omega arith

not_crossed : (file : List ℕ) (entry : ℕ) (segments : List FileSegment) (code : ℕ) → IsGood file entry segments code
    → (offset : ℕ) → ¬ IsFirstHeader header_rule.SizesCrossed Ia32 file offset
not_crossed file entry segments code good offset first =
    let h = header_of file entry segments code good first.number first.within in
    let p = h.sizes in
    let b = first.breaks.1 in
    omega arith

not_high : (file : List ℕ) (entry : ℕ) (segments : List FileSegment) (code : ℕ) → IsGood file entry segments code
    → (offset : ℕ) → ¬ IsFirstHeader header_rule.HighSegment Ia32 file offset
not_high file entry segments code good offset first =
    let h = header_of file entry segments code good first.number first.within in
    let p = h.low in
    let b = first.breaks.1 in
    omega arith

not_overlapping : (file : List ℕ) (entry : ℕ) (segments : List FileSegment) (code : ℕ) → IsGood file entry segments code
    → (offset : ℕ) → ¬ IsFirstHeader header_rule.Overlap Ia32 file offset
not_overlapping file entry segments code good offset first =
    let b = first.breaks.1 in
    let j = b.0 in
    let lt : j < first.number = b.1 in
    let bound = first.within in
    let g = header_of file entry segments code good j (omega arith) in
    let h = header_of file entry segments code good first.number first.within in
    let gv = g.vaddr in
    let gm = g.memsz in
    let hv = h.vaddr in
    let hm = h.memsz in
    let shares = b.3 in
    good.loadable.apart j first.number nothing lt (within file entry segments code good first.number first.within)
    (shares.0, omega arith, omega arith, omega arith, omega arith)

not_large : (file : List ℕ) (entry : ℕ) (segments : List FileSegment) (code : ℕ) → IsGood file entry segments code
    → (offset : ℕ) → ¬ IsFirstHeader header_rule.TooMuchMemory Ia32 file offset
not_large file entry segments code good offset first =
    let lt = within file entry segments code good first.number first.within in
    let is = memory_is file segments good.all (first.number + 1) (omega arith) in
    let part = sum_by-take-le (λ (s : FileSegment). s.size) segments (first.number + 1) in
    let whole = good.loadable.memory in
    let b = first.breaks in
    omega arith

one_code : (file : List ℕ) (entry : ℕ) (segments : List FileSegment) (code : ℕ) → IsGood file entry segments code → HasOneCode Ia32 file
one_code file entry segments code good =
    let lt : code < header_count Ia32 file = subst (λ (n : ℕ). code < n) (sym good.fields.count_is) good.loadable.within in
    record {
      number = code;
      within = lt;
      code = (header_of file entry segments code good code lt).code ∙ good.loadable.here nothing;
      only = λ other below is. good.loadable.alone other nothing (within file entry segments code good other below)
          (sym (header_of file entry segments code good other below).code ∙ is);
    }

other_kind : Ia32 ≡ PowerPc → ⊥
other_kind e = cc

passes : (file : List ℕ) (entry : ℕ) (segments : List FileSegment) (code : ℕ) → IsGood file entry segments code
    → (rule : ElfRefusal) → Passes rule Ia32 file
passes file entry segments code good refusal.Short offset f = let l = good.fields.long in let s = f.0 in omega arith
passes file entry segments code good refusal.Magic offset f = f.0 good.fields.magic
passes file entry segments code good refusal.Class offset f = f.0 good.fields.class
passes file entry segments code good refusal.Order offset f = f.0 good.fields.order
passes file entry segments code good refusal.Version offset f =
    elim f [ inl x ↦ x.0 good.fields.version | inr x ↦ x.1 good.fields.format ]
passes file entry segments code good refusal.Type offset f = f.0 good.fields.kind
passes file entry segments code good refusal.Machine offset f = f.0 good.fields.machine
passes file entry segments code good refusal.HeaderSize offset f = f.0 good.fields.size
passes file entry segments code good refusal.HeaderCount offset f =
    let c = good.fields.count_is in
    let few = good.loadable.few in
    let w = good.loadable.within in
    elim f.0 [ inl e ↦ absurd (omega arith) | inr e ↦ absurd (omega arith) ]
passes file entry segments code good refusal.TableOutside offset f =
    let c = good.fields.count_is in
    let t = good.fields.table in
    let l = good.fields.long in
    let s = f.0 in
    omega arith
passes file entry segments code good refusal.Dynamic offset f = not_dynamic file entry segments code good offset f
passes file entry segments code good refusal.SegmentOutside offset f = not_outside file entry segments code good offset f
passes file entry segments code good refusal.SizesCrossed offset f = not_crossed file entry segments code good offset f
passes file entry segments code good refusal.HighSegment offset f = not_high file entry segments code good offset f
passes file entry segments code good refusal.Overlap offset f = not_overlapping file entry segments code good offset f
passes file entry segments code good refusal.TooMuchMemory offset f = not_large file entry segments code good offset f
passes file entry segments code good refusal.CodeCount offset f = f.0 (one_code file entry segments code good)
passes file entry segments code good refusal.CodeLong offset f = other_kind f.0
passes file entry segments code good refusal.Entry offset f = other_kind f.0
passes file entry segments code good refusal.StackOverlap offset f = other_kind f.0
passes file entry segments code good refusal.NoRoom offset f = other_kind f.0

all_segments : (file : List ℕ) (entry : ℕ) (segments : List FileSegment) (code : ℕ) → IsGood file entry segments code
    → map in_memory segments ≡ segments_of Ia32 file
all_segments file entry segments code good =
    sym (append-nil (segments_before Ia32 file (header_count Ia32 file))
    ∙ ap (segments_before Ia32 file) good.fields.count_is
    ∙ segments_are file segments good.all good.loadable.sound (length segments) (omega arith)
    ∙ ap (map in_memory) (take_all (length segments) segments (omega arith)))

good_loads : (file : List ℕ) (entry : ℕ) (segments : List FileSegment) (code : ℕ) → IsGood file entry segments code
    → IsProgramOf Ia32 file (program_of entry segments code)
good_loads file entry segments code good = record {
  passes = passes file entry segments code good;
  laid_out = record {
    machine = refl;
    start = sym good.fields.entry_is;
    memory = all_segments file entry segments code good;
    code = code_is_found segments code good.loadable;
  };
}

file_fields : (entry : ℕ) (segments : List FileSegment) → entry < 2 ^ 32 → length segments ≤ 96
    → HasFields (elf_file entry segments) entry (length segments)
unfolding elf_file
file_fields entry segments fits few =
    let count : ℕ = length segments in
    let headers : List ℕ = program_headers segments (headers_end count) in
    let bytes : List ℕ = contents segments (headers_end count) in
    subst (λ (file : List ℕ). HasFields file entry count) (sym (append_assoc (file_header entry count) headers bytes))
    (has_fields entry count (headers ++ bytes) fits (omega arith)
    (omega (arith, length-append headers bytes, length_headers segments (headers_end count))))

pub written_file_loads : (entry : ℕ) (segments : List FileSegment) (code : ℕ) → entry < 2 ^ 32 → AreLoadable segments code
    → IsProgramOf Ia32 (elf_file entry segments) (program_of entry segments code)
written_file_loads entry segments code fits loadable =
    good_loads (elf_file entry segments) entry segments code (record {
      fields = file_fields entry segments fits loadable.few;
      all = described_in_file entry segments loadable.few loadable.sound loadable.memory;
      loadable = loadable;
    })
