-- The segments of a file that passes the rules end where user programs do.
use Rattle.std.proofs.Common.{◌≡◌, ℕ, zero, suc, ◌+◌, ◌-◌, ◌<◌, ◌≤◌, Bool, true, false, List, [], ◌∷◌, length, get_or, take, drop, refl, subst, sym, arith}
use Rattle.std.specs.Prelude.{IsTrue, if◌then◌else◌}
use Rattle.std.specs.List.{All}
use Rattle.std.proofs.lemmas.List.{length-append, length-take, length-replicate}
use Rattle.std.proofs.lemmas.List.Elements.{All-append, All-get_or}
use Rattle.std.proofs.lemmas.Option.{slice_get-get_or}
use Rattle.std.proofs.lemmas.List.Quantifiers.{position-Some}
use Rattle.space.specs.declared.program.Kind.{Kind}
use Rattle.space.specs.declared.program.Kind.TheVariants.{PowerPc, Ia32}
use Rattle.space.specs.declared.program.Segment.{Segment}
use Rattle.space.specs.declared.program.Program.{Program}
use Rattle.elf_load.specs.Prelude.{header, header_count, is_load, is_segment, ProgramHeader, zeros, segment_of, segments_before, segments_of, stack, stack_for, is_code_segment, Passes, IsProgramOf, HasLowCode, ElfRefusal}
use Rattle.elf_load.specs.declared.faults.HeaderRule.TheVariants as header_rule
use Rattle.elf_load.specs.declared.refusal.ElfRefusal.TheVariants as refusal
use Rattle.elf_load.proofs.Tried.{none_breaks, le_of_not-lt, load_of}

abbrev Low : Segment → Type 0
Low s = s.at + length s.bytes ≤ 0xC0000000

pub zeros-length : (n : ℕ) → length (zeros n) ≡ n
unfolding zeros
zeros-length n = length-replicate n 0

-- a segment has no more bytes than its header asks for
pub segment_length : (bytes : List ℕ) (h : ProgramHeader) → h.filesz ≤ h.memsz → length (segment_of bytes h).bytes ≤ h.memsz
segment_length bytes h sizes =
    omega (arith, length-append (take h.filesz (drop h.offset bytes)) (zeros (h.memsz - h.filesz)), length-take h.filesz (drop h.offset bytes), zeros-length (h.memsz - h.filesz))

segment_is_low : (bytes : List ℕ) (h : ProgramHeader) → h.filesz ≤ h.memsz → h.vaddr + h.memsz ≤ 0xC0000000 → Low (segment_of bytes h)
segment_is_low bytes h sizes low = omega (arith, segment_length bytes h sizes)

no_segment : All Low []
no_segment k d lt = absurd (omega arith)

one_segment : (s : Segment) → Low s → All Low (s ∷ [])
one_segment s low zero d lt = low
one_segment s low (suc k) d lt = absurd (omega arith)

stack_is_low : (kind : Kind) → All Low (stack_for kind)
stack_is_low PowerPc = one_segment stack (omega (arith, zeros-length 0x100000))
stack_is_low Ia32 = no_segment

-- the segment of a header, where the header has one
maybe : (b : Bool) (s : Segment) → (b ≡ true → Low s) → All Low (if b then s ∷ [] else [])
maybe true s low = one_segment s (low refl)
maybe false s low = no_segment

module _ (kind : Kind) (bytes : List ℕ) (passes : (rule : ElfRefusal) → Passes rule kind bytes) where
  header_is_low : (k : ℕ) → k < header_count kind bytes → is_segment (header kind bytes k) ≡ true → Low (segment_of bytes (header kind bytes k))
  header_is_low k within segment =
      let load : IsTrue (is_load (header kind bytes k)) = load_of (header kind bytes k) segment in
      segment_is_low bytes (header kind bytes k)
      (le_of_not-lt _ _ (λ lt. none_breaks header_rule.SizesCrossed kind bytes (passes refusal.SizesCrossed) (header_count kind bytes) (omega arith) k within (load, lt)))
      (le_of_not-lt _ _ (λ lt. none_breaks header_rule.HighSegment kind bytes (passes refusal.HighSegment) (header_count kind bytes) (omega arith) k within (load, lt)))

  headers_are_low : (n : ℕ) → n ≤ header_count kind bytes → All Low (segments_before kind bytes n)
  unfolding segments_before
  headers_are_low zero le = no_segment
  headers_are_low (suc n) le =
      All-append Low (segments_before kind bytes n) _ (headers_are_low n (omega arith))
      (maybe (is_segment (header kind bytes n)) (segment_of bytes (header kind bytes n)) (header_is_low n (omega arith)))

  all_are_low : All Low (segments_of kind bytes)
  all_are_low = All-append Low (segments_before kind bytes (header_count kind bytes)) (stack_for kind) (headers_are_low (header_count kind bytes) (omega arith)) (stack_is_low kind)

some_segment : Segment
some_segment = record { at = 0; write = false; exec = false; bytes = [] }

-- the code segment of a program that a file lays out lies low
pub code_lies_low : (kind : Kind) (bytes : List ℕ) (program : Program) → IsProgramOf kind bytes program → HasLowCode program
code_lies_low kind bytes program sound =
    let at = position-Some is_code_segment program.segments program.code some_segment sound.laid_out.code in
    let all : All Low program.segments = subst (λ s. All Low s) (sym sound.laid_out.memory) (all_are_low kind bytes sound.passes) in (
      get_or program.segments program.code some_segment,
      slice_get-get_or program.segments program.code some_segment at.0,
      All-get_or Low program.segments program.code some_segment at.0 all,
    )
