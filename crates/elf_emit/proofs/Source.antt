-- What holds of the segments of a PowerPC program that a file lays out.
use Rattle.std.proofs.Common.{◌≡◌, ℕ, zero, suc, ◌+◌, ◌-◌, ◌<◌, ◌≤◌, Bool, true, false, List, [], ◌∷◌, ◌++◌, length, take, drop, refl, sym, ap, subst, inl, inr, arith, below_more}
use Rattle.std.specs.Prelude.{if◌then◌else◌, IsTrue, AllPairs}
use Rattle.std.specs.List.{All, sum_by}
use Rattle.std.proofs.lemmas.Bool.{cases_lt, and_parts, ltb-true}
use Rattle.std.proofs.lemmas.List.{length-append, length-drop, length-take-le, append-nil, length_push}
use Rattle.std.proofs.lemmas.List.Elements.{All-push, All-nil, All-weaker}
use Rattle.std.proofs.lemmas.List.Quantifiers.{all_pairs_push}
use Rattle.std.proofs.lemmas.List.Sums.{sum_by_push}
use Rattle.space.specs.declared.program.Kind.TheVariants.{PowerPc}
use Rattle.space.specs.declared.program.Segment.{Segment}
use Rattle.space.specs.declared.program.Program.{Program}
use Rattle.elf_load.specs.Prelude.{header, header_count, header_offset, is_load, is_segment, SharesAddress, zeros, segment_of, segments_before, stack, Breaks, IsFirstHeader, IsProgramOf, memory_before}
use Rattle.elf_load.specs.declared.headers.ProgramHeader.{ProgramHeader}
use Rattle.elf_load.specs.declared.faults.HeaderRule.{HeaderRule}
use Rattle.elf_load.specs.declared.faults.HeaderRule.TheVariants as header_rule
use Rattle.elf_load.specs.declared.refusal.ElfRefusal.TheVariants as refusal
use Rattle.elf_load.proofs.LowCode.{zeros-length as length_zeros}

-- how much memory a segment has
abbrev pub memory_of : Segment → ℕ
memory_of s = length s.bytes

-- a segment that has memory, where user programs do
pub record HasPlace (s : Segment) : Type 0 where
  pub some : 0 < length s.bytes
  pub low : s.at + length s.bytes ≤ 0xC0000000

-- no address lies in both
abbrev pub SharesNone : Segment → Segment → Type 0
SharesNone s t = ¬ SharesAddress s.at (length s.bytes) t.at (length t.bytes)

-- the segments of a program that was loaded, whose stack is 1 MiB
pub record AreOfProgram (segments : List Segment) : Type 0 where
  pub few : length segments ≤ 65
  pub placed : All HasPlace segments
  pub apart : AllPairs SharesNone segments
  pub memory : sum_by memory_of segments ≤ 0x4100000

-- where no header is the first to break a rule, none breaks it
none_breaks : (rule : HeaderRule) (bytes : List ℕ) → ((offset : ℕ) → ¬ IsFirstHeader rule PowerPc bytes offset)
    → (n : ℕ) → n ≤ header_count PowerPc bytes → (k : ℕ) → k < n → ¬ Breaks rule PowerPc bytes k
none_breaks rule bytes first zero le k lt = absurd (omega arith)
none_breaks rule bytes first (suc n) le k lt =
    let before = none_breaks rule bytes first n (omega arith) in
    below_more (λ j. ¬ Breaks rule PowerPc bytes j) n before
    (λ breaks. first (header_offset PowerPc bytes n) (record {
      number = n;
      within = omega arith;
      breaks = breaks;
      none_before = before;
      place = refl;
    })) k (omega arith)

-- what the headers of a file keep that breaks no rule
record AreKept (bytes : List ℕ) : Type 0 where
  inside : (k : ℕ) → k < header_count PowerPc bytes → ¬ Breaks header_rule.SegmentOutside PowerPc bytes k
  sizes : (k : ℕ) → k < header_count PowerPc bytes → ¬ Breaks header_rule.SizesCrossed PowerPc bytes k
  low : (k : ℕ) → k < header_count PowerPc bytes → ¬ Breaks header_rule.HighSegment PowerPc bytes k
  apart : (k : ℕ) → k < header_count PowerPc bytes → ¬ Breaks header_rule.Overlap PowerPc bytes k
  memory : (k : ℕ) → k < header_count PowerPc bytes → ¬ Breaks header_rule.TooMuchMemory PowerPc bytes k
  no_stack : (k : ℕ) → k < header_count PowerPc bytes → ¬ Breaks header_rule.StackOverlap PowerPc bytes k

are_kept : (bytes : List ℕ) (program : Program) → IsProgramOf PowerPc bytes program → AreKept bytes
are_kept bytes program is = record {
  inside = none_breaks header_rule.SegmentOutside bytes (is.passes refusal.SegmentOutside) (header_count PowerPc bytes) (omega arith);
  sizes = none_breaks header_rule.SizesCrossed bytes (is.passes refusal.SizesCrossed) (header_count PowerPc bytes) (omega arith);
  low = none_breaks header_rule.HighSegment bytes (is.passes refusal.HighSegment) (header_count PowerPc bytes) (omega arith);
  apart = none_breaks header_rule.Overlap bytes (is.passes refusal.Overlap) (header_count PowerPc bytes) (omega arith);
  memory = none_breaks header_rule.TooMuchMemory bytes (is.passes refusal.TooMuchMemory) (header_count PowerPc bytes) (omega arith);
  no_stack = none_breaks header_rule.StackOverlap bytes (λ offset first. is.passes refusal.StackOverlap offset (refl, first)) (header_count PowerPc bytes) (omega arith);
}

-- a header with memory, and the segment that it makes
record Makes (bytes : List ℕ) (h : ProgramHeader) (s : Segment) : Type 0 where
  segment : IsTrue (is_segment h)
  at : s.at ≡ h.vaddr
  size : length s.bytes ≡ h.memsz

loads : (h : ProgramHeader) → is_segment h ≡ true → is_load h ≡ true
loads h is = (and_parts (is_load h) _ is).0

made : (bytes : List ℕ) (h : ProgramHeader) → is_segment h ≡ true → h.offset + h.filesz ≤ length bytes → h.filesz ≤ h.memsz
    → Makes bytes h (segment_of bytes h)
made bytes h is inside sizes =
    let long : h.filesz ≤ length (drop h.offset bytes) = omega (arith, length-drop h.offset bytes) in
    let file : length (take h.filesz (drop h.offset bytes)) ≡ h.filesz = length-take-le h.filesz (drop h.offset bytes) long in
    record {
      segment = is;
      at = refl;
      size = omega (arith, length-append (take h.filesz (drop h.offset bytes)) (zeros (h.memsz - h.filesz)), length_zeros (h.memsz - h.filesz));
    }

-- a header below n makes the segment
abbrev IsMade : List ℕ → ℕ → Segment → Type 0
IsMade bytes n s = (k : ℕ) × (k < n) × Makes bytes (header PowerPc bytes k) s

made_before : (bytes : List ℕ) (n : ℕ) (s : Segment) → IsMade bytes n s → IsMade bytes (suc n) s
made_before bytes n s made = (made.0, let lt = made.1 in omega arith, made.2)

-- the segments of the headers below n, with what is said of them
record AreSound (bytes : List ℕ) (n : ℕ) (segments : List Segment) : Type 0 where
  made : All (IsMade bytes n) segments
  few : length segments ≤ n
  placed : All HasPlace segments
  apart : AllPairs SharesNone segments
  memory : sum_by memory_of segments ≤ memory_before PowerPc bytes n

-- one segment more
sound_with : (bytes : List ℕ) (n : ℕ) (segments : List Segment) → AreKept bytes → n < header_count PowerPc bytes → AreSound bytes n segments
    → is_segment (header PowerPc bytes n) ≡ true
    → AreSound bytes (suc n) (segments ++ segment_of bytes (header PowerPc bytes n) ∷ [])
unfolding memory_before
sound_with bytes n segments keeps lt sound is =
    let h : ProgramHeader = header PowerPc bytes n in
    let s : Segment = segment_of bytes h in
    let load : is_load h ≡ true = loads h is in
    let some : 0 < h.memsz = ltb-true 0 h.memsz (and_parts (is_load h) _ is).1 in
    let inside : h.offset + h.filesz ≤ length bytes =
    elim (cases_lt (length bytes) (h.offset + h.filesz)) [ inl out ↦ absurd (keeps.inside n lt (load, out)) | inr le ↦ le ] in
    let sizes : h.filesz ≤ h.memsz =
    elim (cases_lt h.memsz h.filesz) [ inl out ↦ absurd (keeps.sizes n lt (load, out)) | inr le ↦ le ] in
    let low : h.vaddr + h.memsz ≤ 0xC0000000 =
    elim (cases_lt 0xC0000000 (h.vaddr + h.memsz)) [ inl out ↦ absurd (keeps.low n lt (load, out)) | inr le ↦ le ] in
    let this : Makes bytes h s = made bytes h is inside sizes in
    let size = this.size in
    record {
      made = All-push (IsMade bytes (suc n)) segments s
          (All-weaker (IsMade bytes n) (IsMade bytes (suc n)) (made_before bytes n) segments sound.made) (n, omega arith, this);
      few = let few = sound.few in omega (arith, length_push segments s);
      placed = All-push HasPlace segments s sound.placed (record { some = omega arith; low = omega arith });
      apart = all_pairs_push SharesNone segments s sound.apart
          (λ k d below shares. let m = sound.made k d below in let a = m.2.at in let z = m.2.size in
          keeps.apart n lt (is, (m.0, m.1, m.2.segment, (shares.0, omega arith, omega arith, omega arith, omega arith))));
      memory =
          let before = sound.memory in
          let more : (if is_load h then h.memsz else 0) ≡ h.memsz = ap (λ (b : Bool). if b then h.memsz else 0) load in
          let all : sum_by memory_of (segments ++ s ∷ []) ≡ sum_by memory_of segments + length s.bytes = sum_by_push memory_of segments s in
          omega arith;
    }

-- the same segments, for one header more
sound_without : (bytes : List ℕ) (n : ℕ) (segments : List Segment) → AreSound bytes n segments → AreSound bytes (suc n) segments
unfolding memory_before
sound_without bytes n segments sound = record {
  made = All-weaker (IsMade bytes n) (IsMade bytes (suc n)) (made_before bytes n) segments sound.made;
  few = let few = sound.few in omega arith;
  placed = sound.placed;
  apart = sound.apart;
  memory = let memory = sound.memory in omega arith;
}

sound_next : (bytes : List ℕ) (n : ℕ) (segments : List Segment) → AreKept bytes → n < header_count PowerPc bytes → AreSound bytes n segments
    → (b : Bool) → is_segment (header PowerPc bytes n) ≡ b
    → AreSound bytes (suc n) (segments ++ (if b then segment_of bytes (header PowerPc bytes n) ∷ [] else []))
sound_next bytes n segments keeps lt sound true is = sound_with bytes n segments keeps lt sound is
sound_next bytes n segments keeps lt sound false is =
    subst (AreSound bytes (suc n)) (sym (append-nil segments)) (sound_without bytes n segments sound)

sound_before : (bytes : List ℕ) → AreKept bytes → (n : ℕ) → n ≤ header_count PowerPc bytes → AreSound bytes n (segments_before PowerPc bytes n)
unfolding segments_before memory_before
sound_before bytes keeps zero le = record {
  made = All-nil (IsMade bytes 0);
  few = omega arith;
  placed = All-nil HasPlace;
  apart = λ i j d lt below. absurd (omega arith);
  memory = omega arith;
}
sound_before bytes keeps (suc n) le =
    sound_next bytes n (segments_before PowerPc bytes n) keeps (omega arith) (sound_before bytes keeps n (omega arith))
    (is_segment (header PowerPc bytes n)) refl

-- the headers ask for 64 MiB at most
memory_bound : (bytes : List ℕ) → AreKept bytes → (n : ℕ) → n ≤ header_count PowerPc bytes → memory_before PowerPc bytes n ≤ 0x4000000
unfolding memory_before
memory_bound bytes keeps zero le = omega arith
memory_bound bytes keeps (suc n) le =
    let next : n + 1 ≡ suc n = omega arith in
    elim (cases_lt 0x4000000 (memory_before PowerPc bytes (suc n))) [
      | inl more ↦ absurd (keeps.memory n (omega arith) (subst (λ (m : ℕ). 0x4000000 < memory_before PowerPc bytes m) (sym next) more))
      | inr within ↦ within
    ]

-- a program has 64 headers at most
count_bound : (bytes : List ℕ) (program : Program) → IsProgramOf PowerPc bytes program → header_count PowerPc bytes ≤ 64
count_bound bytes program is =
    elim (cases_lt 64 (header_count PowerPc bytes)) [
      | inl more ↦ absurd (is.passes refusal.HeaderCount 44 (inr more, refl))
      | inr few ↦ few
    ]

-- with the stack
with_stack : (bytes : List ℕ) (segments : List Segment) → AreKept bytes → AreSound bytes (header_count PowerPc bytes) segments
    → header_count PowerPc bytes ≤ 64 → memory_before PowerPc bytes (header_count PowerPc bytes) ≤ 0x4000000
    → AreOfProgram (segments ++ stack ∷ [])
with_stack bytes segments keeps sound few within =
    let size : length stack.bytes ≡ 0x100000 = length_zeros 0x100000 in
    record {
      few = let less = sound.few in omega (arith, length_push segments stack);
      placed = All-push HasPlace segments stack sound.placed (record { some = omega arith; low = omega arith });
      apart = all_pairs_push SharesNone segments stack sound.apart
          (λ k d below shares. let m = sound.made k d below in let lt = m.1 in let a = m.2.at in let z = m.2.size in
          keeps.no_stack m.0 lt (m.2.segment, (shares.0, omega arith, omega arith, omega arith, omega arith)));
      memory =
          let before = sound.memory in
          let all : sum_by memory_of (segments ++ stack ∷ []) ≡ sum_by memory_of segments + length stack.bytes = sum_by_push memory_of segments stack in
          omega arith;
    }

-- what is said of the segments of a program that is loaded
pub of_program : (bytes : List ℕ) (program : Program) → IsProgramOf PowerPc bytes program → AreOfProgram program.segments
of_program bytes program is =
    let keeps = are_kept bytes program is in
    subst AreOfProgram (sym is.laid_out.memory)
    (with_stack bytes (segments_before PowerPc bytes (header_count PowerPc bytes)) keeps
    (sound_before bytes keeps (header_count PowerPc bytes) (omega arith)) (count_bound bytes program is)
    (memory_bound bytes keeps (header_count PowerPc bytes) (omega arith)))
