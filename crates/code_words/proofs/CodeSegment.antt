-- What the rules say of an accepted file's code segment.
use Rattle.std.proofs.Common.{◌≡◌, ℕ, zero, suc, ◌+◌, ◌-◌, ◌<◌, ◌≤◌, Bool, true, false, Some, List, [], ◌∷◌, length, get_or, take, drop, refl, sym, ◌∙◌, ap, subst, arith}
use Rattle.std.specs.Prelude.{if◌then◌else◌, IsTrue, slice_get}
use Rattle.std.specs.List.{All}
use Rattle.std.proofs.lemmas.Bool.Decides.{nat_tests}
use Rattle.std.proofs.lemmas.List.{length-append, length-take-le, length-drop}
use Rattle.std.proofs.lemmas.List.Elements.{All-nil, All-cons, All-append, All-weaker, All-get_or}
use Rattle.std.proofs.lemmas.List.Quantifiers.{position-Some}
use Rattle.std.proofs.lemmas.Option.{slice_get-get_or, get_or_from_slice_get}
use Rattle.machines.specs.Prelude.{PowerPc, Program, Segment, code_in, code_of, is_code_word}
use Rattle.elf_load.specs.Prelude.{entry, header, header_count, is_load, is_segment, is_code, IsWordOf, zeros, segment_of, segments_before, stack, segments_of, is_code_segment, Passes, HasOneCode, StartsAtWord, IsProgramOf}
use Rattle.elf_load.specs.declared.headers.ProgramHeader.{ProgramHeader}
use Rattle.elf_load.specs.declared.faults.HeaderRule.TheVariants as header_rule
use Rattle.elf_load.specs.declared.refusal.ElfRefusal.{ElfRefusal}
use Rattle.elf_load.specs.declared.refusal.ElfRefusal.TheVariants as refusal
use Rattle.elf_load.proofs.Tried.{none_breaks, lies_inside}
use Rattle.elf_load.proofs.LowCode.{zeros-length as length_zeros}

-- a segment has as many bytes as its header asks for
length_of_segment : (bytes : List ℕ) (h : ProgramHeader) → h.offset + h.filesz ≤ length bytes → h.filesz ≤ h.memsz
    → length (segment_of bytes h).bytes ≡ h.memsz
length_of_segment bytes h inside sizes =
    let left = length-drop h.offset bytes in
    let long : h.filesz ≤ length (drop h.offset bytes) = omega (arith, left) in
    omega (arith, length-append (take h.filesz (drop h.offset bytes)) (zeros (h.memsz - h.filesz)), length-take-le h.filesz (drop h.offset bytes) long, length_zeros (h.memsz - h.filesz))

not_less : (a b : ℕ) → ¬ (a < b) → b ≤ a
not_less a b h = omega arith

load_of : (h : ProgramHeader) → is_segment h ≡ true → IsTrue (is_load h)
load_of h is = grind arith

code_of_header : (bytes : List ℕ) (h : ProgramHeader) → is_segment h ≡ true → is_code_segment (segment_of bytes h) ≡ true → IsTrue (is_code h)
code_of_header bytes h segment code = grind arith

not_false : (b : Bool) → ¬ (b ≡ false) → b ≡ true
not_false true h = refl
not_false false h = absurd (h refl)

-- a word of the header is one of the code
word_of_header : (h : ProgramHeader) (s : Segment) (a : ℕ) → s.at ≡ h.vaddr → length s.bytes ≡ h.memsz → IsWordOf h a
    → is_code_word (code_in (Some s)) a ≡ true
word_of_header h s a at count word =
    let aligned = word.aligned in
    let begins = word.begins in
    let ends = word.ends in
    grind (arith, nat_tests)

module _ (bytes : List ℕ) where
  -- the segment is that of a header below n
  abbrev IsOf : ℕ → Segment → Type 0
  IsOf n s = (k : ℕ) × (k < n) × (is_segment (header PowerPc bytes k) ≡ true) × (s ≡ segment_of bytes (header PowerPc bytes k))

  all_of : (n : ℕ) → All (IsOf n) (segments_before PowerPc bytes n)
  unfolding segments_before
  all_of zero = All-nil (IsOf 0)
  all_of (suc n) =
      All-append (IsOf (suc n)) (segments_before PowerPc bytes n) _
      (All-weaker (IsOf n) (IsOf (suc n)) (λ s is. let lt = is.1 in (is.0, omega arith, is.2, is.3)) (segments_before PowerPc bytes n) (all_of n))
      (by_test (is_segment (header PowerPc bytes n)) refl)
    where
      by_test : (b : Bool) → is_segment (header PowerPc bytes n) ≡ b → All (IsOf (suc n)) (if b then segment_of bytes (header PowerPc bytes n) ∷ [] else [])
      by_test true e = All-cons (IsOf (suc n)) (segment_of bytes (header PowerPc bytes n)) [] (n, omega arith, e, refl) (All-nil (IsOf (suc n)))
      by_test false e = All-nil (IsOf (suc n))

  abbrev count : ℕ
  count = header_count PowerPc bytes

  -- a code segment is a header's, as the stack is none
  abbrev IsOfCode : Segment → Type 0
  IsOfCode s = is_code_segment s ≡ true → IsOf count s

  stack_is_data : IsOfCode stack
  stack_is_data code = absurd cc

  all_code : All IsOfCode (segments_of PowerPc bytes)
  all_code =
      All-append IsOfCode (segments_before PowerPc bytes count) (stack ∷ [])
      (All-weaker (IsOf count) IsOfCode (λ s is code. is) (segments_before PowerPc bytes count) (all_of count))
      (All-cons IsOfCode stack [] stack_is_data (All-nil IsOfCode))

  module _ (passes : (rule : ElfRefusal) → Passes rule PowerPc bytes) (k : ℕ) (within : k < count) (code : IsTrue (is_code (header PowerPc bytes k))) where
    not_long : (header PowerPc bytes k).memsz ≤ 0x80000
    not_long =
        not_less _ _ (λ lt. none_breaks header_rule.CodeLong PowerPc bytes (λ offset first. passes refusal.CodeLong offset (refl, first)) count (omega arith) k within (code, lt))

    -- the one code header has the entry's word
    starts_here : HasOneCode PowerPc bytes → StartsAtWord PowerPc bytes → IsWordOf (header PowerPc bytes k) (entry PowerPc bytes)
    starts_here one starts =
        let same : starts.0 ≡ k = one.only starts.0 starts.1 starts.2 ∙ sym (one.only k within code) in
        subst (λ n. IsWordOf (header PowerPc bytes n) (entry PowerPc bytes)) same starts.3

    has_entry : ¬ ¬ IsWordOf (header PowerPc bytes k) (entry PowerPc bytes)
    has_entry fails =
        passes refusal.CodeCount 44 ((λ one. passes refusal.Entry 24 (refl, (λ starts. fails (starts_here one starts)), refl)), refl)

  module _ (passes : (rule : ElfRefusal) → Passes rule PowerPc bytes) (k : ℕ) (within : k < count) (segment : is_segment (header PowerPc bytes k) ≡ true) where
    not_high : (header PowerPc bytes k).vaddr + (header PowerPc bytes k).memsz ≤ 0xC0000000
    not_high =
        not_less _ _ (λ lt. none_breaks header_rule.HighSegment PowerPc bytes (passes refusal.HighSegment) count (omega arith) k within (load_of (header PowerPc bytes k) segment, lt))

    full : length (segment_of bytes (header PowerPc bytes k)).bytes ≡ (header PowerPc bytes k).memsz
    full =
        let inside = lies_inside PowerPc bytes 22 (λ rule lt. passes rule) (omega arith) k within (header PowerPc bytes k) refl segment in
        length_of_segment bytes (header PowerPc bytes k) inside.0 inside.1

-- the segment is the program's code, and what the rules say of it
pub record IsCode (P : Program) (s : Segment) : Type 0 where
  pub segment : slice_get P.segments P.code ≡ Some s
  pub low : s.at + length s.bytes ≤ 0xC0000000
  pub short : length s.bytes ≤ 0x80000
  pub entry : is_code_word (code_in (Some s)) P.entry ≡ true

-- what they say of a segment that is a header's
code_by_header : (bytes : List ℕ) (P : Program) (is : IsProgramOf PowerPc bytes P) (s : Segment) → slice_get P.segments P.code ≡ Some s
    → is_code_segment s ≡ true → IsOf bytes (count bytes) s → IsCode P s
code_by_header bytes P is s at code of =
    let h : ProgramHeader = header PowerPc bytes of.0 in
    let same : s ≡ segment_of bytes h = of.3 in
    let place : s.at ≡ h.vaddr = ap (λ (t : Segment). t.at) same in
    let size : length s.bytes ≡ h.memsz = ap (λ (t : Segment). length t.bytes) same ∙ full bytes is.passes of.0 of.1 of.2 in
    let header_code : IsTrue (is_code h) = code_of_header bytes h of.2 (subst (λ (t : Segment). is_code_segment t ≡ true) same code) in
    let high = not_high bytes is.passes of.0 of.1 of.2 in
    let long = not_long bytes is.passes of.0 of.1 header_code in
    record {
      segment = at;
      low = omega (arith, place, size, high);
      short = omega (arith, size, long);
      entry =
          not_false (is_code_word (code_in (Some s)) P.entry) (λ off.
          has_entry bytes is.passes of.0 of.1 header_code (λ word.
          let yes_ = word_of_header h s (entry PowerPc bytes) place size word in
          let here : is_code_word (code_in (Some s)) P.entry ≡ true = ap (is_code_word (code_in (Some s))) is.laid_out.start ∙ yes_ in
          cc));
    }

abbrev code_at : Program → Segment
code_at P = get_or P.segments P.code stack

-- an accepted program has a code segment
loaded_code : (bytes : List ℕ) (P : Program) → IsProgramOf PowerPc bytes P → IsCode P (code_at P)
loaded_code bytes P is =
    let found = position-Some is_code_segment P.segments P.code stack is.laid_out.code in
    let all : All (IsOfCode bytes) P.segments = subst (All (IsOfCode bytes)) (sym is.laid_out.memory) (all_code bytes) in
    code_by_header bytes P is (code_at P) (slice_get-get_or P.segments P.code stack found.0) found.1
    (All-get_or (IsOfCode bytes) P.segments P.code stack found.0 all found.1)

-- the segment at its place is it
pub is_code_segment_of : (bytes : List ℕ) (P : Program) → IsProgramOf PowerPc bytes P → (segments : List Segment) (s : Segment)
    → segments ≡ P.segments → s ≡ get_or segments P.code s → IsCode P s
is_code_segment_of bytes P is segments s same at =
    let code = loaded_code bytes P is in
    let found : s ≡ code_at P = at ∙ ap (λ (ss : List Segment). get_or ss P.code s) same ∙ get_or_from_slice_get P.segments P.code (code_at P) s code.segment in
    subst (IsCode P) (sym found) code

pub entry_is_word : (bytes : List ℕ) (P : Program) → IsProgramOf PowerPc bytes P → is_code_word (code_of P) P.entry ≡ true
entry_is_word bytes P is =
    let code = loaded_code bytes P is in
    ap (λ s. is_code_word (code_in s) P.entry) code.segment ∙ code.entry
