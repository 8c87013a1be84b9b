-- The segments of a file that passes the rules are apart, and its code segment may not be written.
use Rattle.std.proofs.Common.{◌≡◌, ℕ, zero, suc, ◌+◌, ◌<◌, ◌≤◌, Bool, true, false, not, ◌&&◌, leb, ltb, List, [], ◌∷◌, ◌++◌, length, get_or, refl, sym, subst, arith}
use Rattle.std.specs.Prelude.{if◌then◌else◌}
use Rattle.std.specs.List.{All}
use Rattle.std.proofs.lemmas.Bool.Decides.{nat_tests}
use Rattle.std.proofs.lemmas.List.{append-nil}
use Rattle.std.proofs.lemmas.List.Elements.{All-nil, All-cons, All-append, All-weaker, All-get_or}
use Rattle.std.proofs.lemmas.List.Quantifiers.{all_pairs_push, position-Some}
use Rattle.std.proofs.lemmas.Option.{get_or_from_slice_get}
use Rattle.space.specs.declared.program.Kind.{Kind}
use Rattle.space.specs.declared.program.Kind.TheVariants.{PowerPc, Ia32}
use Rattle.space.specs.declared.program.Segment.{Segment}
use Rattle.space.specs.Memory.{has_address, AreApart}
use Rattle.elf_load.specs.Prelude.{header, header_count, is_segment, segment_of, segments_before, stack, segments_of, is_code_segment, Passes, LoadedIsApart, LoadedCodeIsClosed, ElfRefusal}
use Rattle.elf_load.specs.declared.faults.HeaderRule.TheVariants as header_rule
use Rattle.elf_load.specs.declared.refusal.ElfRefusal.TheVariants as refusal
use Rattle.elf_load.proofs.Tried.{none_breaks, lies_inside}
use Rattle.elf_load.proofs.LowCode.{zeros-length, segment_length}

first_of_both : (x y : Bool) → (x && y) ≡ true → x ≡ true
first_of_both true y h = refl
first_of_both false y h = h

second_of_both : (x y : Bool) → (x && y) ≡ true → y ≡ true
second_of_both true y h = h
second_of_both false y h = absurd cc

upto : (a b : ℕ) → leb a b ≡ true → a ≤ b
upto a b h = grind (arith, nat_tests)

below : (a b : ℕ) → ltb a b ≡ true → a < b
below a b h = grind (arith, nat_tests)

within_segment : (a : ℕ) (s : Segment) → has_address a s ≡ true → (s.at ≤ a) × (a < s.at + length s.bytes)
within_segment a s h = (
  upto s.at a (first_of_both (leb s.at a) (ltb a (s.at + length s.bytes)) h),
  below a (s.at + length s.bytes) (second_of_both (leb s.at a) (ltb a (s.at + length s.bytes)) h),
)

within_stack : (a : ℕ) → has_address a stack ≡ true → (0x7F000000 ≤ a) × (a < 0x7F000000 + 0x100000)
within_stack a h =
    let inside = within_segment a stack h in
    let under = inside.1 in
    let size = zeros-length 0x100000 in
    (inside.0, omega (arith, size))

-- no address lies in both
abbrev Apart : Segment → Segment → Type 0
Apart s t = (a : ℕ) → has_address a s ≡ true → has_address a t ≡ true → ⊥

module _ (kind : Kind) (bytes : List ℕ) where
  -- the segment is that of a header below n
  abbrev IsOf : ℕ → Segment → Type 0
  IsOf n s = (k : ℕ) × (k < n) × (is_segment (header kind bytes k) ≡ true) × (s ≡ segment_of bytes (header kind bytes k))

  all_of : (n : ℕ) → All (IsOf n) (segments_before kind bytes n)
  unfolding segments_before
  all_of zero = All-nil (IsOf 0)
  all_of (suc n) =
      All-append (IsOf (suc n)) (segments_before kind bytes n) _
      (All-weaker (IsOf n) (IsOf (suc n)) (λ s is. let lt = is.1 in (is.0, omega arith, is.2, is.3)) (segments_before kind bytes n) (all_of n))
      (by_test (is_segment (header kind bytes n)) refl)
    where
      by_test : (b : Bool) → is_segment (header kind bytes n) ≡ b → All (IsOf (suc n)) (if b then segment_of bytes (header kind bytes n) ∷ [] else [])
      by_test true e = All-cons (IsOf (suc n)) (segment_of bytes (header kind bytes n)) [] (n, omega arith, e, refl) (All-nil (IsOf (suc n)))
      by_test false e = All-nil (IsOf (suc n))

  -- what is apart from the segment of each header below n is apart from each segment of these
  each_apart : (n : ℕ) (t : Segment)
      → ((k : ℕ) → k < n → is_segment (header kind bytes k) ≡ true → Apart (segment_of bytes (header kind bytes k)) t)
      → (k : ℕ) (d : Segment) → k < length (segments_before kind bytes n) → Apart (get_or (segments_before kind bytes n) k d) t
  each_apart n t apart k d lt =
      let is = All-get_or (IsOf n) (segments_before kind bytes n) k d lt (all_of n) in
      subst (λ s. Apart s t) (sym is.3) (apart is.0 is.1 is.2)

  module _ (passes : (rule : ElfRefusal) → Passes rule kind bytes) where
    -- an address in the segment of a header is one of the memory that the header asks for
    within_header : (k a : ℕ) → k < header_count kind bytes → is_segment (header kind bytes k) ≡ true
        → has_address a (segment_of bytes (header kind bytes k)) ≡ true
        → ((header kind bytes k).vaddr ≤ a) × (a < (header kind bytes k).vaddr + (header kind bytes k).memsz)
    within_header k a within segment h =
        let inside = within_segment a (segment_of bytes (header kind bytes k)) h in
        let under = inside.1 in
        let sizes = lies_inside kind bytes 22 (λ rule lt. passes rule) (omega arith) k within (header kind bytes k) refl segment in
        let few = segment_length bytes (header kind bytes k) sizes.1 in
        (inside.0, omega arith)

    headers_apart : (i j : ℕ) → i < j → j < header_count kind bytes → is_segment (header kind bytes i) ≡ true
        → is_segment (header kind bytes j) ≡ true → Apart (segment_of bytes (header kind bytes i)) (segment_of bytes (header kind bytes j))
    headers_apart i j lt within first second a here there =
        let p = within_header i a (omega arith) first here in
        let q = within_header j a within second there in
        none_breaks header_rule.Overlap kind bytes (passes refusal.Overlap) (header_count kind bytes) (omega arith) j within
        (second, (i, lt, first, (a, p.0, p.1, q.0, q.1)))

    before_apart : (n : ℕ) → n ≤ header_count kind bytes → AreApart (segments_before kind bytes n)
    unfolding segments_before
    before_apart zero le = λ i j d lt within. absurd (omega arith)
    before_apart (suc n) le = by_test (is_segment (header kind bytes n)) refl (before_apart n (omega arith))
      where
        by_test : (b : Bool) → is_segment (header kind bytes n) ≡ b → AreApart (segments_before kind bytes n)
            → AreApart (segments_before kind bytes n ++ (if b then segment_of bytes (header kind bytes n) ∷ [] else []))
        by_test false e rest = subst AreApart (sym (append-nil (segments_before kind bytes n))) rest
        by_test true e rest =
            all_pairs_push Apart (segments_before kind bytes n) (segment_of bytes (header kind bytes n)) rest
            (each_apart n (segment_of bytes (header kind bytes n)) (λ k lt segment. headers_apart k n lt (omega arith) segment e))

    headers_are_apart : AreApart (segments_before kind bytes (header_count kind bytes))
    headers_are_apart = before_apart (header_count kind bytes) (omega arith)

all_apart : (kind : Kind) (bytes : List ℕ) → ((rule : ElfRefusal) → Passes rule kind bytes) → AreApart (segments_of kind bytes)
all_apart Ia32 bytes passes = subst AreApart (sym (append-nil (segments_before Ia32 bytes (header_count Ia32 bytes)))) (headers_are_apart Ia32 bytes passes)
all_apart PowerPc bytes passes =
    all_pairs_push Apart (segments_before PowerPc bytes (header_count PowerPc bytes)) stack (headers_are_apart PowerPc bytes passes)
    (each_apart PowerPc bytes (header_count PowerPc bytes) stack (λ k within segment a here there.
    let p = within_header PowerPc bytes passes k a within segment here in
    let q = within_stack a there in
    none_breaks header_rule.StackOverlap PowerPc bytes (λ offset first. passes refusal.StackOverlap offset (refl, first))
    (header_count PowerPc bytes) (omega arith) k within (segment, (a, p.0, p.1, q.0, q.1))))

pub loaded_apart : LoadedIsApart
loaded_apart kind bytes program is = subst AreApart (sym is.laid_out.memory) (all_apart kind bytes is.passes)

unwritten : (s : Segment) → is_code_segment s ≡ true → s.write ≡ false
unwritten s h = by_right s.write (second_of_both s.exec (not s.write) h)
  where
    by_right : (write : Bool) → not write ≡ true → write ≡ false
    by_right true e = sym e
    by_right false e = refl

pub loaded_code_closed : LoadedCodeIsClosed
loaded_code_closed kind bytes program is code at =
    let found = position-Some is_code_segment program.segments program.code code is.laid_out.code in
    let same : get_or program.segments program.code code ≡ code = get_or_from_slice_get program.segments program.code code code at in
    unwritten code (subst (λ s. is_code_segment s ≡ true) same found.1)
