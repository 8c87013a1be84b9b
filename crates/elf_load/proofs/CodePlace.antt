-- A file with one code segment lays out a program that has one.
use Rattle.std.proofs.Common.{◌≡◌, ℕ, zero, suc, ◌<◌, ◌≤◌, Bool, true, false, cond, Some, None, List, [], ◌∷◌, length, get_or, refl, ap, arith, below_more, lit<, nat_lt}
use Rattle.std.specs.Prelude.{if◌then◌else◌, IsTrue}
use Rattle.std.specs.List.{Contains, position, position_or_len}
use Rattle.std.proofs.lemmas.List.Sums.{fails_before_first}
use Rattle.std.proofs.lemmas.List.Elements.{Contains-append_left, Contains-append_right}
use borrow.Author.Tests.{ltb-false}
use Rattle.space.specs.declared.program.Kind.{Kind}
use Rattle.space.specs.declared.program.Segment.{Segment}
use Rattle.elf_load.specs.Prelude.{header, header_count, is_segment, is_code, segment_of, segments_before, segments_of, stack_for, is_code_segment, PassesBelow, HasOneCode, ProgramHeader}
use Rattle.elf_load.specs.declared.refusal.ElfRefusal.TheVariants as refusal

not_chosen : (b : Bool) (i : ℕ) → None ≡ cond b (Some i) None → b ≡ false
not_chosen true i e = cc
not_chosen false i e = refl

-- where no element is found, none passes
not_found : {X : Type 0} (p : X → Bool) (xs : List X) (x : X) → None ≡ position p xs → Contains xs x → p x ≡ true → ⊥
not_found p xs x none has passes =
    let past : nat_lt (position_or_len p xs) (length xs) ≡ false =
    not_chosen (nat_lt (position_or_len p xs) (length xs)) (position_or_len p xs) none in
    let long : length xs ≤ position_or_len p xs = ltb-false (position_or_len p xs) (length xs) past in
    let within : has.0 < length xs = has.1 in
    let fails : p (get_or xs has.0 x) ≡ false = fails_before_first p xs has.0 x (omega arith) in
    let same : p (get_or xs has.0 x) ≡ p x = ap p has.2 in
    cc

single : (b : Bool) (s : Segment) → b ≡ true → Contains (if b then s ∷ [] else []) s
single true s e = (0, lit< tt, refl)
single false s e = cc

-- each header of a segment has its segment in the list
has_segment : (kind : Kind) (bytes : List ℕ) (n : ℕ) (k : ℕ) → k < n → is_segment (header kind bytes k) ≡ true
    → Contains (segments_before kind bytes n) (segment_of bytes (header kind bytes k))
unfolding segments_before
has_segment kind bytes zero k lt = absurd (omega arith)
has_segment kind bytes (suc n) k lt =
    below_more (λ j. is_segment (header kind bytes j) ≡ true
    → Contains (segments_before kind bytes (suc n)) (segment_of bytes (header kind bytes j))) n
    (λ j below segment. Contains-append_left (segments_before kind bytes n) _ _ (has_segment kind bytes n j below segment))
    (λ segment. Contains-append_right (segments_before kind bytes n) _ _
    (single (is_segment (header kind bytes n)) (segment_of bytes (header kind bytes n)) segment))
    k (omega arith)

segment_of_code : (h : ProgramHeader) → IsTrue (is_code h) → is_segment h ≡ true
segment_of_code h code = grind arith

code_of_code : (bytes : List ℕ) (h : ProgramHeader) → IsTrue (is_code h) → is_code_segment (segment_of bytes h) ≡ true
code_of_code bytes h code = grind arith

found : (kind : Kind) (bytes : List ℕ) → HasOneCode kind bytes → None ≡ position is_code_segment (segments_of kind bytes) → ⊥
found kind bytes one none =
    not_found is_code_segment (segments_of kind bytes) (segment_of bytes (header kind bytes one.number)) none
    (Contains-append_left (segments_before kind bytes (header_count kind bytes)) (stack_for kind) _
    (has_segment kind bytes (header_count kind bytes) one.number one.within (segment_of_code (header kind bytes one.number) one.code)))
    (code_of_code bytes (header kind bytes one.number) one.code)

-- a program whose file passes the rules has a code segment
pub code_is_found : (kind : Kind) (bytes : List ℕ) → PassesBelow 21 kind bytes
    → None ≡ position is_code_segment (segments_of kind bytes) → ⊥
code_is_found kind bytes below none = below refusal.CodeCount (lit< tt) 44 ((λ one. found kind bytes one none), refl)
