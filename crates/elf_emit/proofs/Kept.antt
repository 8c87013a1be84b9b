-- A segment of the program in the file is the same in memory, but that it can't be executed.
use Rattle.std.proofs.Common.{◌≡◌, ℕ, ◌+◌, ◌-◌, ◌<◌, ◌≤◌, Bool, true, false, List, [], ◌∷◌, ◌++◌, length, map, take, drop, reverse, replicate, get_or, refl, sym, ap, ◌∙◌, arith}
use Rattle.std.specs.Prelude.{if◌then◌else◌, ◌==◌}
use Rattle.std.specs.List.{suffix_len}
use Rattle.std.proofs.lemmas.Bool.{eqb-true}
use Rattle.std.proofs.lemmas.List.{take-append-drop, take_all, append-nil, length-take-le, length-drop, length-replicate, same_lists, get_or-drop, get_or-replicate, get_or-reverse, map-append}
use Rattle.std.proofs.lemmas.List.Sums.{prefix_len_passes, suffix_len-le-length}
use Rattle.space.specs.declared.program.Segment.{Segment}
use Rattle.space.specs.declared.program.Program.{Program}
use Rattle.branch_table.specs.declared.code.Code.{Code}
use Rattle.elf_load.specs.Prelude.{zeros, is_code_segment}
use Rattle.elf_emit.specs.Prelude.{in_memory, kept, source, whole, as_data, added, file_segments, translated}

abbrev is_zero : ℕ → Bool
is_zero b = b == 0

-- behind the place where the zeros at the end begin, each byte is 0
zero_at : (bytes : List ℕ) (i : ℕ) (d : ℕ) → length bytes - suffix_len is_zero bytes ≤ i → i < length bytes → get_or bytes i d ≡ 0
zero_at bytes i d from lt =
    let k : ℕ = length bytes - 1 - i in
    let passes : is_zero (get_or (reverse bytes) k d) ≡ true = prefix_len_passes is_zero (reverse bytes) k d (omega arith) in
    let place : length bytes - 1 - k ≡ i = omega arith in
    let same : get_or (reverse bytes) k d ≡ get_or bytes i d =
    get_or-reverse bytes k d (omega arith) ∙ ap (λ (j : ℕ). get_or bytes j d) place in
    sym same ∙ eqb-true _ 0 passes

zero_rest : (bytes : List ℕ) → drop (length bytes - suffix_len is_zero bytes) bytes ≡ zeros (suffix_len is_zero bytes)
unfolding zeros
zero_rest bytes =
    let n : ℕ = length bytes - suffix_len is_zero bytes in
    let bound = suffix_len-le-length is_zero bytes in
    let long : length (drop n bytes) ≡ suffix_len is_zero bytes = omega (arith, length-drop n bytes) in
    same_lists (drop n bytes) (replicate (suffix_len is_zero bytes) 0) (long ∙ sym (length-replicate (suffix_len is_zero bytes) 0))
    (λ k d lt. get_or-drop n bytes k d ∙ zero_at bytes (n + k) d (omega arith) (omega arith)
    ∙ sym (get_or-replicate (suffix_len is_zero bytes) k 0 d (omega arith)))

no_zeros : zeros 0 ≡ []
unfolding zeros
no_zeros = refl

all_bytes : (b : Bool) (bytes : List ℕ) → (if b then length bytes else length bytes - suffix_len is_zero bytes) ≤ length bytes
all_bytes true bytes = omega arith
all_bytes false bytes = omega arith

filled : (b : Bool) (bytes : List ℕ) →
    take (if b then length bytes else length bytes - suffix_len is_zero bytes) bytes
    ++ zeros (length bytes - (if b then length bytes else length bytes - suffix_len is_zero bytes)) ≡ bytes
filled true bytes =
    let none : length bytes - length bytes ≡ 0 = omega arith in
    rw none (rw no_zeros (append-nil (take (length bytes) bytes) ∙ take_all (length bytes) bytes (omega arith)))
filled false bytes =
    let n : ℕ = length bytes - suffix_len is_zero bytes in
    let bound = suffix_len-le-length is_zero bytes in
    let left : length bytes - n ≡ suffix_len is_zero bytes = omega arith in
    ap (λ (z : List ℕ). take n bytes ++ z) (ap zeros left ∙ sym (zero_rest bytes)) ∙ take-append-drop n bytes

-- no segment has more bytes in the file than in memory
pub kept_bound : (s : Segment) → kept s ≤ length s.bytes
kept_bound s = all_bytes (is_code_segment s) s.bytes

pub length_source : (s : Segment) → length (source s).bytes ≡ kept s
length_source s = length-take-le (kept s) s.bytes (kept_bound s)

pub source_in_memory : (s : Segment) → in_memory (source s) ≡ as_data s
source_in_memory s =
    let size = length_source s in
    let bytes : take (kept s) s.bytes ++ zeros (length s.bytes - length (take (kept s) s.bytes)) ≡ s.bytes =
    ap (λ (n : ℕ). take (kept s) s.bytes ++ zeros (length s.bytes - n)) size ∙ filled (is_code_segment s) s.bytes in
    ap (λ (xs : List ℕ). let t : Segment = record { at = s.at; write = s.write; exec = false; bytes = xs } in t) bytes

pub whole_in_memory : (s : Segment) → in_memory (whole s) ≡ s
whole_in_memory s =
    let none : length s.bytes - length s.bytes ≡ 0 = omega arith in
    let bytes : s.bytes ++ zeros (length s.bytes - length s.bytes) ≡ s.bytes =
    ap (λ (n : ℕ). s.bytes ++ zeros n) none ∙ ap (λ (xs : List ℕ). s.bytes ++ xs) no_zeros ∙ append-nil s.bytes in
    ap (λ (xs : List ℕ). let t : Segment = record { at = s.at; write = s.write; exec = s.exec; bytes = xs } in t) bytes

sources_in_memory : (ss : List Segment) → map in_memory (map source ss) ≡ map as_data ss
sources_in_memory [] = refl
sources_in_memory (s ∷ ss) =
    ap (λ (t : Segment). t ∷ map in_memory (map source ss)) (source_in_memory s)
    ∙ ap (λ (ts : List Segment). as_data s ∷ ts) (sources_in_memory ss)

all_in_memory : (ss : List Segment) → map in_memory (map whole ss) ≡ ss
all_in_memory [] = refl
all_in_memory (s ∷ ss) =
    ap (λ (t : Segment). t ∷ map in_memory (map whole ss)) (whole_in_memory s)
    ∙ ap (λ (ts : List Segment). s ∷ ts) (all_in_memory ss)

-- the segments of the file are in memory those of the translated program
pub file_in_memory : (program : Program) (code : Code) (area : ℕ)
    → map in_memory (file_segments program code area) ≡ (translated program code area).segments
file_in_memory program code area =
    map-append in_memory (map source program.segments) (map whole (added code area))
    ∙ ap (λ (ts : List Segment). ts ++ map in_memory (map whole (added code area))) (sources_in_memory program.segments)
    ∙ ap (λ (ts : List Segment). map as_data program.segments ++ ts) (all_in_memory (added code area))
