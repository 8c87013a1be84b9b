-- The segments of a translation's file can be loaded.
use Rattle.std.proofs.Common.{◌≡◌, ℕ, zero, suc, ◌+◌, ◌-◌, ◌*◌, ◌^◌, ◌<◌, ◌≤◌, true, false, List, [], ◌∷◌, ◌++◌, length, map, get_or, refl, sym, ap, ◌∙◌, subst, inl, inr, arith}
use Rattle.std.specs.Prelude.{IsTrue, AllPairs}
use Rattle.std.specs.List.{All, HoldsAt, sum_by}
use Rattle.std.proofs.lemmas.Bool.{cases_lt}
use Rattle.std.proofs.lemmas.List.{append_assoc, length-append, length-map, get_or-map, get_or_append_left, get_or-append_right}
use Rattle.std.proofs.lemmas.List.Elements.{All-push, All-nil, All-cons, All-append, All-map, All-weaker}
use Rattle.std.proofs.lemmas.List.Quantifiers.{all_pairs_push}
use Rattle.std.proofs.lemmas.List.Sums.{sum_by-append, sum_by-cons}
use Rattle.space.specs.declared.program.Kind.TheVariants.{PowerPc, Ia32}
use Rattle.space.specs.declared.program.Segment.{Segment}
use Rattle.space.specs.declared.program.Program.{Program}
use Rattle.branch_table.specs.declared.code.Code.{Code}
use Rattle.elf_load.specs.Prelude.{IsArea, MeetsArea, IsProgramOf, zeros}
use Rattle.elf_emit.specs.Prelude.{FileSegment, word, elf_file, is_code, IsSound, AreApart, AreLoadable, source, whole, home_page, home_segment, table_segment, table_bytes, code_segment, added, file_segments, translated, FitsArea}
use Rattle.elf_emit.proofs.Kept.{kept_bound, length_source, file_in_memory}
use Rattle.elf_emit.proofs.Loads.{written_file_loads}
use Rattle.elf_emit.proofs.Source.{HasPlace, SharesNone, memory_of, AreOfProgram, of_program}
use Rattle.elf_load.proofs.LowCode.{zeros-length as length_zeros}
use Rattle.branch_table.proofs.Words.{length_of_table}

pub length_home_page : length home_page ≡ 4096
unfolding home_page
length_home_page = omega (arith, length-append (word 0 ++ word 0x7F0FFFC0) (zeros 4088), length_zeros 4088)

no_segment : Segment
no_segment = record { at = 0; write = false; exec = false; bytes = [] }

-- segments of the program in the file are apart, as they are in memory
sources_apart : (ss : List Segment) → AllPairs SharesNone ss → AllPairs AreApart (map source ss)
sources_apart ss apart i j d lt below =
    let within : j < length ss = omega (arith, length-map ss source) in
    subst (λ (s : FileSegment). AreApart s (get_or (map source ss) j d)) (sym (get_or-map source ss i no_segment d (omega arith)))
    (subst (λ (t : FileSegment). AreApart (source (get_or ss i no_segment)) t) (sym (get_or-map source ss j no_segment d within))
    (apart i j no_segment lt within))

-- a segment that does not meet the area is apart from each in it
apart_from_area : (area : ℕ) (t : FileSegment) → area ≤ t.at → t.at + t.size ≤ area + 0x0A000000
    → (s : Segment) → ¬ MeetsArea s area → AreApart (source s) t
apart_from_area area t from to s free shares = free (shares.0, shares.1, shares.2, (let x = shares.3 in omega arith), (let x = shares.4 in omega arith))

sources_from_area : (area : ℕ) (ss : List Segment) (t : FileSegment) → All (λ s. ¬ MeetsArea s area) ss → area ≤ t.at
    → t.at + t.size ≤ area + 0x0A000000 → All (λ s. AreApart s t) (map source ss)
sources_from_area area ss t free from to =
    All-map (λ s. AreApart s t) source ss
    (All-weaker (λ s. ¬ MeetsArea s area) (λ s. AreApart (source s) t) (apart_from_area area t from to) ss free)

-- a segment that ends where another begins, or before, is apart from it
in_order : (s t : FileSegment) → s.at + s.size ≤ t.at → AreApart s t
in_order s t le shares = let a = shares.2 in let b = shares.3 in omega arith

three_apart : (xs : List FileSegment) (a b c : FileSegment) → AllPairs AreApart xs → All (λ s. AreApart s a) xs → All (λ s. AreApart s b) xs
    → All (λ s. AreApart s c) xs → AreApart a b → AreApart a c → AreApart b c → AllPairs AreApart (xs ++ a ∷ b ∷ c ∷ [])
three_apart xs a b c apart from_a from_b from_c ab ac bc =
    let one : AllPairs AreApart (xs ++ a ∷ []) = all_pairs_push AreApart xs a apart from_a in
    let two : AllPairs AreApart ((xs ++ a ∷ []) ++ b ∷ []) =
    all_pairs_push AreApart (xs ++ a ∷ []) b one (All-push (λ s. AreApart s b) xs a from_b ab) in
    let three : AllPairs AreApart (((xs ++ a ∷ []) ++ b ∷ []) ++ c ∷ []) =
    all_pairs_push AreApart ((xs ++ a ∷ []) ++ b ∷ []) c two
    (All-push (λ s. AreApart s c) (xs ++ a ∷ []) b (All-push (λ s. AreApart s c) xs a from_c ac) bc) in
    let group : ((xs ++ a ∷ []) ++ b ∷ []) ++ c ∷ [] ≡ xs ++ a ∷ b ∷ c ∷ [] =
    append_assoc (xs ++ a ∷ []) (b ∷ []) (c ∷ []) ∙ append_assoc xs (a ∷ []) (b ∷ c ∷ []) in
    subst (AllPairs AreApart) group three

sources_memory : (ss : List Segment) → sum_by (λ s. s.size) (map source ss) ≡ sum_by memory_of ss
sources_memory [] = refl
sources_memory (s ∷ ss) =
    omega (arith, sum_by-cons (λ (t : FileSegment). t.size) (source s) (map source ss), sum_by-cons memory_of s ss, sources_memory ss)

source_sound : (s : Segment) → HasPlace s → IsSound (source s)
source_sound s place = record {
  some = place.some;
  fits = let bound = kept_bound s in omega (arith, length_source s);
  low = place.low;
}

-- which of the added segments is code
last_is_code : (code : Code) (area j : ℕ) (d : FileSegment) → j < 3 → IsTrue (is_code (get_or (map whole (added code area)) j d)) → j ≡ 2
last_is_code code area zero d lt is = cc
last_is_code code area (suc zero) d lt is = cc
last_is_code code area (suc (suc zero)) d lt is = refl
last_is_code code area (suc (suc (suc j))) d lt is = absurd (omega arith)

no_source_is_code : (ss : List Segment) (k : ℕ) (d : FileSegment) → k < length ss → IsTrue (is_code (get_or (map source ss) k d)) → ⊥
no_source_is_code ss k d lt is =
    let same : false ≡ true = sym (ap is_code (get_or-map source ss k no_segment d lt)) ∙ is in
    cc

only_code : (ss : List Segment) (code : Code) (area k : ℕ) (d : FileSegment) → k < length (map source ss ++ map whole (added code area))
    → IsTrue (is_code (get_or (map source ss ++ map whole (added code area)) k d)) → k ≡ length ss + 2
only_code ss code area k d lt is =
    let long = length-map ss source in
    elim (cases_lt k (length ss)) [
      | inl before ↦
          absurd (no_source_is_code ss k d before
          (sym (ap is_code (get_or_append_left (map source ss) (map whole (added code area)) d k (omega arith))) ∙ is))
      | inr from ↦
          let last : k - length ss ≡ 2 =
          last_is_code code area (k - length ss) d (omega (arith, length-append (map source ss) (map whole (added code area))))
          (sym (ap is_code (get_or-append_right (map source ss) (map whole (added code area)) (length ss) k d long from)) ∙ is) in
          omega arith
    ]

code_there : (ss : List Segment) (code : Code) (area : ℕ) → HoldsAt (λ s. IsTrue (is_code s)) (map source ss ++ map whole (added code area)) (length ss + 2)
code_there ss code area d =
    let two : length ss + 2 - length ss ≡ 2 = omega arith in
    ap is_code (get_or-append_right (map source ss) (map whole (added code area)) (length ss) (length ss + 2) d (length-map ss source) (omega arith)
    ∙ ap (λ (j : ℕ). get_or (map whole (added code area)) j d) two)

-- the segments of the file can be loaded, where the area is free and has room
pub file_segments_load : (program : Program) (code : Code) (area : ℕ) → AreOfProgram program.segments → IsArea program.segments area
    → FitsArea code → AreLoadable (file_segments program code area) (length program.segments + 2)
file_segments_load program code area of is fits =
    let ss : List Segment = program.segments in
    let h : FileSegment = whole (home_segment area) in
    let t : FileSegment = whole (table_segment area (table_bytes code)) in
    let c : FileSegment = whole (code_segment area code.bytes) in
    let hs : h.size ≡ 4096 = length_home_page in
    let ts : t.size ≡ 4 * length code.entries = length_of_table code.entries in
    let some_entries = fits.some_entries in
    let most_entries = fits.table in
    let some_bytes = fits.some_bytes in
    let most_bytes = fits.bytes in
    let high = is.high in
    let long = length-map ss source in
    record {
      few = let few = of.few in omega (arith, length-append (map source ss) (h ∷ t ∷ c ∷ []));
      sound = All-append IsSound (map source ss) (h ∷ t ∷ c ∷ [])
          (All-map IsSound source ss (All-weaker HasPlace (λ s. IsSound (source s)) source_sound ss of.placed))
          (All-cons IsSound h (t ∷ c ∷ []) (record { some = omega arith; fits = omega arith; low = omega arith })
          (All-cons IsSound t (c ∷ []) (record { some = omega arith; fits = omega arith; low = omega arith })
          (All-cons IsSound c [] (record { some = omega arith; fits = omega arith; low = omega arith }) (All-nil IsSound))));
      apart = three_apart (map source ss) h t c (sources_apart ss of.apart)
          (sources_from_area area ss h is.free (omega arith) (omega arith))
          (sources_from_area area ss t is.free (omega arith) (omega arith))
          (sources_from_area area ss c is.free (omega arith) (omega arith))
          (in_order h t (omega arith)) (in_order h c (omega arith)) (in_order t c (omega arith));
      memory =
          let memory = of.memory in
          let all : sum_by (λ s. s.size) (map source ss ++ (h ∷ t ∷ c ∷ [])) ≡ sum_by (λ s. s.size) (map source ss) + sum_by (λ s. s.size) (h ∷ t ∷ c ∷ []) =
          sum_by-append (λ (s : FileSegment). s.size) (map source ss) (h ∷ t ∷ c ∷ []) in
          let three : sum_by (λ s. s.size) (h ∷ t ∷ c ∷ []) ≡ 0 + h.size + t.size + c.size = refl in
          omega (arith, sources_memory ss);
      within = omega (arith, length-append (map source ss) (h ∷ t ∷ c ∷ []));
      here = code_there ss code area;
      alone = only_code ss code area;
    }

-- the file of a translation is loaded as the translated program
pub file_loads : (bytes : List ℕ) (program : Program) (code : Code) (area : ℕ) → IsProgramOf PowerPc bytes program
    → IsArea program.segments area → FitsArea code → code.start < 2 ^ 32
    → IsProgramOf Ia32 (elf_file code.start (file_segments program code area)) (translated program code area)
file_loads bytes program code area is free fits start =
    subst (λ (segments : List Segment). IsProgramOf Ia32 (elf_file code.start (file_segments program code area))
    (let p : Program = record { kind = Ia32; entry = code.start; segments = segments; code = length program.segments + 2 } in p))
    (file_in_memory program code area)
    (written_file_loads code.start (file_segments program code area) (length program.segments + 2) start
    (file_segments_load program code area (of_program bytes program is) free fits))
