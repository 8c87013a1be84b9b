-- The memory of a written file: the source's, the home page, the table and the code, each in its place.
use Rattle.std.proofs.Common.{◌≡◌, ℕ, ◌+◌, ◌-◌, ◌<◌, ◌≤◌, ◌⊎◌, inl, inr, true, false, cond, not, ◌||◌, Some, List, [], ◌∷◌, length, map, get_or, refl, sym, ap, ◌∙◌, subst, arith}
use Rattle.std.specs.Prelude.{slice_get}
use Rattle.std.proofs.lemmas.Bool.{cases_lt}
use Rattle.std.proofs.lemmas.List.{length-append, length-map, get_or-append-add}
use Rattle.std.proofs.lemmas.Option.{slice_get-get_or}
use Rattle.machines.specs.Prelude.{Program, Segment, Rights, Code, code_in, is_code, is_held, is_writable, is_within, rights_of, code_of, first_bytes, without}
use Rattle.elf_load.specs.Prelude.{IsArea}
use Rattle.reg_map.specs.Prelude.{IsHomePage, HasSegments}
use Rattle.machines.proofs.Tests.{both}
use Rattle.symbolic_tiles.proofs.PlaceLaws.{programs_write_held}
use Rattle.elf_emit.specs.Prelude.{home_page, as_data, home_segment, table_segment, code_segment, written_segments}
use Rattle.upkeep.specs.Written.{IsWritten, narrow_rights, host_code, WrittenIsInPlace}
use Rattle.upkeep.proofs.Page.{page_length}
use Rattle.upkeep.proofs.Memory.{within, from_within, not_true, held_in_front, held_behind, writable_in_front, writable_behind, byte_behind, free_of}

module _ (P : Program) (area : ℕ) (table code : List ℕ) where
  abbrev all : List Segment
  all = written_segments P.segments area table code

  abbrev behind : List Segment
  behind = home_segment area ∷ table_segment area table ∷ code_segment area code ∷ []

  abbrev rights : Rights
  rights = record { held = is_held all; writable = is_writable all }

  abbrev host : Rights
  host = without (host_code area code) rights

  module _ (free : IsArea P.segments area) where
    pub off_source : (a : ℕ) → area ≤ a → a < area + 0x0A000000 → is_held P.segments a ≡ false
    off_source a low high = free_of area a low high P.segments free.free

    pub at_home : (i : ℕ) → i < 4096 → is_within area (length home_page) (area + i) ≡ true
    at_home i lt = let e = page_length in within area (length home_page) (area + i) (omega arith) (omega (arith, e))

    page_held : (i : ℕ) → i < 4096 → is_held all (area + i) ≡ true
    unfolding is_held
    page_held i lt = held_behind behind (area + i) P.segments (off_source (area + i) (omega arith) (omega arith)) ∙ ap (λ b. b || (is_within (area + 0x1000) (length table) (area + i) || (is_within (area + 0x81000) (length code) (area + i) || false))) (at_home i lt)

    page_writable : (i : ℕ) → i < 4096 → is_writable all (area + i) ≡ true
    unfolding is_writable
    page_writable i lt = writable_behind behind (area + i) P.segments (off_source (area + i) (omega arith) (omega arith)) ∙ ap (λ b. b || false) (at_home i lt)

    -- the source's segments lie below the area or behind it
    source_apart : (a : ℕ) → is_held P.segments a ≡ true → (a < area) ⊎ (area + 0x0A000000 ≤ a)
    source_apart a held = elim (cases_lt a area) [
      | inl lt ↦ inl lt
      | inr low ↦ elim (cases_lt a (area + 0x0A000000)) [
        | inl high ↦ absurd (let off = off_source a low high in cc)
        | inr past ↦ inr past
      ]
    ]

    not_within : (at count a : ℕ) → area ≤ at → at + count ≤ area + 0x0A000000 → (a < area) ⊎ (area + 0x0A000000 ≤ a) → is_within at count a ≡ false
    not_within at count a low high (inl lt) = not_true (is_within at count a) (λ h. let inside = from_within at count a h in let first = inside.0 in omega arith)
    not_within at count a low high (inr le) = not_true (is_within at count a) (λ h. let inside = from_within at count a h in let last = inside.1 in omega arith)

    source_not_written : (a : ℕ) → is_held P.segments a ≡ true → is_writable behind a ≡ false
    unfolding is_writable
    source_not_written a held = let e = page_length in rw (not_within area (length home_page) a (omega arith) (omega (arith, e)) (source_apart a held)) refl

    -- behind the home page the table and the code decide
    behind_home : (a : ℕ) → area + 0x1000 ≤ a → a < area + 0x0A000000 → first_bytes all a ≡ first_bytes (table_segment area table ∷ code_segment area code ∷ []) a
    unfolding first_bytes
    behind_home a low high =
        let off : is_within area (length home_page) a ≡ false = not_true (is_within area (length home_page) a) (λ h. let inside = from_within area (length home_page) a h in let last = inside.1 in let e = page_length in omega (arith, e)) in
        byte_behind behind a P.segments (off_source a (omega arith) high)
        ∙ ap (λ b. cond b (get_or home_page (a - area) 0) (first_bytes (table_segment area table ∷ code_segment area code ∷ []) a)) off

    table_here : (k : ℕ) → k < length table → length table ≤ 0x80000 → first_bytes all (area + 0x1000 + k) ≡ get_or table k 0
    unfolding first_bytes
    table_here k lt fits =
        let e : area + 0x1000 + k - (area + 0x1000) ≡ k = omega arith in
        behind_home (area + 0x1000 + k) (omega arith) (omega arith)
        ∙ ap (λ b. cond b (get_or table (area + 0x1000 + k - (area + 0x1000)) 0) (first_bytes (code_segment area code ∷ []) (area + 0x1000 + k))) (within (area + 0x1000) (length table) (area + 0x1000 + k) (omega arith) (omega arith))
        ∙ ap (λ i. get_or table i 0) e

    code_here : (k : ℕ) → k < length code → length table ≤ 0x80000 → 0x81000 + length code ≤ 0x0A000000 → first_bytes all (area + 0x81000 + k) ≡ get_or code k 0
    unfolding first_bytes
    code_here k lt table_fits code_fits =
        let e : area + 0x81000 + k - (area + 0x81000) ≡ k = omega arith in
        let off : is_within (area + 0x1000) (length table) (area + 0x81000 + k) ≡ false = not_true (is_within (area + 0x1000) (length table) (area + 0x81000 + k)) (λ h. let inside = from_within (area + 0x1000) (length table) (area + 0x81000 + k) h in let last = inside.1 in omega arith) in
        behind_home (area + 0x81000 + k) (omega arith) (omega arith)
        ∙ ap (λ b. cond b (get_or table (area + 0x81000 + k - (area + 0x1000)) 0) (first_bytes (code_segment area code ∷ []) (area + 0x81000 + k))) off
        ∙ ap (λ b. cond b (get_or code (area + 0x81000 + k - (area + 0x81000)) 0) 0) (within (area + 0x81000) (length code) (area + 0x81000 + k) (omega arith) (omega arith))
        ∙ ap (λ i. get_or code i 0) e

    table_here_held : (k : ℕ) → k < length table → length table ≤ 0x80000 → is_held all (area + 0x1000 + k) ≡ true
    unfolding is_held
    table_here_held k lt fits =
        let e = page_length in
        let off : is_within area (length home_page) (area + 0x1000 + k) ≡ false = not_true (is_within area (length home_page) (area + 0x1000 + k)) (λ h. let inside = from_within area (length home_page) (area + 0x1000 + k) h in let last = inside.1 in omega (arith, e, last)) in
        held_behind behind (area + 0x1000 + k) P.segments (off_source (area + 0x1000 + k) (omega arith) (omega arith))
        ∙ rw (off, within (area + 0x1000) (length table) (area + 0x1000 + k) (omega arith) (omega arith)) refl

    table_not_written : (k : ℕ) → k < length table → length table ≤ 0x80000 → is_writable all (area + 0x1000 + k) ≡ false
    unfolding is_writable
    table_not_written k lt fits =
        let e = page_length in
        let off : is_within area (length home_page) (area + 0x1000 + k) ≡ false = not_true (is_within area (length home_page) (area + 0x1000 + k)) (λ h. let inside = from_within area (length home_page) (area + 0x1000 + k) h in let last = inside.1 in omega (arith, e, last)) in
        writable_behind behind (area + 0x1000 + k) P.segments (off_source (area + 0x1000 + k) (omega arith) (omega arith))
        ∙ rw off refl

    table_not_code : (k : ℕ) → k < length table → length table ≤ 0x80000 → is_code (host_code area code) (area + 0x1000 + k) ≡ false
    table_not_code k lt fits = not_true (is_code (host_code area code) (area + 0x1000 + k)) (λ h. let inside = from_within (area + 0x81000) (length code) (area + 0x1000 + k) h in let first = inside.0 in omega arith)

    table_readable : (k : ℕ) → k < length table → length table ≤ 0x80000 → host.held (area + 0x1000 + k) ≡ true
    table_readable k lt fits = both (is_held all (area + 0x1000 + k)) (not (is_code (host_code area code) (area + 0x1000 + k))) (table_here_held k lt fits) (ap not (table_not_code k lt fits))

    module _ (code_fits : 0x81000 + length code ≤ 0x0A000000) where
      source_not_code : (a : ℕ) → is_held P.segments a ≡ true → is_code (host_code area code) a ≡ false
      source_not_code a held = not_within (area + 0x81000) (length code) a (omega arith) (omega arith) (source_apart a held)

      page_not_code : (i : ℕ) → i < 4096 → is_code (host_code area code) (area + i) ≡ false
      page_not_code i lt = not_true (is_code (host_code area code) (area + i)) (λ h. let inside = from_within (area + 0x81000) (length code) (area + i) h in let first = inside.0 in omega arith)

      is_page : IsHomePage area (rights_of P) host
      is_page =
          let high = free.high in
          record {
            low = omega arith;
            held = λ i lt. both (is_held all (area + i)) (not (is_code (host_code area code) (area + i))) (page_held i lt) (ap not (page_not_code i lt));
            writable = page_writable;
            apart = λ a held. elim (source_apart a held) [ inl lt ↦ inl lt | inr le ↦ inr (omega arith) ];
          }

      has_segments : HasSegments (rights_of P) host
      has_segments = record {
        held = λ a held. both (is_held all a) (not (is_code (host_code area code) a)) (held_in_front behind a P.segments held) (ap not (source_not_code a held));
        writable = λ a held. writable_in_front behind a P.segments (source_not_written a held);
      }

-- the code segment is the last
last_here : (P : Program) (area : ℕ) (table code : List ℕ) → slice_get (written_segments P.segments area table code) (length P.segments + 2) ≡ Some (code_segment area code)
last_here P area table code =
    let long = length-map P.segments as_data in
    let all = length-append (map as_data P.segments) (home_segment area ∷ table_segment area table ∷ code_segment area code ∷ []) in
    let last : get_or (written_segments P.segments area table code) (length (map as_data P.segments) + 2) (home_segment area) ≡ code_segment area code =
    get_or-append-add (map as_data P.segments) (home_segment area ∷ table_segment area table ∷ code_segment area code ∷ []) 2 (home_segment area) in
    slice_get-get_or (written_segments P.segments area table code) (length P.segments + 2) (home_segment area) (omega (arith, long, all))
    ∙ ap (λ (s : Segment). Some s) (ap (λ n. get_or (written_segments P.segments area table code) (n + 2) (home_segment area)) (sym long) ∙ last)

module _ (P Q : Program) (area : ℕ) (table code : List ℕ) (is : IsWritten P area table code Q) where
  pub code_is : code_of Q ≡ host_code area code
  code_is =
      ap (λ ss. code_in (slice_get ss Q.code)) is.segments
      ∙ ap (λ n. code_in (slice_get (written_segments P.segments area table code) n)) is.place
      ∙ ap code_in (last_here P area table code)

  rights_are : host P area table code ≡ narrow_rights Q
  rights_are = sym (
      ap (λ (ss : List Segment). without (code_of Q) (record { held = is_held ss; writable = is_writable ss })) is.segments
      ∙ ap (λ (c : Code). without c (record { held = is_held (written_segments P.segments area table code); writable = is_writable (written_segments P.segments area table code) })) code_is)

pub in_place : WrittenIsInPlace
in_place P Q area table code free is = record {
  page = subst (IsHomePage area (rights_of P)) (rights_are P Q area table code is) (is_page P area table code free is.code_fits);
  segments = subst (HasSegments (rights_of P)) (rights_are P Q area table code is) (has_segments P area table code free is.code_fits);
  writes_held = programs_write_held P;
  table_held = λ k lt. ap (λ (r : Rights). r.held (area + 0x1000 + k)) (sym (rights_are P Q area table code is)) ∙ table_readable P area table code free k lt is.table_fits;
  table_unwritable = λ k lt. ap (λ (r : Rights). r.writable (area + 0x1000 + k)) (sym (rights_are P Q area table code is)) ∙ table_not_written P area table code free k lt is.table_fits;
  table_stands = λ k lt. ap (λ ss. first_bytes ss (area + 0x1000 + k)) is.segments ∙ table_here P area table code free k lt is.table_fits;
  code_stands = λ k lt. ap (λ ss. first_bytes ss (area + 0x81000 + k)) is.segments ∙ code_here P area table code free k lt is.table_fits is.code_fits;
  code_is = code_is P Q area table code is;
}
