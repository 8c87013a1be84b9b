-- Where the runs begin the simulation holds: every location's home has its value, and all else is as the file lays it.
use Rattle.std.proofs.Common.{◌≡◌, ◌≢◌, ℕ, zero, suc, ◌+◌, ◌-◌, ◌*◌, ◌%◌, ◌^◌, ◌<◌, ◌≤◌, ◌⊎◌, inl, inr, Bool, true, false, cond, eqb, ltb, List, [], ◌∷◌, map, get_or, refl, sym, ap, ◌∙◌, subst, arith}
use Rattle.std.proofs.lemmas.Bool.Decides.{nat_tests}
use Rattle.std.proofs.lemmas.Bool.{eqb-true, cases_lt}
use Rattle.std.proofs.lemmas.List.Elements.{All-nil, All-cons, All-append, All-map}
use Rattle.machines.specs.Prelude.{Program, IsMap, load, update, first_bytes, stack_start, guest_start, Choice, Core, choice_at, chosen_word, host_start}
use Rattle.elf_load.specs.Prelude.{IsArea}
use Rattle.reg_map.specs.Prelude.{home, home_size, location_range}
use Rattle.code_layout.specs.Prelude.{no_registers}
use Rattle.elf_emit.specs.Prelude.{home_page, as_data, home_segment, table_segment, code_segment, written_segments}
use Rattle.simulation.specs.Prelude.{MatchesState}
use Rattle.upkeep.specs.Loaded.{AreBytes, HaveBytes}
use Rattle.upkeep.specs.Written.{WrittenHasBytes, WrittenStarts}
use Rattle.upkeep.proofs.Memory.{byte_in_front, byte_behind, first_byte}
use Rattle.upkeep.proofs.Page.{page_bytes, page_first, page_stack, page_zero}
use Rattle.upkeep.proofs.InPlace.{off_source, at_home}

no_registers_is_map : IsMap no_registers
no_registers_is_map = record { ebx = tt; esi = tt; edi = tt; ebx_esi = tt; ebx_edi = tt; esi_edi = tt }

load_zero : (n a : ℕ) (bytes : ℕ → ℕ) → ((i : ℕ) → i < n → bytes ((a + i) % 2 ^ 32) ≡ 0) → load n a bytes ≡ 0
unfolding load
load_zero zero a bytes zeros = refl
load_zero (suc n) a bytes zeros =
    let e : a + 0 ≡ a = omega arith in
    let here : bytes (a % 2 ^ 32) ≡ 0 = subst (λ k. bytes (k % 2 ^ 32) ≡ 0) e (zeros 0 (omega arith)) in
    let rest = load_zero n (a + 1) bytes (λ i lt. let f : a + (i + 1) ≡ a + 1 + i = omega arith in subst (λ k. bytes (k % 2 ^ 32) ≡ 0) f (zeros (i + 1) (omega arith))) in
    omega (arith, here, rest)

load_four : (a b0 b1 b2 b3 : ℕ) (bytes : ℕ → ℕ) → bytes (a % 2 ^ 32) ≡ b0 → bytes ((a + 1) % 2 ^ 32) ≡ b1 → bytes ((a + 2) % 2 ^ 32) ≡ b2 → bytes ((a + 3) % 2 ^ 32) ≡ b3
    → load 4 a bytes ≡ b0 + 256 * (b1 + 256 * (b2 + 256 * b3))
unfolding load
load_four a b0 b1 b2 b3 bytes e0 e1 e2 e3 =
    let f2 : a + 2 ≡ a + 1 + 1 = omega arith in
    let f3 : a + 3 ≡ a + 1 + 1 + 1 = omega arith in
    let g2 : bytes ((a + 1 + 1) % 2 ^ 32) ≡ b2 = subst (λ k. bytes (k % 2 ^ 32) ≡ b2) f2 e2 in
    let g3 : bytes ((a + 1 + 1 + 1) % 2 ^ 32) ≡ b3 = subst (λ k. bytes (k % 2 ^ 32) ≡ b3) f3 e3 in
    omega (arith, e0, e1, g2, g3)

-- where no home of r1's begins, its bytes are 0
home_elsewhere : (x i : ℕ) → x < 46 → x ≢ 1 → i < home_size x → (home x + i < 4) ⊎ (8 ≤ home x + i)
home_elsewhere x i lt ne within = elim (cases_lt (home x + i) 4) [
  | inl low ↦ inl low
  | inr high ↦ inr (grind (arith, nat_tests))
]

home_low : (x i : ℕ) → x < 46 → i < home_size x → home x + i < 4096
home_low x i lt within = grind (arith, nat_tests)

zero_in_range : (x : ℕ) → 0 < location_range x
zero_in_range x = grind (arith, nat_tests)

module _ (P : Program) (area : ℕ) (table code : List ℕ) (free : IsArea P.segments area) where
  abbrev bytes : ℕ → ℕ
  bytes = first_bytes (written_segments P.segments area table code)

  page_byte : (i : ℕ) → i < 4096 → bytes ((area + i) % 2 ^ 32) ≡ get_or home_page i 0
  unfolding first_bytes
  page_byte i lt =
      let high = free.high in
      let low : (area + i) % 2 ^ 32 ≡ area + i = omega arith in
      let e : area + i - area ≡ i = omega arith in
      ap bytes low
      ∙ byte_behind (home_segment area ∷ table_segment area table ∷ code_segment area code ∷ []) (area + i) P.segments (off_source P area table code free (area + i) (omega arith) (omega arith))
      ∙ ap (λ b. cond b (get_or home_page (area + i - area) 0) (first_bytes (table_segment area table ∷ code_segment area code ∷ []) (area + i))) (at_home P area table code free i lt)
      ∙ ap (λ k. get_or home_page k 0) e

  -- r1's home has the stack's start
  stack_home : load 4 (area + 4) bytes ≡ stack_start
  stack_home =
      let e1 : area + 4 + 1 ≡ area + 5 = omega arith in
      let e2 : area + 4 + 2 ≡ area + 6 = omega arith in
      let e3 : area + 4 + 3 ≡ area + 7 = omega arith in
      load_four (area + 4) 0xC0 0xFF 0x0F 0x7F bytes
      (page_byte 4 (omega arith) ∙ page_stack.0)
      (ap (λ k. bytes (k % 2 ^ 32)) e1 ∙ page_byte 5 (omega arith) ∙ page_stack.1)
      (ap (λ k. bytes (k % 2 ^ 32)) e2 ∙ page_byte 6 (omega arith) ∙ page_stack.2)
      (ap (λ k. bytes (k % 2 ^ 32)) e3 ∙ page_byte 7 (omega arith) ∙ page_stack.3)

  zero_home : (x : ℕ) → x < 46 → x ≢ 1 → load (home_size x) (area + home x) bytes ≡ 0
  zero_home x lt ne = load_zero (home_size x) (area + home x) bytes (λ i within.
      let e : area + home x + i ≡ area + (home x + i) = omega arith in
      let here : bytes ((area + home x + i) % 2 ^ 32) ≡ get_or home_page (home x + i) 0 = ap (λ k. bytes (k % 2 ^ 32)) e ∙ page_byte (home x + i) (home_low x i lt within) in
      here ∙ elim (home_elsewhere x i lt ne within) [
        | inl low ↦ page_first (home x + i) low
        | inr high ↦ page_zero (home x + i) high
      ])

  at_start : (x : ℕ) → x < 46 → load (home_size x) (area + home x) bytes ≡ update (λ y. 0) 1 stack_start x
  at_start x lt = by_test (eqb x 1) refl
    where
      by_test : (b : Bool) → eqb x 1 ≡ b → load (home_size x) (area + home x) bytes ≡ cond b stack_start 0
      by_test true e = subst (λ y. load (home_size y) (area + home y) bytes ≡ stack_start) (sym (eqb-true x 1 e)) stack_home
      by_test false e = zero_home x lt (λ is. grind (arith, nat_tests))

start_in_range : (x : ℕ) → update (λ y. 0) 1 stack_start x < location_range x
start_in_range x = by_test (eqb x 1) refl
  where
    by_test : (b : Bool) → eqb x 1 ≡ b → cond b stack_start 0 < location_range x
    by_test true e = subst (λ y. stack_start < location_range y) (sym (eqb-true x 1 e)) (omega arith)
    by_test false e = zero_in_range x

register_word : (choices : List Choice) (r : ℕ) → cond (ltb r 8) (chosen_word (choice_at choices r)) 0 < 2 ^ 32
register_word choices r = by_test (ltb r 8)
  where
    by_test : (b : Bool) → cond b (chosen_word (choice_at choices r)) 0 < 2 ^ 32
    by_test true = omega arith
    by_test false = omega arith

pub has_bytes : WrittenHasBytes
has_bytes P Q area table code is source in_table in_code = subst HaveBytes (sym is.segments) (
    All-append (λ s. AreBytes s.bytes) (map as_data P.segments) (home_segment area ∷ table_segment area table ∷ code_segment area code ∷ [])
    (All-map (λ s. AreBytes s.bytes) as_data P.segments source)
    (All-cons (λ s. AreBytes s.bytes) (home_segment area) (table_segment area table ∷ code_segment area code ∷ []) page_bytes
    (All-cons (λ s. AreBytes s.bytes) (table_segment area table) (code_segment area code ∷ []) in_table
    (All-cons (λ s. AreBytes s.bytes) (code_segment area code) [] in_code (All-nil (λ s. AreBytes s.bytes))))))

pub starts : WrittenStarts
starts P Q area table code s choices free is are set =
    let core : Core = (host_start Q choices).core in
    let bytes_are : core.bytes ≡ first_bytes (written_segments P.segments area table code) = ap first_bytes is.segments in
    let shown : (x : ℕ) → x < 46 → load (home_size x) (s.area + home x) core.bytes ≡ update (λ y. 0) 1 stack_start x =
    λ x lt. ap (λ n. load (home_size x) (n + home x) core.bytes) set.area_is ∙ ap (λ f. load (home_size x) (area + home x) f) bytes_are ∙ at_start P area table code free x lt in
    let same : (a : ℕ) → s.guest.held a ≡ true → core.bytes a ≡ (guest_start P).bytes a =
    λ a held. ap (λ (f : ℕ → ℕ). f a) bytes_are ∙ byte_in_front (home_segment area ∷ table_segment area table ∷ code_segment area code ∷ []) a P.segments (ap (λ r. r.held a) (sym set.guest) ∙ held) in
    let matches : MatchesState s no_registers (guest_start P) core = record {
      is_map = no_registers_is_map;
      is_guest = record { in_range = λ x lt. start_in_range x; bytes = λ a held. subst (λ v. v < 256) (same a held) (first_byte a Q.segments are) };
      represents = record {
        locs = λ x lt live. shown x lt;
        bytes = same;
      };
      in_range = λ x lt. subst (λ v. v < location_range x) (sym (shown x lt)) (start_in_range x);
      is_core = record { words = register_word choices; bytes = λ a. first_byte a Q.segments are };
      unwritten = λ a off. ap (λ (f : ℕ → ℕ). f a) (sym set.image);
    } in
    record {
      matches = matches;
      here = set.entry;
    }
