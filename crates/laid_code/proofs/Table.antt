-- The table of a written file: its words are the entries.
use Rattle.std.proofs.Common.{◌≡◌, ℕ, zero, suc, ◌+◌, ◌*◌, ◌/◌, ◌%◌, ◌^◌, ◌<◌, ◌≤◌, ◌⊎◌, inl, inr, List, [], ◌∷◌, length, get_or, slice_index, refl, sym, ap, ◌∙◌, arith}
use Rattle.std.specs.List.{flat_map}
use Rattle.byteorder.specs.Endian.{little_bytes}
use Rattle.machines.specs.Prelude.{load}
use Rattle.block_find.specs.Prelude.{address_of}
use Rattle.laid_code.specs.Prelude.{code_start, TablesStand}
use Rattle.laid_code.proofs.Carried.{entry_at, entry_or_hold}

-- the bytes of a word in the table
byte_at : (xs : List ℕ) (k j : ℕ) → k < length xs → j < 4 → get_or (flat_map (little_bytes 4) xs) (4 * k + j) 0 ≡ slice_index xs k / 256 ^ j % 256
byte_at [] k j lk lj = absurd (omega arith)
byte_at (x ∷ xs) zero zero lk lj = omega arith
byte_at (x ∷ xs) zero (suc zero) lk lj = refl
byte_at (x ∷ xs) zero (suc (suc zero)) lk lj = refl
byte_at (x ∷ xs) zero (suc (suc (suc zero))) lk lj = refl
byte_at (x ∷ xs) zero (suc (suc (suc (suc j)))) lk lj = absurd (omega arith)
byte_at (x ∷ xs) (suc k) j lk lj =
    let e : 4 * suc k + j ≡ suc (suc (suc (suc (4 * k + j)))) = omega arith in
    ap (λ n. get_or (flat_map (little_bytes 4) (x ∷ xs)) n 0) e ∙ byte_at xs k j (omega arith) lj

pub word_at : (image : ℕ → ℕ) (table : ℕ) (xs : List ℕ) → table + 4 * length xs ≤ 2 ^ 32 → ((i : ℕ) → i < 4 * length xs → image (table + i) ≡ get_or (flat_map (little_bytes 4) xs) i 0) →
    (k : ℕ) → k < length xs → slice_index xs k < 2 ^ 32 → load 4 (table + 4 * k) image ≡ slice_index xs k
unfolding load
word_at image table xs low bytes k lk w =
    let b = λ (j : ℕ) (lj : j < 4). (bytes (4 * k + j) (omega arith) ∙ byte_at xs k j lk lj) in
    let a0 : (table + 4 * k) % 2 ^ 32 ≡ table + (4 * k + 0) = omega arith in
    let a1 : (table + 4 * k + 1) % 2 ^ 32 ≡ table + (4 * k + 1) = omega arith in
    let a2 : (table + 4 * k + 1 + 1) % 2 ^ 32 ≡ table + (4 * k + 2) = omega arith in
    let a3 : (table + 4 * k + 1 + 1 + 1) % 2 ^ 32 ≡ table + (4 * k + 3) = omega arith in
    let b0 : image ((table + 4 * k) % 2 ^ 32) ≡ slice_index xs k % 256 = ap image a0 ∙ b 0 (omega arith) ∙ omega arith in
    let b1 : image ((table + 4 * k + 1) % 2 ^ 32) ≡ slice_index xs k / 256 % 256 = ap image a1 ∙ b 1 (omega arith) in
    let b2 : image ((table + 4 * k + 1 + 1) % 2 ^ 32) ≡ slice_index xs k / 65536 % 256 = ap image a2 ∙ b 2 (omega arith) in
    let b3 : image ((table + 4 * k + 1 + 1 + 1) % 2 ^ 32) ≡ slice_index xs k / 16777216 % 256 = ap image a3 ∙ b 3 (omega arith) in
    omega (arith, b0, b1, b2, b3, w)

pub tables_stand : TablesStand
tables_stand interface targets reading ops P Q first words area table has count low t =
    let code_low = has.low in
    record {
      aligned = has.aligned;
      low = omega (arith, code_low, count);
      first_word = omega (arith, code_low);
      count_word = omega (arith, code_low, count);
      table_low = t.low;
      held = t.held;
      unwritable = t.unwritable;
      words = λ k lk.
          word_at _ (area + 0x1000) table t.low t.bytes k lk (low k lk)
          ∙ sym (entry_at first table (code_start area) k lk);
      off = λ w lw aw out. entry_or_hold first table (code_start area) (λ d. d ≡ code_start area) w refl (λ k lk e. absurd (by_side k lk w e out));
    }
  where
    by_side : (k : ℕ) → k < length table → (w : ℕ) → w ≡ address_of first k → (w < first) ⊎ (first + 4 * length table ≤ w) → ⊥
    by_side k lk w e (inl before) = omega (arith, e, before)
    by_side k lk w e (inr behind) = omega (arith, e, behind, lk)
