-- The words of a table, by their places.
use Rattle.std.proofs.Common.{◌≡◌, ℕ, zero, suc, ◌+◌, ◌*◌, ◌<◌, ◌^◌, List, [], ◌∷◌, length, get_or, drop, refl, sym, ◌∙◌, ap, arith, length-append, Fits, w32}
use Rattle.std.proofs.Math.Facts.{Fits-lt-pow}
use Rattle.std.proofs.lemmas.List.{drop_at, drop-drop}
use Rattle.std.specs.List.{flat_map}
use Rattle.byteorder.specs.Endian.{little_bytes, little_number}
use Rattle.byteorder.specs.Numbers.{length-bytes_low_first, little_number-reads_back}

pub length_of_table : (xs : List ℕ) → length (flat_map (little_bytes 4) xs) ≡ 4 * length xs
length_of_table [] = refl
length_of_table (x ∷ xs) =
    omega (arith, length-append (little_bytes 4 x) (flat_map (little_bytes 4) xs), length-bytes_low_first 0 4 x, length_of_table xs)

rest_of_table : (x : ℕ) (xs : List ℕ) (k : ℕ) → drop (4 * suc k) (flat_map (little_bytes 4) (x ∷ xs)) ≡ drop (4 * k) (flat_map (little_bytes 4) xs)
rest_of_table x xs k =
    let e : 4 * suc k ≡ 4 + 4 * k = omega arith in
    rw e (sym (drop-drop (4 * k) 4 (flat_map (little_bytes 4) (x ∷ xs)))
    ∙ ap (drop (4 * k)) (drop_at (little_bytes 4 x) (flat_map (little_bytes 4) xs) 4 (length-bytes_low_first 0 4 x)))

-- the word at a place is the number there
pub word_of_table : (xs : List ℕ) (k : ℕ) → k < length xs → ((i : ℕ) → get_or xs i 0 < 2 ^ 32)
    → little_number 4 (drop (4 * k) (flat_map (little_bytes 4) xs)) ≡ get_or xs k 0
word_of_table [] k within fits = absurd (omega arith)
word_of_table (x ∷ xs) zero within fits =
    little_number-reads_back 4 x (flat_map (little_bytes 4) xs) (fits 0)
word_of_table (x ∷ xs) (suc k) within fits =
    ap (little_number 4) (rest_of_table x xs k) ∙ word_of_table xs k (omega arith) (λ i. fits (suc i))

-- the same of each word
pub words_of_table : (bytes xs : List ℕ) → bytes ≡ flat_map (little_bytes 4) xs → ((i : ℕ) → Fits w32 (get_or xs i 0))
    → (k : ℕ) → k < length xs → little_number 4 (drop (4 * k) bytes) ≡ get_or xs k 0
words_of_table bytes xs e fits k within = rw e (word_of_table xs k within (λ i. Fits-lt-pow (fits i)))
