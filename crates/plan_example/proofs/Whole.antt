-- The example's memory, table and code.
use Rattle.std.proofs.Common.{◌≡◌, ℕ, zero, suc, ◌^◌, ◌<◌, Bool, true, false, ltb, ◌&&◌, List, [], ◌∷◌, slice_index, refl, arith}
use Rattle.std.proofs.lemmas.Bool.{ltb-true}
use Rattle.std.proofs.lemmas.List.Elements.{All-nil, All-cons, All-from_recursion}
use Rattle.machines.specs.Prelude.{Segment}
use Rattle.elf_load.specs.Prelude.{IsArea, MeetsArea}
use Rattle.code_layout.specs.Prelude.{items_bytes}
use Rattle.upkeep.specs.Loaded.{AreBytes, HaveBytes}
use Rattle.upkeep.specs.Written.{IsWritten}
use Rattle.plan_example.specs.Example.{program, translation, area, word_bytes, table, code, entries}
use Rattle.plan_example.proofs.Context.{code_length}

pub is_area : IsArea program.segments area
is_area = record {
  aligned = refl;
  low = omega arith;
  high = omega arith;
  free = All-from_recursion (λ g. ¬ MeetsArea g area) program.segments ((λ m. let below = m.2 in let above = m.3 in omega (arith, below, above)), tt);
}

pub is_written : IsWritten program area table code translation
is_written = record { segments = refl; place = refl; table_fits = omega arith; code_fits = omega (arith, code_length) }

-- lists of bytes, by a test
abbrev are_bytes : List ℕ → Bool
are_bytes [] = true
are_bytes (b ∷ bytes) = ltb b 256 && are_bytes bytes

both : (x y : Bool) → (x && y) ≡ true → (x ≡ true) × (y ≡ true)
both true y e = (refl, e)
both false y e = absurd cc

by_test : (bytes : List ℕ) → are_bytes bytes ≡ true → AreBytes bytes
by_test [] e = All-nil (λ b. b < 256)
by_test (b ∷ bytes) e = let p = both (ltb b 256) (are_bytes bytes) e in All-cons (λ b. b < 256) b bytes (ltb-true b 256 p.0) (by_test bytes p.1)

pub program_bytes : HaveBytes program.segments
program_bytes = All-from_recursion (λ (g : Segment). AreBytes g.bytes) program.segments (by_test word_bytes refl, tt)

pub table_bytes : AreBytes table
table_bytes = by_test table refl

pub code_bytes : AreBytes code
unfolding items_bytes
code_bytes = by_test code refl

-- the table's words are addresses
pub entry_low : (k : ℕ) → k < 4 → slice_index entries k < 2 ^ 32
entry_low zero lt = omega arith
entry_low (suc zero) lt = omega arith
entry_low (suc (suc zero)) lt = omega arith
entry_low (suc (suc (suc zero))) lt = omega arith
entry_low (suc (suc (suc (suc k)))) lt = absurd (omega arith)
