-- The bytes of the home page at the start.
use Rattle.std.proofs.Common.{◌≡◌, ℕ, zero, suc, ◌-◌, ◌<◌, ◌≤◌, inl, inr, List, [], ◌∷◌, ◌++◌, length, get_or, replicate, refl, sym, ap, ◌∙◌, subst, arith}
use Rattle.std.proofs.lemmas.Bool.{cases_lt}
use Rattle.std.proofs.lemmas.List.{length-append, length-replicate, get_or-append_right, get_or_past, get_or-replicate}
use Rattle.std.proofs.lemmas.List.Elements.{All-from_recursion, All-append, All-replicate}
use Rattle.elf_emit.specs.Prelude.{home_page}
use Rattle.elf_load.specs.Prelude.{zeros}
use Rattle.upkeep.specs.Loaded.{AreBytes}

-- the words of r0 and r1
abbrev front : List ℕ
front = 0 ∷ 0 ∷ 0 ∷ 0 ∷ 0xC0 ∷ 0xFF ∷ 0x0F ∷ 0x7F ∷ []

abbrev rest : List ℕ
rest = replicate 4088 0

-- what all else here rests on
page_is : home_page ≡ front ++ rest
unfolding home_page zeros
page_is = refl

pub page_length : length home_page ≡ 4096
page_length =
    let zeros : length rest ≡ 4088 = length-replicate {A = ℕ} 4088 0 in
    ap length page_is ∙ omega (arith, zeros, length-append front rest)

pub page_bytes : AreBytes home_page
page_bytes =
    let first : AreBytes front = All-from_recursion (λ b. b < 256) front (omega arith, (omega arith, (omega arith, (omega arith, (omega arith, (omega arith, (omega arith, (omega arith, tt)))))))) in
    subst AreBytes (sym page_is) (All-append (λ b. b < 256) front rest first (All-replicate (λ b. b < 256) 4088 0 (omega arith)))

at : (i b : ℕ) → get_or (front ++ rest) i 0 ≡ b → get_or home_page i 0 ≡ b
at i b e = ap (λ bytes. get_or bytes i 0) page_is ∙ e

-- r0's word
pub page_first : (i : ℕ) → i < 4 → get_or home_page i 0 ≡ 0
page_first zero lt = at 0 0 refl
page_first (suc zero) lt = at 1 0 refl
page_first (suc (suc zero)) lt = at 2 0 refl
page_first (suc (suc (suc zero))) lt = at 3 0 refl
page_first (suc (suc (suc (suc i)))) lt = absurd (omega arith)

-- r1's word, lowest byte first
pub page_stack : (get_or home_page 4 0 ≡ 0xC0) × (get_or home_page 5 0 ≡ 0xFF) × (get_or home_page 6 0 ≡ 0x0F) × (get_or home_page 7 0 ≡ 0x7F)
page_stack = (at 4 0xC0 refl, at 5 0xFF refl, at 6 0x0F refl, at 7 0x7F refl)

zero_in_rest : (k : ℕ) → get_or rest k 0 ≡ 0
zero_in_rest k = elim (cases_lt k 4088) [
  | inl lt ↦ get_or-replicate 4088 k 0 0 lt
  | inr le ↦ get_or_past rest k 0 (let e = length-replicate {A = ℕ} 4088 0 in omega (arith, e))
]

pub page_zero : (i : ℕ) → 8 ≤ i → get_or home_page i 0 ≡ 0
page_zero i le = at i 0 (get_or-append_right front rest 8 i 0 refl le ∙ zero_in_rest (i - 8))
