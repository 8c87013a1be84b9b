-- Where no area may stand.
use Rattle.std.proofs.Common.{◌≡◌, ℕ, ◌+◌, ◌-◌, ◌*◌, ◌^◌, ◌/◌, ◌<◌, ◌≤◌, max, List, length, get_or, ◌⊎◌, inl, inr, subst, ◌∙◌, arith, below_more}
use Rattle.std.proofs.lemmas.Bool.{cases_order}
use Rattle.std.specs.List.{Contains}
use Rattle.std.proofs.lemmas.List.{get_or_default}
use Rattle.std.proofs.lemmas.List.Elements.{All-contains}
use Rattle.space.specs.declared.program.Segment.{Segment}
use Rattle.elf_load.specs.Prelude.{IsArea, MeetsArea}

-- what holds of each element below i and of the one at i holds of each below i + 1
pub below_next : {X : Type 0} (P : X → Type 0) (xs : List X) (i : ℕ) (x : X) → ((k : ℕ) (d : X) → k < i → P (get_or xs k d))
    → i < length xs → x ≡ get_or xs i x → P x → (k : ℕ) (d : X) → k < i + 1 → P (get_or xs k d)
below_next P xs i x before within is here k d h =
    below_more (λ j. P (get_or xs j d)) i (λ j lt. before j d lt)
    (subst P (is ∙ get_or_default xs i x d within) here) k h

-- one number is below another, or not
splits : (a b : ℕ) → (a < b) ⊎ (b ≤ a)
splits a b = elim (cases_order a b) [
  | inl same ↦ inr (omega arith)
  | inr apart ↦ elim apart [ inl lt ↦ inl lt | inr gt ↦ inr (omega arith) ]
]

-- a segment that meets one area meets each later one that begins below its end
meets_later : (s : Segment) (at lower : ℕ) → MeetsArea s at → at ≤ lower → lower < s.at + length s.bytes → MeetsArea s lower
meets_later s at lower met later below = (max lower s.at, omega arith, omega arith, omega arith, omega arith)

-- no area stands below the first multiple of 4096 after the end of a segment that meets the lowest one left
pub none_below : (segments : List Segment) (at : ℕ) (s : Segment) → ((lower : ℕ) → lower < at → ¬ IsArea segments lower)
    → Contains segments s → MeetsArea s at
    → (lower : ℕ) → lower < (s.at + length s.bytes + 4096 - 1) / 4096 * 4096 → ¬ IsArea segments lower
none_below segments at s before has met lower below area =
    elim (splits lower at) [
      | inl lt ↦ before lower lt area
      | inr later ↦ elim (splits lower (s.at + length s.bytes)) [
        | inl lt ↦ All-contains (λ t. ¬ MeetsArea t lower) segments s area.free has (meets_later s at lower met later lt)
        | inr past ↦ let aligned = area.aligned in absurd (omega arith)
      ]
    ]

-- the same, of the end that was found
pub none_rounded : (segments : List Segment) (at end : ℕ) → ((lower : ℕ) → lower < at → ¬ IsArea segments lower)
    → (s : Segment) × Contains segments s × MeetsArea s at × (end ≡ s.at + length s.bytes) × (end < 2 ^ 64 - 4096)
    → (lower : ℕ) → lower < (end + 4096 - 1) / 4096 * 4096 → ¬ IsArea segments lower
none_rounded segments at end before met lower below =
    let lt : lower < (met.0.at + length met.0.bytes + 4096 - 1) / 4096 * 4096 =
    subst (λ (e : ℕ). lower < (e + 4096 - 1) / 4096 * 4096) met.3 below in
    none_below segments at met.0 before met.1 met.2 lower lt

-- the end that was found is above the address that was tried
pub end_above : (segments : List Segment) (at end : ℕ)
    → (s : Segment) × Contains segments s × MeetsArea s at × (end ≡ s.at + length s.bytes) × (end < 2 ^ 64 - 4096) → at < end
end_above segments at end met = let found = met.2 in let is = met.3 in omega arith
