-- The inputs of a rule: how many bits of each place, and which bits of them the homes hold. This project's own.
use Rattle.std.specs.Prelude.{◌≡◌, ◌+◌, ◌-◌, ◌<◌, ◌≤◌, ℕ, List, [], ◌∷◌}
use Rattle.place_circuits.specs.declared.fields.Field.{Field}
use Rattle.rule_body.specs.declared.goal.Goal.{Goal}
use Rattle.rule_body.specs.Prelude.{guests_of}
use Rattle.rule_body.specs.Templates.{HasConstant}

-- A place has so many bits of inputs, where the window loads so many bytes: a word for each parameter, CR, LR, CTR, eax, ecx and
-- edx; 7 bits for XC and one each for CA, OV and SO; one for each flag of the host; 16 for each constant; 8 for each byte that is
-- loaded.
pub record HasBits (goal : Goal) (loaded place bits : ℕ) : Type 0 where
  pub parameter : place < goal.parameters → bits ≡ 32
  pub no_parameter : goal.parameters ≤ place → place < 6 → bits ≡ 0
  pub cr : place ≡ 6 → bits ≡ 32
  pub xc : place ≡ 7 → bits ≡ 7
  pub carries : 8 ≤ place → place ≤ 10 → bits ≡ 1
  pub word : 11 ≤ place → place ≤ 15 → bits ≡ 32
  pub flag : 16 ≤ place → place ≤ 19 → bits ≡ 1
  pub constant : 20 ≤ place → place ≤ 22 → HasConstant (guests_of goal) (place - 20) → bits ≡ 16
  pub no_constant : 20 ≤ place → place ≤ 22 → (HasConstant (guests_of goal) (place - 20) → ⊥) → bits ≡ 0
  pub byte : 23 ≤ place → place < 23 + loaded → bits ≡ 8
  pub no_byte : 23 + loaded ≤ place → bits ≡ 0

abbrev pub field : ℕ → ℕ → ℕ → Field
field place low count = record { place = place; low = low; count = count }

-- LR and CTR with the lowest byte first, a CR field a byte, then CA, SO, OV and XC
abbrev pub home_fields : List Field
home_fields =
    field 11 0 8 ∷ field 11 8 8 ∷ field 11 16 8 ∷ field 11 24 8 ∷
    field 12 0 8 ∷ field 12 8 8 ∷ field 12 16 8 ∷ field 12 24 8 ∷
    field 6 28 4 ∷ field 6 24 4 ∷ field 6 20 4 ∷ field 6 16 4 ∷ field 6 12 4 ∷ field 6 8 4 ∷ field 6 4 4 ∷ field 6 0 4 ∷
    field 8 0 1 ∷ field 10 0 1 ∷ field 9 0 1 ∷ field 7 0 7 ∷ []
