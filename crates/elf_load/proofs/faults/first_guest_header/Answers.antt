use Rattle.std.proofs.Common.{ℕ, Option, None, Some}
use Rattle.std.specs.Prelude.{MatchOption}
use Rattle.elf_load.proofs.faults.first_guest_header.Goals as goal

-- beside a fact that holds, what is found stays
beside : (A : Type 0) (P : ℕ → Type 0) (found : Option ℕ) → A → MatchOption found ((x : ℕ) → ¬ P x) P
    → MatchOption found ((x : ℕ) → ¬ (A × P x)) (λ x. A × P x)
beside A P None a never = λ x (_, p). never x p
beside A P (Some x) a p = (a, p)

pub returns-in-PowerPc : goal.returns-in-PowerPc
returns-in-PowerPc c = beside _ _ c.first_header.result c.in-PowerPc.is c.first_header.ensures
