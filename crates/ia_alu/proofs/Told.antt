-- An outcome by its parts.
use Rattle.std.proofs.Common.{◌≡◌, ℕ, Bool}
use Rattle.ia_codec.specs.Prelude.{HostEffect as Outcome}

abbrev pub told : ℕ → ℕ → Bool → Bool → Bool → Bool → Bool → Bool → Outcome
told result high cf zf sf of holds faults = record { result = result; high = high; flags = record { cf = cf; zf = zf; sf = sf; of = of }; holds = holds; faults = faults }

-- parts that are the same make the same outcome
pub told_same : (high : ℕ) (holds faults : Bool) {r r' : ℕ} {cf cf' zf zf' sf sf' of of' : Bool} → r ≡ r' → cf ≡ cf' → zf ≡ zf' → sf ≡ sf' → of ≡ of' → told r high cf zf sf of holds faults ≡ told r' high cf' zf' sf' of' holds faults
told_same high holds faults a b c d e = cc
