-- The accesses of a row that stores.
use Rattle.std.proofs.Common.{◌≡◌, false, [], ◌∷◌, ap}
use Rattle.ppc_isa.specs.Effect.{Effect, StoreAccess}
use Rattle.row_runs.specs.Accesses.{cut}
use Rattle.row_runs.specs.Windows.{row_accesses}

pub store_access : (o : Effect) → o.kind ≡ StoreAccess → row_accesses o.kind o ≡ record { loads = false; width = o.width; address = o.address; stored = cut o.width o.stored } ∷ []
store_access o e = ap (λ k. row_accesses k o) e
