-- What accesses of many registers mean.
use Rattle.std.specs.Prelude.{ℕ}
use Rattle.ppc_isa.specs.AccessRows.{address_of, multiple_width}
use Rattle.ppc_isa.specs.Effect.{GuestValues, Effect, Access, LoadAccess, StoreAccess, unchanged}
use Rattle.ppc_isa.specs.SumRows.{base}
use Rattle.ppc_isa.specs.declared.instr.MultipleOp.{MultipleOp}
use Rattle.ppc_isa.specs.declared.instr.MultipleOp.TheVariants.{Lmw, Stmw}

abbrev pub reaches_many : Access → ℕ → ℕ → GuestValues → Effect
reaches_many kind x d v = record (unchanged v) { address = address_of x v; width = multiple_width d; kind = kind }

abbrev pub multiple : MultipleOp → ℕ → ℕ → GuestValues → Effect
multiple Lmw d a v = reaches_many LoadAccess (base a v) d v
multiple Stmw d a v = reaches_many StoreAccess (base a v) d v
