-- Rows of the guest one after another, as numbers: which values they read and where their results go is what each row says of
-- numbered places, and an oracle answers their loads. This project's own.
use Rattle.std.specs.Prelude.{ℕ, zero, suc, ◌++◌, ◌∷◌, [], Bool, true, false, List}
use Rattle.ppc_isa.specs.declared.instr.Instr.{Instr}
use Rattle.ppc_isa.specs.Rows.{guest_row}
use Rattle.ppc_isa.specs.Effect.{GuestValues, Effect, Access, NoAccess, LoadAccess, StoreAccess}
use Rattle.row_runs.specs.Accesses.{Accessed, big_number, cut}

-- An instruction, the values that it reads of the places but for the number that was loaded, and the places behind it.
pub record Row : Type 0 where
  pub instr : Instr
  pub reads : (ℕ → ℕ) → GuestValues
  pub puts : Effect → (ℕ → ℕ) → ℕ → ℕ

-- where a run of rows stands: its places, its accesses so far, and whether the last row's branch was taken
pub record WindowRun : Type 0 where
  pub places : ℕ → ℕ
  pub accesses : List Accessed
  pub taken : Bool

abbrev pub with_loaded : GuestValues → ℕ → GuestValues
with_loaded v n = record { a = v.a; b = v.b; s = v.s; cr = v.cr; xer = v.xer; lr = v.lr; ctr = v.ctr; loaded = n }

-- What a row gives where nothing is loaded yet: its address and its width are those of the load.
abbrev pub unloaded : Row → (ℕ → ℕ) → Effect
unloaded row places = guest_row row.instr (with_loaded (row.reads places) 0)

-- what a row gives where the oracle answers its load
abbrev pub row_effect : (ℕ → ℕ → ℕ) → Row → (ℕ → ℕ) → Effect
row_effect oracle row places =
    let before = unloaded row places in
    guest_row row.instr (with_loaded (row.reads places) (big_number before.width (oracle before.address)))

abbrev pub row_accesses : Access → Effect → List Accessed
row_accesses NoAccess e = []
row_accesses LoadAccess e = record { loads = true; width = e.width; address = e.address; stored = 0 } ∷ []
row_accesses StoreAccess e = record { loads = false; width = e.width; address = e.address; stored = cut e.width e.stored } ∷ []

abbrev pub guest_step : (ℕ → ℕ → ℕ) → Row → WindowRun → WindowRun
guest_step oracle row run =
    let e = row_effect oracle row run.places in
    record { places = row.puts e run.places; accesses = run.accesses ++ row_accesses e.kind e; taken = e.taken }

-- the first n rows
unfoldable pub guest_steps : ℕ → (ℕ → ℕ → ℕ) → (ℕ → Row) → WindowRun → WindowRun
guest_steps zero oracle rows run = run
guest_steps (suc n) oracle rows run = guest_step oracle (rows n) (guest_steps n oracle rows run)
