-- The state of the guest that the machine's state shows, and an effect in numbers. This project's own.
use Rattle.std.specs.Prelude.{◌≡◌, ℕ, Bool, true, false, Option, Some, None}
use Rattle.machines.specs.Prelude.{Program, Instr, Load, LoadUpdate, LoadIndexed, LoadIndexedUpdate, Store, StoreUpdate, StoreIndexed, StoreIndexedUpdate, Effect, each_byte, rights_of, Guest}
use Rattle.ppc_parts.specs.declared.given.Effect.{Effect as Made}
use Rattle.ppc_parts.specs.Prelude.{effect_of}
use Rattle.access.specs.Kept.{Keeps}
use Rattle.ppc_registers.specs.Held.{locs_of}
use Rattle.ppc_step.specs.declared.state.State.{State}

-- Registers, the next instruction's address and memory are those of the guest. Memory has the rights and the code of the
-- program.
pub record IsState (p : Program) (s : State) (g : Guest) : Type 0 where
  pub registers : locs_of s.registers ≡ g.locs
  pub next : s.next ≡ g.next
  pub memory : Keeps p g.bytes s.memory

-- the numbers that a row gives, of words that are numbers
abbrev pub told : {A : Type 0} → Made A ℕ Bool → Effect
told e = effect_of (λ w. w) (λ b. b) e

-- the instructions that load one number, and those that store one
abbrev pub is_load : Instr → Bool
is_load (Load op d a imm) = true
is_load (LoadUpdate op d a imm) = true
is_load (LoadIndexed op d a b) = true
is_load (LoadIndexedUpdate op d a b) = true
is_load _ = false

abbrev pub is_store : Instr → Bool
is_store (Store op s a imm) = true
is_store (StoreUpdate op s a imm) = true
is_store (StoreIndexed op s a b) = true
is_store (StoreIndexedUpdate op s a b) = true
is_store _ = false

-- the effect of a load, where each of its bytes is held
abbrev pub IsLoaded : {A : Type 0} → Program → Effect → Option (Made A ℕ Bool) → Type 0
IsLoaded p e None = each_byte (rights_of p).held e.width e.address ≡ false
IsLoaded p e (Some made) = (each_byte (rights_of p).held e.width e.address ≡ true) × (told made ≡ e)
