-- What the machine shows of a state of the host, and how its parts change with it. This project's own.
use Rattle.std.specs.Prelude.{◌≡◌, ◌<◌, ℕ, Bool, true, false, slice_index, Option, Some, None}
use Rattle.machines.specs.Prelude.{Program, Op, HostValues, host_row, update, Core, Host}
use Rattle.access.specs.Kept.{Keeps}
use Rattle.ia_step.specs.declared.parts.Parts.{Parts}
use Rattle.ia_step.specs.declared.state.State.{State}
use Rattle.ia_step.specs.Values.{flags_of}

-- v stands in a register
abbrev pub with_reg : Core → ℕ → ℕ → Core
with_reg core r v = record core { regs = update core.regs r v }

-- the op's result is a byte, whatever it reads
abbrev pub IsOfByte : Op → Type 0
IsOfByte op = (v : HostValues) → (host_row op v).result < 256

-- Registers, flags and memory are those of the host's core. Memory has the rights and the code of the program.
pub record IsCore (p : Program) (parts : Parts) (core : Core) : Type 0 where
  pub registers : (r : ℕ) → core.regs r ≡ slice_index parts.regs r
  pub same_flags : core.flags ≡ flags_of parts.flags
  pub memory : Keeps p core.bytes parts.space

-- An op goes through exactly where it makes a core, and then leads to that.
abbrev pub Led : Program → Bool → Parts → Option Core → Type 0
Led p true new (Some core) = IsCore p new core
Led p true new None = ⊥
Led p false new (Some core) = ⊥
Led p false new None = Unit {0}

-- besides the core, the next op's address and the choices still to come are the host's
pub record IsState (p : Program) (s : State) (h : Host) : Type 0 where
  pub core : IsCore p s.parts h.core
  pub eip : h.eip ≡ s.eip
  pub choices : h.choices ≡ s.choices
