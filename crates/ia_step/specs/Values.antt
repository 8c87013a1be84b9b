-- Choices and flags as the definitions of the host have them. This project's own.
use Rattle.std.specs.Prelude.{Bool}
use Rattle.machines.specs.Prelude.{Flags as HostFlags, Choice as HostChoice}
use Rattle.ia_alu.specs.declared.given.HostEffect.{HostEffect}
use Rattle.ia_step.specs.declared.choices.Choice.{Choice}
use Rattle.ia_step.specs.declared.parts.Flags.{Flags}

abbrev pub choice_of : Choice → HostChoice
choice_of c = record { value = c.value; flags = c.flags }

abbrev pub flags_of : Flags → HostFlags
flags_of f = record { cf = f.cf; zf = f.zf; sf = f.sf; of = f.of }

-- the flags of an op's effect
abbrev pub flags_in : {A W : Type 0} → HostEffect A W Bool → HostFlags
flags_in e = record { cf = e.cf; zf = e.zf; sf = e.sf; of = e.of }
