-- What rows without a result of arithmetic or logic mean.
use Rattle.std.specs.Prelude.{ℕ, Bool, true, cond, eqb}
use Rattle.word_kit.specs.Prelude.{with_bit}
use Rattle.ppc_isa.specs.CompareRows.{trap_holds}
use Rattle.ppc_isa.specs.Effect.{GuestValues, Effect, unchanged}
use Rattle.ppc_isa.specs.FieldRows.{cr_bit, cr_logic, field_moved, special_value, fields_put}
use Rattle.ppc_isa.specs.Recording.{place, compared}
use Rattle.ppc_isa.specs.declared.instr.CrLogicOp.{CrLogicOp}

abbrev pub jumps : GuestValues → Effect
jumps v = record (unchanged v) { taken = true }

-- rA against rB or the immediate
abbrev pub compares : Bool → ℕ → GuestValues → Effect
compares as_signed field v = record (unchanged v) { cr = compared as_signed field v.a v.b v }

-- CR with a bit made of two
abbrev pub cr_logics : CrLogicOp → ℕ → ℕ → ℕ → GuestValues → Effect
cr_logics op d a b v = record (unchanged v) { cr = with_bit v.cr (place d) (cr_logic op (cr_bit a v) (cr_bit b v)) }

abbrev pub moves_field : ℕ → ℕ → GuestValues → Effect
moves_field to from v = record (unchanged v) { cr = field_moved to from v }

abbrev pub reads_cr : GuestValues → Effect
reads_cr v = record (unchanged v) { d = v.cr }

abbrev pub traps : ℕ → GuestValues → Effect
traps to v = record (unchanged v) { taken = trap_holds to v.a v.b }

abbrev pub puts_fields : ℕ → GuestValues → Effect
puts_fields fxm v = record (unchanged v) { cr = fields_put fxm v }

abbrev pub reads_special : ℕ → GuestValues → Effect
reads_special spr v = record (unchanged v) { d = special_value spr v }

-- LR is 8, CTR 9
abbrev pub puts_link_or_count : ℕ → GuestValues → Effect
puts_link_or_count spr v = record (unchanged v) { lr = cond (eqb spr 8) v.s v.lr; ctr = cond (eqb spr 9) v.s v.ctr }
