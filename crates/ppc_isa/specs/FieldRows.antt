-- CR by fields and bits, and the special registers: Power ISA Book I, 2.5.1, 3.3.17 and 2.5.2.
use Rattle.std.specs.Prelude.{ℕ, ◌+◌, ◌*◌, ◌/◌, Bool, cond, not, ◌&&◌, ◌||◌, eqb}
use Rattle.word_kit.specs.Prelude.{same, complement, bit_of, of_bits, word_and, word_or}
use Rattle.ppc_isa.specs.Instruction.{CrLogicOp, Crand, Cror, Crxor, Crnand, Crnor, Creqv, Crandc, Crorc}
use Rattle.ppc_isa.specs.Effect.{GuestValues, Effect, unchanged}
use Rattle.ppc_isa.specs.Recording.{place, with_field}

abbrev pub cr_bit : ℕ → GuestValues → Bool
cr_bit i v = bit_of v.cr (place i)

abbrev pub cr_logic : CrLogicOp → Bool → Bool → Bool
cr_logic Crand a b = a && b
cr_logic Cror a b = a || b
cr_logic Crxor a b = not (same a b)
cr_logic Crnand a b = not (a && b)
cr_logic Crnor a b = not (a || b)
cr_logic Creqv a b = not (not (same a b))
cr_logic Crandc a b = a && not b
cr_logic Crorc a b = a || not b

-- a field moved to another
abbrev pub field_moved : ℕ → ℕ → GuestValues → ℕ
field_moved to from v = with_field v.cr to (cr_bit (4 * from) v) (cr_bit (4 * from + 1) v) (cr_bit (4 * from + 2) v) (cr_bit (4 * from + 3) v)

-- ones in the fields that FXM chooses, field 0 by its leftmost bit
unfoldable pub fields_mask : ℕ → ℕ
fields_mask fxm = of_bits (λ k. bit_of fxm (k / 4)) 32

abbrev pub fields_put : ℕ → GuestValues → ℕ
fields_put fxm v = word_or (word_and v.s (fields_mask fxm)) (word_and v.cr (complement (fields_mask fxm)))

-- SO, OV, CA and the count are the bits of XER that there are
abbrev pub xer_mask : ℕ
xer_mask = 0xE000007F

-- XER is 1, LR 8, CTR 9
abbrev pub special_value : ℕ → GuestValues → ℕ
special_value spr v = cond (eqb spr 1) v.xer (cond (eqb spr 8) v.lr v.ctr)

abbrev pub special_put : ℕ → GuestValues → Effect
special_put spr v = record (unchanged v) {
  xer = cond (eqb spr 1) (word_and v.s xer_mask) v.xer;
  lr = cond (eqb spr 8) v.s v.lr;
  ctr = cond (eqb spr 9) v.s v.ctr;
}
