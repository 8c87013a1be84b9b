-- Fields of CR: what a compare puts there, and a form that records (Power ISA Book I, 2.3.1 and 3.3.10).
use Rattle.std.specs.Prelude.{ℕ, ◌+◌, ◌-◌, ◌*◌, Bool, true, cond, eqb}
use Rattle.word_kit.specs.Prelude.{is_less, bit_of, with_bit}
use Rattle.ppc_isa.specs.Effect.{GuestValues, Effect, unchanged}

-- Bit i of a word is counted from the left in Book I: its place is 31 - i.
abbrev pub place : ℕ → ℕ
place i = 31 - i

-- XER's bits SO and CA (3.2.2)
abbrev pub so : GuestValues → Bool
so v = bit_of v.xer (place 0)

abbrev pub ca : GuestValues → Bool
ca v = bit_of v.xer (place 2)

abbrev pub with_ca : ℕ → Bool → ℕ
with_ca xer carry = with_bit xer (place 2) carry

-- CR with the four bits of a field replaced
abbrev pub with_field : ℕ → ℕ → Bool → Bool → Bool → Bool → ℕ
with_field cr f lt gt eq so = with_bit (with_bit (with_bit (with_bit cr (place (4 * f)) lt) (place (4 * f + 1)) gt) (place (4 * f + 2)) eq) (place (4 * f + 3)) so

-- CR after x was compared with y into a field
abbrev pub compared : Bool → ℕ → ℕ → ℕ → GuestValues → ℕ
compared as_signed f x y v = with_field v.cr f (is_less x y as_signed) (is_less y x as_signed) (eqb x y) (so v)

-- CR after a form that may record: then its result was compared with 0 as a signed number
abbrev pub recorded : Bool → ℕ → GuestValues → ℕ
recorded records result v = cond records (compared true 0 result 0 v) v.cr

-- a result in rD, and one in rA
abbrev pub gives_d : Bool → ℕ → GuestValues → Effect
gives_d records result v = record (unchanged v) { d = result; cr = recorded records result v }

abbrev pub gives_a : Bool → ℕ → GuestValues → Effect
gives_a records result v = record (unchanged v) { a = result; cr = recorded records result v }
