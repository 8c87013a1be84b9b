-- The rows that give one result, and may record it and put CA.
use Rattle.std.proofs.Common.{◌≡◌, ℕ, ◌%◌, Bool, true, false, cond, refl, ap}
use Rattle.machines.specs.Prelude.{complement, sum_word, sum_carries, ImmediateOp, Addi, Addis, Addic, AddicRecord, Subfic, Mulli, ArithmeticOp, Add, Addc, Adde, Subf, Subfc, Subfe, Mullw, Mulhw, Mulhwu, Divw, Divwu, ArithmeticUnaryOp, Addze, Addme, Subfze, Subfme, Neg, LogicOp, And, Or, Xor, Nand, Nor, Eqv, Andc, Orc, Slw, Srw, Sraw, LogicUnaryOp, Cntlzw, Extsb, Extsh, immediate_carries, immediate_records, carry_out, unary_carry, logic_carries, GuestValues, Effect, with_ca, compared, recorded, gives_d, gives_a, ones, sum_carrying, arith_by, loses_ones, shifted_algebraic, immediate_row, arithmetic_row, arithmetic_unary_row, logic_row, logic_unary_row}
use Rattle.ppc_isa.specs.Recording.{ca}

-- a row that records this number, where it records, and puts this carry, where it carries
pub record Gives (carries records : Bool) (number : ℕ) (carry : Bool) (e : Effect) (v : GuestValues) : Type 0 where
  pub cr : records ≡ true → e.cr ≡ compared true 0 number 0 v
  pub xer : carries ≡ true → e.xer ≡ with_ca v.xer carry

when_recorded : (records : Bool) (n : ℕ) (v : GuestValues) → records ≡ true → recorded records n v ≡ compared true 0 n 0 v
when_recorded records n v e = ap (λ b. cond b (compared true 0 n 0 v) v.cr) e

gives : (records : Bool) (n : ℕ) (v : GuestValues) → Gives false records n false (gives_d records n v) v
gives records n v = record { cr = when_recorded records n v; xer = λ e. absurd cc }

pub gives_in_a : (records : Bool) (n : ℕ) (v : GuestValues) → Gives false records n false (gives_a records n v) v
gives_in_a records n v = record { cr = when_recorded records n v; xer = λ e. absurd cc }

carries : (records : Bool) (x y : ℕ) (c : Bool) (v : GuestValues) → Gives true records (sum_word x y c) (sum_carries x y c) (sum_carrying records x y c v) v
carries records x y c v = record { cr = when_recorded records (sum_word x y c) v; xer = λ e. refl }

pub shifts : (records : Bool) (n : ℕ) (v : GuestValues) → Gives true records (arith_by v.s n) (loses_ones v.s n) (shifted_algebraic records n v) v
shifts records n v = record { cr = when_recorded records (arith_by v.s n) v; xer = λ e. refl }

-- the carries of the rows
abbrev pub immediate_carry : ImmediateOp → GuestValues → Bool
immediate_carry Addic v = sum_carries v.a v.b false
immediate_carry AddicRecord v = sum_carries v.a v.b false
immediate_carry Subfic v = sum_carries (complement v.a) v.b true
immediate_carry _ v = false

abbrev pub arithmetic_carry : ArithmeticOp → GuestValues → Bool
arithmetic_carry Addc v = sum_carries v.a v.b false
arithmetic_carry Adde v = sum_carries v.a v.b (ca v)
arithmetic_carry Subfc v = sum_carries (complement v.a) v.b true
arithmetic_carry Subfe v = sum_carries (complement v.a) v.b (ca v)
arithmetic_carry _ v = false

abbrev pub arithmetic_unary_carry : ArithmeticUnaryOp → GuestValues → Bool
arithmetic_unary_carry Addze v = sum_carries v.a 0 (ca v)
arithmetic_unary_carry Addme v = sum_carries v.a ones (ca v)
arithmetic_unary_carry Subfze v = sum_carries (complement v.a) 0 (ca v)
arithmetic_unary_carry Subfme v = sum_carries (complement v.a) ones (ca v)
arithmetic_unary_carry Neg v = false

abbrev pub logic_carry : LogicOp → GuestValues → Bool
logic_carry Sraw v = loses_ones v.s (v.b % 64)
logic_carry _ v = false

pub immediate_gives : (op : ImmediateOp) (a : ℕ) (v : GuestValues) → Gives (immediate_carries op) (immediate_records op) (immediate_row op a v).d (immediate_carry op v) (immediate_row op a v) v
immediate_gives Addi a v = gives false (immediate_row Addi a v).d v
immediate_gives Addis a v = gives false (immediate_row Addis a v).d v
immediate_gives Addic a v = carries false v.a v.b false v
immediate_gives AddicRecord a v = carries true v.a v.b false v
immediate_gives Subfic a v = carries false (complement v.a) v.b true v
immediate_gives Mulli a v = gives false (immediate_row Mulli a v).d v

pub arithmetic_gives : (op : ArithmeticOp) (records : Bool) (v : GuestValues) → Gives (carry_out op) records (arithmetic_row op records v).d (arithmetic_carry op v) (arithmetic_row op records v) v
arithmetic_gives Add records v = gives records (arithmetic_row Add records v).d v
arithmetic_gives Addc records v = carries records v.a v.b false v
arithmetic_gives Adde records v = carries records v.a v.b (ca v) v
arithmetic_gives Subf records v = gives records (arithmetic_row Subf records v).d v
arithmetic_gives Subfc records v = carries records (complement v.a) v.b true v
arithmetic_gives Subfe records v = carries records (complement v.a) v.b (ca v) v
arithmetic_gives Mullw records v = gives records (arithmetic_row Mullw records v).d v
arithmetic_gives Mulhw records v = gives records (arithmetic_row Mulhw records v).d v
arithmetic_gives Mulhwu records v = gives records (arithmetic_row Mulhwu records v).d v
arithmetic_gives Divw records v = gives records (arithmetic_row Divw records v).d v
arithmetic_gives Divwu records v = gives records (arithmetic_row Divwu records v).d v

pub arithmetic_unary_gives : (op : ArithmeticUnaryOp) (records : Bool) (v : GuestValues) → Gives (unary_carry op) records (arithmetic_unary_row op records v).d (arithmetic_unary_carry op v) (arithmetic_unary_row op records v) v
arithmetic_unary_gives Addze records v = carries records v.a 0 (ca v) v
arithmetic_unary_gives Addme records v = carries records v.a ones (ca v) v
arithmetic_unary_gives Subfze records v = carries records (complement v.a) 0 (ca v) v
arithmetic_unary_gives Subfme records v = carries records (complement v.a) ones (ca v) v
arithmetic_unary_gives Neg records v = gives records (arithmetic_unary_row Neg records v).d v

pub logic_gives : (op : LogicOp) (records : Bool) (v : GuestValues) → Gives (logic_carries op) records (logic_row op records v).a (logic_carry op v) (logic_row op records v) v
logic_gives And records v = gives_in_a records (logic_row And records v).a v
logic_gives Or records v = gives_in_a records (logic_row Or records v).a v
logic_gives Xor records v = gives_in_a records (logic_row Xor records v).a v
logic_gives Nand records v = gives_in_a records (logic_row Nand records v).a v
logic_gives Nor records v = gives_in_a records (logic_row Nor records v).a v
logic_gives Eqv records v = gives_in_a records (logic_row Eqv records v).a v
logic_gives Andc records v = gives_in_a records (logic_row Andc records v).a v
logic_gives Orc records v = gives_in_a records (logic_row Orc records v).a v
logic_gives Slw records v = gives_in_a records (logic_row Slw records v).a v
logic_gives Srw records v = gives_in_a records (logic_row Srw records v).a v
logic_gives Sraw records v = shifts records (v.b % 64) v

pub logic_unary_gives : (op : LogicUnaryOp) (records : Bool) (v : GuestValues) → Gives false records (logic_unary_row op records v).a false (logic_unary_row op records v) v
logic_unary_gives Cntlzw records v = gives_in_a records (logic_unary_row Cntlzw records v).a v
logic_unary_gives Extsb records v = gives_in_a records (logic_unary_row Extsb records v).a v
logic_unary_gives Extsh records v = gives_in_a records (logic_unary_row Extsh records v).a v
