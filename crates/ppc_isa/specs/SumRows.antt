-- Sums and differences: Power ISA Book I, 3.3.9. A difference adds the complement.
use Rattle.std.specs.Prelude.{ℕ, ◌+◌, ◌-◌, ◌%◌, ◌^◌, Bool, cond, eqb}
use Rattle.word_kit.specs.Prelude.{sum_word, sum_carries}
use Rattle.ppc_isa.specs.Effect.{GuestValues, Effect}
use Rattle.ppc_isa.specs.Recording.{with_ca, gives_d}

-- (RA|0) of Book I, 1.3.2: the number 0 where the field of rA is 0, else the register
abbrev pub base : ℕ → GuestValues → ℕ
base a v = cond (eqb a 0) 0 v.a

-- all ones: -1
abbrev pub ones : ℕ
ones = 2 ^ 32 - 1

-- x + y in rD, as Add and Add Immediate have it
abbrev pub sum : Bool → ℕ → ℕ → GuestValues → Effect
sum records x y v = gives_d records ((x + y) % 2 ^ 32) v

-- x + y + c in rD
abbrev pub sum_with : Bool → ℕ → ℕ → Bool → GuestValues → Effect
sum_with records x y c v = gives_d records (sum_word x y c) v

-- x + y + c in rD, and CA says whether the sum leaves the word
abbrev pub sum_carrying : Bool → ℕ → ℕ → Bool → GuestValues → Effect
sum_carrying records x y c v = record (sum_with records x y c v) { xer = with_ca v.xer (sum_carries x y c) }
