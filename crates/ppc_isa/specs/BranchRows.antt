-- Branches: Power ISA Book I, 2.4. Targets, and the return address in LR, are the machine's.
use Rattle.std.specs.Prelude.{ℕ, ◌-◌, ◌^◌, Bool, false, cond, ◌&&◌, ◌||◌, eqb}
use Rattle.word_kit.specs.Prelude.{same, sum_word, bit_of}
use Rattle.ppc_isa.specs.Effect.{GuestValues, Effect, unchanged}
use Rattle.ppc_isa.specs.FieldRows.{cr_bit}

-- Bit i of BO, whose five bits are counted from the left.
abbrev pub bo_bit : ℕ → ℕ → Bool
bo_bit bo i = bit_of bo (4 - i)

-- BO 2: CTR isn't counted down
abbrev pub counted : ℕ → GuestValues → ℕ
counted bo v = cond (bo_bit bo 2) v.ctr (sum_word v.ctr (2 ^ 32 - 1) false)

-- BO 3: branch where CTR has become 0, else where it has not
abbrev pub count_allows : ℕ → ℕ → Bool
count_allows bo ctr = bo_bit bo 2 || same (bo_bit bo 3) (eqb ctr 0)

-- BO 0: CR doesn't matter; BO 1: what its bit is to be
abbrev pub condition_allows : ℕ → Bool → Bool
condition_allows bo bit = bo_bit bo 0 || same (bo_bit bo 1) bit

abbrev pub branch_on : ℕ → ℕ → GuestValues → Effect
branch_on bo bi v = record (unchanged v) {
  ctr = counted bo v;
  taken = count_allows bo (counted bo v) && condition_allows bo (cr_bit bi v);
}
