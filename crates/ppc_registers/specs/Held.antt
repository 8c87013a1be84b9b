-- The guest's registers as they are kept, and the values of the locations that they hold. This project's own.
use Rattle.std.specs.Prelude.{◌≡◌, ℕ, zero, suc, ◌+◌, ◌-◌, ◌/◌, ◌%◌, ◌^◌, Bool, cond, eqb, ltb, List, [], ◌∷◌, slice_index}
use Rattle.machines.specs.Prelude.{GuestValues}
use Rattle.ppc_parts.specs.declared.given.GuestIn.{GuestIn}
use Rattle.ppc_parts.specs.Prelude.{values_of}
use Rattle.ppc_registers.specs.declared.registers.Registers.TheInside.{Inside}

-- the value of a location: GPR x is x, LR 32, CTR 33, CR's fields from the left 34 to 41, and CA, SO, OV, XC 42 to 45
abbrev pub location : Inside → ℕ → ℕ
location r x =
    cond (ltb x 32) (slice_index r.gprs x) (
    cond (eqb x 32) r.lr (
    cond (eqb x 33) r.ctr (
    cond (ltb x 42) (r.cr / 16 ^ (41 - x) % 16) (
    cond (eqb x 42) (r.xer / 2 ^ 29 % 2) (
    cond (eqb x 43) (r.xer / 2 ^ 31 % 2) (
    cond (eqb x 44) (r.xer / 2 ^ 30 % 2) (
    cond (eqb x 45) (r.xer % 2 ^ 7) 0)))))))

-- what a function gives for n numbers from `first` on
unfoldable pub listed_from : (ℕ → ℕ) → ℕ → ℕ → List ℕ
listed_from f first zero = []
listed_from f first (suc n) = f first ∷ listed_from f (first + 1) n

-- the values of all locations, in the order of their numbers
abbrev pub values_of_all : Inside → List ℕ
values_of_all r = listed_from (location r) 0 46

-- the value of each location, and 0 where there is none
abbrev pub locs_of : List ℕ → ℕ → ℕ
locs_of values x = slice_index values x

-- XER has no bits but those of CA, SO, OV and XC
abbrev pub HasNoMore : Inside → Type 0
HasNoMore r = r.xer / 2 ^ 7 % 2 ^ 22 ≡ 0

-- the numbers that a row reads, of words that are numbers
abbrev pub numbers : {A : Type 0} → GuestIn A ℕ Bool → GuestValues
numbers from = values_of (λ w. w) from
