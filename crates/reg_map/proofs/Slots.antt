-- A move changes the place of its GPR alone.
use Rattle.std.proofs.Common.{◌≡◌, ◌≢◌, ℕ, Bool, true, false, Option, Some, None, if◌then◌else◌, refl, arith}
use Rattle.std.proofs.lemmas.Bool.Decides.{nat_tests}
use Rattle.ppc_isa.specs.Map.{AreApart}
use Rattle.reg_map.specs.Prelude.{holds}

-- the registers by what the slots hold of one GPR
abbrev pub by_slots : Bool → Bool → Bool → Option ℕ
by_slots a b c = if a then Some 3 else if b then Some 6 else if c then Some 7 else None

pub in_none : (a b c : Bool) → by_slots a b c ≡ None → (a ≡ false) × (b ≡ false) × (c ≡ false)
in_none true b c e = absurd cc
in_none false true c e = absurd cc
in_none false false true e = absurd cc
in_none false false false e = (refl, refl, refl)

pub holds_own : (g : ℕ) → holds (Some g) g ≡ true
holds_own g = grind (arith, nat_tests)

pub holds_other : (g x : ℕ) → x ≢ g → holds (Some g) x ≡ false
holds_other g x ne = grind (arith, nat_tests)

pub apart_before : (o : Option ℕ) (g : ℕ) → AreApart o (Some g) → holds o g ≡ false
apart_before None g h = refl
apart_before (Some k) g h = grind (arith, nat_tests)

pub apart_behind : (o : Option ℕ) (g : ℕ) → AreApart (Some g) o → holds o g ≡ false
apart_behind None g h = refl
apart_behind (Some k) g h = grind (arith, nat_tests)

pub none_apart : (o : Option ℕ) → AreApart o None
none_apart None = tt
none_apart (Some k) = tt

pub held_apart : (o : Option ℕ) (g : ℕ) → holds o g ≡ false → AreApart o (Some g)
held_apart None g h = tt
held_apart (Some k) g h = grind (arith, nat_tests)

pub apart_held : (o : Option ℕ) (g : ℕ) → holds o g ≡ false → AreApart (Some g) o
apart_held None g h = tt
apart_held (Some k) g h = grind (arith, nat_tests)
