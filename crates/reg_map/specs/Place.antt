-- Register maps, this project's own: the GPRs that the cache registers ebx, esi and edi hold.
use Rattle.std.specs.Prelude.{◌≡◌, ℕ, ◌==◌, Bool, false, Option, Some, None, if◌then◌else◌}
use Rattle.machines.specs.Prelude.{Map, Operand, Reg, Abs, ebx, esi, edi}
pub use Rattle.ppc_isa.specs.Map.{IsMap}
use Rattle.reg_map.specs.Home.{gpr_home}

-- a slot's content is GPR g
abbrev pub holds : Option ℕ → ℕ → Bool
holds None g = false
holds (Some h) g = h == g

-- the cache register that holds GPR g
abbrev pub slot_of : Map → ℕ → Option ℕ
slot_of m g =
    if holds m.ebx g then Some ebx
    else if holds m.esi g then Some esi
    else if holds m.edi g then Some edi
    else None

-- a GPR is in the cache register that holds it, else in its home word
abbrev pub place_in : Option ℕ → ℕ → Operand
place_in (Some register) g = Reg register
place_in None g = Abs (gpr_home g)

-- the place of GPR g
abbrev pub place : Map → ℕ → Operand
place m g = place_in (slot_of m g) g

-- the map that holds no GPR
abbrev pub IsEmpty : Map → Type 0
IsEmpty m = (m.ebx ≡ None) × (m.esi ≡ None) × (m.edi ≡ None)
