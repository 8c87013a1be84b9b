-- Register maps: which general registers of the guest stand in registers of the host.
use Rattle.std.specs.Prelude.{ℕ, ◌≢◌, ◌<◌, Option, Some, None}
use Rattle.ppc_isa.specs.declared.map.Map.{Map}

-- a GPR, if there is one
abbrev pub IsHeld : Option ℕ → Type 0
IsHeld (Some g) = g < 32
IsHeld None = Unit {0}

-- not one GPR twice
abbrev pub AreApart : Option ℕ → Option ℕ → Type 0
AreApart (Some g) (Some h) = g ≢ h
AreApart _ _ = Unit {0}

-- The held GPRs are below 32 and pairwise different.
pub record IsMap (map : Map) : Type 0 where
  pub ebx : IsHeld map.ebx
  pub esi : IsHeld map.esi
  pub edi : IsHeld map.edi
  pub ebx_esi : AreApart map.ebx map.esi
  pub ebx_edi : AreApart map.ebx map.edi
  pub esi_edi : AreApart map.esi map.edi
