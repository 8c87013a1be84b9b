-- What the values of an algebra mean that a row reads and gives, and which of them the algebra owns.
use Rattle.std.specs.Prelude.{◌≡◌, ℕ, ◌≤◌, Bool}
use Rattle.word_kit.specs.declared.algebra.Alg.{Ghosts}
use Rattle.ppc_isa.specs.Effect.{GuestValues, Effect as Given, Access as Kind, NoAccess, LoadAccess, StoreAccess}
use Rattle.ppc_parts.specs.declared.given.Access.{Access}
use Rattle.ppc_parts.specs.declared.given.Access.TheVariants.{None, Load, Store}
use Rattle.ppc_parts.specs.declared.given.Effect.{Effect}
use Rattle.ppc_parts.specs.declared.given.GuestIn.{GuestIn}

abbrev pub kind_of : Access → Kind
kind_of None = NoAccess
kind_of Load = LoadAccess
kind_of Store = StoreAccess

module _ {A W B : Type 0} where
  pub record IsOwned (reach : W → ℕ) (extent : ℕ) (g : GuestIn A W B) : Type 0 where
    pub a_owned : reach g.a ≤ extent
    pub b_owned : reach g.b ≤ extent
    pub s_owned : reach g.s ≤ extent
    pub cr_owned : reach g.cr ≤ extent
    pub xer_owned : reach g.xer ≤ extent
    pub lr_owned : reach g.lr ≤ extent
    pub ctr_owned : reach g.ctr ≤ extent
    pub loaded_owned : reach g.loaded ≤ extent

  pub record EffectOwned (reach : W → ℕ) (flag_reach : B → ℕ) (extent : ℕ) (e : Effect A W B) : Type 0 where
    pub d_owned : reach e.d ≤ extent
    pub a_owned : reach e.a ≤ extent
    pub cr_owned : reach e.cr ≤ extent
    pub xer_owned : reach e.xer ≤ extent
    pub lr_owned : reach e.lr ≤ extent
    pub ctr_owned : reach e.ctr ≤ extent
    pub address_owned : reach e.address ≤ extent
    pub stored_owned : reach e.stored ≤ extent
    pub taken_owned : flag_reach e.taken ≤ extent

  -- the numbers that a row reads, and those that it gives
  abbrev pub values_of : (W → ℕ) → GuestIn A W B → GuestValues
  values_of word g = record { a = word g.a; b = word g.b; s = word g.s; cr = word g.cr; xer = word g.xer; lr = word g.lr; ctr = word g.ctr; loaded = word g.loaded }

  abbrev pub effect_of : (W → ℕ) → (B → Bool) → Effect A W B → Given
  effect_of word truth e = record { d = word e.d; a = word e.a; cr = word e.cr; xer = word e.xer; lr = word e.lr; ctr = word e.ctr; address = word e.address; stored = word e.stored; width = e.width; kind = kind_of e.kind; taken = truth e.taken }

module _ {A S W B : Type 0} (alg : Ghosts S W B) where
  -- the algebra owns the values of an effect, which mean another under every assignment that it admits
  pub record GivesEffect (s : S) (e : Effect A W B) (effect : (ℕ → Bool) → Given) : Type 0 where
    pub owned : EffectOwned alg.word_reach alg.flag_reach (alg.extent s) e
    pub means : (v : ℕ → Bool) → alg.admits s v → effect_of (λ w. alg.word w v) (λ b. alg.truth b v) e ≡ effect v
