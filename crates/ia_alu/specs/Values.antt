-- What the values of an algebra mean as numbers and truths, and which of them the algebra owns.
use Rattle.std.specs.Prelude.{◌≡◌, ℕ, ◌≤◌, Bool, true, false}
use Rattle.word_kit.specs.declared.algebra.Alg.{Ghosts}
use Rattle.ia_codec.specs.Prelude.{HostValues, HostEffect as Outcome}
use Rattle.ia_codec.specs.declared.op.UnaryOp.{UnaryOp}
use Rattle.ia_codec.specs.declared.op.UnaryOp.TheVariants.{Not, Neg, Mul, Imul1, Div, Idiv}
use Rattle.ia_codec.specs.declared.op.Op.{Op}
use Rattle.ia_codec.specs.declared.op.Op.TheVariants.{Unary, Imul}
use Rattle.ia_alu.specs.declared.given.HostIn.{HostIn}
use Rattle.ia_alu.specs.declared.given.HostEffect.{HostEffect}
use Rattle.ia_alu.specs.declared.given.Shifted.{Shifted}

-- the products and divisions: what they make may be tied to nothing
abbrev pub is_product_of_one : UnaryOp → Bool
is_product_of_one Not = false
is_product_of_one Neg = false
is_product_of_one Mul = true
is_product_of_one Imul1 = true
is_product_of_one Div = true
is_product_of_one Idiv = true

abbrev pub is_product : Op → Bool
is_product (Unary op on) = is_product_of_one op
is_product (Imul to from) = true
is_product _ = false

module _ {A W B : Type 0} where
  -- each value is within a reach
  pub record IsOwned (reach : W → ℕ) (flag_reach : B → ℕ) (extent : ℕ) (g : HostIn A W B) : Type 0 where
    pub x_owned : reach g.x ≤ extent
    pub y_owned : reach g.y ≤ extent
    pub high_owned : reach g.high ≤ extent
    pub cf_owned : flag_reach g.cf ≤ extent
    pub zf_owned : flag_reach g.zf ≤ extent
    pub sf_owned : flag_reach g.sf ≤ extent
    pub of_owned : flag_reach g.of ≤ extent
    pub free_owned : reach g.free ≤ extent
    pub free_cf_owned : flag_reach g.free_cf ≤ extent
    pub free_zf_owned : flag_reach g.free_zf ≤ extent
    pub free_sf_owned : flag_reach g.free_sf ≤ extent
    pub free_of_owned : flag_reach g.free_of ≤ extent

  -- and so is each part of a shift
  pub record IsShiftedOwned (reach : W → ℕ) (flag_reach : B → ℕ) (extent : ℕ) (s : Shifted A W B) : Type 0 where
    pub count_owned : reach s.count ≤ extent
    pub value_owned : reach s.value ≤ extent
    pub last_owned : flag_reach s.last ≤ extent
    pub p_owned : flag_reach s.p ≤ extent
    pub q_owned : flag_reach s.q ≤ extent

  -- and of what an op gives
  pub record IsEffectOwned (reach : W → ℕ) (flag_reach : B → ℕ) (extent : ℕ) (e : HostEffect A W B) : Type 0 where
    pub result_owned : reach e.result ≤ extent
    pub high_owned : reach e.high ≤ extent
    pub cf_owned : flag_reach e.cf ≤ extent
    pub zf_owned : flag_reach e.zf ≤ extent
    pub sf_owned : flag_reach e.sf ≤ extent
    pub of_owned : flag_reach e.of ≤ extent
    pub holds_owned : flag_reach e.holds ≤ extent
    pub faults_owned : flag_reach e.faults ≤ extent

  -- the same with a number or a truth in each place
  abbrev pub meant : (W → ℕ) → (B → Bool) → HostIn A W B → HostIn A ℕ Bool
  meant word truth g = record {
    x = word g.x;
    y = word g.y;
    high = word g.high;
    cf = truth g.cf;
    zf = truth g.zf;
    sf = truth g.sf;
    of = truth g.of;
    free = word g.free;
    free_cf = truth g.free_cf;
    free_zf = truth g.free_zf;
    free_sf = truth g.free_sf;
    free_of = truth g.free_of;
  }

  abbrev pub effect_meant : (W → ℕ) → (B → Bool) → HostEffect A W B → HostEffect A ℕ Bool
  effect_meant word truth e = record {
    result = word e.result;
    high = word e.high;
    cf = truth e.cf;
    zf = truth e.zf;
    sf = truth e.sf;
    of = truth e.of;
    holds = truth e.holds;
    faults = truth e.faults;
  }

  -- what an op reads, and what it gives
  abbrev pub values_of : (W → ℕ) → (B → Bool) → HostIn A W B → HostValues
  values_of word truth g = record {
    x = word g.x;
    y = word g.y;
    high = word g.high;
    flags = record { cf = truth g.cf; zf = truth g.zf; sf = truth g.sf; of = truth g.of };
    free = word g.free;
    free_flags = record { cf = truth g.free_cf; zf = truth g.free_zf; sf = truth g.free_sf; of = truth g.free_of };
  }

  abbrev pub outcome_of : (W → ℕ) → (B → Bool) → HostEffect A W B → Outcome
  outcome_of word truth e = record {
    result = word e.result;
    high = word e.high;
    flags = record { cf = truth e.cf; zf = truth e.zf; sf = truth e.sf; of = truth e.of };
    holds = truth e.holds;
    faults = truth e.faults;
  }

module _ {A S W B : Type 0} (alg : Ghosts S W B) where
  -- the algebra owns the values of an effect, which mean another under every assignment that it admits
  pub record GivesEffect (s : S) (e : HostEffect A W B) (effect : (ℕ → Bool) → HostEffect A ℕ Bool) : Type 0 where
    pub owned : IsEffectOwned alg.word_reach alg.flag_reach (alg.extent s) e
    pub means : (v : ℕ → Bool) → alg.admits s v → effect_meant (λ w. alg.word w v) (λ b. alg.truth b v) e ≡ effect v

  -- the same, with the numbers and truths that an op gives
  pub record GivesOutcome (s : S) (e : HostEffect A W B) (outcome : (ℕ → Bool) → Outcome) : Type 0 where
    pub owned : IsEffectOwned alg.word_reach alg.flag_reach (alg.extent s) e
    pub means : (v : ℕ → Bool) → alg.admits s v → outcome_of (λ w. alg.word w v) (λ b. alg.truth b v) e ≡ outcome v
