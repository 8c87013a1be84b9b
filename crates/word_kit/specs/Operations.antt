-- What each operation of an algebra makes of what the algebra held: a value, and what the algebra holds then.
use Rattle.std.specs.Prelude.{ℕ, Bool}

pub record WordMade (W H : Type 0) : Type 0 where
  pub word : W
  pub held : H

pub record FlagMade (B H : Type 0) : Type 0 where
  pub flag : B
  pub held : H

pub record SumMade (W B H : Type 0) : Type 0 where
  pub word : W
  pub carry : B
  pub held : H

pub record QuotientMade (W B H : Type 0) : Type 0 where
  pub quotient : W
  pub remainder : W
  pub faults : B
  pub held : H

pub record Operations (W B H : Type 0) : Type 0 where
  pub lit_of : ℕ → W
  pub flag_of : Bool → B
  pub bit_of : W → ℕ → B
  pub put_bit_of : W → ℕ → B → W
  pub not_of : W → W
  pub flip_of : B → B
  pub byte_of : W → ℕ → W
  pub join_of : W → W → W → W → W
  pub add_of : H → W → W → B → SumMade W B H
  pub less_of : H → W → W → Bool → FlagMade B H
  pub equal_of : H → W → W → FlagMade B H
  pub pick_of : H → B → W → W → WordMade W H
  pub and_of : H → W → W → WordMade W H
  pub or_of : H → W → W → WordMade W H
  pub xor_of : H → W → W → WordMade W H
  pub shift_left_of : H → W → W → WordMade W H
  pub shift_right_of : H → W → W → WordMade W H
  pub shift_arith_of : H → W → W → WordMade W H
  pub rotate_of : H → W → W → WordMade W H
  pub mul_low_of : H → W → W → WordMade W H
  pub mul_high_of : H → W → W → Bool → WordMade W H
  pub div_of : H → W → W → W → Bool → QuotientMade W B H
  pub both_of : H → B → B → FlagMade B H
  pub either_of : H → B → B → FlagMade B H
  pub differ_of : H → B → B → FlagMade B H
