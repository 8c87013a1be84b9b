-- What a row makes over any operations: its effect, and what the algebra holds then.
use Rattle.ppc_parts.specs.declared.given.Effect.{Effect}

pub record RowMade (A W B H : Type 0) : Type 0 where
  pub effect : Effect A W B
  pub held : H
