-- The calls of an object that fails at stated ones of them: this project's own.
use Rattle.std.specs.Prelude.{◌==◌, ◌+◌, ◌-◌, ◌^◌, min, ℕ, Bool, List}
use Rattle.std.specs.List.{list_any}

pub record Calls : Type 0 where
  -- how many calls there were, up to a u64's last value
  pub made : ℕ
  -- the numbers of the calls that fail, counted from 1
  pub failing : List ℕ

-- before the first call
abbrev pub calls_from : List ℕ → Calls
calls_from failing = record { made = 0; failing = failing }

-- with one call more
abbrev pub after_call : Calls → Calls
after_call calls = record { made = min (calls.made + 1) (2 ^ 64 - 1); failing = calls.failing }

-- whether the next call is one that fails
abbrev pub fails_next : Calls → Bool
fails_next calls = list_any (λ n. n == min (calls.made + 1) (2 ^ 64 - 1)) calls.failing
