-- Bytes at addresses of the code segment, and a machine that runs them. This project's own.
use Rattle.std.specs.Prelude.{◌≡◌, ℕ, ◌+◌, ◌^◌, ◌<◌, List, ◌++◌, length, Option}
use Rattle.machines.specs.Prelude.{Code, Fetched, ReadsOps, Host, host_step}
use Rattle.simulation.specs.Prelude.{SimulationContext}

-- these bytes stand in the code from an address on
pub record HasBytes (code : Code) (here : ℕ) (bytes : List ℕ) : Type 0 where
  pub before : List ℕ
  pub behind : List ℕ
  pub cut : code.bytes ≡ before ++ (bytes ++ behind)
  pub begins : here ≡ code.at + length before

-- the context's host runs this code, which lies below 2^32, by a reading of bytes
pub record RunsCode (s : SimulationContext) (code : Code) (reading : List ℕ → Option Fetched) : Type 0 where
  pub reads : ReadsOps reading
  pub low : code.at + length code.bytes < 2 ^ 32
  pub steps : (h : Host) → s.host_step h ≡ host_step s.host code reading h
