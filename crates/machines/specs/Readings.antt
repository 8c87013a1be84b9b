-- Readings of bytes as ops. A run is told over any reading of words and of bytes, since there is but one of each: legal words
-- and spellings say what it gives.
use Rattle.std.specs.Prelude.{◌≡◌, ℕ, List, Option, Some}
use Rattle.ia_codec.specs.declared.op.Op.{Op}
use Rattle.ia_codec.specs.Prelude.{IsSpelt}

pub record Fetched : Type 0 where
  pub op : Op
  pub len : ℕ

-- bytes are read as an op, and how many of them it has, exactly where they begin with the op's spelling
pub record ReadsOps (reading : List ℕ → Option Fetched) : Type 0 where
  pub found : (bytes : List ℕ) (f : Fetched) → reading bytes ≡ Some f → IsSpelt f.op bytes f.len
  pub only : (bytes : List ℕ) (f : Fetched) → IsSpelt f.op bytes f.len → reading bytes ≡ Some f
