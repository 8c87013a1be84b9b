-- What a read of a whole file answers.
use Rattle.std.specs.Prelude.{◌<◌, ℕ, List, length, Option, Some, None}

-- a file is there, of more bytes than these
abbrev pub IsLonger : ℕ → Option (List ℕ) → Type 0
IsLonger most None = ⊥
IsLonger most (Some file) = most < length file
