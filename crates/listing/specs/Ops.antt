-- The listing of IA-32 code: a line for each op. What is written where no op stands is this project's own.
use Rattle.std.specs.Prelude.{ℕ, zero, suc, ◌+◌, List, [], ◌∷◌, ◌++◌, take, drop, codes, Option, Some, None}
use Rattle.ia_codec.specs.declared.op.Op.{Op}
use Rattle.ia_codec.specs.Prelude.{name_of}
use Rattle.listing.specs.Lines.{line}

abbrev pub op_name : Option (Op × ℕ) → List ℕ
op_name (Some found) = name_of found.0
op_name None = codes "bad"

-- how many bytes a line is for: those of an op, or one
abbrev pub op_length : Option (Op × ℕ) → ℕ
op_length (Some found) = found.1
op_length None = 1

-- the lines of the ops in these bytes, one behind another from this address on, at most so many lines
unfoldable pub op_lines : (List ℕ → Option (Op × ℕ)) → (most address : ℕ) → List ℕ → List ℕ
op_lines read zero address bytes = []
op_lines read (suc most) address [] = []
op_lines read (suc most) address (byte ∷ rest) =
    line address (take (op_length (read (byte ∷ rest))) (byte ∷ rest)) (op_name (read (byte ∷ rest)))
    ++ op_lines read most (address + op_length (read (byte ∷ rest))) (drop (op_length (read (byte ∷ rest))) (byte ∷ rest))
