-- Texts of lines: words with one space between them and a line feed behind them.
use Rattle.std.specs.Prelude.{ℕ, ◌≡◌, ◌==◌, ◌++◌, false, if◌then◌else◌, List, [], ◌∷◌}
use Rattle.std.specs.List.{AllByRecursion, join_with_byte}

-- the line of these words, a space between them and a line feed at the end
abbrev pub line_of : List (List ℕ) → List ℕ
line_of words = join_with_byte 32 words ++ 10 ∷ []

-- The lines of a text, each with its line feed; bytes after the last line feed are one more line, without.
abbrev pub onto : ℕ → List (List ℕ) → List (List ℕ)
onto b [] = (b ∷ []) ∷ []
onto b (line ∷ more) = (b ∷ line) ∷ more

abbrev pub lines_of : List ℕ → List (List ℕ)
lines_of [] = []
lines_of (b ∷ bs) = if b == 10 then (10 ∷ []) ∷ lines_of bs else onto b (lines_of bs)

-- no byte is the separator
abbrev pub IsFree : ℕ → List ℕ → Type 0
IsFree by bs = AllByRecursion (λ b. (b == by) ≡ false) bs
