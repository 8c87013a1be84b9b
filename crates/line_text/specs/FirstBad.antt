-- The first bad line of a text, under a grammar: a set of lists of lines, each with its line feed.
use Rattle.std.specs.Prelude.{◌≡◌, ◌⊎◌, ℕ, ◌+◌, ◌<◌, ◌++◌, List, length, take}
use Rattle.line_text.specs.Lines.{lines_of}

-- a text of the grammar begins with these lines
pub record Begins (IsText : List (List ℕ) → Type 0) (lines : List (List ℕ)) : Type 0 where
  pub more : List (List ℕ)
  pub whole : IsText (lines ++ more)

-- n is the first line, counted from 1, with which no text of the grammar begins; where the text ends early, it is the line
-- after the last
pub record IsFirstBad (IsText : List (List ℕ) → Type 0) (text : List ℕ) (n : ℕ) : Type 0 where
  pub good : ℕ
  pub is : n ≡ good + 1
  pub before : Begins IsText (take good (lines_of text))
  pub bad : ((good < length (lines_of text)) × (Begins IsText (take n (lines_of text)) → ⊥))
      ⊎ ((good ≡ length (lines_of text)) × (IsText (lines_of text) → ⊥))
