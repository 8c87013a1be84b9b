-- Marks of variables: a list of truths, by the number of the variable.
use Rattle.std.specs.Prelude.{Bool, true, List, [], ◌∷◌, slice_set, ℤ}
use Rattle.word_kit.specs.Prelude.{variable}

-- the marks where the variables of these literals are marked too
abbrev pub marked : List ℤ → List Bool → List Bool
marked [] marks = marks
marked (z ∷ zs) marks = marked zs (slice_set marks (variable z) true)
