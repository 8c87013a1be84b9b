-- The frame of a circuit, over its nodes: it has no fewer variables, what fits it fitted it before, its inputs are inputs
-- still.
use Rattle.std.specs.Prelude.{List, length}
use Rattle.word_kit.specs.Frame as frame
use Rattle.circuit.specs.Nodes.{AllAgree, IsInput, free_count}
use Rattle.circuit.specs.Types.{Node}

-- and it has no more free variables
abbrev pub IsLater : List Node → List Node → Type 0
IsLater old new = frame.IsLater (λ ns. length ns) AllAgree IsInput free_count old new

-- and it may have more
abbrev pub MayUntie : List Node → List Node → Type 0
MayUntie old new = frame.MayUntie (λ ns. length ns) AllAgree IsInput free_count old new
