-- What a body is to leave: the locations that aren't dead, in the order of their names. This project's own.
use Rattle.std.specs.Prelude.{◌&&◌, ◌||◌, not, nat_lt, if◌then◌else◌, ℕ, zero, suc, Bool, List, [], ◌∷◌, ◌++◌, Option, Some, None, get_or, option_map}
use Rattle.ia_codec.specs.declared.op.Op.{Op}
use Rattle.ia_codec.specs.declared.op.Op.TheVariants.{Jcc}
use Rattle.ia_codec.specs.Reading.{condition_of_number}
use Rattle.window_circuits.specs.declared.pairs.End.{End}
use Rattle.rule_body.specs.declared.goal.Goal.{Goal}
use Rattle.rule_soundness.specs.Prelude.{is_dead_name}
use Rattle.rule_places.specs.Inputs.{field}
use Rattle.rule_places.specs.declared.ends.NamedEnd.{NamedEnd}

-- bits of a place of the window, which are those of a name, and the body's place that is to hold them
abbrev pub named_end : ℕ → ℕ → ℕ → ℕ → ℕ → NamedEnd
named_end name place low count to = record { name = name; end = record { from = field place low count; to = to } }

-- The parameters; LR and CTR byte by byte, the lowest first; each CR field; then CA, SO, OV and XC, which are bits of XER.
abbrev pub named_ends : List NamedEnd
named_ends =
    named_end 0 0 0 32 0 ∷ named_end 1 1 0 32 1 ∷ named_end 2 2 0 32 2 ∷ named_end 3 3 0 32 3 ∷ named_end 4 4 0 32 4 ∷ named_end 5 5 0 32 5 ∷
    named_end 6 11 0 8 32 ∷ named_end 6 11 8 8 33 ∷ named_end 6 11 16 8 34 ∷ named_end 6 11 24 8 35 ∷
    named_end 7 12 0 8 36 ∷ named_end 7 12 8 8 37 ∷ named_end 7 12 16 8 38 ∷ named_end 7 12 24 8 39 ∷
    named_end 8 6 28 4 40 ∷ named_end 9 6 24 4 41 ∷ named_end 10 6 20 4 42 ∷ named_end 11 6 16 4 43 ∷
    named_end 12 6 12 4 44 ∷ named_end 13 6 8 4 45 ∷ named_end 14 6 4 4 46 ∷ named_end 15 6 0 4 47 ∷
    named_end 16 7 29 1 48 ∷ named_end 17 7 31 1 49 ∷ named_end 18 7 30 1 50 ∷ named_end 19 7 0 7 51 ∷ []

abbrev pub named_end_at : ℕ → NamedEnd
named_end_at n = get_or named_ends n (named_end 0 0 0 32 0)

-- the name is one of the window's, and isn't dead
abbrev pub is_needed : Goal → ℕ → Bool
is_needed goal name = (nat_lt name goal.parameters || not (nat_lt name 6)) && not (is_dead_name goal name)

-- those of the first n ends whose names are needed
unfoldable pub ends_below : ℕ → Goal → List End
ends_below zero goal = []
ends_below (suc n) goal = ends_below n goal ++ (if is_needed goal (named_end_at n).name then (named_end_at n).end ∷ [] else [])

-- what the body is to leave
abbrev pub ends_of : Goal → List End
ends_of goal = ends_below 26 goal

-- a jump on the condition of a number
abbrev pub jump_of : Option ℕ → Option Op
jump_of None = None
jump_of (Some number) = option_map (λ condition. Jcc condition 0) (condition_of_number number)
