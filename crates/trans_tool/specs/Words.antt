-- The words of a command line.
use Rattle.std.specs.Prelude.{◌≡◌, ◌<◌, ◌≤◌, ◌⊎◌, ℕ, List, [], ◌∷◌, ◌++◌, length, codes, decimal, false, nat_eq}
use Rattle.std.specs.List.{starts_with}
use Rattle.trans_tool.specs.declared.words.Command.{Command}
use Rattle.trans_tool.specs.declared.words.Command.TheVariants.{Translate}
use Rattle.trans_tool.specs.declared.words.Command.TheVariants as command

-- a file name is nonempty and does not begin with two dashes
pub record IsName (word : List ℕ) : Type 0 where
  pub nonempty : 0 < length word
  pub no_option : starts_with nat_eq word (codes "--") ≡ false

-- the words are `translate IN OUT`
pub record Spells (words : List (List ℕ)) (from to : List ℕ) : Type 0 where
  pub words_are : words ≡ codes "translate" ∷ from ∷ to ∷ []
  pub from_named : IsName from
  pub to_named : IsName to

-- the words are `list FILE`
pub record SpellsList (words : List (List ℕ)) (file : List ℕ) : Type 0 where
  pub words_are : words ≡ codes "list" ∷ file ∷ []
  pub named : IsName file

-- the option that bounds the steps of a run, at most 10^12; without it they are 10^7
abbrev pub steps_option : ℕ → List ℕ
steps_option steps = codes "--steps=" ++ decimal steps

abbrev pub IsRunLine : List (List ℕ) → List ℕ → ℕ → Type 0
IsRunLine words file steps =
    ((words ≡ codes "run" ∷ file ∷ []) × (steps ≡ 10000000))
    ⊎ ((words ≡ codes "run" ∷ file ∷ steps_option steps ∷ []) × (steps ≤ 1000000000000))
    ⊎ ((words ≡ codes "run" ∷ steps_option steps ∷ file ∷ []) × (steps ≤ 1000000000000))

-- the words are `run FILE`, with or without `--steps=N`, which may stand before FILE or behind it
pub record SpellsRun (words : List (List ℕ)) (file : List ℕ) (steps : ℕ) : Type 0 where
  pub words_are : IsRunLine words file steps
  pub named : IsName file

-- the words are no command
pub record IsUsage (words : List (List ℕ)) : Type 0 where
  pub no_translation : (from to : List ℕ) → Spells words from to → ⊥
  pub no_listing : (file : List ℕ) → SpellsList words file → ⊥
  pub no_run : (file : List ℕ) (steps : ℕ) → SpellsRun words file steps → ⊥

-- the words are this command
abbrev pub Spelled : List (List ℕ) → Command → Type 0
Spelled words (Translate named) = Spells words named.from.now named.to.now
Spelled words (command.List file) = SpellsList words file.now
Spelled words (command.Run named) = SpellsRun words named.file.now named.steps
