-- What a run of the tool did.
use Rattle.std.specs.Prelude.{◌≡◌, ◌⊎◌, ℕ, List}
use Rattle.runner.specs.Prelude.{Streams}
use Rattle.trans_tool.specs.Words.{Spells, SpellsList, SpellsRun, IsUsage}
use Rattle.trans_tool.specs.Lines.{IsTold}
use Rattle.trans_tool.specs.Seen.{Outside, StreamStands, InputStands, StreamsStand, FilesStand, output_in, errors_in}
use Rattle.trans_tool.specs.Translate.{Ends}
use Rattle.trans_tool.specs.Listing.{EndsListing}
use Rattle.trans_tool.specs.Running.{EndsRun}
use Rattle.trans_tool.specs.declared.cause.Cause.{Cause}
use Rattle.trans_tool.specs.declared.cause.Cause.TheVariants.{Usage}

-- no command was spelled
pub record EndsUsage (words : List (List ℕ)) (o : Outside) (old new : Streams) (cause : Cause) : Type 0 where
  pub usage : cause ≡ Usage
  pub unspelled : IsUsage words
  pub files : FilesStand o
  pub streams : StreamsStand old new

-- a translation was spelled, and ended by this cause
pub record EndsTranslate (words : List (List ℕ)) (o : Outside) (old new : Streams) (cause : Cause) : Type 0 where
  pub from : List ℕ
  pub to : List ℕ
  pub spelled : Spells words from to
  pub ends : Ends o from to cause
  pub streams : StreamsStand old new

-- a listing was spelled, and ended by this cause
pub record EndsList (words : List (List ℕ)) (o : Outside) (old new : Streams) (cause : Cause) : Type 0 where
  pub file : List ℕ
  pub spelled : SpellsList words file
  pub ends : EndsListing o (output_in old new) file cause
  pub files : FilesStand o
  pub input : InputStands old new
  pub errors : StreamStands (errors_in old new)

-- a run was spelled, and ended by this cause
pub record EndsRunning (words : List (List ℕ)) (o : Outside) (old new : Streams) (cause : Cause) : Type 0 where
  pub file : List ℕ
  pub steps : ℕ
  pub spelled : SpellsRun words file steps
  pub ends : EndsRun o file steps old new cause
  pub files : FilesStand o

-- no command was spelled, or one was
abbrev pub Comes : List (List ℕ) → Outside → Streams → Streams → Cause → Type 0
Comes words o old new cause = EndsUsage words o old new cause ⊎ EndsTranslate words o old new cause ⊎ EndsList words o old new cause ⊎ EndsRunning words o old new cause

-- The command came to a cause, with the streams as they then were, and put its line to the errors. A program that was
-- run has put its bytes before.
pub record Runs (words : List (List ℕ)) (o : Outside) (old new : Streams) (told : Cause) : Type 0 where
  pub cause : Cause
  pub ended : Streams
  pub comes : Comes words o old ended cause
  pub line : IsTold cause told ended.errors new.errors ended.errors_faults new.errors_faults
  pub input : InputStands ended new
  pub output : StreamStands (output_in ended new)
