-- The files and the sinks before a run and behind it, by what they tell of themselves.
use Rattle.runner.specs.Prelude.{Streams}
use Rattle.std.specs.Prelude.{◌≡◌, ◌≢◌, Bool, IsTrue, ℕ, List, Option}

-- the files before a run and behind it
pub record Outside : Type 0 where
  pub tells : Bool
  pub held : List ℕ → Option (List ℕ)
  pub held' : List ℕ → Option (List ℕ)
  pub reads : List ℕ → ℕ
  pub reads' : List ℕ → ℕ
  pub replaces : List ℕ → ℕ
  pub replaces' : List ℕ → ℕ

-- what the members of a store of files tell before a run and behind it
abbrev pub seen_by : {F : Type 0} → (F → Bool) → (F → List ℕ → Option (List ℕ)) → (F → List ℕ → ℕ) → (F → List ℕ → ℕ) → F → F → Outside
seen_by tells held reads replaces files files' = record {
  tells = tells files;
  held = held files;
  held' = held files';
  reads = reads files;
  reads' = reads files';
  replaces = replaces files;
  replaces' = replaces files';
}

-- the bytes under every name stay
abbrev pub FilesStand : Outside → Type 0
FilesStand o = IsTrue o.tells → (name : List ℕ) → o.held' name ≡ o.held name

-- the bytes under every other name stay
abbrev pub OthersStand : Outside → List ℕ → Type 0
OthersStand o to = IsTrue o.tells → (name : List ℕ) → name ≢ to → o.held' name ≡ o.held name

-- a sink before a run and behind it
pub record Stream : Type 0 where
  pub shown : Option (List ℕ)
  pub shown' : Option (List ℕ)
  pub faults : ℕ
  pub faults' : ℕ

-- what the members of a sink tell before a run and behind it
abbrev pub heard_by : {S : Type 0} → (S → Option (List ℕ)) → (S → ℕ) → S → S → Stream
heard_by shown faults sink sink' = record {
  shown = shown sink;
  shown' = shown sink';
  faults = faults sink;
  faults' = faults sink';
}

-- the output of the streams at two moments, and the errors
abbrev pub output_in : Streams → Streams → Stream
output_in old new = record { shown = old.output; shown' = new.output; faults = old.output_faults; faults' = new.output_faults }

abbrev pub errors_in : Streams → Streams → Stream
errors_in old new = record { shown = old.errors; shown' = new.errors; faults = old.errors_faults; faults' = new.errors_faults }

-- nothing was put to the sink, and it has not failed
pub record StreamStands (s : Stream) : Type 0 where
  pub shown : s.shown' ≡ s.shown
  pub faults : s.faults' ≡ s.faults

-- nothing was taken from the input, and it has not failed
pub record InputStands (old new : Streams) : Type 0 where
  pub left : new.left ≡ old.left
  pub faults : new.input_faults ≡ old.input_faults

-- no stream was touched
pub record StreamsStand (old new : Streams) : Type 0 where
  pub input : InputStands old new
  pub output : StreamStands (output_in old new)
  pub errors : StreamStands (errors_in old new)
