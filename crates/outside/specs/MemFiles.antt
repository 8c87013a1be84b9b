-- What files in memory hold, and what their calls answer.
use Rattle.std.specs.Prelude.{◌≡◌, ◌≢◌, ◌+◌, ℕ, Bool, true, false, List, Option, String, Vec, string_bytes, AllPairs, Result, Ok, Err}
use Rattle.std.specs.Global.{Global}
use Rattle.outside.specs.Bytes.{bytes_under}
use Rattle.outside.specs.Calls.{Calls}
use Rattle.outside.specs.Faults.{faults_under}
use Rattle.outside.specs.declared.files.FileFault.{FileFault}
use Rattle.outside.specs.declared.files.FileFault.TheVariants.{Failed, Memory}
use Rattle.outside.specs.declared.memory_files.MemFiles.{MemFiles}

-- no two files have one name
abbrev pub NamesDiffer : List (String Global × Vec ℕ Global) → Type 0
NamesDiffer files = AllPairs (λ f g. string_bytes f.0 ≢ string_bytes g.0) files

-- each file's name and bytes
abbrev pub files_of : MemFiles → List (String Global × Vec ℕ Global)
files_of m = m.files.items

-- the bytes under a name, none where it is absent
abbrev pub held_in : MemFiles → List ℕ → Option (List ℕ)
held_in m name = bytes_under name (files_of m)

-- its calls so far, of both kinds together, and those that fail
abbrev pub calls_of : MemFiles → Calls
calls_of m = m.schedule

-- how many reads under a name have failed
abbrev pub read_faults_of : MemFiles → List ℕ → ℕ
read_faults_of m name = faults_under name m.failed_reads.items

-- how many replacements under a name have failed
abbrev pub replace_faults_of : MemFiles → List ℕ → ℕ
replace_faults_of m name = faults_under name m.failed_replaces.items

-- a call answers `Failed` where it is to fail and else `Ok`, and in place of either want of memory
abbrev pub FailsExactly : {T : Type 0} → Bool → Result T FileFault → Type 0
FailsExactly fails (Ok _) = fails ≡ false
FailsExactly fails (Err Failed) = fails ≡ true
FailsExactly fails (Err (Memory _)) = Unit {0}

-- a count has risen by one where the call answered `Failed`, and else stands
abbrev pub CountsFailed : {T : Type 0} → ℕ → ℕ → Result T FileFault → Type 0
CountsFailed before now (Ok _) = now ≡ before
CountsFailed before now (Err Failed) = now ≡ before + 1
CountsFailed before now (Err (Memory _)) = now ≡ before
