-- What a source in memory shows.
use Rattle.std.specs.Prelude.{ℕ, List, drop}
use Rattle.outside.specs.Calls.{Calls}
use Rattle.outside.specs.declared.memory_streams.MemSource.{MemSource}

-- the bytes not yet taken
abbrev pub left_in : MemSource → List ℕ
left_in s = drop s.at s.bytes.items

-- its calls so far, and those that fail
abbrev pub calls_of : MemSource → Calls
calls_of s = s.schedule

-- how many of its calls have failed
abbrev pub faults_of : MemSource → ℕ
faults_of s = s.faults
