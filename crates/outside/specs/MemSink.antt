-- What a sink in memory shows.
use Rattle.std.specs.Prelude.{◌-◌, ℕ, List, length}
use Rattle.outside.specs.Calls.{Calls}
use Rattle.outside.specs.declared.memory_streams.MemSink.{MemSink}

-- all bytes put
abbrev pub shown_in : MemSink → List ℕ
shown_in s = s.bytes.items

-- how many bytes it can show
abbrev pub room_of : MemSink → ℕ
room_of s = s.room

-- how many more bytes it can show
abbrev pub room_left : MemSink → ℕ
room_left s = room_of s - length (shown_in s)

-- its calls so far, and those that fail
abbrev pub calls_of : MemSink → Calls
calls_of s = s.schedule

-- how many of its calls have failed
abbrev pub faults_of : MemSink → ℕ
faults_of s = s.faults
