-- The rules that a file is tried against, in order. The order and the numbers are this project's own.
use Rattle.std.specs.Prelude.{ℕ}
use Rattle.elf_load.specs.declared.refusal.ElfRefusal.{ElfRefusal}
use Rattle.elf_load.specs.declared.refusal.ElfRefusal.TheVariants as refusal
use Rattle.elf_load.specs.declared.refusal.ElfRefusal.TheVariants.{Short, Magic, Class, Order, Version, Machine, HeaderSize, HeaderCount, TableOutside, Dynamic, SegmentOutside, SizesCrossed, HighSegment, Overlap, TooMuchMemory, CodeCount, CodeLong, Entry, StackOverlap, NoRoom}

-- the number of a rule
abbrev pub number_of : ElfRefusal → ℕ
number_of Short = 1
number_of Magic = 2
number_of Class = 3
number_of Order = 4
number_of Version = 5
number_of refusal.Type = 6
number_of Machine = 7
number_of HeaderSize = 8
number_of HeaderCount = 9
number_of TableOutside = 10
number_of Dynamic = 11
number_of SegmentOutside = 12
number_of SizesCrossed = 13
number_of HighSegment = 14
number_of Overlap = 15
number_of TooMuchMemory = 16
number_of CodeCount = 17
number_of CodeLong = 18
number_of Entry = 19
number_of StackOverlap = 20
number_of NoRoom = 21
