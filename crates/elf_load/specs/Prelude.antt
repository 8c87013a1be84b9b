-- What is cited of these specifications, for one `use` line.
pub use Rattle.elf_load.specs.declared.faults.HeaderRule.{HeaderRule}
pub use Rattle.elf_load.specs.declared.headers.ProgramHeader.{ProgramHeader}
pub use Rattle.elf_load.specs.declared.refusal.ElfRefusal.{ElfRefusal}
pub use Rattle.elf_load.specs.declared.refusal.ElfRefusal.TheVariants.{NoRoom}
unfoldable pub use Rattle.elf_load.specs.Numbers.{half_at, word_at}
pub use Rattle.elf_load.specs.Headers.{HasTable, IsWordOf, SharesAddress, entry, header_count, header_offset, is_code, is_executable, is_load, is_segment, is_writable}
unfoldable pub use Rattle.elf_load.specs.Headers.{header}
pub use Rattle.elf_load.specs.Program.{IsLaidOut, is_code_segment, segment_of, segments_of, stack, stack_for}
unfoldable pub use Rattle.elf_load.specs.Program.{segments_before, zeros}
pub use Rattle.elf_load.specs.Rules.{number_of}
pub use Rattle.elf_load.specs.Faults.{Breaks, Fails, HasOneCode, IsCause, IsFault, IsFirstFault, IsFirstHeader, IsProgramOf, Passes, PassesBelow, StartsAtWord}
unfoldable pub use Rattle.elf_load.specs.Faults.{memory_before}
pub use Rattle.elf_load.specs.Area.{IsArea, IsHostArea, MeetsArea}
pub use Rattle.elf_load.specs.Code.{HasLowCode}
pub use Rattle.elf_load.specs.Loaded.{LoadedCodeIsClosed, LoadedIsApart}
