-- What is cited of these specifications, for one `use` line.
pub use Rattle.elf_emit.specs.declared.part.Part.{Part}
pub use Rattle.elf_emit.specs.File.{FileSegment, IsLeastOffset, end_of, flags_of, headers_end, offset_of, word}
unfoldable pub use Rattle.elf_emit.specs.File.{contents, elf_file, file_header, identification, no_sections, program_header, program_headers}
pub use Rattle.elf_emit.specs.Loaded.{AreApart, AreLoadable, IsSound, in_memory, is_code, program_of}
pub use Rattle.elf_emit.specs.Translation.{FitsArea, added, as_data, code_segment, file_segments, home_segment, kept, source, table_bytes, table_segment, translated, whole, written_segments}
unfoldable pub use Rattle.elf_emit.specs.Translation.{home_page}
pub use Rattle.elf_emit.specs.Parts.{AreFew, all_shown, shown}
