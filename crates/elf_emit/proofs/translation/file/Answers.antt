use Rattle.std.proofs.Common.{rules, ◌∙◌, ap}
use Rattle.elf_emit.specs.Prelude.{all_shown, file_segments}
use Rattle.elf_emit.proofs.WholeFile.{few_parts, written_file, written_program}
use Rattle.elf_emit.proofs.translation.file.Goals as goal

pub elf_file-requires : goal.elf_file-requires
elf_file-requires c =
    few_parts c.args.program.now c.args.code.now c.args.area (all_shown c.deref-3.result.now) c.requires.program c.requires.area c.requires.code
    (ap all_shown c.deref-3.ensures.value ∙ c.in_ok-parts.ensures)

pub returns-clause-bytes : goal.returns-clause-bytes
returns-clause-bytes c =
    written_file c.args.code.now.start (file_segments c.args.program.now c.args.code.now c.args.area) (all_shown c.deref-3.result.now) c.elf_file.result
    c.elf_file.ensures (ap all_shown c.deref-3.ensures.value ∙ c.in_ok-parts.ensures)

pub returns-clause-loads : goal.returns-clause-loads
returns-clause-loads c =
    written_program c.args.program.now c.args.code.now c.args.area c.elf_file.result c.requires.program c.requires.area c.requires.code (search rules)
    (written_file c.args.code.now.start (file_segments c.args.program.now c.args.code.now c.args.area) (all_shown c.deref-3.result.now) c.elf_file.result
    c.elf_file.ensures (ap all_shown c.deref-3.ensures.value ∙ c.in_ok-parts.ensures))
