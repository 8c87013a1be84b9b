use Rattle.std.proofs.Common.{rules, ◌≡◌, ◌<◌, ◌*◌, ◌∙◌, List, length, refl, subst, sym, ap}
use Rattle.space.specs.declared.program.Segment.{Segment}
use Rattle.std.specs.List.{All}
use Rattle.elf_emit.specs.Prelude.{home_segment, table_segment, table_bytes, code_segment}
use Rattle.elf_emit.proofs.Loadable.{length_home_page}
use Rattle.elf_emit.proofs.WholeFile.{segments_short, is_whole, parts_of_file}
use Rattle.elf_emit.proofs.translation.file_parts.Goals as goal
use Rattle.branch_table.proofs.Words.{length_of_table}

pub source_parts-requires : goal.source_parts-requires
source_parts-requires c =
    subst (λ (ss : List Segment). All (λ s. length s.bytes < 4294967296) ss) (sym c.as_slice.ensures) (segments_short c.args.program.now c.requires.program)

pub overflow_cast-table : goal.overflow_cast-table
overflow_cast-table c =
    let size : length c.args.table.now ≡ 4 * length c.args.code.now.entries = ap length c.requires.table ∙ length_of_table c.args.code.now.entries in
    search rules

pub returns : goal.returns
returns c =
    let program = c.args.program.now in
    let code = c.args.code.now in
    let area = c.args.area in
    parts_of_file program code area c.in_ok-parts.parts.items c.push.new.self.items c.push-2.new.self.items c.push-3.new.self.items _ _ _
    (c.in_ok-parts.ensures ∙ search rules) c.in_ok-push.ensures.items c.in_ok-push-2.ensures.items c.in_ok-push-3.ensures.items
    (is_whole _ _ _ _ _ (home_segment area) refl (sym length_home_page) refl refl (search rules))
    (is_whole _ _ _ _ _ (table_segment area (table_bytes code)) refl (search rules) refl refl (search rules))
    (is_whole _ _ _ _ _ (code_segment area code.bytes) refl (search rules) refl refl (search rules))
