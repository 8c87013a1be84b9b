use Rattle.std.proofs.Common.{rules, vec_len}
use Rattle.elf_emit.proofs.Placing.{home_page_parts}
use Rattle.elf_emit.proofs.translation.home_page.Goals as goal

pub returns-clause-bytes : goal.returns-clause-bytes
returns-clause-bytes c =
    home_page_parts c.in_ok-home.home.items c.put_word.new.file.items c.put_word-2.new.file.items c.resize.new.self.items (vec_len c.put_word-2.new.file) (search rules) c.in_ok-put_word.ensures.bytes c.in_ok-put_word-2.ensures.bytes (search rules) c.in_ok-resize.ensures.items
