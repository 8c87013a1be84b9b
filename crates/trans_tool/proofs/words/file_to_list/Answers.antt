use Rattle.std.proofs.Common.{◌≡◌, rules, string_bytes, codes}
use Rattle.trans_tool.proofs.Lists.{two}
use Rattle.trans_tool.proofs.words.file_to_list.Goals as goal

pub returns-then-is_name : goal.returns-then-is_name
returns-then-is_name c =
    let e = two c.args.words.now c.command-item.result c.file-item.result c.in-len2.len_at_least c.in-len2.len_below c.command-item.is c.file-item.is in
    let named : string_bytes c.command-item.result ≡ codes "list" = search (rules, c.if-eq.ensures, c.as_str.ensures.value) in
    record { words_are = rw e (cc (named, c.as_str-file.ensures.value)); named = search (rules, c.if-is_name.ensures) }
