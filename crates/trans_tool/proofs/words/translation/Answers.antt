use Rattle.std.proofs.Common.{◌≡◌, rules, string_bytes, codes}
use Rattle.trans_tool.proofs.Lists.{three}
use Rattle.trans_tool.proofs.words.translation.Goals as goal

pub returns-then-is_name-2 : goal.returns-then-is_name-2
returns-then-is_name-2 c =
    let e = three c.args.words.now c.command-item.result c.from-item.result c.to-item.result c.in-len3.len_at_least c.in-len3.len_below c.command-item.is c.from-item.is c.to-item.is in
    let named : string_bytes c.command-item.result ≡ codes "translate" = search (rules, c.if-eq.ensures, c.as_str.ensures.value) in
    record { words_are = rw e (cc (named, c.as_str-from.ensures.value, c.as_str-to.ensures.value)); from_named = search (rules, c.if-is_name.ensures); to_named = search (rules, c.if-is_name-2.ensures) }
