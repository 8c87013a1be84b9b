use Rattle.std.proofs.Common.{sym}
use Rattle.trans_tool.proofs.Lists.{three}
use Rattle.trans_tool.proofs.words.program_to_run.Goals as goal

pub returns-in-len3 : goal.returns-in-len3
returns-in-len3 c =
    let e = three c.args.words.now c.command-item-then-words-lt4.result c.first-item.result c.second-item.result c.in-len3.len_at_least c.in-len3.len_below c.command-item-then-words-lt4.is c.first-item.is c.second-item.is in
    rw (e, sym c.as_str-in-len3.ensures.value, sym c.as_str-in-len3-2.ensures.value, sym c.as_str-in-len3-3.ensures.value) c.run_with_option.ensures
