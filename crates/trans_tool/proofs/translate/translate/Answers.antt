use Rattle.std.proofs.Common.{inr, refl, rules}
use Rattle.trans_tool.proofs.Answering.{source, translated}
use Rattle.trans_tool.proofs.translate.translate.Goals as goal

pub returns-in-Ok-replace : goal.returns-in-Ok-replace
returns-in-Ok-replace g c =
    translated _ _ c.in-Ok.bytes.items c.deref.result.now c.in-Ok-translated.output (search rules) c.in-Ok.ensures.bound c.deref.ensures.value c.in-Ok-translated.ensures
    _ c.as_slice.result.now c.as_slice.ensures (search rules) (search rules)

pub returns-in-Err-Failed-replace : goal.returns-in-Err-Failed-replace
returns-in-Err-Failed-replace g c =
    (refl, search rules, search rules, source _ _ c.in-Ok.bytes.items c.deref.result.now c.in-Ok-translated.output (search rules) c.in-Ok.ensures.bound c.deref.ensures.value c.in-Ok-translated.ensures)

pub returns : goal.returns
returns g c =
    inr (search rules, source _ _ c.in-Ok.bytes.items c.deref.result.now c.in-Ok-translated.output (search rules) c.in-Ok.ensures.bound c.deref.ensures.value c.in-Ok-translated.ensures)
