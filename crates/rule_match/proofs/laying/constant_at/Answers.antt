use Rattle.std.proofs.Common.{refl, sym, ap, ◌∙◌}
use Rattle.std.proofs.lemmas.Option.{slice_get_read, slice_get_past}
use Rattle.rule_match.specs.Bindings.{constant_of}
use Rattle.rule_match.proofs.Constants.{no_constant, its_constant, not_none, same_instr}
use Rattle.rule_match.proofs.laying.constant_at.Goals as goal

pub returns-in-None : goal.returns-in-None
returns-in-None c = λ found are. sym (no_constant c.args.window.now found c.args.place are (slice_get_past c.args.window.now c.args.place c.in-None.ensures.lookup.3))

pub returns-in-None-decode : goal.returns-in-None-decode
returns-in-None-decode c = λ found are.
    let l = c.in-Some.ensures.lookup in
    let w = its_constant c.args.window.now found c.args.place c.in-Some.word.now are (slice_get_read c.args.window.now _ c.args.place c.in-Some.word.now refl l.3.0 l.1) in
    absurd (not_none w.0 (c.in-None-decode.ensures.only w.0 w.1))

pub returns-in-Some-decode : goal.returns-in-Some-decode
returns-in-Some-decode c = λ found are.
    let l = c.in-Some.ensures.lookup in
    let w = its_constant c.args.window.now found c.args.place c.in-Some.word.now are (slice_get_read c.args.window.now _ c.args.place c.in-Some.word.now refl l.3.0 l.1) in
    c.constant_of.ensures ∙ ap constant_of (same_instr c.in-Some-decode.instr w.0 (c.in-Some-decode.ensures.only w.0 w.1)) ∙ sym w.2
