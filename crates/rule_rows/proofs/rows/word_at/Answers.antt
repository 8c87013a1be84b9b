use Rattle.std.proofs.Common.{◌≡◌, Option, Some, None, sym, ◌∙◌}
use Rattle.machines.specs.Prelude.{Instr}
use Rattle.rule_body.specs.Prelude.{guests_of}
use Rattle.rule_rows.proofs.Listed.{guest_word}
use Rattle.rule_rows.proofs.rows.word_at.Goals as goal

clash : (o : Option Instr) (i : Instr) → o ≡ Some i → o ≡ None → ⊥
clash o i e d = cc

pub returns-in_err-instr-clause-none : goal.returns-in_err-instr-clause-none
returns-in_err-instr-clause-none c = λ e words are.
    let word = guest_word c.args.place (guests_of c.args.goal.now) words c.in_ok-guest.guest are (sym c.guest_at.ensures ∙ c.in_ok-guest.was) in
    absurd (clash c.decode.result word.0 (c.decode.ensures.only word.0 word.1) c.in_err-instr.was)
