use Rattle.std.proofs.Common.{ℕ, List, sym, subst}
use Rattle.code_words.specs.Words.{HasWords, first_of}
use Rattle.liveness.proofs.Bridge.{of_program}
use Rattle.liveness.proofs.program.live.Goals as goal

pub returns : goal.returns
returns c =
    let P = c.args.program.now in
    of_program P c.first.result c.deref.result.now c.live_before.result c.one_list_of_words.ensures c.first.ensures
    (subst (λ (ws : List ℕ). HasWords P (first_of P) ws) (sym c.deref.ensures.value) c.in_ok-words.ensures.words) c.live_before.ensures
