use Rattle.std.proofs.Common.{ℕ, List, sym, subst}
use Rattle.code_words.specs.Words.{HasWords, first_of}
use Rattle.block_find.proofs.Gathering.{of_program}
use Rattle.block_find.proofs.program.blocks.Goals as goal

pub returns : goal.returns
returns c =
    let P = c.args.program.now in
    of_program P c.first.result c.entry_place.result c.deref.result.now c.blocks_of.result c.first.ensures
    (subst (λ (ws : List ℕ). HasWords P (first_of P) ws) (sym c.deref.ensures.value) c.in_ok-words.ensures.words)
    c.entry_place.ensures.address c.blocks_of.ensures
