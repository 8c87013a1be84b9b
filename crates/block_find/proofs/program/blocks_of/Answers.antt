use Rattle.std.proofs.Common.{◌≡◌, ℕ, List, Bool, All, length, sym, ◌∙◌, subst}
use Rattle.block_find.specs.Prelude.{IsWithin, singles_of, Run}
use Rattle.block_find.proofs.Gathering.{runs_within, singles_within}
use Rattle.block_find.proofs.program.blocks_of.Goals as goal

pub with_words-requires : goal.with_words-requires
with_words-requires c =
    subst (λ (runs : List Run). All (IsWithin (length c.args.code.now.words.now)) runs) (sym c.deref-2.ensures.value)
    (runs_within c.args.code.now.words.now c.deref.result.now c.in_ok-runs.runs.items c.in_ok-runs.ensures.runs)

pub with_words-requires-2 : goal.with_words-requires-2
with_words-requires-2 c =
    let leads = c.deref-3.result.now in
    let same : leads ≡ c.in_ok-leads.leads.items = c.deref-3.ensures.value in
    let count : length leads ≡ length c.args.code.now.words.now = subst (λ (xs : List Bool). length xs ≡ length c.args.code.now.words.now) (sym same) c.in_ok-leads.ensures.count in
    subst (λ (runs : List Run). All (IsWithin (length c.args.code.now.words.now)) runs) (sym (c.deref-4.ensures.value ∙ c.in_ok-single_runs.ensures))
    (subst (λ (n : ℕ). All (IsWithin n) (singles_of leads (length leads))) count (singles_within leads (length leads)))
