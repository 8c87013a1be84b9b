use Rattle.std.proofs.Common.{◌≡◌, ◌<◌, List, length, ℕ, Option, slice_index, sym, ap, ◌∙◌, subst, rules}
use Rattle.std.proofs.lemmas.List.{get_or_default}
use Rattle.machines.specs.Prelude.{Instr}
use Rattle.code_words.specs.Words.{HasWords, first_of}
use Rattle.block_find.specs.Prelude.{AreBlocksOf, all_blocks}
use Rattle.liveness.specs.Prelude.{AreLive}
use Rattle.code_layout.specs.Prelude.{ArePlansFor, AreDecodedAs, places_in, steps_of}
use Rattle.code_layout.proofs.Program.{code_for, laid_for}
use Rattle.code_layout.proofs.program_code.lay.Goals as goal

pub returns-clause-laid : goal.returns-clause-laid
returns-clause-laid c =
    let same = c.from-2.ensures in
    let lt : c.entry_place.result < length c.in_ok-entries.entries.items = search rules in
    let at : c.index-start.result.now ≡ slice_index c.in_ok-entries.entries.items c.entry_place.result = c.index-start.ensures ∙ get_or_default c.in_ok-entries.entries.items c.entry_place.result c.index-start.result.now 0 lt in
    let are : AreDecodedAs c.deref-2.result.now c.deref-3.result.now =
    subst (λ (d : List (Option Instr)). AreDecodedAs c.deref-2.result.now d) (sym c.deref-3.ensures.value)
    (subst (λ (w : List ℕ). AreDecodedAs w c.in_ok-decoded.decoded.items) (c.deref.ensures.value ∙ sym c.deref-2.ensures.value) c.in_ok-decoded.ensures) in
    let are_blocks : AreBlocksOf c.first.result c.entry_place.result c.deref-2.result.now c.args.blocks.now =
    subst (λ (f : ℕ). AreBlocksOf f c.entry_place.result c.deref-2.result.now c.args.blocks.now) (sym c.first.ensures)
    (c.requires.blocks c.deref-2.result.now c.entry_place.result (subst (HasWords c.args.program.now (first_of c.args.program.now)) (sym c.deref-2.ensures.value) c.in_ok-words.ensures.words) c.entry_place.ensures.address) in
    let has : HasWords c.args.program.now (first_of c.args.program.now) c.deref-2.result.now = subst (HasWords c.args.program.now (first_of c.args.program.now)) (sym c.deref-2.ensures.value) c.in_ok-words.ensures.words in
    let are_live : AreLive c.first.result c.deref-2.result.now c.args.live.now = subst (λ (f : ℕ). AreLive f c.deref-2.result.now c.args.live.now) (sym c.first.ensures) (c.requires.live c.deref-2.result.now has) in
    let are_plans : ArePlansFor c.first.result c.deref-3.result.now (all_blocks c.args.blocks.now) (steps_of c.args.plans.now) =
    subst (λ (f : ℕ). ArePlansFor f c.deref-3.result.now (all_blocks c.args.blocks.now) (steps_of c.args.plans.now)) (sym c.first.ensures) (c.requires.plans c.deref-2.result.now c.deref-3.result.now has are) in
    laid_for c.args.program.now c.args.live.now (steps_of c.args.plans.now) c.args.area c.first.result c.entry_place.result _ c.in_ok-words.words.items c.deref-2.result.now c.first.ensures c.deref-2.ensures.value c.in_ok-words.ensures.words c.entry_place.ensures.address
    (c.entry_place.ensures.within c.in_ok-words.words.items c.in_ok-words.ensures.words)
    (code_for c.first.result c.entry_place.result c.deref-2.result.now c.deref-3.result.now c.args.blocks.now c.args.live.now (steps_of c.args.plans.now) c.args.area c.in_ok-entries.entries.items c.from-2.result c.in_ok-bytes.bytes.items c.from.result _
    are are_blocks are_live are_plans
    (ap (λ (t : List ℕ). places_in c.args.area c.first.result t) (c.deref-4.ensures.value ∙ sym same)) same c.from.ensures c.in_ok-bytes.ensures.bytes c.in_ok-entries.ensures.each)
    (search rules) (at ∙ ap (λ (t : List ℕ). slice_index t c.entry_place.result) (sym same))
