use Rattle.std.proofs.Common.{◌≡◌, ℕ, ◌+◌, ◌-◌, ◌≤◌, List, length, refl, sym, ◌∙◌, ap, subst}
use Rattle.machines.specs.Prelude.{code_of}
use Rattle.code_words.proofs.Words.{words_of_code}
use Rattle.code_words.proofs.code.code_words.Goals as goal

pub returns-clause-words : goal.returns-clause-words
returns-clause-words c =
    let at : ℕ = c.code_segment-segment.result.now.at in
    let bytes : List ℕ = c.as_slice.result.now in
    let same : c.code_segment-segment.result.now.bytes ≡ bytes = sym c.as_slice.ensures in
    let is : code_of c.args.program.now ≡ record { at = at; bytes = bytes } =
    c.code_segment-segment.ensures.code ∙ ap (λ (bs : List ℕ). record { at = at; bytes = bs }) same in
    let low : at + length bytes ≤ 0xC0000000 = subst (λ (bs : List ℕ). at + length bs ≤ 0xC0000000) same c.code_segment-segment.ensures.low in
    let whole = c.whole_words-whole.ensures in
    words_of_code c.args.program.now at bytes c.whole_words-whole.result.now c.first.result (c.first.result - at) is c.first.ensures refl
    whole.inside whole.all whole.bytes low (λ words. words.items) c.read_words.result c.read_words.ensures.count c.read_words.ensures.each
