use Rattle.std.proofs.Common.{ℕ, ◌-◌, ap, ◌∙◌, length, reverse, rules, tests}
use Rattle.std.specs.Prelude.{◌==◌}
use Rattle.std.proofs.lemmas.Iterator.Adapters.{YieldsList-from_rev_slice}
use Rattle.std.proofs.lemmas.Iterator.Search.{YieldsList-from_take_while}
use Rattle.std.proofs.lemmas.Iterator.Consumers.{count_from_yields_List}
use Rattle.std.proofs.lemmas.List.Folds.{length-prefix_len}
use Rattle.elf_emit.proofs.part.count_before_zeros.Goals as goal

pub returns : goal.returns
returns c =
    let bytes = c.args.bytes.now in
    let back = YieldsList-from_rev_slice {s = c.take_while.result.iter} bytes (cc) in
    let count = count_from_yields_List c.take_while.result c.count.result c.count.ensures.ran
    (YieldsList-from_take_while _ (λ (b : ℕ). b == 0) back (cc) c.take_while.ensures.done (λ x b q k. search (rules, tests))) in
    ap (λ (n : ℕ). length bytes - n) (count ∙ length-prefix_len (λ (b : ℕ). b == 0) (reverse bytes))
