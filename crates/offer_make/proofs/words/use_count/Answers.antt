use Rattle.std.proofs.Common.{sym, subst, ◌∙◌, take, arith}
use Rattle.std.proofs.lemmas.Bool.{false≢true}
use Rattle.std.proofs.lemmas.List.{take_more}
use Rattle.offer_make.specs.Candidates.{IsCount}
use Rattle.offer_make.proofs.Counting.{count-more, count-same}
use Rattle.offer_make.proofs.words.use_count.Goals as goal
use Rattle.offer_make.proofs.words.use_count.Goals.{then-uses, else-uses}

pub loop-word-preserved : goal.loop-word-preserved
loop-word-preserved c =
    let words = c.args.words.now in
    let at = c.loop-word.word-index in
    let g = c.args.gpr in
    let more = take_more words at 0 (omega arith) in
    elim c.if-uses.branch [
      | then-uses w ↦ (
        subst (λ l. IsCount l g c.if-uses.count) (sym more)
            (subst (IsCount _ g) (sym w.count-is) (count-more g (take at words) _ c.loop-word.count c.loop-word.invariant.0 (c.uses.ensures.0 w.if-uses.true))),
        omega (arith, w.count-is, c.loop-word.invariant.1),
      )
      | else-uses w ↦ (
        subst (λ l. IsCount l g c.if-uses.count) (sym more)
            (subst (IsCount _ g) (sym w.count-is) (count-same g (take at words) _ c.loop-word.count c.loop-word.invariant.0 (λ u. false≢true (sym w.if-uses.false ∙ c.uses.ensures.1 u)))),
        omega (arith, w.count-is, c.loop-word.invariant.1),
      )
    ]
