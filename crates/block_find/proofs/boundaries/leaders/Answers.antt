use Rattle.std.proofs.Common.{◌≡◌, ℕ, ◌+◌, List, Bool, length, sym, subst, arith}
use Rattle.block_find.specs.Marks as mark
use Rattle.block_find.specs.Prelude.{IsIn, AreMarked, AreCut}
use Rattle.block_find.proofs.Cutting.{are_leaders, cut_none, cut_more}
use Rattle.block_find.proofs.boundaries.leaders.Goals as goal

pub returns-clause-leaders : goal.returns-clause-leaders
returns-clause-leaders c =
    let i = c.loop-place-2.invariant in
    let done : c.loop-place-2.place ≡ length c.args.code.now.words.now = omega arith in
    are_leaders c.args.code.now.first c.args.code.now.entry c.args.code.now.words.now c.loop-place.marks.items c.loop-place-2.leads.items c.loop-place-2.run i.marked
    (subst (λ (place : ℕ). AreCut c.loop-place.marks.items c.loop-place-2.leads.items place c.loop-place-2.run) done i.cut)

pub loop-place-2-init : goal.loop-place-2-init
loop-place-2-init c =
    let done : c.loop-place.place ≡ length c.args.code.now.words.now = omega arith in
    record {
      marked = subst (λ (place : ℕ). AreMarked c.args.code.now.first c.args.code.now.entry c.args.code.now.words.now place c.loop-place.marks.items) done c.loop-place.invariant;
      cut = subst (λ (xs : List Bool). AreCut c.loop-place.marks.items xs 0 0) (sym c.in_ok-leads.ensures.items) (cut_none c.loop-place.marks.items);
    }

pub loop-place-2-preserved : goal.loop-place-2-preserved
loop-place-2-preserved c =
    let i = c.loop-place-2.invariant in
    let n = i.marked.count in
    let zeroth : c.loop-place-2.place ≡ 0 → IsIn c.loop-place.marks.items c.loop-place-2.place =
    λ e. (i.marked.each c.loop-place-2.place).1 (c.loop-place-2-test.true, mark.zeroth e) in
    record {
      marked = i.marked;
      cut = subst (λ (xs : List Bool). AreCut c.loop-place.marks.items xs (c.loop-place-2.place + 1) c.next_run-run.result) (sym c.in_ok-push.ensures.items)
          (cut_more c.loop-place.marks.items c.loop-place-2.leads.items c.loop-place-2.place c.loop-place-2.run i.cut c.index.result.now c.next_run-run.result zeroth
          c.index.ensures (omega arith) c.next_run-run.ensures);
    }
