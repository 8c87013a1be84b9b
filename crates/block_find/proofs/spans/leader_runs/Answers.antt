use Rattle.std.proofs.Common.{◌≡◌, ◌∙◌, ap, sym, arith, true, false}
use Rattle.block_find.proofs.Dividing.{open_first, open_leader, open_other, closed, all_blocks, divide}
use Rattle.block_find.proofs.spans.leader_runs.Goals as goal
use Rattle.block_find.proofs.spans.leader_runs.Goals.{then-leads-place+in_ok-push, else-leads-place}

pub loop-place-init : goal.loop-place-init
loop-place-init c = open_first c.args.code.now.first c.args.code.now.entry c.args.code.now.words.now c.args.leads.now c.requires.leaders (omega arith) c.new-runs.result.items c.new-runs.ensures.items

pub loop-place-preserved : goal.loop-place-preserved
loop-place-preserved c = elim c.if-leads-place.branch [
  | then-leads-place+in_ok-push w ↦ open_leader c.args.code.now.first c.args.code.now.entry c.args.code.now.words.now c.args.leads.now c.requires.leaders c.loop-place.runs.items c.if-leads-place.runs.items c.loop-place.at
      c.if-leads-place.at c.loop-place.place c.loop-place.invariant (omega arith) w.if-leads-place.true (ap (λ v. v.items) w.runs-is ∙ w.in_ok-push.ensures.items) w.at-is
  | else-leads-place w ↦ open_other c.args.code.now.first c.args.code.now.entry c.args.code.now.words.now c.args.leads.now c.requires.leaders c.loop-place.runs.items c.if-leads-place.runs.items c.loop-place.at
      c.if-leads-place.at c.loop-place.place c.loop-place.invariant (omega arith) (λ is. let off = w.if-leads-place.false in let no : true ≡ false = sym is ∙ off in cc) (ap (λ v. v.items) w.runs-is) w.at-is
]

pub returns-clause-runs : goal.returns-clause-runs
returns-clause-runs c =
    all_blocks c.args.code.now.first c.args.code.now.entry c.args.code.now.words.now c.args.leads.now c.requires.leaders c.push-2.new.self.items
    (closed c.args.code.now.first c.args.code.now.entry c.args.code.now.words.now c.args.leads.now c.requires.leaders c.loop-place.runs.items c.push-2.new.self.items c.loop-place.at c.loop-place.place c.loop-place.invariant (omega arith) c.in_ok-push-2.ensures.items)

pub returns-clause-divide : goal.returns-clause-divide
returns-clause-divide c =
    divide c.args.code.now.first c.args.code.now.entry c.args.code.now.words.now c.args.leads.now c.requires.leaders c.push-2.new.self.items
    (closed c.args.code.now.first c.args.code.now.entry c.args.code.now.words.now c.args.leads.now c.requires.leaders c.loop-place.runs.items c.push-2.new.self.items c.loop-place.at c.loop-place.place c.loop-place.invariant (omega arith) c.in_ok-push-2.ensures.items)
