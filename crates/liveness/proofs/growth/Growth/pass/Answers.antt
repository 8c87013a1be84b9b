use Rattle.std.proofs.Common.{◌≡◌, ◌+◌, ◌++◌, ◌∷◌, [], length, set, true, false, inl, sym, ◌∙◌, ap, arith, length-set}
use Rattle.std.proofs.Math.ListN.{length-append}
use Rattle.std.proofs.lemmas.List.{get_or_default}
use Rattle.liveness.proofs.Growing.{is_pass, still_under, keeps, settles, settled_before, less_room, waits_here, waits_still, more_places, more_waits}
use Rattle.liveness.proofs.growth.Growth.pass.Goals as goal

pub returns-in_ok-push-clause-under : goal.returns-in_ok-push-clause-under
returns-in_ok-push-clause-under c =
    rw (c.in_ok-push.ensures.items)
    (still_under c.args.flows.now c.args.self.now.sets.items c.args.self.now.waiting.items c.args.self.now.stack.items c.args.place c.args.behind c.index-old.result.now c.unwritten.result c.requires.under c.requires.leads (is_pass c.args.flows.now c.args.self.now.sets.items c.args.place c.args.behind c.index-old.result.now c.unwritten.result c.index.result.now c.requires.under.each_has_one c.requires.leads c.index-old.ensures c.index.ensures c.unwritten.ensures) (set c.args.self.now.waiting.items c.args.place true) (c.args.self.now.stack.items ++ c.args.place ∷ [])
    (length-set _ _ _ ∙ c.requires.under.each_may_wait)
    (more_places c.args.self.now.stack.items c.args.place (length c.args.flows.now) c.requires.leads.0 c.requires.under.places)
    (more_waits c.args.self.now.waiting.items c.args.self.now.stack.items c.args.place c.requires.under.waits))

pub returns-in_ok-push-clause-settles : goal.returns-in_ok-push-clause-settles
returns-in_ok-push-clause-settles c = settles c.args.flows.now c.args.self.now.sets.items c.args.self.now.waiting.items c.args.self.now.stack.items c.args.place c.args.behind c.index-old.result.now c.unwritten.result c.requires.under c.requires.leads (is_pass c.args.flows.now c.args.self.now.sets.items c.args.place c.args.behind c.index-old.result.now c.unwritten.result c.index.result.now c.requires.under.each_has_one c.requires.leads c.index-old.ensures c.index.ensures c.unwritten.ensures) (set c.args.self.now.waiting.items c.args.place true) (waits_here c.args.self.now.waiting.items c.args.place (let n = c.requires.under.each_may_wait in let lt = c.requires.leads.0 in omega arith))

pub returns-in_ok-push-clause-keeps : goal.returns-in_ok-push-clause-keeps
returns-in_ok-push-clause-keeps c = keeps c.args.flows.now c.args.self.now.sets.items c.args.self.now.waiting.items c.args.self.now.stack.items c.args.place c.args.behind c.index-old.result.now c.unwritten.result c.requires.under c.requires.leads (is_pass c.args.flows.now c.args.self.now.sets.items c.args.place c.args.behind c.index-old.result.now c.unwritten.result c.index.result.now c.requires.under.each_has_one c.requires.leads c.index-old.ensures c.index.ensures c.unwritten.ensures) (set c.args.self.now.waiting.items c.args.place true) (waits_here c.args.self.now.waiting.items c.args.place (let n = c.requires.under.each_may_wait in let lt = c.requires.leads.0 in omega arith)) (waits_still c.args.self.now.waiting.items c.args.place (let n = c.requires.under.each_may_wait in let lt = c.requires.leads.0 in omega arith))

pub returns-in_ok-push-clause-work : goal.returns-in_ok-push-clause-work
returns-in_ok-push-clause-work c =
    let less = less_room c.args.flows.now c.args.self.now.sets.items c.args.self.now.waiting.items c.args.self.now.stack.items c.args.place c.args.behind c.index-old.result.now c.unwritten.result c.requires.under c.requires.leads (is_pass c.args.flows.now c.args.self.now.sets.items c.args.place c.args.behind c.index-old.result.now c.unwritten.result c.index.result.now c.requires.under.each_has_one c.requires.leads c.index-old.ensures c.index.ensures c.unwritten.ensures) c.if-grown-old.true (omega arith) in
    let items = c.in_ok-push.ensures.items in
    let more : length c.push.new.self.items ≡ length c.args.self.now.stack.items + 1 = ap length items ∙ length-append c.args.self.now.stack.items (c.args.place ∷ []) in
    omega arith

pub returns-else-not-index-clause-under : goal.returns-else-not-index-clause-under
returns-else-not-index-clause-under c = still_under c.args.flows.now c.args.self.now.sets.items c.args.self.now.waiting.items c.args.self.now.stack.items c.args.place c.args.behind c.index-old.result.now c.unwritten.result c.requires.under c.requires.leads (is_pass c.args.flows.now c.args.self.now.sets.items c.args.place c.args.behind c.index-old.result.now c.unwritten.result c.index.result.now c.requires.under.each_has_one c.requires.leads c.index-old.ensures c.index.ensures c.unwritten.ensures) c.args.self.now.waiting.items c.args.self.now.stack.items c.requires.under.each_may_wait c.requires.under.places c.requires.under.waits

pub returns-else-not-index-clause-settles : goal.returns-else-not-index-clause-settles
returns-else-not-index-clause-settles c = settles c.args.flows.now c.args.self.now.sets.items c.args.self.now.waiting.items c.args.self.now.stack.items c.args.place c.args.behind c.index-old.result.now c.unwritten.result c.requires.under c.requires.leads (is_pass c.args.flows.now c.args.self.now.sets.items c.args.place c.args.behind c.index-old.result.now c.unwritten.result c.index.result.now c.requires.under.each_has_one c.requires.leads c.index-old.ensures c.index.ensures c.unwritten.ensures) c.args.self.now.waiting.items (sym (c.index-then-grown-old.ensures ∙ get_or_default c.args.self.now.waiting.items c.args.place c.index-then-grown-old.result.now false (let n = c.requires.under.each_may_wait in let lt = c.requires.leads.0 in omega arith)) ∙ c.if-not-index.false)

pub returns-else-not-index-clause-keeps : goal.returns-else-not-index-clause-keeps
returns-else-not-index-clause-keeps c = keeps c.args.flows.now c.args.self.now.sets.items c.args.self.now.waiting.items c.args.self.now.stack.items c.args.place c.args.behind c.index-old.result.now c.unwritten.result c.requires.under c.requires.leads (is_pass c.args.flows.now c.args.self.now.sets.items c.args.place c.args.behind c.index-old.result.now c.unwritten.result c.index.result.now c.requires.under.each_has_one c.requires.leads c.index-old.ensures c.index.ensures c.unwritten.ensures) c.args.self.now.waiting.items (sym (c.index-then-grown-old.ensures ∙ get_or_default c.args.self.now.waiting.items c.args.place c.index-then-grown-old.result.now false (let n = c.requires.under.each_may_wait in let lt = c.requires.leads.0 in omega arith)) ∙ c.if-not-index.false) (λ s w. w)

pub returns-else-not-index-clause-work : goal.returns-else-not-index-clause-work
returns-else-not-index-clause-work c =
    let less = less_room c.args.flows.now c.args.self.now.sets.items c.args.self.now.waiting.items c.args.self.now.stack.items c.args.place c.args.behind c.index-old.result.now c.unwritten.result c.requires.under c.requires.leads (is_pass c.args.flows.now c.args.self.now.sets.items c.args.place c.args.behind c.index-old.result.now c.unwritten.result c.index.result.now c.requires.under.each_has_one c.requires.leads c.index-old.ensures c.index.ensures c.unwritten.ensures) c.if-grown-old.true (omega arith) in
    omega arith

pub returns-else-grown-old-clause-settles : goal.returns-else-grown-old-clause-settles
returns-else-grown-old-clause-settles c = inl (settled_before c.args.flows.now c.args.self.now.sets.items c.args.self.now.waiting.items c.args.self.now.stack.items c.args.place c.args.behind c.index-old.result.now c.unwritten.result c.requires.under c.requires.leads (is_pass c.args.flows.now c.args.self.now.sets.items c.args.place c.args.behind c.index-old.result.now c.unwritten.result c.index.result.now c.requires.under.each_has_one c.requires.leads c.index-old.ensures c.index.ensures c.unwritten.ensures) c.if-grown-old.false)
