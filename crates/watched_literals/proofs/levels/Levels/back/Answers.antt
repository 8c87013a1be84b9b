use Rattle.std.proofs.Common.{◌≡◌, ◌<◌, length, take, get_or, false, refl, ap, ◌∙◌, arith}
use Rattle.std.proofs.lemmas.List.{get_or_read}
use Rattle.watched_literals.proofs.Stacking.{leveled-on, stacked-back}
use Rattle.watched_literals.proofs.levels.Levels.back.Goals as goal

pub returns-then-count-len-clause-leveled : goal.returns-then-count-len-clause-leveled
returns-then-count-len-clause-leveled c = λ known h.
    let l = c.args.self.now in
    let less : c.args.count < length l.starts.items = omega (arith, c.if-count-len.true, c.len.ensures, l.starts.ok.0) in
    let at : c.index.result.now ≡ get_or l.starts.items c.args.count 0 = get_or_read l.starts.items c.args.count c.index.result.now less c.index.ensures 0 in
    leveled-on known known l (record { propagator = c.restart.new.self; root = l.root; starts = c.truncate.new.self; is_failed = false }) c.restart.ensures.refuted (λ k. k)
    (λ e s. stacked-back known l _ c.args.count less refl c.truncate.ensures.items (c.restart.ensures.literals ∙ ap (λ n. take n l.propagator.trail.literals) at)
    c.restart.ensures.watched (λ root within k. c.restart.ensures.above known root (omega (arith, within, at)) k) s) h
