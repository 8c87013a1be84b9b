use Rattle.std.proofs.Common.{◌≡◌, ◌+◌, ◌-◌, sym, ap, ◌∙◌, arith}
use Rattle.offer_make.specs.Maps.{content_of}
use Rattle.offer_make.proofs.Numbers.{content-suc}
use Rattle.offer_make.proofs.maps.content.Goals as goal

pub returns-then-number-eq0 : goal.returns-then-number-eq0
returns-then-number-eq0 c = sym (ap (content_of c.args.candidates.now) c.if-number-eq0.true)

pub returns-else-number-eq0 : goal.returns-else-number-eq0
returns-else-number-eq0 c =
    let e : c.args.number ≡ c.args.number - 1 + 1 = omega (arith, c.if-number-eq0.false) in
    sym (ap (content_of c.args.candidates.now) e ∙ content-suc c.args.candidates.now (c.args.number - 1))
