use Rattle.std.proofs.Common.{◌≡◌, ◌∙◌, ap, sym, ℕ}
use Rattle.block_find.specs.Prelude.{address_of, named_address}
use Rattle.block_find.proofs.Reading.{by_address}
use Rattle.block_find.proofs.branches.named_place.Goals as goal

pub returns-in-Some-named_address : goal.returns-in-Some-named_address
returns-in-Some-named_address c =
    let at : c.address_of.result ≡ address_of c.args.code.now.first c.args.place = c.address_of.ensures in
    by_address c.args.code.now.first c.args.code.now.words.now c.args.place c.in-Some.instr c.in-Some.ensures.found c.in-Some.ensures.only
    c.in-Some-named_address.address c.place_at.result
    (ap (λ (a : ℕ). named_address c.in-Some.instr a) (sym at) ∙ sym c.in-Some-named_address.ensures) c.place_at.ensures
