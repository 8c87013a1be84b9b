use Rattle.std.proofs.Common.{◌≡◌, ◌↔◌, drop, fold, max}
use Rattle.rule_body.specs.Prelude.{AreNumbered}
use Rattle.rule_form.proofs.rows.numbered.Given as goal

abbrev pub invariant-loop-number : goal.invariant-loop-number
invariant-loop-number l = record {
  same : AreNumbered l.highest (drop l.number-index l.numbers) ↔ AreNumbered l.seen l.numbers;
  count : fold max l.highest (drop l.number-index l.numbers) ≡ fold max l.seen l.numbers;
}
