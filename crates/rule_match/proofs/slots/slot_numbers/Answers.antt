use Rattle.std.proofs.Common.{◌≡◌, ◌+◌, true, false, get_or, slice_get, Some, sym, ap, ◌∙◌, subst, arith}
use Rattle.std.proofs.lemmas.Option.{slice_get-get_or}
use Rattle.reg_map.specs.Prelude.{slot_of}
use Rattle.rule_match.specs.SlotNumbers.{IsSlotNumber}
use Rattle.rule_match.proofs.SlotCounts.{not_at_home, not_in_slot, at_home_is, in_slot_is, AreNumbersTo, one_at_home, one_in_slot, all_numbers, count_within}
use Rattle.rule_match.proofs.slots.slot_numbers.Goals.{in-true-Some, in-false-None}
use Rattle.rule_match.proofs.slots.slot_numbers.Goals as goal

pub returns-in_default : goal.returns-in_default
returns-in_default c = λ places.
    let place = c.loop-place.place in
    let slots = c.args.slots.now in
    let here = slice_get-get_or slots place false c.loop-place-test.true ∙ ap Some c.in_default.is-0 in
    not_at_home (slot_of c.args.map.now (get_or c.args.gprs.now place 0)) (places place true here) (subst (IsSlotNumber (slot_of c.args.map.now (get_or c.args.gprs.now place 0))) c.in_default.is-1 c.slot_number.ensures)

pub returns-in_default-2 : goal.returns-in_default-2
returns-in_default-2 c = λ places.
    let place = c.loop-place.place in
    let slots = c.args.slots.now in
    let here = slice_get-get_or slots place false c.loop-place-test.true ∙ ap Some c.in_default.is-0 in
    not_in_slot (slot_of c.args.map.now (get_or c.args.gprs.now place 0)) c.in_default.field-0-1 (places place false here) (subst (IsSlotNumber (slot_of c.args.map.now (get_or c.args.gprs.now place 0))) c.in_default.is-1 c.slot_number.ensures)

pub loop-place-preserved : goal.loop-place-preserved
loop-place-preserved c =
    let slots = c.args.slots.now in
    let map = c.args.map.now in
    let gprs = c.args.gprs.now in
    let place = c.loop-place.place in
    let numbers = c.loop-place.numbers in
    let count = c.loop-place.count in
    let read = slice_get-get_or slots place false c.loop-place-test.true in
    let its = slot_of map (get_or gprs place 0) in
    elim c.if-slots-place.branch [
      | in-true-Some w ↦
          let here : slice_get slots place ≡ Some true = read ∙ ap Some w.in-true-Some.is-0 in
          let found = in_slot_is its w.in-true-Some.number w.in-true-Some.ensures in
          let first = c.loop-place.invariant.0 in
          let within = count_within slots place here in
          let few = c.requires.few in
          subst (λ n. AreNumbersTo slots map gprs (place + 1) c.if-slots-place.numbers n) (sym w.count-is) (subst (λ ns. AreNumbersTo slots map gprs (place + 1) ns (count + 1)) (sym w.numbers-is)
          (one_in_slot slots map gprs place numbers count w.in-true-Some.number here found.0 found.1 (omega (arith, first, within, few)) c.loop-place.invariant))
      | in-false-None w ↦
          let here : slice_get slots place ≡ Some false = read ∙ ap Some w.in-false-None.is-0 in
          subst (λ n. AreNumbersTo slots map gprs (place + 1) c.if-slots-place.numbers n) (sym w.count-is) (subst (λ ns. AreNumbersTo slots map gprs (place + 1) ns count) (sym w.numbers-is)
          (one_at_home slots map gprs place numbers count here (at_home_is its w.in-false-None.ensures) c.loop-place.invariant))
    ]

pub returns : goal.returns
returns c = all_numbers c.args.slots.now c.args.map.now c.args.gprs.now c.loop-place.place c.loop-place.numbers c.loop-place.count (omega (arith, c.loop-place-test.false)) c.loop-place.invariant
