use Rattle.std.proofs.Common.{◌≡◌, ℕ, ◌+◌, false, get_or, drop, length, sym, ap, ◌∙◌, arith}
use Rattle.std.proofs.lemmas.Option.{slice_get-get_or}
use Rattle.rule_body.specs.declared.goal.Guest.{Guest}
use Rattle.rule_body.specs.Prelude.{guests_of}
use Rattle.rule_body.proofs.Guests.{guest-at, length-guests}
use Rattle.rule_match.specs.Matching.{or_else, register_read}
use Rattle.rule_match.proofs.Windows.{read_step, read_past, guest_lengths}
use Rattle.rule_match.proofs.reading.gpr_at.Goals as goal

pub returns-in-Some : goal.returns-in-Some
returns-in-Some c = λ words found are_words are_found.
    let goal = c.args.goal.now in
    let place = c.loop-place.place in
    let window = c.args.window.now in
    let tidy = c.requires.goal.tidy in
    let guest : Guest = record { word = get_or goal.words place 0; free = get_or goal.free place false } in
    let s = read_step c.args.number (guests_of goal) window words found place guest (get_or window place 0) are_words are_found
    (sym (guest-at goal.words goal.free goal.count place false (omega (arith, c.requires.length)) (omega (arith, tidy.count)) (omega arith))) (slice_get-get_or window place 0 (omega arith)) in
    sym (c.loop-place.invariant words found are_words are_found ∙ s.reads
    ∙ ap (λ x. or_else x (register_read (drop (place + 1) words) (drop (place + 1) found) c.args.number)) (sym (c.register_at.ensures s.word s.found s.of_rule s.of_memory) ∙ c.in-Some.is))

pub loop-place-preserved : goal.loop-place-preserved
loop-place-preserved c = λ words found are_words are_found.
    let goal = c.args.goal.now in
    let place = c.loop-place.place in
    let window = c.args.window.now in
    let tidy = c.requires.goal.tidy in
    let guest : Guest = record { word = get_or goal.words place 0; free = get_or goal.free place false } in
    let s = read_step c.args.number (guests_of goal) window words found place guest (get_or window place 0) are_words are_found
    (sym (guest-at goal.words goal.free goal.count place false (omega (arith, c.requires.length)) (omega (arith, tidy.count)) (omega arith))) (slice_get-get_or window place 0 (omega arith)) in
    c.loop-place.invariant words found are_words are_found ∙ s.reads
    ∙ ap (λ x. or_else x (register_read (drop (place + 1) words) (drop (place + 1) found) c.args.number)) (sym (c.register_at.ensures s.word s.found s.of_rule s.of_memory) ∙ c.in_default.is)

pub returns : goal.returns
returns c = λ words found are_words are_found.
    let goal = c.args.goal.now in
    let tidy = c.requires.goal.tidy in
    let many = length-guests goal.words goal.free goal.count (omega (arith, tidy.count)) (omega arith) in
    let same = guest_lengths (guests_of goal) words are_words in
    sym (c.loop-place.invariant words found are_words are_found ∙ read_past c.args.number c.loop-place.place words found (omega (arith, many, same, c.requires.length, c.loop-place-test.false)))
