use Rattle.std.proofs.Common.{◌≡◌, arith}
use Rattle.code_words.specs.Words.{first_of}
use Rattle.code_words.proofs.CodeSegment.{entry_is_word}
use Rattle.code_words.proofs.Words.{place_of}
use Rattle.code_words.proofs.code.entry_place.Goals as goal

pub overflow_sub-result : goal.overflow_sub-result
overflow_sub-result c =
    let e : c.first.result ≡ first_of c.args.program.now = c.first.ensures in
    let place = place_of c.args.program.now (entry_is_word c.requires.0 c.args.program.now c.requires.1) in
    omega (arith, e, place.0)

pub returns-clause-address : goal.returns-clause-address
returns-clause-address c =
    let e : c.first.result ≡ first_of c.args.program.now = c.first.ensures in
    let place = place_of c.args.program.now (entry_is_word c.requires.0 c.args.program.now c.requires.1) in
    omega (arith, e, place.0, place.1)

pub returns-clause-within : goal.returns-clause-within
returns-clause-within c = λ words has.
    let e : c.first.result ≡ first_of c.args.program.now = c.first.ensures in
    let found = has.only c.args.program.now.entry (entry_is_word c.requires.0 c.args.program.now c.requires.1) in
    omega (arith, e, found.1, found.2)
