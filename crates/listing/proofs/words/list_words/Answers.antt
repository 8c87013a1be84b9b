use Rattle.std.proofs.Common.{◌≡◌, ℕ, ◌+◌, ◌-◌, ◌%◌, arith, rules, refl, ap, length}
use Rattle.std.proofs.lemmas.Grind.{common_steps}
use Rattle.listing.proofs.Halfway.{rest_is, at_start, at_line, at_fault, at_end}
use Rattle.listing.proofs.WordSteps.{from_first, next_word_at, no_lines}
use Rattle.listing.specs.Words.{word_lines}
use Rattle.listing.proofs.words.list_words.Goals as goal

-- the number that makes up a multiple of 2 ^ 32 makes up a multiple of 4
makes_up : (at rest : ℕ) → (rest + at) % 4294967296 ≡ 0 → (at + rest % 4) % 4 ≡ 0
makes_up at rest whole = omega (arith, whole)

pub loop-place-init : goal.loop-place-init
loop-place-init g c = record {
  even = makes_up c.args.code.now.at c.wrapping_neg.result c.wrapping_neg.ensures;
  near = omega arith;
  text = λ read reads.
      let bytes = c.as_slice-bytes.result.now in
      let skipped = c.wrapping_neg.result % 4 in
      let e = from_first read c.args.code.now c.args.code.now.at (length bytes) skipped (c.args.code.now.at + skipped) (length bytes - skipped) (omega arith) refl refl
      (makes_up c.args.code.now.at c.wrapping_neg.result c.wrapping_neg.ensures) in
      rw e (at_start (g.S.Sink.shown c.args.output.now) (word_lines read c.args.code.now (c.args.code.now.at + skipped) (length bytes - skipped)));
  later = omega arith;
}

pub returns-in_err-put_word-clause-bytes : goal.returns-in_err-put_word-clause-bytes
returns-in_err-put_word-clause-bytes g c = λ read reads.
    let bytes = c.as_slice-bytes.result.now in
    let next = next_word_at read c.args.code.now c.loop-place.place c.read_u32-word.result bytes _ c.as_slice-bytes.ensures (rest_is bytes c.loop-place.place) c.read_u32-word.ensures c.loop-place.invariant.even c.loop-place-test.true in
    let put = at_fault _ _ _ _ _ _ _ next (c.loop-place.invariant.text read reads) (c.in_err-put_word.ensures.bytes read reads) in
    search (rules, put)

pub loop-place-preserved : goal.loop-place-preserved
loop-place-preserved g c = record {
  even = omega (arith, c.loop-place.invariant.even);
  near = omega (arith, c.loop-place-test.true);
  text = λ read reads.
      let bytes = c.as_slice-bytes.result.now in
      let next = next_word_at read c.args.code.now c.loop-place.place c.read_u32-word.result bytes _ c.as_slice-bytes.ensures (rest_is bytes c.loop-place.place) c.read_u32-word.ensures c.loop-place.invariant.even c.loop-place-test.true in
      at_line _ _ _ _ _ _ _ next (c.loop-place.invariant.text read reads) (c.in_ok-put_word.ensures.bytes read reads);
  later = grind (arith, common_steps);
}

pub returns-clause-bytes : goal.returns-clause-bytes
returns-clause-bytes g c = λ read reads.
    let bytes = c.as_slice-bytes.result.now in
    let same : length bytes ≡ length c.args.code.now.bytes = ap length c.as_slice-bytes.ensures in
    let none = no_lines read c.args.code.now (c.args.code.now.at + c.loop-place.place) (length bytes - c.loop-place.place) (omega (arith, same, c.loop-place-test.false)) in
    let put = at_end _ _ _ _ none (c.loop-place.invariant.text read reads) in
    rw (← same) put
