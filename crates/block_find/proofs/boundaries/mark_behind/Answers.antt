use Rattle.std.proofs.Common.{◌≡◌, ℕ, ◌+◌, true, false, sym, ◌∙◌, arith, refl}
use Rattle.block_find.specs.Prelude.{IsFlow}
use Rattle.block_find.proofs.Marking.{gains_one, gains_none}
use Rattle.block_find.proofs.boundaries.mark_behind.Goals as goal
use Rattle.block_find.proofs.boundaries.mark_behind.Goals.{else-is_flow_word-via-then-is_flow_word+else-place-marks, else-is_flow_word-via-else-is_flow_word}

pub returns-then-place-marks : goal.returns-then-place-marks
returns-then-place-marks c =
    gains_one c.args.marks.now (c.args.place + 1) (λ (k : ℕ). IsFlow c.args.code.now.words.now c.args.place × (c.args.place + 1 ≡ k)) (omega arith)
    (c.is_flow_word.ensures.0 c.if-is_flow_word.true, refl) (λ k h. sym h.1)

pub returns-else-is_flow_word : goal.returns-else-is_flow_word
returns-else-is_flow_word c = elim c.else-is_flow_word.branch [
  | else-is_flow_word-via-then-is_flow_word+else-place-marks w ↦
      gains_none c.args.marks.now (λ (k : ℕ). IsFlow c.args.code.now.words.now c.args.place × (c.args.place + 1 ≡ k))
      (λ k lt h. (let past = w.if-place-marks.false in let e = h.1 in omega arith))
  | else-is_flow_word-via-else-is_flow_word w ↦
      gains_none c.args.marks.now (λ (k : ℕ). IsFlow c.args.code.now.words.now c.args.place × (c.args.place + 1 ≡ k))
      (λ k lt h. (let off = w.if-is_flow_word.false in let on = c.is_flow_word.ensures.1 h.0 in let no : true ≡ false = sym on ∙ off in cc))
]
