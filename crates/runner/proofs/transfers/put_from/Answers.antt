use Rattle.std.proofs.Common.{arith, false, ◌≡◌, ◌+◌, ◌≤◌, ◌∙◌, length, take, drop}
use Rattle.std.proofs.lemmas.Grind.{common_steps}
use Rattle.std.proofs.lemmas.List.{length-take-le}
use Rattle.runner.proofs.Pieces.{permitted_part, length_part, part_stands, prefix_put}
use Rattle.runner.proofs.transfers.put_from.Goals as goal
use Rattle.outside.proofs.Appending.{appends_two as more_put}

pub put_piece-requires : goal.put_piece-requires
put_piece-requires g c k lt =
    let size : length (take c.min-size.result c.loop-done.piece) ≡ c.min-size.result = length-take-le c.min-size.result c.loop-done.piece (omega (arith, c.min-size.array_long, c.min-size.ensures)) in
    permitted_part c.args.space.now false c.args.at c.args.count c.loop-done.done c.min-size.result (omega (arith, c.min-size.ensures, c.loop-done-test.true)) c.requires k (omega (arith, lt, size))

pub returns-in-Err-clause-puts : goal.returns-in-Err-clause-puts
returns-in-Err-clause-puts g c = λ bytes len stand.
    let fits : c.loop-done.done + c.min-size.result ≤ length bytes = omega (arith, c.min-size.ensures, c.loop-done-test.true, len) in
    let size : length (take c.min-size.result c.loop-done.piece) ≡ c.min-size.result = length-take-le c.min-size.result c.loop-done.piece (omega (arith, c.min-size.array_long, c.min-size.ensures)) in
    prefix_put _ _ _ bytes c.loop-done.done c.min-size.result fits (c.loop-done.invariant.put bytes len stand)
    (c.in-Err.ensures.puts (take c.min-size.result (drop c.loop-done.done bytes)) (length_part bytes c.loop-done.done c.min-size.result fits ∙ omega (arith, size)) (part_stands c.args.space.now c.args.at bytes c.loop-done.done c.min-size.result fits stand))

pub loop-done-preserved : goal.loop-done-preserved
loop-done-preserved g c = record {
  some = omega (arith, c.min-size.ensures, c.loop-done-test.true);
  later = grind (arith, common_steps);
  put = λ bytes len stand.
      let fits : c.loop-done.done + c.min-size.result ≤ length bytes = omega (arith, c.min-size.ensures, c.loop-done-test.true, len) in
      let size : length (take c.min-size.result c.loop-done.piece) ≡ c.min-size.result = length-take-le c.min-size.result c.loop-done.piece (omega (arith, c.min-size.array_long, c.min-size.ensures)) in
      more_put _ _ _ bytes c.loop-done.done c.min-size.result (c.loop-done.invariant.put bytes len stand)
      (c.in-Ok.ensures.puts (take c.min-size.result (drop c.loop-done.done bytes)) (length_part bytes c.loop-done.done c.min-size.result fits ∙ omega (arith, size)) (part_stands c.args.space.now c.args.at bytes c.loop-done.done c.min-size.result fits stand));
}
