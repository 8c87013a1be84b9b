use Rattle.std.proofs.Common.{◌≡◌, ◌++◌, subst, arith}
use Rattle.circuit.specs.Prelude.{lit_truth, at}
use Rattle.circuit.proofs.Meanings.{reach_within}
use Rattle.access_circuits.specs.Terms.{byte_pairs, stored_place}
use Rattle.access_circuits.proofs.Stored.{one_more, bytes_begin, bytes_go_on, words_same}
use Rattle.access_circuits.proofs.accesses.push_bytes.Goals as goal

pub loop-i-init : goal.loop-i-init
loop-i-init c = record { pushed = bytes_begin c.args.pairs.now.items c.args.x c.args.y; alike = λ w a. (a, λ k l. absurd (omega (arith, l))); owned = λ m o p q. o }

pub loop-i-preserved : goal.loop-i-preserved
loop-i-preserved c =
    let i = c.loop-i.i in
    record {
      pushed = bytes_go_on i c.args.pairs.now.items c.loop-i.pairs.items _ c.args.x c.args.y c.loop-i.invariant.pushed c.in_ok-push_flag.ensures.pushed;
      alike = λ w a.
          let s = (c.in_ok-push_flag.ensures.alike w).0 a in
          let before = c.loop-i.invariant.alike w s.0 in
          (before.0, one_more (λ k. lit_truth (at c.args.x (stored_place k)) w ≡ lit_truth (at c.args.y (stored_place k)) w) i before.1 s.1);
      owned = λ m o p q. c.in_ok-push_flag.ensures.owned m (c.loop-i.invariant.owned m o p q) (reach_within c.args.x (stored_place i) m (omega arith) p) (reach_within c.args.y (stored_place i) m (omega arith) q);
    }

pub returns-clause-pushed : goal.returns-clause-pushed
returns-clause-pushed c = let e : c.loop-i.i ≡ 32 = omega arith in
    subst (λ n. c.loop-i.pairs.items ≡ c.args.pairs.now.items ++ byte_pairs n c.args.x c.args.y) e c.loop-i.invariant.pushed

pub returns-clause-alike : goal.returns-clause-alike
returns-clause-alike c = λ w a.
    let s = c.loop-i.invariant.alike w a in
    (s.0, words_same w c.args.x c.args.y (λ k l. s.1 k (omega (arith, l))))
