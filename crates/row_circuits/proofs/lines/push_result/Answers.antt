use Rattle.std.proofs.Common.{◌++◌, sym, subst, ◌∙◌, refl}
use Rattle.word_kit.specs.Prelude.{byte_of}
use Rattle.circuit.specs.Prelude.{AllAgree}
use Rattle.row_runs.specs.Bodies.{result_accesses}
use Rattle.access_circuits.specs.Lists.{AreAccesses}
use Rattle.row_circuits.specs.Bodies.{stored_to}
use Rattle.row_circuits.proofs.lines.push_result.Goals as goal

pub returns-in_ok-push_access-clause-means : goal.returns-in_ok-push_access-clause-means
returns-in_ok-push_access-clause-means c = λ w t n ts fits h e b.
    let before = subst (λ g. AllAgree g.nodes.keys w) (c.big_word-stored.ensures.same ∙ c.bytes_of-split.ensures.same) fits in
    subst (λ q. AreAccesses w c.push_access.new.accesses.items (ts ++ result_accesses (stored_to q) n t)) (sym c.in-Store.is)
    (c.in_ok-push_access.ensures.means w ts _ b (record {
      loads = refl;
      width = refl;
      address = c.in_ok-at.ensures.means w t before h;
      stored = c.big_word-stored.ensures.means w (byte_of n) (c.bytes_of-split.ensures.means w n e);
    }))
