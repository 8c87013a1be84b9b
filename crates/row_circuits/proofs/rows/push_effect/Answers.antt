use Rattle.std.proofs.Common.{◌++◌, ap, sym, subst, refl}
use Rattle.ppc_parts.specs.Prelude.{kind_of}
use Rattle.circuit.specs.Prelude.{word_value}
use Rattle.access_circuits.specs.Lists.{AreAccesses}
use Rattle.row_runs.specs.Windows.{row_accesses}
use Rattle.row_circuits.proofs.Running.{on_ok_map}
use Rattle.row_circuits.proofs.Stored.{store_access}
use Rattle.row_circuits.proofs.rows.push_effect.Goals as goal

pub returns-in-Store-clause-means : goal.returns-in-Store-clause-means
returns-in-Store-clause-means c = on_ok_map c.push_access-in-Store.result (λ m w ts o h e.
    subst (λ x. AreAccesses w c.push_access-in-Store.new.accesses.items (ts ++ row_accesses x.kind x)) e
    (subst (λ l. AreAccesses w c.push_access-in-Store.new.accesses.items (ts ++ l)) (sym (store_access _ (ap kind_of c.in-Store.is)))
    (m w ts _ h (record {
      loads = refl;
      width = refl;
      address = refl;
      stored = c.lowest-stored.ensures.means w (word_value 32 c.args.e.now.stored w) refl;
    })))) c.push_access-in-Store.ensures.means
