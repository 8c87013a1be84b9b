use Rattle.std.proofs.Common.{sym, ◌∙◌, refl}
use Rattle.std.proofs.lemmas.Bool.{false≢true}
use Rattle.rule_body.specs.Prelude.{named, guests_of}
use Rattle.rule_form.proofs.Growing.{written-contained, contained-written}
use Rattle.rule_form.proofs.window.with_dead.Goals as goal

pub returns-then-are_written : goal.returns-then-are_written
returns-then-are_written c = (
  record {
    tidy = record { count = c.requires.tidy.count; parameters = c.requires.tidy.parameters; words = c.requires.tidy.words; free = c.requires.tidy.free; slots = c.requires.tidy.slots };
    template = record {
      placed = c.requires.placed;
      names = c.requires.dead;
      written = λ k less set. written-contained (guests_of c.args.goal) c.requires.placed.window (named k) c.requires.placed.is.words (c.are_written.ensures.0 c.if-are_written.true k less set);
    };
  },
  refl,
)

pub returns-else-are_written : goal.returns-else-are_written
returns-else-are_written c = λ t.
    false≢true (sym c.if-are_written.false
    ∙ c.are_written.ensures.1 (λ k less set. contained-written (guests_of c.args.goal) t.placed.window (named k) t.placed.is.words t.placed.is.few (t.written k less set)))
