use Rattle.std.proofs.Common.{◌++◌, ◌∷◌, [], refl, sym, subst, ap, ◌∙◌, append_assoc}
use Rattle.watched_literals.specs.Prelude.{IsReady}
use Rattle.sat_core.specs.Prelude.{known}
use Rattle.sat_core.proofs.Turns.{pushed-clauses, within-literals}
use Rattle.sat_core.proofs.search.Search.learn.Goals as goal

pub returns : goal.returns
returns c =
    let s = c.args.self.now in
    let clause = c.args.clause.now in
    let steps = c.in_ok-push.ensures.items ∙ ap (λ x. s.steps.items ++ x ∷ []) (c.in_ok-written.ensures ∙ c.as_slice.ensures) in
    record {
      rooted = record {
        ready = subst (λ cs. IsReady cs c.add.new.self)
            (append_assoc s.formula.now.clauses s.steps.items (clause ∷ []) ∙ ap (λ ss. s.formula.now.clauses ++ ss) (sym steps))
            (c.in_ok-add.ensures.ready (known s) c.requires.rooted.ready);
        bare = c.requires.rooted.bare;
        room = c.in_ok-add.ensures.room ∙ c.requires.rooted.room;
        formula = c.requires.rooted.formula;
        literals = pushed-clauses s.steps.items c.push.new.self.items clause steps c.requires.rooted.literals (within-literals s.propagator.trail.room clause c.requires.within);
      };
      formula = refl;
      steps = steps;
    }
