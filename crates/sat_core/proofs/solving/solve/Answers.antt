use Rattle.std.proofs.Common.{◌++◌, ◌∷◌, [], length, sym, subst, ap, ◌∙◌, append_assoc, append-nil, arith}
use Rattle.std.specs.List.{All}
use Rattle.word_kit.specs.Prelude.{AreClauses}
use Rattle.watched_literals.specs.Prelude.{IsReady, IsWithin}
use Rattle.sat_core.specs.Prelude.{AreLearned, IsGuided, IsLesson, Finds, room_for}
use Rattle.sat_core.proofs.Learned.{learned-start}
use Rattle.sat_core.proofs.Turns.{pushed-within, pushed-learned, ended}
use Rattle.sat_core.proofs.solving.solve.Goals as goal

pub learning-init : goal.learning-init
learning-init c =
    let clauses = c.args.formula.now.clauses in
    let i = c.in_ok-search.ensures in
    record {
      rooted = i.rooted;
      guided = subst (λ cs. IsGuided cs (room_for c.args.formula.now.variables) c.in_ok-guide.guide.levels)
          (sym (ap (λ ss. clauses ++ ss) i.none ∙ append-nil clauses)) c.in_ok-guide.ensures;
      formula = i.formula_is;
      learned = subst (AreLearned clauses) (sym i.none) (learned-start clauses);
      within = omega (arith, ap length i.none);
    }

pub returns-then-len-limit : goal.returns-then-len-limit
returns-then-len-limit c =
    let s = c.learning.search in
    let t = subst (Finds s c.turn.new.self) c.in-Lesson.is c.in_ok-values.ensures in
    let e = c.from-clauses.ensures ∙ t.steps in
    record {
      count = ap length e ∙ sym (c.len.ensures ∙ c.turn.new.self.steps.ok.0 ∙ ap length t.steps) ∙ c.if-len-limit.true;
      learned = subst (AreLearned c.args.formula.now.clauses) (sym e) c.learning.invariant.learned;
      literals = subst AreClauses (sym e) c.learning.invariant.rooted.literals;
    }

pub learn-requires-clause-within : goal.learn-requires-clause-within
learn-requires-clause-within c =
    let s = c.learning.search in
    let t = subst (Finds s c.turn.new.self) c.in-Lesson.is c.in_ok-values.ensures in
    subst (λ n. All (IsWithin n) c.in_ok-lesson-in-Lesson.lesson)
    (c.learning.invariant.rooted.room ∙ ap (λ f. room_for f.variables) (sym t.formula) ∙ sym t.rooted.room)
    (subst (All (IsWithin s.propagator.trail.room)) (sym c.in_ok-lesson-in-Lesson.ensures) t.within)

pub learning-preserved : goal.learning-preserved
learning-preserved c =
    let s = c.learning.search in
    let t = subst (Finds s c.turn.new.self) c.in-Lesson.is c.in_ok-values.ensures in
    let l = c.in_ok-learn-in-Lesson.ensures in
    let clause = c.in-Lesson.clause.items in
    let known = c.args.formula.now.clauses ++ s.steps.items in
    let formula = c.learning.invariant.formula in
    let steps = l.steps ∙ ap (λ x. c.turn.new.self.steps.items ++ x ∷ []) c.in_ok-lesson-in-Lesson.ensures ∙ ap (λ ss. ss ++ clause ∷ []) t.steps in
    record {
      rooted = l.rooted;
      guided = subst (λ cs. IsGuided cs (room_for c.args.formula.now.variables) c.learn-in-Lesson.new.self.levels)
          (ap (λ x. known ++ x ∷ []) c.in_ok-lesson-in-Lesson.ensures ∙ append_assoc c.args.formula.now.clauses s.steps.items (clause ∷ [])
          ∙ ap (λ ss. c.args.formula.now.clauses ++ ss) (sym steps))
          (c.in_ok-learn-in-Lesson-2.ensures known (room_for c.args.formula.now.variables)
          (c.in_ok-proposed.ensures known (room_for c.args.formula.now.variables) c.learning.invariant.guided));
      formula = l.formula ∙ t.formula ∙ formula;
      learned = pushed-learned c.args.formula.now.clauses s.steps.items c.learn.new.self.steps.items clause steps c.learning.invariant.learned
          (subst (λ f. IsLesson (f.clauses ++ s.steps.items) clause) formula t.lesson);
      within = pushed-within s.steps.items c.learn.new.self.steps.items clause c.len.result c.args.limit steps
          (c.len.ensures ∙ c.turn.new.self.steps.ok.0 ∙ ap length t.steps) c.learning.invariant.within c.if-len-limit.false;
    }

pub learn-requires-in-Lesson-clause-guided : goal.learn-requires-in-Lesson-clause-guided
learn-requires-in-Lesson-clause-guided c =
    let known = c.args.formula.now.clauses ++ c.learning.search.steps.items in
    let room = room_for c.args.formula.now.variables in
    (known, room, c.in_ok-proposed.ensures known room c.learning.invariant.guided)

pub learn-requires-in-Lesson-clause-literals : goal.learn-requires-in-Lesson-clause-literals
learn-requires-in-Lesson-clause-literals c =
    let s = c.learning.search in
    let i = c.learning.invariant in
    let t = subst (Finds s c.turn.new.self) c.in-Lesson.is c.in_ok-values.ensures in
    let g = c.in_ok-proposed.ensures (c.args.formula.now.clauses ++ s.steps.items) (room_for c.args.formula.now.variables) i.guided in
    subst (λ n. All (IsWithin n) c.in_ok-lesson-in-Lesson.lesson) (i.rooted.room ∙ ap (λ f. room_for f.variables) i.formula ∙ sym g.room_is)
    (subst (All (IsWithin s.propagator.trail.room)) (sym c.in_ok-lesson-in-Lesson.ensures) t.within)

pub returns : goal.returns
returns c =
    let s = c.learning.search in
    ended c.args.formula.now.clauses s.steps.items c.from-clauses-2.result c.args.limit s.propagator c.from-2.result
    (c.from-clauses-2.ensures ∙ c.in_ok-push.ensures.items) (c.from-2.ensures ∙ c.new-3.ensures.items) (sym c.is_refuted.ensures ∙ c.learning-test.false)
    (subst (λ f. IsReady (f.clauses ++ s.steps.items) s.propagator) c.learning.invariant.formula c.learning.invariant.rooted.ready)
    c.learning.invariant.learned c.learning.invariant.within c.learning.invariant.rooted.literals
