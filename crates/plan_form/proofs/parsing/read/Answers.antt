use Rattle.std.proofs.Common.{◌≡◌, ◌<◌, ◌∷◌, Some, None, sym, ap, ◌∙◌, length, arith, length-append}
use Rattle.std.proofs.lemmas.Grind.{common_steps}
use Rattle.line_text.proofs.Reading.{bad-unknown, bad-place, read-on, bad-rest}
use Rattle.plan_form.specs.Prelude.{item_of, state_of, next, State, Item, IsGood}
use Rattle.plan_form.proofs.PlanGrammar.{plans, is-grammar, goes-on}
use Rattle.plan_form.proofs.TextEnds.{end-fault}
use Rattle.plan_form.proofs.parsing.read.Goals as goal

nowhere : (s : State) (x : Item) → None ≡ next s x → (t : State) → next s x ≡ Some t → IsGood t → ⊥
nowhere s x none t e good = let f : None ≡ Some t = none ∙ e in cc

pub returns-in_default-2-clause-fault : goal.returns-in_default-2-clause-fault
returns-in_default-2-clause-fault c =
    bad-unknown plans is-grammar c.args.text.now c.loop-line.rest.now c.in-Some.line.now c.in-Some.after.now (state_of c.loop-line.progress) c.loop-line.n
    c.loop-line.invariant.whole c.in-Some.ensures.0 c.in-Some.ensures.1 (rw c.in_default-2.is at c.in_ok-said.ensures)

pub returns-in_default-3-clause-fault : goal.returns-in_default-3-clause-fault
returns-in_default-3-clause-fault c =
    let s = rw c.in-Some-2.is at c.in_ok-said.ensures in
    bad-place plans is-grammar c.args.text.now c.loop-line.rest.now c.in-Some.line.now c.in-Some.after.now (state_of c.loop-line.progress) c.loop-line.n (item_of c.in-Some-2.said)
    c.loop-line.invariant.whole c.in-Some.ensures.0 c.in-Some.ensures.1 s.0 s.1
    (nowhere (state_of c.loop-line.progress) (item_of c.in-Some-2.said) (rw c.in_default-3.is at c.in_ok-further.ensures))

pub loop-line-preserved : goal.loop-line-preserved
loop-line-preserved c =
    let s = rw c.in-Some-2.is at c.in_ok-said.ensures in
    let leads = sym (rw c.in-Some-3.is at c.in_ok-further.ensures) in
    let from = state_of c.loop-line.progress in
    let to = state_of c.in-Some-3.further in
    record {
      whole = read-on plans is-grammar c.args.text.now c.loop-line.rest.now c.in-Some.after.now c.in-Some.line.now from to c.loop-line.n (item_of c.in-Some-2.said)
          c.loop-line.invariant.whole s.0 leads (goes-on from (item_of c.in-Some-2.said) to c.loop-line.invariant.whole.good s.0 leads) c.in-Some.ensures.1 s.1;
      few = let e = ap length c.in-Some.ensures.1 in let f = length-append c.in-Some.line.now (10 ∷ c.in-Some.after.now) in omega (arith, e, f, c.loop-line.invariant.few);
    }

pub returns-then-not-is_empty-clause-fault : goal.returns-then-not-is_empty-clause-fault
returns-then-not-is_empty-clause-fault c =
    let some : 0 < length c.loop-line.rest.now = grind (arith, common_steps) in
    bad-rest plans is-grammar c.args.text.now c.loop-line.rest.now (state_of c.loop-line.progress) c.loop-line.n c.loop-line.invariant.whole c.in_default.ensures some

pub returns : goal.returns
returns c =
    let none : length c.loop-line.rest.now ≡ 0 = grind (arith, common_steps) in
    record { found = tt; fault = end-fault c.args.text.now c.loop-line.rest.now c.loop-line.progress c.loop-line.n c.loop-line.invariant.whole none c.in_default-progress.not-Between }
