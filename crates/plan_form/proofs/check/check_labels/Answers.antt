use Rattle.std.proofs.Common.{inl, inr, ℕ, ◌-◌, refl, sym, subst, ap, ◌∙◌, Option}
use Rattle.plan_form.specs.Prelude.{Fault, BadLabel, label_at, values_of, entry_node, IsFirstFault}
use Rattle.plan_form.proofs.Indexes.{map-once}
use Rattle.plan_form.proofs.Costs.{walk-once}
use Rattle.plan_form.proofs.Faulty.{none-obeyed}
use Rattle.plan_form.proofs.check.check_labels.Goals as goal

pub returns-in-Some-clause-first : goal.returns-in-Some-clause-first
returns-in-Some-clause-first c =
    let q = c.args.problem.now in
    let full = c.requires.full in
    let values = values_of c.args.labels.now in
    inr (
      λ i here.
          let a = map-once q full.0 full.1 full.2 q.entry i c.index_in-entry.result here c.index_in-entry.ensures in
          ap (λ k. label_at q values 0 k) a ∙ sym c.label_of-start.ensures ∙ c.if-start-ne0.false,
      inl (record { fault = c.in-Some.fault; is = refl; first = c.in-Some.ensures }),
    )

pub returns-then-end-cost-clause-certified : goal.returns-then-end-cost-clause-certified
returns-then-end-cost-clause-certified c =
    let q = c.args.problem.now in
    let full = c.requires.full in
    let values = values_of c.args.labels.now in (
      c.in-Some-plan_cost.cost,
      c.in-Some-plan_cost.ensures,
      record {
        start = λ i here.
            let a = map-once q full.0 full.1 full.2 q.entry i c.index_in-entry.result here c.index_in-entry.ensures in
            ap (λ k. label_at q values 0 k) a ∙ sym c.label_of-start.ensures ∙ c.if-start-ne0.false;
        edges = none-obeyed q values (subst (λ (f : Option Fault). IsFirstFault q values f) c.in_default.is c.first_fault.ensures);
        end = λ i here.
            let a = map-once q full.0 full.1 full.2 q.exit i c.index_in-exit.result here c.index_in-exit.ensures in
            ap (λ k. label_at q values (q.places - 1) k) a ∙ sym c.label_of-end.ensures ∙ c.if-end-cost.true;
      },
    )

pub returns-clause-refused : goal.returns-clause-refused
returns-clause-refused c =
    let q = c.args.problem.now in
    let full = c.requires.full in
    λ h.
    let same = walk-once q full.0 full.1 full.2 6 (entry_node q) c.args.plan.now.steps.items h.0 c.in-Some-plan_cost.cost h.1 c.in-Some-plan_cost.ensures in
    c.if-end-cost.false (c.label_of-end.ensures ∙ h.2.end c.index_in-exit.result c.index_in-exit.ensures ∙ same)

pub returns-clause-first : goal.returns-clause-first
returns-clause-first c =
    let q = c.args.problem.now in
    let full = c.requires.full in
    let values = values_of c.args.labels.now in
    inr (
      λ i here.
          let a = map-once q full.0 full.1 full.2 q.entry i c.index_in-entry.result here c.index_in-entry.ensures in
          ap (λ k. label_at q values 0 k) a ∙ sym c.label_of-start.ensures ∙ c.if-start-ne0.false,
      inr (record {
        edges = none-obeyed q values (subst (λ (f : Option Fault). IsFirstFault q values f) c.in_default.is c.first_fault.ensures);
        cost = c.in-Some-plan_cost.cost;
        plan = c.in-Some-plan_cost.ensures;
        i = c.index_in-exit.result;
        at = c.index_in-exit.ensures;
        fails = λ e. c.if-end-cost.false (c.label_of-end.ensures ∙ e);
        is = ap (λ (n : ℕ). let b : BadLabel = record { place = q.places - 1; map = c.index_in-exit.result; from = n; to = c.in-Some-plan_cost.cost; price = 0 } in b) c.label_of-end.ensures;
      }),
    )
