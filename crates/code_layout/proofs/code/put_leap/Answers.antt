use Rattle.std.proofs.Common.{◌≡◌, ◌+◌, ◌-◌, ◌%◌, ◌^◌, ◌++◌, ◌∙◌, ℕ, List, OnOk, ap, subst, length, vec_len, rules}
use Rattle.machines.specs.Prelude.{spelling, NotBelow, Op, Base, Jcc, JmpTo}
use Rattle.code_layout.specs.Prelude.{leap_ops, spelled}
use Rattle.code_layout.proofs.Spelled.{three-behind}
use Rattle.code_layout.proofs.code.put_leap.Goals as goal

pub returns-clause-bytes : goal.returns-clause-bytes
returns-clause-bytes c =
    let layout = c.args.layout.now in
    let ops : List Op = leap_ops layout.first (length layout.entries.now) in
    let to_hold : ℕ → List ℕ = λ n. spelling (Jcc NotBelow ((layout.code + (2 ^ 32 - (layout.code + n + 26))) % 2 ^ 32)) in
    let here : c.len.result ≡ vec_len c.args.code.now = search rules in
    let through : List ℕ = spelling (JmpTo (Base 0 layout.table)) in
    let first : c.put_ops.new.code.items ≡ c.args.code.now.items ++ spelled ops = c.in_ok-put_ops.ensures.spelled ∙ ap (λ (xs : List Op). c.args.code.now.items ++ spelled xs) c.leap_ops.ensures.value in
    let then : c.put_op.new.code.items ≡ (c.args.code.now.items ++ spelled ops) ++ to_hold (vec_len c.args.code.now) = c.in_ok-put_op.ensures.spelled ∙ ap (λ (n : ℕ). c.put_ops.new.code.items ++ to_hold n) here ∙ ap (λ (xs : List ℕ). xs ++ to_hold (vec_len c.args.code.now)) first in
    subst (λ (xs : List ℕ). OnOk c.put_op-2.result (c.put_op-2.new.code.items ≡ xs)) (ap (λ (xs : List ℕ). xs ++ through) then ∙ three-behind c.args.code.now.items (spelled ops) (to_hold (vec_len c.args.code.now)) through) c.put_op-2.ensures.spelled
