use Rattle.code_layout.specs.Prelude.{entry_of}
use Rattle.std.proofs.Common.{◌-◌, ◌%◌, ◌^◌, arith, ◌≡◌, ◌+◌, ◌++◌, ◌∙◌, ℕ, OnOk, ap, subst, length, vec_len, rules}
use Rattle.machines.specs.Prelude.{spelling, Op, Jmp}
use Rattle.code_layout.proofs.Lengths.{spelled-length}
use Rattle.code_layout.proofs.Laying.{op_at-length}
use Rattle.code_layout.proofs.code.put_item.Goals as goal

pub returns-in-Plain-clause-length : goal.returns-in-Plain-clause-length
returns-in-Plain-clause-length c =
    let e : length (spelling c.at_home.result) ≡ length (spelling c.in-Plain.op) = ap (λ (v : Op). length (spelling v)) c.at_home.ensures ∙ op_at-length c.args.layout.now.area c.in-Plain.op in
    rw c.in-Plain.is (subst (λ (k : ℕ). OnOk c.put_op.result (vec_len c.put_op.new.code ≡ vec_len c.args.code.now + k)) e c.put_op.ensures.length)

pub returns-in-Edge-clause-bytes : goal.returns-in-Edge-clause-bytes
returns-in-Edge-clause-bytes c =
    let five : c.encode.result.len ≡ 5 = spelled-length c.encode.result.bytes (spelling (Jmp 0)) c.encode.result.len (search rules) c.encode.ensures.spelled in
    let none : c.args.layout.now.code + vec_len c.args.code.now + 5 ≡ c.args.layout.now.code + vec_len c.args.code.now + 0 + 5 = omega arith in
    let here : c.len.result ≡ vec_len c.args.code.now = search rules in
    rw c.in-Edge.is (subst (λ (k : ℕ). OnOk c.put_op-in-Edge.result (c.put_op-in-Edge.new.code.items ≡ c.args.code.now.items ++ spelling (Jmp k))) (rw (c.target.ensures, five, here) (ap (λ (k : ℕ). (entry_of c.args.layout.now.first c.args.layout.now.entries.now c.args.layout.now.code c.in-Edge.address + (2 ^ 32 - k)) % 2 ^ 32) none)) c.put_op-in-Edge.ensures.spelled)
