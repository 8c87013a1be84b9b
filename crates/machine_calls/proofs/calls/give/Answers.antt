use Rattle.std.proofs.Common.{ap}
use Rattle.machines.specs.Prelude.{answer_value}
use Rattle.machine_calls.proofs.Giving.{read_given, write_given, other_got, other_taken}
use Rattle.machine_calls.proofs.calls.give.Goals as goal

pub returns-in-Read-clause-gives : goal.returns-in-Read-clause-gives
returns-in-Read-clause-gives c = λ p bytes keeps.
    let call = c.args.call.now in
    read_given p bytes c.fill.new.memory call.kind call.fd call.at call.count (answer_value c.args.answer) c.in-Got.bytes.now c.fill.result c.in-Read.is (ap answer_value c.in-Got.is)
    c.fill.ensures.count (c.fill.ensures.bytes p bytes keeps)

pub returns-in-Write : goal.returns-in-Write
returns-in-Write c = record {
  gives = λ p bytes keeps.
      let call = c.args.call.now in
      other_got p bytes c.args.memory.now call.kind call.fd call.at call.count (answer_value c.args.answer) c.in-Got.bytes.now c.in-Write.is (ap answer_value c.in-Got.is) keeps;
  some = tt;
}

pub returns-in-Write-kind-clause-gives : goal.returns-in-Write-kind-clause-gives
returns-in-Write-kind-clause-gives c = λ p bytes keeps.
    let call = c.args.call.now in
    write_given p bytes c.args.memory.now call.kind call.fd call.at call.count (answer_value c.args.answer) c.in-Took.taken c.min.result c.in-Write-kind.is (ap answer_value c.in-Took.is)
    c.min.ensures keeps

pub returns-in-Read-kind : goal.returns-in-Read-kind
returns-in-Read-kind c = record {
  gives = λ p bytes keeps.
      let call = c.args.call.now in
      other_taken p bytes c.args.memory.now call.kind call.fd call.at call.count (answer_value c.args.answer) c.in-Took.taken c.in-Read-kind.is (ap answer_value c.in-Took.is) keeps;
  some = tt;
}
