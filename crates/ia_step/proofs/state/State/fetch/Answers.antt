use Rattle.ia_step.proofs.Fetching.{fetched, illegal}
use Rattle.ia_step.proofs.state.State.fetch.Goals as goal

pub returns-in_default-decode-clause-fetches : goal.returns-in_default-decode-clause-fetches
returns-in_default-decode-clause-fetches c = λ ops reads p h s.
    illegal ops reads p h h.core.bytes c.args.self.now.parts.space c.args.self.now.eip c.min.result c.in-Some.bytes.now s.core.memory s.eip c.in-Some.ensures c.min.ensures
    (λ op k spelt. let e = c.in_default-decode.ensures.only op k spelt in cc)

pub returns-clause-fetches : goal.returns-clause-fetches
returns-clause-fetches c = λ ops reads p h s.
    fetched ops reads p h h.core.bytes c.args.self.now.parts.space c.args.self.now.eip c.min.result c.in-Some.bytes.now s.core.memory s.eip c.in-Some.ensures c.min.ensures
    c.in-Some-decode.op c.in-Some-decode.len c.in-Some-decode.ensures.found
