use Rattle.std.proofs.Common.{refl}
use Rattle.liveness.proofs.WordFlows.{legal_flow, illegal_flow}
use Rattle.liveness.proofs.reading.flow_of.Goals as goal

pub returns-in-Some : goal.returns-in-Some
returns-in-Some c =
    legal_flow c.args.code.now.first c.args.code.now.words.now c.args.place c.target-target.result c.target-target.ensures c.in-Some.instr c.in-Some.ensures.found
    c.in-Some.ensures.only c.read_set.result c.writes.result.bits c.writes.result c.falls_through.result c.read_set.ensures.each c.read_set.ensures.few
    c.writes.ensures refl c.falls_through.ensures

pub returns-in-None : goal.returns-in-None
returns-in-None c =
    illegal_flow c.args.code.now.first c.args.code.now.words.now c.args.place c.target-target.result c.target-target.ensures c.in-None.ensures.only
