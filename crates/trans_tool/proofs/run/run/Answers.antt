use Rattle.std.proofs.Common.{inl, inr}
use Rattle.trans_tool.proofs.Ran.{ended_so}
use Rattle.trans_tool.proofs.run.run.Goals as goal

pub returns-in-Ok-run_program-clause-ends : goal.returns-in-Ok-run_program-clause-ends
returns-in-Ok-run_program-clause-ends g c =
    rw (c.cause_of.ensures) (ended_so _ c.args.command.now.file.now c.args.command.now.steps _ _ c.in-Ok-run_program.end c.in-Ok-run_program.ensures.answered (record {
      program = c.in-Ok.program;
      loaded = c.in-Ok.ensures.loaded;
      ran = c.in-Ok-run_program.ensures.ran;
    }))

pub returns-in-Err-run_program-clause-ends : goal.returns-in-Err-run_program-clause-ends
returns-in-Err-run_program-clause-ends g c = inr (inl (record {
  program = c.in-Ok.program;
  loaded = c.in-Ok.ensures.loaded;
  ran = c.in-Err-run_program.ensures.partly;
}))
