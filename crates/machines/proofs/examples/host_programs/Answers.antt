use Rattle.machines.proofs.HostSmall.{host_exits, host_unknowns, host_branches, host_falls_through, host_remembers, host_writes_no_code, host_traps, host_ud2s, host_has_nothing, host_runs_off}
use Rattle.machines.proofs.examples.host_programs.Goals as goal

pub returns : goal.returns
returns c = record {
  exits = host_exits;
  unknown = host_unknowns;
  branches = host_branches;
  falls_through = host_falls_through;
  remembers = host_remembers;
  writes_no_code = host_writes_no_code;
  traps = host_traps;
  ud2 = host_ud2s;
  nothing = host_has_nothing;
  runs_off = host_runs_off;
}
