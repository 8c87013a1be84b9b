-- A body of a rule does on the host what its lines do over numbers. This project's own.
use Rattle.std.specs.Prelude.{◌≡◌, ◌<◌, ◌≤◌, ◌+◌, ◌%◌, ◌^◌, ◌⊎◌, ℕ, true, List, [], length, Contains}
use Rattle.std.specs.List.{All, flat_map}
use Rattle.machines.specs.Prelude.{Rights, Choice, Core}
use Rattle.symbolic_tiles.specs.Prelude.{span, IsCore}
use Rattle.rule_body.specs.declared.goal.Goal.{Goal}
use Rattle.rule_body.specs.declared.body.Body.{Body}
use Rattle.rule_body.specs.Prelude.{IsGoal, IsBody}
use Rattle.rule_soundness.specs.Prelude.{Match}
use Rattle.row_runs.specs.Accesses.{Accessed}
use Rattle.row_runs.specs.Bodies.{BodyRun, host_steps}
use Rattle.window_circuits.specs.Runs.{line_at}
use Rattle.rule_places.specs.Accesses.{AreInside}
use Rattle.rule_places.specs.Hosts.{ShowsHost, HostRan, picks_of}
use Rattle.rule_lines.specs.Lines.{lines_for}

-- a home page that the host may read and write
pub record IsPage (area : ℕ) (host : Rights) : Type 0 where
  pub low : area + 4096 ≤ 2 ^ 32
  pub held : (i : ℕ) → i < 4096 → host.held (area + i) ≡ true
  pub writable : (i : ℕ) → i < 4096 → host.writable (area + i) ≡ true

-- the addresses of an access
abbrev pub span_of : Accessed → List ℕ
span_of x = span x.width x.address

-- There is one access at most, it lies outside the home page and may be made, and what a load is answered with is what memory has.
pub record AreAnswered (area : ℕ) (host : Rights) (oracle : ℕ → ℕ → ℕ) (bytes : ℕ → ℕ) (accesses : List Accessed) : Type 0 where
  pub few : length accesses ≤ 1
  pub far : (a : ℕ) → Contains (flat_map span_of accesses) a → (a < area) ⊎ (area + 4096 ≤ a)
  pub inside : AreInside host.held host.writable accesses
  pub finds : All (λ x. x.loads ≡ true → (k : ℕ) → k < x.width → oracle x.address k ≡ bytes ((x.address + k) % 2 ^ 32)) accesses

-- where the lines of a body lead from a run
abbrev pub lines_run : Goal → Body → (ℕ → ℕ → ℕ) → List Choice → BodyRun → BodyRun
lines_run goal body oracle choices start = host_steps (length (lines_for goal body)) oracle (line_at (lines_for goal body)) (picks_of choices) start

-- For each goal and body, from each core that a run without accesses shows, the ops do what the lines do over an oracle that
-- answers as memory does.
abbrev pub BodiesRun : Type 0
BodiesRun =
    (goal : Goal) (body : Body) (m : Match) (area : ℕ) (host : Rights) (oracle : ℕ → ℕ → ℕ) (choices : List Choice) (core : Core) (start : BodyRun) →
    IsGoal goal → IsBody goal body → ((j : ℕ) → m.constant j < 2 ^ 16) → IsPage area host → IsCore core → ShowsHost goal m area core start → start.accesses ≡ [] →
    AreAnswered area host oracle core.bytes (lines_run goal body oracle choices start).accesses →
    (after : Core) × HostRan goal body m area host choices core after (lines_run goal body oracle choices start)
