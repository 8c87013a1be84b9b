use Rattle.liveness.specs.Prelude.{live_at}
use Rattle.code_layout.specs.Prelude.{no_registers, block_items}
use Rattle.code_layout.proofs.Tiles.{IsUnderWay}
use Rattle.code_layout.proofs.block_code.planned.Given as goal

abbrev pub invariant-loop-step : goal.invariant-loop-step
invariant-loop-step l = IsUnderWay (live_at l.live) l.words l.steps l.step-index l.place l.here l.map l.items.items (block_items (live_at l.live) l.at no_registers l.words l.steps)
