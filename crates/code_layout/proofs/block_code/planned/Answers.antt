use Rattle.std.proofs.Common.{refl, rules}
use Rattle.liveness.specs.Prelude.{live_at}
use Rattle.code_layout.proofs.BuiltWords.{is_map}
use Rattle.code_layout.proofs.Tiles.{possible, move_more, ending_last, tile_more, edge_last}
use Rattle.code_layout.proofs.block_code.planned.Goals as goal
use Rattle.code_layout.proofs.block_code.planned.Goals.{in-Go+in_ok-put_move-in-Go, in-Lay+in_ok-put_tile-in-Lay+else-is_ending}

pub loop-step-init : goal.loop-step-init
loop-step-init c = rw (c.new-items.ensures.items) (record { so = refl; moves = 6; lays = c.requires.plan; is_map = is_map })

pub put_move-requires-clause-possible : goal.put_move-requires-clause-possible
put_move-requires-clause-possible c =
    possible (live_at c.args.live.now) c.args.words.now c.args.steps.now c.loop-step.step-index c.loop-step.place c.loop-step.here c.loop-step.map c.loop-step.items.items _ c.loop-step.invariant _ c.in-Go.go c.loop-step-test.true c.in-Go.is

pub returns-then-is_ending : goal.returns-then-is_ending
returns-then-is_ending c =
    ending_last (live_at c.args.live.now) c.args.words.now c.args.steps.now c.loop-step.step-index c.loop-step.place c.loop-step.here c.loop-step.map c.loop-step.items.items _ c.loop-step.invariant _ c.in-Lay.field-0 c.loop-step-test.true c.in-Lay.is
    c.put_tile.new.items.items (search rules) c.in_ok-put_tile-in-Lay.ensures

pub loop-step-preserved : goal.loop-step-preserved
loop-step-preserved c = elim c.match-step.branch [
  | in-Go+in_ok-put_move-in-Go w ↦ rw (w.place-is, w.here-is, w.map-is, w.items-is) (
      move_more (live_at c.args.live.now) c.args.words.now c.args.steps.now c.loop-step.step-index c.loop-step.place c.loop-step.here c.loop-step.map c.loop-step.items.items _ c.loop-step.invariant _ w.in-Go.go c.loop-step-test.true w.in-Go.is
      w.map_behind-map.result w.live_before.result.bits w.put_move.new.items.items w.map_behind-map.ensures w.live_before.ensures w.in_ok-put_move-in-Go.ensures)
  | in-Lay+in_ok-put_tile-in-Lay+else-is_ending w ↦ rw (w.place-is, w.here-is, w.map-is, w.items-is) (
      tile_more (live_at c.args.live.now) c.args.words.now c.args.steps.now c.loop-step.step-index c.loop-step.place c.loop-step.here c.loop-step.map c.loop-step.items.items _ c.loop-step.invariant _ w.in-Lay.field-0 c.loop-step-test.true w.in-Lay.is
      w.next_address-here.result w.put_tile.new.items.items (λ ends. (search rules)) w.next_address-here.ensures w.in_ok-put_tile-in-Lay.ensures)
]

pub returns : goal.returns
returns c = edge_last (live_at c.args.live.now) c.args.words.now c.args.steps.now c.loop-step.step-index c.loop-step.place c.loop-step.here c.loop-step.map c.loop-step.items.items _ c.loop-step.invariant c.push.new.self.items c.loop-step-test.false c.in_ok-push.ensures.items
