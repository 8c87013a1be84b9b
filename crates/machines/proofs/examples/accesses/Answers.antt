use Rattle.machines.proofs.AccessSmall.{word_is_loaded, frame_is_pushed, many_are_moved, nothing_is_loaded, no_code_is_stored}
use Rattle.machines.proofs.examples.accesses.Goals as goal

pub returns : goal.returns
returns c = record {
  loads = word_is_loaded;
  updates = frame_is_pushed;
  moves_many = many_are_moved;
  loads_nothing = nothing_is_loaded;
  stores_no_code = no_code_is_stored;
}
