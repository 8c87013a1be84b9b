-- What the processor chooses for an op, over gates.
use Rattle.std.specs.Prelude.{◌≡◌, ◌≤◌, ◌&&◌, if◌then◌else◌, ℕ, Bool}
use Rattle.circuit.specs.Prelude.{lit_truth, lit_reach, word_value, word_reach_below}
use Rattle.ia_codec.specs.Prelude.{Flags, HostValues}
use Rattle.row_runs.specs.Bodies.{Pick}
use Rattle.row_circuits.specs.declared.choices.Leaves.{Leaves}
use Rattle.row_circuits.specs.declared.choices.Choice.{Choice}

-- the gates show what is picked
pub record ShowsPick (w : ℕ → Bool) (choice : Choice) (pick : Pick) : Type 0 where
  pub value : word_value 32 choice.value w ≡ pick.value
  pub cf : lit_truth choice.cf w ≡ pick.flags.cf
  pub zf : lit_truth choice.zf w ≡ pick.flags.zf
  pub sf : lit_truth choice.sf w ≡ pick.flags.sf
  pub of : lit_truth choice.of w ≡ pick.flags.of

pub record ChoiceOwned (extent : ℕ) (choice : Choice) : Type 0 where
  pub value : word_reach_below 32 choice.value ≤ extent
  pub cf : lit_reach choice.cf ≤ extent
  pub zf : lit_reach choice.zf ≤ extent
  pub sf : lit_reach choice.sf ≤ extent
  pub of : lit_reach choice.of ≤ extent

-- of the flags those that may be left undefined, the others being false
abbrev pub left_flags : Leaves → Flags → Flags
left_flags l f = record { cf = l.cf && f.cf; zf = l.zf && f.zf; sf = l.sf && f.sf; of = l.of && f.of }

abbrev pub left_value : Leaves → ℕ → ℕ
left_value l n = if l.value then n else 0

-- what is picked of what may be left undefined
abbrev pub left_pick : Leaves → Pick → Pick
left_pick l pick = record { value = left_value l pick.value; flags = left_flags l pick.flags }

abbrev pub left_values : Leaves → HostValues → HostValues
left_values l v = record v { free = left_value l v.free; free_flags = left_flags l v.free_flags }
