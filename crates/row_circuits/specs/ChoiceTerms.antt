-- The terms of what the processor chooses: new inputs for what an op may leave undefined.
use Rattle.std.specs.Prelude.{◌+◌, if◌then◌else◌, Bool, false, List, length, pos}
use Rattle.word_kit.specs.Prelude.{Operations, WordMade, FlagMade}
use Rattle.circuit.specs.declared.literals.Lit.{Lit}
use Rattle.circuit.specs.declared.literals.Lit.TheVariants.{Var}
use Rattle.circuit.specs.declared.nodes.Node.{Node}
use Rattle.chosen_inputs.specs.Inputs.{with_inputs, word_of_inputs}
use Rattle.row_circuits.specs.declared.choices.Leaves.{Leaves}
use Rattle.row_circuits.specs.declared.choices.Choice.{Choice}

pub record ChoiceMade : Type 0 where
  pub choice : Choice
  pub held : List Node

abbrev pub new_flag : List Node → FlagMade Lit (List Node)
new_flag h = record { flag = Var (pos (length h + 1)); held = with_inputs 1 h }

abbrev pub new_word : List Node → WordMade (List Lit) (List Node)
new_word h = record { word = word_of_inputs (length h) 32; held = with_inputs 32 h }

module _ (ops : Operations (List Lit) Lit (List Node)) where
  abbrev pub flag_where_term : Bool → List Node → FlagMade Lit (List Node)
  flag_where_term asked h = if asked then new_flag h else record { flag = ops.flag_of false; held = h }

  abbrev pub word_where_term : Bool → List Node → WordMade (List Lit) (List Node)
  word_where_term asked h = if asked then new_word h else record { word = ops.lit_of 0; held = h }

  -- the result's inputs come first, then those of CF, ZF, SF and OF
  abbrev pub choice_term : Leaves → List Node → ChoiceMade
  choice_term leaves h =
      let value = word_where_term leaves.value h in
      let cf = flag_where_term leaves.cf value.held in
      let zf = flag_where_term leaves.zf cf.held in
      let sf = flag_where_term leaves.sf zf.held in
      let of = flag_where_term leaves.of sf.held in
      record { choice = record { value = value.word; cf = cf.flag; zf = zf.flag; sf = sf.flag; of = of.flag }; held = of.held }
