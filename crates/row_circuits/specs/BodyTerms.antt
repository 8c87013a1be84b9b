-- The terms of a body's lines.
use Rattle.std.specs.Prelude.{true, false, List, [], ◌∷◌, ◌++◌}
use Rattle.word_kit.specs.Prelude.{Operations, WordMade, FlagMade}
use Rattle.circuit.specs.declared.literals.Lit.{Lit}
use Rattle.circuit.specs.declared.nodes.Node.{Node}
use Rattle.ia_codec.specs.declared.op.Op.{Op}
use Rattle.ia_alu.specs.Terms.{RowMade, row_term as op_term}
use Rattle.ia_alu.specs.declared.given.HostIn.{HostIn}
use Rattle.access_circuits.specs.Terms.{big_term, little_term, bytes_term}
use Rattle.access_circuits.specs.declared.accesses.AccessWords.{AccessWords}
use Rattle.place_circuits.specs.Terms.{place_at, source_term, address_term, results_term}
use Rattle.place_circuits.specs.declared.places.Places.{Places}
use Rattle.place_circuits.specs.declared.results.Results.{Results}
use Rattle.place_circuits.specs.declared.results.Results.TheVariants.{Nowhere, Into, Lowest, Bytes, Both, High, Store}
use Rattle.row_circuits.specs.Bodies.{edx_place}
use Rattle.row_circuits.specs.ChoiceTerms.{ChoiceMade, choice_term}
use Rattle.row_circuits.specs.declared.choices.Choice.{Choice}
use Rattle.row_circuits.specs.declared.lines.Operand.{Operand}
use Rattle.row_circuits.specs.declared.lines.Operand.TheVariants.{Own, Loaded}
use Rattle.row_circuits.specs.declared.lines.BodyLine.{BodyLine}
use Rattle.row_circuits.specs.declared.lines.BodyCircuit.{BodyCircuit}

-- where a body stands, and what the gates hold then
pub record BodyMade : Type 0 where
  pub places : Places
  pub cf : Lit
  pub zf : Lit
  pub sf : Lit
  pub of : Lit
  pub accesses : List AccessWords
  pub held : List Node

abbrev pub body_made : BodyCircuit → List Node → BodyMade
body_made body h = record { places = body.places; cf = body.cf; zf = body.zf; sf = body.sf; of = body.of; accesses = body.accesses.items; held = h }

-- a word that is read, and the accesses behind that
pub record ReadMade : Type 0 where
  pub word : List Lit
  pub accesses : List AccessWords
  pub held : List Node

pub record AccessesMade : Type 0 where
  pub accesses : List AccessWords
  pub held : List Node

module _ (ops : Operations (List Lit) Lit (List Node)) where
  abbrev pub operand_term : Operand → List (List Lit) → Places → List AccessWords → List Node → ReadMade
  operand_term (Own source) bytes places accesses h =
      let read = source_term ops source places h in
      record { word = read.word; accesses = accesses; held = read.held }
  operand_term (Loaded from width) bytes places accesses h =
      let at = address_term ops from places h in
      record {
        word = little_term ops bytes width;
        accesses = accesses ++ record { loads = true; width = width; address = at.word; stored = ops.lit_of 0 } ∷ [];
        held = at.held;
      }

  -- a result that is stored: its lowest bytes, as the number whose highest byte comes first
  abbrev pub stored_term : Results → List Lit → Places → List AccessWords → List Node → AccessesMade
  stored_term (Store to width) x places accesses h =
      let at = address_term ops to places h in
      record { accesses = accesses ++ record { loads = false; width = width; address = at.word; stored = big_term ops (bytes_term ops x) width } ∷ []; held = at.held }
  stored_term Nowhere x places accesses h = record { accesses = accesses; held = h }
  stored_term (Into p) x places accesses h = record { accesses = accesses; held = h }
  stored_term (Lowest p width) x places accesses h = record { accesses = accesses; held = h }
  stored_term (Bytes first width) x places accesses h = record { accesses = accesses; held = h }
  stored_term (Both p q) x places accesses h = record { accesses = accesses; held = h }
  stored_term (High q) x places accesses h = record { accesses = accesses; held = h }

module _ (A : Type 0) (ops : Operations (List Lit) Lit (List Node)) where
  abbrev pub op_reads : List Lit → List Lit → Choice → BodyMade → HostIn A (List Lit) Lit
  op_reads x y choice body = record {
    x = x;
    y = y;
    high = place_at body.places edx_place;
    cf = body.cf;
    zf = body.zf;
    sf = body.sf;
    of = body.of;
    free = choice.value;
    free_cf = choice.cf;
    free_zf = choice.zf;
    free_sf = choice.sf;
    free_of = choice.of;
  }

  -- where a body stands behind a line whose op makes this: the address of what it stores comes last
  abbrev pub line_end : BodyLine → BodyMade → List AccessWords → RowMade A (List Lit) Lit (List Node) → BodyMade
  line_end line body accesses made =
      let stored = stored_term ops line.results made.effect.result body.places accesses made.held in
      record {
        places = results_term ops line.results made.effect.result made.effect.high body.places;
        cf = made.effect.cf;
        zf = made.effect.zf;
        sf = made.effect.sf;
        of = made.effect.of;
        accesses = stored.accesses;
        held = stored.held;
      }

  -- before that, new inputs for what it may leave undefined, and its op
  abbrev pub line_chosen : BodyLine → BodyMade → List Lit → ReadMade → ChoiceMade → BodyMade
  line_chosen line body x y chosen = line_end line body y.accesses (op_term ops line.op chosen.held (op_reads x y.word chosen.choice body))

  abbrev pub line_read : BodyLine → BodyMade → List Lit → ReadMade → BodyMade
  line_read line body x y = line_chosen line body x y (choice_term ops line.leaves y.held)

  -- its operands come first
  abbrev pub line_begun : BodyLine → List (List Lit) → BodyMade → WordMade (List Lit) (List Node) → BodyMade
  line_begun line bytes body x = line_read line body x.word (operand_term ops line.y bytes body.places body.accesses x.held)

  unfoldable pub line_made : BodyLine → List (List Lit) → BodyMade → BodyMade
  line_made line bytes body = line_begun line bytes body (source_term ops line.x body.places body.held)

  -- the condition of an op over the flags that a body left; it reads nothing else
  abbrev pub flags_read : BodyMade → HostIn A (List Lit) Lit
  flags_read body = record {
    x = ops.lit_of 0;
    y = ops.lit_of 0;
    high = ops.lit_of 0;
    cf = body.cf;
    zf = body.zf;
    sf = body.sf;
    of = body.of;
    free = ops.lit_of 0;
    free_cf = ops.flag_of false;
    free_zf = ops.flag_of false;
    free_sf = ops.flag_of false;
    free_of = ops.flag_of false;
  }

  abbrev pub condition_term : Op → BodyMade → FlagMade Lit (List Node)
  condition_term op body =
      let made : RowMade A (List Lit) Lit (List Node) = op_term ops op body.held (flags_read body) in
      record { flag = made.effect.holds; held = made.held }
