-- The terms of a window and a body over new inputs, and of what is to be the same at their ends.
use Rattle.std.specs.Prelude.{◌≡◌, ℕ, zero, suc, ◌+◌, if◌then◌else◌, Bool, true, false, List, [], ◌∷◌, ◌++◌, length, slice_index_or, get_or, Option, Some, None}
use Rattle.word_kit.specs.Prelude.{Operations}
use Rattle.word_kit.specs.declared.formulas.Formula.{Formula}
use Rattle.circuit.specs.Prelude.{AreClausesFor, differences_made, final_clause}
use Rattle.circuit.specs.WordsMade.{WordsMade, gates_operations}
use Rattle.circuit.specs.declared.gates.Gates.{Gates}
use Rattle.circuit.specs.declared.literals.Lit.{Lit}
use Rattle.circuit.specs.declared.literals.Lit.TheVariants.{Const}
use Rattle.circuit.specs.declared.nodes.Node.{Node}
use Rattle.chosen_inputs.specs.Inputs.{with_inputs, word_of_inputs}
use Rattle.chosen_inputs.specs.Pairs.{bit_pairs}
use Rattle.ia_codec.specs.declared.op.Op.{Op}
use Rattle.access_circuits.specs.Terms.{have_same_shapes, access_pairs}
use Rattle.access_circuits.specs.declared.accesses.AccessWords.{AccessWords}
use Rattle.place_circuits.specs.Terms.{place_at, put_term, field_term}
use Rattle.place_circuits.specs.declared.fields.Field.{Field}
use Rattle.place_circuits.specs.declared.places.Places.{Places}
use Rattle.row_circuits.specs.BodyTerms.{BodyMade, line_made, condition_term}
use Rattle.row_circuits.specs.WindowTerms.{WindowMade, row_made}
use Rattle.row_circuits.specs.declared.rows.WindowRow.{WindowRow}
use Rattle.row_circuits.specs.declared.lines.BodyLine.{BodyLine}
use Rattle.window_circuits.specs.Rules.{no_end}
use Rattle.window_circuits.specs.Runs.{no_row, no_line}
use Rattle.window_circuits.specs.Starts.{bits_before, no_field}
use Rattle.window_circuits.specs.declared.pairs.End.{End}

pub record PlacesMade : Type 0 where
  pub places : Places
  pub held : List Node

-- the words of the places below n
unfoldable pub words_of : (ℕ → List Lit) → ℕ → List (List Lit)
words_of f zero = []
words_of f (suc n) = words_of f n ++ f n ∷ []

-- so many inputs of each place, place after place
abbrev pub input_word_at : List ℕ → List Node → ℕ → List Lit
input_word_at widths h k = word_of_inputs (length h + bits_before k widths) (slice_index_or widths k 0)

abbrev pub inputs_term : List ℕ → List Node → PlacesMade
inputs_term widths h = record { places = record { words = words_of (input_word_at widths h) 64 }; held = with_inputs (bits_before 64 widths) h }

-- the bytes that every load finds
abbrev pub start_bytes_term : Places → List (List Lit)
start_bytes_term inputs = place_at inputs 23 ∷ place_at inputs 24 ∷ place_at inputs 25 ∷ place_at inputs 26 ∷ []

module _ (ops : Operations (List Lit) Lit (List Node)) where
  -- XER has CA at bit 29, OV at 30 and SO at 31
  abbrev pub xer_term : Places → List Lit
  xer_term inputs = ops.put_bit_of (ops.put_bit_of (ops.put_bit_of (place_at inputs 7) 29 (ops.bit_of (place_at inputs 8) 0)) 30 (ops.bit_of (place_at inputs 9) 0)) 31 (ops.bit_of (place_at inputs 10) 0)

  abbrev pub window_start_term : Places → List Node → WindowMade
  window_start_term inputs h = record { places = put_term 7 (xer_term inputs) inputs; accesses = []; taken = ops.flag_of false; held = h }

  -- the inputs, and behind them the bytes of the first n homes
  unfoldable pub homes_term : ℕ → List Field → Places → List Node → PlacesMade
  homes_term zero homes inputs h = record { places = inputs; held = h }
  homes_term (suc n) homes inputs h =
      let before = homes_term n homes inputs h in
      let byte = field_term ops (get_or homes n no_field) inputs before.held in
      record { places = put_term (32 + n) byte.word before.places; held = byte.held }

  abbrev pub body_start_term : List Field → Places → List Node → BodyMade
  body_start_term homes inputs h =
      let places = homes_term 20 homes inputs h in
      record {
        places = places.places;
        cf = ops.bit_of (place_at inputs 16) 0;
        zf = ops.bit_of (place_at inputs 17) 0;
        sf = ops.bit_of (place_at inputs 18) 0;
        of = ops.bit_of (place_at inputs 19) 0;
        accesses = [];
        held = places.held;
      }

  -- the first n rows, each over what the one before left
  unfoldable pub rows_made : ℕ → List WindowRow → List (List Lit) → WindowMade → WindowMade
  rows_made zero rows bytes window = window
  rows_made (suc n) rows bytes window = row_made Gates ops (get_or rows n no_row) bytes (rows_made n rows bytes window)

  unfoldable pub lines_made : ℕ → List BodyLine → List (List Lit) → BodyMade → BodyMade
  lines_made zero lines bytes body = body
  lines_made (suc n) lines bytes body = line_made Gates ops (get_or lines n no_line) bytes (lines_made n lines bytes body)

pub record PairsMade : Type 0 where
  pub pairs : List (Lit × Lit)
  pub held : List Node

-- the pairs of the accesses, or one that differs under every assignment where they differ in number, way or width
abbrev pub accesses_paired : List AccessWords → List AccessWords → List (Lit × Lit)
accesses_paired xs ys = if have_same_shapes xs ys then access_pairs (length xs) xs ys else (Const true, Const false) ∷ []

module _ (ops : Operations (List Lit) Lit (List Node)) where
  -- the branch and its condition, where there is one
  abbrev pub taken_term : Option Op → Lit → BodyMade → List (Lit × Lit) → PairsMade
  taken_term None taken body pairs = record { pairs = pairs; held = body.held }
  taken_term (Some op) taken body pairs =
      let holds = condition_term Gates ops op body in
      record { pairs = pairs ++ (taken, holds.flag) ∷ []; held = holds.held }

  -- the bits of the first n ends, with the places of the body
  unfoldable pub ends_term : ℕ → List End → Places → Places → PairsMade → PairsMade
  ends_term zero ends window body made = made
  ends_term (suc n) ends window body made =
      let before = ends_term n ends window body made in
      let from = field_term ops (get_or ends n no_end).from window before.held in
      record { pairs = before.pairs ++ bit_pairs 32 from.word (place_at body (get_or ends n no_end).to); held = from.held }

  -- the pairs of the branch, of the accesses and of the ends, in this order
  unfoldable pub pairs_term : Option Op → List End → WindowMade → BodyMade → List (Lit × Lit) → PairsMade
  pairs_term take ends window body pairs =
      let taken = taken_term take window.taken body pairs in
      ends_term (length ends) ends window.places body.places (record { pairs = taken.pairs ++ accesses_paired window.accesses body.accesses; held = taken.held })

-- where a window and a body end, and what the gates hold then
pub record RunMade : Type 0 where
  pub window : WindowMade
  pub body : BodyMade

module _ (ops : Operations (List Lit) Lit (List Node)) where
  -- the window's rows and then the body's lines, over the same inputs
  unfoldable pub run_term : List WindowRow → List BodyLine → List ℕ → List Field → List Node → RunMade
  run_term rows lines widths homes h =
      let inputs = inputs_term widths h in
      let bytes = start_bytes_term inputs.places in
      let start = body_start_term ops homes inputs.places inputs.held in
      let window = rows_made ops (length rows) rows bytes (window_start_term ops inputs.places start.held) in
      let body = lines_made ops (length lines) lines bytes (record start { held = window.held }) in
      record { window = record window { held = body.held }; body = body }

-- The Xor of each pair of a rule, in order, and all gates: the inputs, those of the window's rows, of the body's lines and of the
-- branch's condition, and the Xors.
unfoldable pub rule_made : (Node → Node → Bool) → List WindowRow → List BodyLine → Option Op → List ℕ → List Field → List End → WordsMade
rule_made eq rows lines take widths homes ends =
    let run = run_term (gates_operations eq) rows lines widths homes [] in
    let made = pairs_term (gates_operations eq) take ends run.window run.body [] in
    differences_made eq made.held made.pairs

-- The formula of these gates: the clauses of every gate that the final clause reaches, and that clause, over as many variables as
-- there are.
pub record IsFormulaOf (made : WordsMade) (f : Formula) : Type 0 where
  pub variables : f.variables ≡ length made.held
  pub clauses : AreClausesFor made.held (final_clause made.word) f.clauses
