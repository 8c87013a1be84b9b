-- Lines of the grammar are lines over places. This project's own.
use Rattle.std.proofs.Common.{◌≡◌, ℕ, ◌-◌, ◌/◌, ◌^◌, ◌<◌, ◌≤◌, inl, inr, Bool, true, false, if◌then◌else◌, nat_lt, List, [], ◌∷◌, length, map as list_map, get_or, Option, Some, None, refl, sym, subst, arith}
use Rattle.std.specs.List.{All, AllByRecursion}
use Rattle.std.proofs.lemmas.Bool.Decides.{nat_tests}
use Rattle.std.proofs.lemmas.List.Elements.{All-nil, All-cons}
use Rattle.std.proofs.lemmas.Option.{slice_get_within}
use Rattle.machines.specs.Prelude.{Operand, Reg, Abs, Base, Pair, Op}
use Rattle.rule_body.specs.declared.goal.Goal.{Goal}
use Rattle.rule_body.specs.declared.body.Body.{Body}
use Rattle.rule_body.specs.Goals.{guests}
use Rattle.rule_body.specs.declared.line.Hole.{Hole}
use Rattle.rule_body.specs.declared.line.HostLine.{HostLine}
use Rattle.rule_body.specs.Prelude.{IsGoal, IsBody, IsHome, IsHostLine, IsHoleFor, lines_of, parts, guests_of, template_of, slot_count}
use Rattle.rule_body.specs.Templates.{HasConstant}
use Rattle.rule_body.proofs.Lists.{all-at}
use Rattle.rule_soundness.specs.Prelude.{OpsLeaveAtMost}
use Rattle.rule_soundness.specs.Shapes.{Source as Reads, Zero, OperandValue, OwnNumber, CountByte, AddressValue, Destination, Nowhere, ToOperand, ToByte, ToBoth, ToHigh}
use Rattle.place_circuits.specs.declared.sources.Source.TheVariants.{Lowest, Bytes}
use Rattle.place_circuits.specs.declared.results.Results.TheVariants.{Lowest as IntoLowest, Bytes as IntoBytes}
use Rattle.place_circuits.specs.Numbers.{IsNumber}
use Rattle.place_circuits.specs.Sources.{IsWidth, IsAddress, IsSource}
use Rattle.place_circuits.specs.Results.{AreResults}
use Rattle.row_circuits.specs.Bodies.{IsOperand, IsBodyLine}
use Rattle.rule_lines.specs.Lines.{register_place, has_number, immediate_hole, displacement_hole, number_for, address_for, home_source, home_results, source_for, second_for, results_for, line_for, lines_for, IsPlaced, HasPlace, IsPlacedSource, IsPlacedDestination, IsPlacedLine}
use Rattle.rule_lines.proofs.Registers.{IsNamed, place_low}
use Rattle.rule_lines.proofs.Fits.{Fits, FitsSum, FitsSource, FitsDestination, FitsOp, op_fits}
use Rattle.rule_lines.proofs.Whole.{few_taken}

is_low : (o : ℕ) → o < 128 → nat_lt o 128 ≡ true
is_low o lt = grind (arith, nat_tests)

is_high : (o : ℕ) → 128 ≤ o → nat_lt o 128 ≡ false
is_high o le = grind (arith, nat_tests)

place_where : (b : Bool) (hole : Option (Hole × ℕ)) → HasPlace hole → HasPlace (if b then hole else None)
place_where true hole is = is
place_where false hole is = tt

place_unless : (b c : Bool) (hole : Option (Hole × ℕ)) → HasPlace hole → HasPlace (if b then None else if c then hole else None)
place_unless true c hole is = tt
place_unless false c hole is = place_where c hole is

number_is : (hole : Option (Hole × ℕ)) (n : ℕ) → HasPlace hole → n < 2 ^ 32 → IsNumber (number_for hole n)
number_is None n is lt = lt
number_is (Some hole) n is lt = omega (arith, is)

module _ (slots : List Bool) (dead : ℕ) (few : length slots ≤ 6) (three : slot_count slots ≤ 3) where
  -- operands that fit have places
  operand_placed : (moves : Bool) (size : ℕ) (operand : Operand) → Fits slots dead moves size operand → IsPlaced slots size operand
  operand_placed moves size (Reg r) fits = tt
  operand_placed moves size (Abs o) fits = fits
  operand_placed moves size (Base b d) fits = tt
  operand_placed moves size (Pair b x s d) fits = tt

  source_placed : (moves : Bool) (op : Op) (s : Reads) → FitsSource slots dead moves op s → IsPlacedSource slots s
  source_placed moves op Zero fits = tt
  source_placed moves op (OperandValue size operand) fits = operand_placed moves size operand fits.1
  source_placed moves op OwnNumber fits = tt
  source_placed moves op CountByte fits = tt
  source_placed moves op (AddressValue operand) fits = tt

  destination_placed : (moves : Bool) (d : Destination) → FitsDestination slots dead moves d → IsPlacedDestination slots d
  destination_placed moves Nowhere fits = tt
  destination_placed moves (ToOperand size operand) fits = operand_placed moves size operand fits.1
  destination_placed moves (ToByte operand) fits = operand_placed moves 1 operand fits.0
  destination_placed moves ToBoth fits = tt
  destination_placed moves ToHigh fits = tt

  register_is : (r : ℕ) → IsNamed slots r → register_place slots r < 64
  register_is r is = let l = place_low slots r few three is in omega (arith, l)

  address_is : (hole : Option (Hole × ℕ)) (operand : Operand) → HasPlace hole → FitsSum slots dead operand → IsAddress (address_for slots hole operand)
  address_is hole (Reg r) is fits = absurd fits
  address_is hole (Abs o) is fits = absurd fits
  address_is hole (Base b d) is fits = record { base = register_is b fits.0; index = tt; displacement = number_is hole d is fits.1 }
  address_is hole (Pair b x s d) is fits = record { base = register_is b fits.0; index = (register_is x fits.1, fits.2); displacement = number_is hole d is fits.3 }

  home_source_is : (size o : ℕ) → IsWidth size → IsHome slots o size → IsSource (home_source size o)
  home_source_is size o is (inl w) =
      let g = slice_get_within slots w.0 false w.2 in
      let e = w.1 in
      subst (λ b. IsSource (if b then Lowest (o / 4 - 1) size else Bytes (o - 96) size)) (sym (is_low o (omega (arith, g, few, e)))) (omega (arith, g, few, e), is)
  home_source_is size o is (inr w) =
      let h = w.1 in
      subst (λ b. IsSource (if b then Lowest (o / 4 - 1) size else Bytes (o - 96) size)) (sym (is_high o w.0)) (record { width = is; room = omega (arith, h) })

  home_results_are : (size o : ℕ) → IsWidth size → IsHome slots o size → AreResults (home_results size o)
  home_results_are size o is (inl w) =
      let g = slice_get_within slots w.0 false w.2 in
      let e = w.1 in
      subst (λ b. AreResults (if b then IntoLowest (o / 4 - 1) size else IntoBytes (o - 96) size)) (sym (is_low o (omega (arith, g, few, e)))) (omega (arith, g, few, e), is)
  home_results_are size o is (inr w) =
      let h = w.1 in
      subst (λ b. AreResults (if b then IntoLowest (o / 4 - 1) size else IntoBytes (o - 96) size)) (sym (is_high o w.0)) (record { width = is; room = omega (arith, h) })

  module _ (line : HostLine) (now : HasPlace (immediate_hole line)) (at : HasPlace (displacement_hole line)) where
    source_is : (s : Reads) → FitsSource slots dead false line.op s → IsSource (source_for slots line s)
    source_is Zero fits = tt
    source_is (OperandValue size (Reg r)) fits = register_is r fits.1
    source_is (OperandValue size (Abs o)) fits = home_source_is size o fits.0 fits.1
    source_is (OperandValue size (Base b d)) fits = tt
    source_is (OperandValue size (Pair b x s d)) fits = tt
    source_is OwnNumber fits = number_is (immediate_hole line) _ now fits
    source_is CountByte fits = (omega arith, inl refl)
    source_is (AddressValue operand) fits = address_is (displacement_hole line) operand at fits

    second_is : (moves : Bool) (s : Reads) → FitsSource slots dead moves line.op s → IsOperand (second_for slots line s)
    second_is moves Zero fits = tt
    second_is moves (OperandValue size (Reg r)) fits = register_is r fits.1
    second_is moves (OperandValue size (Abs o)) fits = home_source_is size o fits.0 fits.1
    second_is moves (OperandValue size (Base b d)) fits = address_is (displacement_hole line) (Base b d) at (fits.1.1, fits.1.2)
    second_is moves (OperandValue size (Pair b x s d)) fits = address_is (displacement_hole line) (Pair b x s d) at (fits.1.1, fits.1.2, fits.1.3, fits.1.4)
    second_is moves OwnNumber fits = source_is OwnNumber fits
    second_is moves CountByte fits = source_is CountByte tt
    second_is moves (AddressValue operand) fits = source_is (AddressValue operand) fits

    operand_results_are : (moves : Bool) (size : ℕ) (operand : Operand) → IsWidth size → Fits slots dead moves size operand → AreResults (results_for slots line (ToOperand size operand))
    operand_results_are moves size (Reg r) is fits = register_is r fits
    operand_results_are moves size (Abs o) is fits = home_results_are size o is fits
    operand_results_are moves size (Base b d) is fits = address_is (displacement_hole line) (Base b d) at (fits.1, fits.2)
    operand_results_are moves size (Pair b x s d) is fits = address_is (displacement_hole line) (Pair b x s d) at (fits.1, fits.2, fits.3, fits.4)

    results_are : (moves : Bool) (d : Destination) → FitsDestination slots dead moves d → AreResults (results_for slots line d)
    results_are moves Nowhere fits = tt
    results_are moves (ToOperand size operand) fits = operand_results_are moves size operand fits.0 fits.1
    results_are moves (ToByte (Reg r)) fits = (register_is r fits.0, inl refl)
    results_are moves (ToByte (Abs o)) fits = operand_results_are moves 1 (Abs o) (inl refl) fits.0
    results_are moves (ToByte (Base b d)) fits = operand_results_are moves 1 (Base b d) (inl refl) fits.0
    results_are moves (ToByte (Pair b x s d)) fits = operand_results_are moves 1 (Pair b x s d) (inl refl) fits.0
    results_are moves ToBoth fits = (omega arith, omega arith)
    results_are moves ToHigh fits = omega arith

hole_placed : (goal : Goal) (line : HostLine) (hole : Option (Hole × ℕ)) → ((j : ℕ) → HasConstant (guests_of goal) j → j < 3) → IsHoleFor (template_of goal) line.op hole → HasPlace hole
hole_placed goal line None few is = tt
hole_placed goal line (Some hole) few is = few hole.1 is.0

module _ (goal : Goal) (few : length (template_of goal).slots ≤ 6) (three : slot_count (template_of goal).slots ≤ 3) (words : (j : ℕ) → HasConstant (guests_of goal) j → j < 3) (line : HostLine) (is : IsHostLine (template_of goal) line) where
  abbrev here : List Bool
  here = (template_of goal).slots

  line_fits : FitsOp here goal.dead.bits line.op
  line_fits = op_fits here goal.dead.bits (template_of goal) refl refl line.op is.straight is.profile is.registers is.operand

  line_hole : HasPlace line.hole
  line_hole = hole_placed goal line line.hole words is.hole

  -- a line of the grammar has places
  pub line_placed : IsPlacedLine here line
  line_placed = record {
    x = source_placed here goal.dead.bits few three false line.op _ line_fits.x;
    y = source_placed here goal.dead.bits few three (parts line.op).moves line.op _ line_fits.y;
    to = destination_placed here goal.dead.bits few three (parts line.op).moves _ line_fits.to;
    hole = line_hole;
  }

  -- and is a line over places
  pub line_is : OpsLeaveAtMost → IsBodyLine (line_for here line)
  line_is leave =
      let now = place_where (has_number (parts line.op).immediate) line.hole line_hole in
      let at = place_unless (has_number (parts line.op).immediate) (parts line.op).moves line.hole line_hole in
      record {
        profile = is.profile;
        x = source_is here goal.dead.bits few three line now at _ line_fits.x;
        y = second_is here goal.dead.bits few three line now at (parts line.op).moves _ line_fits.y;
        results = results_are here goal.dead.bits few three line now at (parts line.op).moves _ line_fits.to;
        leaves = λ v. leave line.op v is.straight;
      }

-- the lines of a body
module _ (goal : Goal) (body : Body) (is_goal : IsGoal goal) (is_body : IsBody goal body) where
  abbrev lines_slots : List Bool
  lines_slots = (template_of goal).slots

  pub few_slots : length lines_slots ≤ 6
  few_slots = let l = few_taken goal.parameters goal.slots in let p = is_goal.tidy.parameters in omega (arith, l, p)

  words_few : (j : ℕ) → HasConstant (guests_of goal) j → j < 3
  words_few j h = let w = slice_get_within (guests_of goal) j h.0 h.1 in let l = few_taken goal.count (guests goal.words goal.free) in let c = is_goal.tidy.count in omega (arith, w, l, c)

  pub body_line_placed : (i : ℕ) (d : HostLine) → i < length (lines_of body) → IsPlacedLine lines_slots (get_or (lines_of body) i d)
  body_line_placed i d lt = line_placed goal few_slots is_goal.template.placed.few words_few _ (all-at (IsHostLine (template_of goal)) (lines_of body) i d is_body.lines.each lt)

  all_lines : OpsLeaveAtMost → (lines : List HostLine) → AllByRecursion (IsHostLine (template_of goal)) lines → All IsBodyLine (list_map (line_for lines_slots) lines)
  all_lines leave [] is = All-nil IsBodyLine
  all_lines leave (line ∷ lines) is = All-cons IsBodyLine (line_for lines_slots line) (list_map (line_for lines_slots) lines) (line_is goal few_slots is_goal.template.placed.few words_few line is.0 leave) (all_lines leave lines is.1)

  pub body_lines_are : OpsLeaveAtMost → All IsBodyLine (lines_for goal body)
  body_lines_are leave = all_lines leave (lines_of body) is_body.lines.each
