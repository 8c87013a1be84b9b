-- The terms of a window's rows.
use Rattle.std.specs.Prelude.{ℕ, ◌==◌, if◌then◌else◌, true, false, List, [], ◌∷◌, ◌++◌, Option, Some, None}
use Rattle.word_kit.specs.Prelude.{Operations}
use Rattle.circuit.specs.declared.literals.Lit.{Lit}
use Rattle.circuit.specs.declared.nodes.Node.{Node}
use Rattle.ppc_parts.specs.Prelude.{RowMade}
use Rattle.ppc_parts.specs.declared.given.Access.{Access}
use Rattle.ppc_parts.specs.declared.given.Access.TheVariants.{None as NoAccess, Load, Store}
use Rattle.ppc_parts.specs.declared.given.Effect.{Effect}
use Rattle.ppc_parts.specs.declared.given.GuestIn.{GuestIn}
use Rattle.ppc_alu.specs.RowTerms.{row_term as instruction_term}
use Rattle.access_circuits.specs.Terms.{big_term}
use Rattle.access_circuits.specs.declared.accesses.AccessWords.{AccessWords}
use Rattle.place_circuits.specs.Terms.{place_at, put_term, source_term, lowest_term}
use Rattle.place_circuits.specs.declared.places.Places.{Places}
use Rattle.row_circuits.specs.Windows.{cr_place, xer_place, lr_place, ctr_place}
use Rattle.row_circuits.specs.declared.rows.WindowRow.{WindowRow}
use Rattle.row_circuits.specs.declared.rows.WindowCircuit.{WindowCircuit}

-- where a window stands, and what the gates hold then
pub record WindowMade : Type 0 where
  pub places : Places
  pub accesses : List AccessWords
  pub taken : Lit
  pub held : List Node

abbrev pub window_made : WindowCircuit → List Node → WindowMade
window_made window h = record { places = window.places; accesses = window.accesses.items; taken = window.taken; held = h }

abbrev pub target_term : Option ℕ → List Lit → Places → Places
target_term None x places = places
target_term (Some p) x places = put_term p x places

pub record ValuesMade (A : Type 0) : Type 0 where
  pub values : GuestIn A (List Lit) Lit
  pub held : List Node

-- what a load of so many bytes finds
abbrev pub loaded_term : Operations (List Lit) Lit (List Node) → List (List Lit) → ℕ → List Lit
loaded_term ops bytes width = if width == 0 then ops.lit_of 0 else big_term ops bytes width

module _ {A : Type 0} where
  abbrev pub effect_put_term : WindowRow → Effect A (List Lit) Lit → Places → Places
  effect_put_term row e places = put_term ctr_place e.ctr (put_term lr_place e.lr (put_term xer_place e.xer (put_term cr_place e.cr (target_term row.a_to e.a (target_term row.d_to e.d places)))))

  module _ (ops : Operations (List Lit) Lit (List Node)) where
    -- rA, rB or the immediate, and rS, in this order
    abbrev pub values_term : WindowRow → List Lit → Places → List Node → ValuesMade A
    values_term row loaded places h =
        let a = source_term ops row.a places h in
        let b = source_term ops row.b places a.held in
        let s = source_term ops row.s places b.held in
        record {
          values = record { a = a.word; b = b.word; s = s.word; cr = place_at places cr_place; xer = place_at places xer_place; lr = place_at places lr_place; ctr = place_at places ctr_place; loaded = loaded };
          held = s.held;
        }

    abbrev pub effect_term : WindowRow → List (List Lit) → Places → List Node → RowMade A (List Lit) Lit (List Node)
    effect_term row bytes places h =
        let from = values_term row (loaded_term ops bytes row.width) places h in
        instruction_term ops row.instr from.held from.values

    -- the access that an effect has, if any
    abbrev pub accesses_term : Access → Effect A (List Lit) Lit → List AccessWords
    accesses_term NoAccess e = []
    accesses_term Load e = record { loads = true; width = e.width; address = e.address; stored = ops.lit_of 0 } ∷ []
    accesses_term Store e = record { loads = false; width = e.width; address = e.address; stored = lowest_term ops e.stored e.width } ∷ []

module _ (A : Type 0) (ops : Operations (List Lit) Lit (List Node)) where
  -- where a window stands behind a row that makes this
  abbrev pub row_end : WindowRow → WindowMade → RowMade A (List Lit) Lit (List Node) → WindowMade
  row_end row window made = record {
    places = effect_put_term row made.effect window.places;
    accesses = window.accesses ++ accesses_term ops made.effect.kind made.effect;
    taken = made.effect.taken;
    held = made.held;
  }

  unfoldable pub row_made : WindowRow → List (List Lit) → WindowMade → WindowMade
  row_made row bytes window = row_end row window (effect_term ops row bytes window.places window.held)
