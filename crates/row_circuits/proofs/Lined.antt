-- What a line makes, from what its parts make.
use Rattle.std.proofs.Common.{◌≡◌, List, ◌∙◌, ap}
use Rattle.word_kit.specs.Prelude.{Operations, WordMade}
use Rattle.circuit.specs.declared.literals.Lit.{Lit}
use Rattle.circuit.specs.declared.nodes.Node.{Node}
use Rattle.ia_alu.specs.Terms.{RowMade, row_term as op_term}
use Rattle.place_circuits.specs.Terms.{source_term, results_term}
use Rattle.place_circuits.specs.declared.places.Places.{Places}
use Rattle.row_circuits.specs.ChoiceTerms.{ChoiceMade, choice_term}
use Rattle.row_circuits.specs.BodyTerms.{BodyMade, ReadMade, AccessesMade, operand_term, stored_term, op_reads, line_end, line_chosen, line_read, line_begun, line_made}
use Rattle.row_circuits.specs.declared.lines.BodyLine.{BodyLine}

module _ (A : Type 0) (ops : Operations (List Lit) Lit (List Node)) where
  abbrev ended : Places → RowMade A (List Lit) Lit (List Node) → AccessesMade → BodyMade
  ended places made stored = record { places = places; cf = made.effect.cf; zf = made.effect.zf; sf = made.effect.sf; of = made.effect.of; accesses = stored.accesses; held = stored.held }

  pub line_makes : (line : BodyLine) (bytes : List (List Lit)) (body : BodyMade) (x : WordMade (List Lit) (List Node)) (y : ReadMade) (chosen : ChoiceMade) (made : RowMade A (List Lit) Lit (List Node)) (stored : AccessesMade) (places : Places)
      → x ≡ source_term ops line.x body.places body.held
      → y ≡ operand_term ops line.y bytes body.places body.accesses x.held
      → chosen ≡ choice_term ops line.leaves y.held
      → made ≡ op_term ops line.op chosen.held (op_reads A ops x.word y.word chosen.choice body)
      → stored ≡ stored_term ops line.results made.effect.result body.places y.accesses made.held
      → places ≡ results_term ops line.results made.effect.result made.effect.high body.places
      → ended places made stored ≡ line_made A ops line bytes body
  unfolding line_made
  line_makes line bytes body x y chosen made stored places p q r s t u =
      ap (λ (z : Places). ended z made stored) u
      ∙ ap (λ (z : AccessesMade). ended (results_term ops line.results made.effect.result made.effect.high body.places) made z) t
      ∙ ap (line_end A ops line body y.accesses) s
      ∙ ap (line_chosen A ops line body x.word y) r
      ∙ ap (line_read A ops line body x.word) q
      ∙ ap (line_begun A ops line bytes body) p
