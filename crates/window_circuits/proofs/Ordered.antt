-- Inputs behind inputs.
use Rattle.std.proofs.Common.{◌≡◌, ℕ, zero, suc, ◌+◌, List, [], ◌∷◌, ◌++◌, length, refl, ◌∙◌, ap, arith, add-one, slice_index_or, length-append}
use Rattle.circuit.specs.declared.nodes.Node.{Node}
use Rattle.circuit.specs.declared.nodes.Node.TheVariants.{Input}
use Rattle.chosen_inputs.specs.Inputs.{with_inputs}
use Rattle.window_circuits.specs.Starts.{bits_before}

pub inputs_length : (n : ℕ) (ns : List Node) → length (with_inputs n ns) ≡ length ns + n
unfolding with_inputs
inputs_length zero ns = omega arith
inputs_length (suc n) ns = let before = inputs_length n ns in let long = length-append (with_inputs n ns) (Input (length (with_inputs n ns)) ∷ []) in omega (arith, before, long)

inputs_twice : (n m : ℕ) (ns : List Node) → with_inputs m (with_inputs n ns) ≡ with_inputs (n + m) ns
unfolding with_inputs
inputs_twice n zero ns = let e : n ≡ n + 0 = omega arith in ap (λ j. with_inputs j ns) e
inputs_twice n (suc m) ns = let e : suc (n + m) ≡ n + suc m = omega arith in ap (λ b. b ++ Input (length b) ∷ []) (inputs_twice n m ns) ∙ ap (λ j. with_inputs j ns) e

pub inputs_begin : (ns : List Node) (widths : List ℕ) → ns ≡ with_inputs (bits_before 0 widths) ns
unfolding with_inputs bits_before
inputs_begin ns widths = refl

bits_go_on : (i : ℕ) (widths : List ℕ) → bits_before i widths + slice_index_or widths i 0 ≡ bits_before (i + 1) widths
unfolding bits_before
bits_go_on i widths = rw add-one refl

pub inputs_go_on : (i : ℕ) (widths : List ℕ) (ns : List Node) → with_inputs (slice_index_or widths i 0) (with_inputs (bits_before i widths) ns) ≡ with_inputs (bits_before (i + 1) widths) ns
inputs_go_on i widths ns = inputs_twice (bits_before i widths) (slice_index_or widths i 0) ns ∙ ap (λ j. with_inputs j ns) (bits_go_on i widths)
