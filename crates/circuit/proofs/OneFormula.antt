-- What a final clause reaches tells the clauses.
use Rattle.std.proofs.Common.{◌≡◌, ℕ, ◌+◌, ◌<◌, ◌^◌, Bool, true, false, List, [], ◌∷◌, ◌++◌, Option, None, Some, refl, sym, ◌∙◌, ap, subst, arith, length, ℤ}
use Rattle.std.proofs.lemmas.Option.{slice_get_within}
use Rattle.circuit.specs.Prelude.{IsOrdered, GateSays, chosen_clauses, AreClausesFor, is_gate, SatisfiesGates, Node, Input, And, Xor, Free}
use Rattle.circuit.proofs.Extended.{gate_truth, extended, extended_input, gates_extend}
use Rattle.circuit.proofs.GateTruths.{clauses_from_gate, chosen_in}
use Rattle.circuit.proofs.Differing.{gate_says}

agree : (a b : Bool) → (a ≡ true → b ≡ true) → (b ≡ true → a ≡ true) → a ≡ b
agree true b f g = sym (f refl)
agree false true f g = g refl
agree false false f g = refl

chosen_alike : (f g : ℕ → Bool) → ((k : ℕ) → f k ≡ g k) → (v : ℕ) (ns : List Node) → chosen_clauses f v ns ≡ chosen_clauses g v ns
unfolding chosen_clauses
chosen_alike f g h v [] = refl
chosen_alike f g h v (n ∷ ns) = let a = chosen_alike f g h (v + 1) ns in rw (h v, a) refl

pub one_list : (ns : List Node) (last : Option (List ℤ)) (cs ds : List (List ℤ)) → AreClausesFor ns last cs → AreClausesFor ns last ds → cs ≡ ds
one_list ns None cs ds a b = a ∙ sym b
one_list ns (Some final) cs ds a b =
    let same : (k : ℕ) → a.0 k ≡ b.0 k = λ k. agree (a.0 k) (b.0 k) (λ e. (b.1 k).1 ((a.1 k).0 e)) (λ e. (a.1 k).1 ((b.1 k).0 e)) in
    a.2 ∙ ap (λ l. l ++ final ∷ []) (chosen_alike a.0 b.0 same 1 ns) ∙ sym b.2

keeps_own : (n : Node) → is_gate n ≡ false → (b : Bool) (u : ℕ → Bool) → gate_truth n b u ≡ b
keeps_own (Input i) h b u = refl
keeps_own (And x y) h b u = absurd cc
keeps_own (Xor x y) h b u = absurd cc
keeps_own (Free f place) h b u = refl

pub satisfies_gates : (ns : List Node) (v : ℕ → Bool) → IsOrdered ns → length ns < 2 ^ 31 → SatisfiesGates ns v (extended gate_truth 0 ns v)
satisfies_gates ns v o small =
    let w = extended gate_truth 0 ns v in
    record {
      satisfies = chosen_in w (λ k. true) 1 ns (λ j n e c. let y : j + 1 ≡ 1 + j = omega arith in let a = o.reads j n e in let l = slice_get_within ns j n e in
          clauses_from_gate n (1 + j) w (omega arith) (omega (arith, a, l, small)) (subst (λ k. GateSays n (w k) w) y (gate_says ns w (gates_extend ns v o) j n e)));
      untied = λ k n e g. let z : 0 + k + 1 ≡ k + 1 = omega arith in subst (λ i. w i ≡ v i) z (extended_input gate_truth 0 ns v k n (keeps_own n g) e);
    }
