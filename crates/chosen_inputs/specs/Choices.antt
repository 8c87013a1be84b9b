-- Truths that are chosen for inputs as they come.
use Rattle.std.specs.Prelude.{◌≡◌, ◌≤◌, ◌<◌, ◌+◌, false, ℕ, Bool, List, length}
use Rattle.std.proofs.Common.{refl, ◌∙◌, arith}
use Rattle.std.proofs.lemmas.Option.{slice_get_within}
use Rattle.circuit.specs.Prelude.{AllAgree, IsInput, Extends}
use Rattle.circuit.specs.declared.nodes.Node.{Node}
use Rattle.circuit.specs.declared.nodes.Node.TheVariants.{Input}

-- u has the truths of v up to a variable
pub record IsSameUpTo (m : ℕ) (v u : ℕ → Bool) : Type 0 where
  pub same : (k : ℕ) → k ≤ m → u k ≡ v k

-- w has the truths of u for the inputs
pub record HasInputs (ns : List Node) (u w : ℕ → Bool) : Type 0 where
  pub has : (k : ℕ) → IsInput ns k → w (k + 1) ≡ u (k + 1)

-- Whatever truths the earlier variables have, truths of the new inputs can be chosen such that P holds of each assignment that
-- has them for its inputs.
unfoldable pub CanChoose : List Node → List Node → ((ℕ → Bool) → Type 0) → Type 0
CanChoose old new P = (v : ℕ → Bool) → (u : ℕ → Bool) × IsSameUpTo (length old) v u × ((w : ℕ → Bool) → HasInputs new u w → P w)

input_within : (ns : List Node) (k : ℕ) → IsInput ns k → k < length ns
unfolding IsInput
input_within ns k h = slice_get_within ns k (Input k) h

-- one choice after another
pub both : (a b c : List Node) (P Q : (ℕ → Bool) → Type 0) → length a ≤ length b → ((k : ℕ) → IsInput b k → IsInput c k) → CanChoose a b P → CanChoose b c Q → CanChoose a c (λ w. P w × Q w)
unfolding CanChoose
both a b c P Q grows keeps p q v =
    let first = p v in
    let second = q first.0 in (
      second.0,
      record { same = λ k l. second.1.same k (omega arith) ∙ first.1.same k l },
      λ w h. (first.2 w (record { has = λ k i. h.has k (keeps k i) ∙ second.1.same (k + 1) (let l = input_within b k i in omega (arith, l)) }), second.2 w h),
    )

-- a choice stands where the inputs stay inputs
pub later : (a b c : List Node) (P : (ℕ → Bool) → Type 0) → ((k : ℕ) → IsInput b k → IsInput c k) → CanChoose a b P → CanChoose a c P
unfolding CanChoose
later a b c P keeps p v = let chosen = p v in (chosen.0, chosen.1, λ w h. chosen.2 w (record { has = λ k i. h.has k (keeps k i) }))

-- a choice behind a circuit is one behind an earlier circuit
pub chosen_behind : (a b c : List Node) (P : (ℕ → Bool) → Type 0) → length a ≤ length b → CanChoose b c P → CanChoose a c P
unfolding CanChoose
chosen_behind a b c P grows p v = let chosen = p v in (chosen.0, record { same = λ k l. chosen.1.same k (omega arith) }, chosen.2)

-- what is chosen for P is chosen for what follows from it
pub chosen_map : (a b : List Node) (P Q : (ℕ → Bool) → Type 0) → ((w : ℕ → Bool) → P w → Q w) → CanChoose a b P → CanChoose a b Q
unfolding CanChoose
chosen_map a b P Q f p v = let chosen = p v in (chosen.0, chosen.1, λ w h. f w (chosen.2 w h))

-- what holds of every assignment needs no choice
pub chosen_none_at : (a b : List Node) (P : (ℕ → Bool) → Type 0) → b ≡ a → ((w : ℕ → Bool) → P w) → CanChoose a b P
unfolding CanChoose
chosen_none_at a b P same f v = (v, record { same = λ k l. refl }, λ w h. f w)

-- where the inputs extend to assignments that fit, what can be chosen holds of one that fits
pub chosen_fits : (old new : List Node) (P : (ℕ → Bool) → Type 0) → ((v : ℕ → Bool) → (w : ℕ → Bool) × Extends new v w) → CanChoose old new P → (w : ℕ → Bool) × AllAgree new w × P w
unfolding CanChoose IsInput
chosen_fits old new P extends p =
    let chosen = p (λ n. false) in
    let fitting = extends chosen.0 in
    (fitting.0, fitting.1.agrees, chosen.2 fitting.0 (record { has = λ k i. fitting.1.inputs k k i }))
