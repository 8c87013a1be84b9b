-- Accesses that are paired one after another.
use Rattle.std.proofs.Common.{◌≡◌, ℕ, ◌+◌, ◌<◌, ◌≤◌, Bool, List, ◌++◌, length, refl, sym, ◌∙◌, ap, subst, add-one, get_or}
use Rattle.std.proofs.lemmas.List.{append_assoc, append-nil, get_or_default}
use Rattle.circuit.specs.Prelude.{word_value, word_reach_below}
use Rattle.circuit.specs.declared.literals.Lit.{Lit}
use Rattle.chosen_inputs.specs.Pairs.{bit_pairs}
use Rattle.row_runs.specs.Accesses.{Accessed}
use Rattle.access_circuits.specs.Lists.{no_access, no_words, AreAccesses, HaveSameShapes}
use Rattle.access_circuits.specs.Terms.{byte_pairs, access_pairs, pairs_of_access}
use Rattle.access_circuits.specs.declared.accesses.AccessWords.{AccessWords}

pub accesses_begin : (old : List (Lit × Lit)) (xs ys : List AccessWords) → old ≡ old ++ access_pairs 0 xs ys
unfolding access_pairs
accesses_begin old xs ys = sym (append-nil old)

pub accesses_go_on : (n : ℕ) (old now middle next : List (Lit × Lit)) (xs ys : List AccessWords) (d e : AccessWords) → n < length xs → n < length ys
    → now ≡ old ++ access_pairs n xs ys → middle ≡ now ++ bit_pairs 32 (get_or xs n d).address (get_or ys n e).address → next ≡ middle ++ byte_pairs 32 (get_or xs n d).stored (get_or ys n e).stored
    → next ≡ old ++ access_pairs (n + 1) xs ys
unfolding access_pairs
accesses_go_on n old now middle next xs ys d e l m p q r =
    let x = get_or_default xs n d no_words l in
    let y = get_or_default ys n e no_words m in
    let a = bit_pairs 32 (get_or xs n d).address (get_or ys n e).address in
    let b = byte_pairs 32 (get_or xs n d).stored (get_or ys n e).stored in
    let last : a ++ b ≡ pairs_of_access (get_or xs n no_words) (get_or ys n no_words) = ap (λ z. pairs_of_access z (get_or ys n e)) x ∙ ap (pairs_of_access (get_or xs n no_words)) y in
    rw add-one (r ∙ ap (λ ps. ps ++ b) (q ∙ ap (λ ps. ps ++ a) p) ∙ append_assoc (old ++ access_pairs n xs ys) a b ∙ append_assoc old (access_pairs n xs ys) (a ++ b) ∙ ap (λ ps. old ++ (access_pairs n xs ys ++ ps)) last)

abbrev accessed : Bool → ℕ → ℕ → ℕ → Accessed
accessed loads width address stored = record { loads = loads; width = width; address = address; stored = stored }

accessed_same : (l m : Bool) (v w a b s t : ℕ) → l ≡ m → v ≡ w → a ≡ b → s ≡ t → accessed l v a s ≡ accessed m w b t
accessed_same l m v w a b s t e f g h = rw (e, f, g, h) refl

-- of paired accesses whose words mean the same, those that they mean are the same
pub access_same : (w : ℕ → Bool) (n : ℕ) (xs ys : List AccessWords) (d e : AccessWords) (ts us : List Accessed) → n < length xs → n < length ys → HaveSameShapes xs ys → AreAccesses w xs ts → AreAccesses w ys us
    → word_value 32 (get_or xs n d).address w ≡ word_value 32 (get_or ys n e).address w → word_value 32 (get_or xs n d).stored w ≡ word_value 32 (get_or ys n e).stored w
    → get_or ts n no_access ≡ get_or us n no_access
access_same w n xs ys d e ts us l m shapes p q address stored =
    let x = get_or_default xs n d no_words l in
    let y = get_or_default ys n e no_words m in
    let s = p.each n l in
    let t = q.each n m in
    accessed_same _ _ _ _ _ _ _ _ (sym s.loads ∙ shapes.shapes.loads n l ∙ t.loads) (sym s.width ∙ shapes.shapes.width n l ∙ t.width)
    (sym s.address ∙ sym (ap (λ z. word_value 32 z.address w) x) ∙ address ∙ ap (λ z. word_value 32 z.address w) y ∙ t.address)
    (sym s.stored ∙ sym (ap (λ z. word_value 32 z.stored w) x) ∙ stored ∙ ap (λ z. word_value 32 z.stored w) y ∙ t.stored)

pub address_owned : (n m : ℕ) (xs : List AccessWords) (d : AccessWords) → n < length xs → word_reach_below 32 (get_or xs n no_words).address ≤ m → word_reach_below 32 (get_or xs n d).address ≤ m
address_owned n m xs d l = subst (λ z. word_reach_below 32 z.address ≤ m) (sym (get_or_default xs n d no_words l))

pub stored_owned : (n m : ℕ) (xs : List AccessWords) (d : AccessWords) → n < length xs → word_reach_below 32 (get_or xs n no_words).stored ≤ m → word_reach_below 32 (get_or xs n d).stored ≤ m
stored_owned n m xs d l = subst (λ z. word_reach_below 32 z.stored ≤ m) (sym (get_or_default xs n d no_words l))
