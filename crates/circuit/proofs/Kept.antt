-- What a set keeps when a key is inserted.
use Rattle.std.proofs.Common.{◌≡◌, ℕ, suc, ◌+◌, ◌<◌, ◌≤◌, Bool, true, false, ◌||◌, List, [], ◌∷◌, ◌++◌, Some, refl, sym, ◌∙◌, ap, length, arith, subst, slice_get, get_or}
use Rattle.std.proofs.lemmas.Option.{slice_get_within, get_or_from_slice_get, slice_get-get_or}
use Rattle.std.proofs.lemmas.List.{get_or_append_left}
use Rattle.std.proofs.Common.{length-append, if◌then◌else◌}
use Rattle.std.proofs.Math.Seq.{get_or-append_seam}
use Rattle.std.proofs.Math.Decide.{dec_lt}
use Rattle.std.specs.Prelude.{Result, Ok, Err, IfOk, OnErr}
use Rattle.std.specs.List.{list_any, position_or_len}
use Rattle.std.specs.Prelude.{OnOk, pos}
use Rattle.circuit.specs.Prelude.{node_made, GatesAgree, Lit, Var, AllAgree, IsInput, IsOrdered, node_reach, told_place, free_count, is_free, MayUntie, Node, Input}
use Rattle.indexmap.specs.IndexSet.{insert_key}
use Rattle.word_kit.specs.Prelude.{one_if}

pub slice_get-append : {T : Type 0} → (xs ys : List T) (k : ℕ) (x : T) → slice_get xs k ≡ Some x → slice_get (xs ++ ys) k ≡ Some x
slice_get-append xs ys k x h =
    let w : k < length xs = slice_get_within xs k x h in
    let e : get_or xs k x ≡ x = get_or_from_slice_get xs k x x h in
    let a : get_or (xs ++ ys) k x ≡ get_or xs k x = get_or_append_left xs ys x k w in
    let l : length (xs ++ ys) ≡ length xs + length ys = length-append xs ys in
    let s : slice_get (xs ++ ys) k ≡ Some (get_or (xs ++ ys) k x) = slice_get-get_or (xs ++ ys) k x (omega arith) in
    s ∙ ap Some (a ∙ e)

pub slice_get-insert_key : {T : Type 0} → (eq : T → T → Bool) (xs : List T) (y : T) (k : ℕ) (x : T) → slice_get xs k ≡ Some x → slice_get (insert_key eq xs y) k ≡ Some x
slice_get-insert_key eq xs y k x h = let a = slice_get-append xs (y ∷ []) k x h in grind arith

pub AllAgree-insert_key : (eq : Node → Node → Bool) (xs : List Node) (y : Node) (v : ℕ → Bool) → AllAgree (insert_key eq xs y) v → AllAgree xs v
unfolding AllAgree
AllAgree-insert_key eq xs y v h k n e = h k n (slice_get-insert_key eq xs y k n e)

pub AllAgree-inserted : (eq : Node → Node → Bool) (xs ys : List Node) (y : Node) (v : ℕ → Bool) → ys ≡ insert_key eq xs y → AllAgree ys v → AllAgree xs v
AllAgree-inserted eq xs ys y v e h = AllAgree-insert_key eq xs y v (subst (λ ks. AllAgree ks v) e h)

IsInput-inserted : (eq : Node → Node → Bool) (xs ys : List Node) (y : Node) (k : ℕ) → ys ≡ insert_key eq xs y → IsInput xs k → IsInput ys k
unfolding IsInput
IsInput-inserted eq xs ys y k e h = subst (λ ks. slice_get ks k ≡ Some (Input k)) (sym e) (slice_get-insert_key eq xs y k (Input k) h)

pub kept_at : (P : Node → ℕ → Type 0) (b : Bool) (xs : List Node) (y : Node) → ((k : ℕ) (n : Node) → slice_get xs k ≡ Some n → P n k) → P y (length xs)
    → (k : ℕ) (n : Node) → slice_get (if b then xs else xs ++ y ∷ []) k ≡ Some n → P n k
kept_at P true xs y o r k n h = o k n h
kept_at P false xs y o r k n h =
    elim (dec_lt k (length xs)) [
      | yes lt ↦ let s = slice_get-get_or xs k n lt in let a = slice_get-append xs (y ∷ []) k (get_or xs k n) s in let e : Some (get_or xs k n) ≡ Some n = sym a ∙ h in
          o k n (s ∙ e)
      | no ge ↦ let w = slice_get_within (xs ++ y ∷ []) k n h in let l = length-append xs (y ∷ []) in let q : k ≡ length xs = omega arith in
          let g : get_or (xs ++ y ∷ []) k n ≡ n = get_or_from_slice_get (xs ++ y ∷ []) k n n h in
          let t : get_or (xs ++ y ∷ []) (length xs) n ≡ y = get_or-append_seam xs y [] n in
          let u : n ≡ y = sym g ∙ ap (λ j. get_or (xs ++ y ∷ []) j n) q ∙ t in
          subst (λ m. P m k) (sym u) (subst (λ j. P y j) (sym q) r)
    ]

-- a node that reads what is there, and knows its place if it is an input, goes last
pub IsOrdered-insert_key : (eq : Node → Node → Bool) (xs ys : List Node) (y : Node) → ys ≡ insert_key eq xs y → IsOrdered xs → node_reach y ≤ length xs → told_place y (length xs) ≡ length xs → IsOrdered ys
IsOrdered-insert_key eq xs ys y e o r p = record {
  reads = λ k n h. kept_at (λ m j. node_reach m ≤ j) (list_any (eq y) xs) xs y o.reads r k n (subst (λ l. slice_get l k ≡ Some n) e h);
  places = λ k n h. kept_at (λ m j. told_place m j ≡ j) (list_any (eq y) xs) xs y o.places p k n (subst (λ l. slice_get l k ≡ Some n) e h);
}

pub ordered_either : {E : Type 0} → (r : Result (ℕ × Bool) E) (eq : Node → Node → Bool) (xs ys : List Node) (y : Node) → IfOk r (λ q. ys ≡ insert_key eq xs y) → OnErr r (ys ≡ xs) → IsOrdered xs → node_reach y ≤ length xs → told_place y (length xs) ≡ length xs → IsOrdered ys
ordered_either (Ok q) eq xs ys y e u o r p = IsOrdered-insert_key eq xs ys y e o r p
ordered_either (Err q) eq xs ys y e u o r p = subst IsOrdered (sym u) o

-- how many words are free of gates
count_append : (xs : List Node) (y : Node) → free_count (xs ++ y ∷ []) ≡ free_count xs + one_if (is_free y)
unfolding free_count
count_append [] y = omega arith
count_append (x ∷ xs) y = let r = count_append xs y in omega (arith, r)

count_of : (b : Bool) (xs : List Node) (y : Node) → (free_count xs ≤ free_count (if b then xs else xs ++ y ∷ [])) × (is_free y ≡ false → free_count (if b then xs else xs ++ y ∷ []) ≡ free_count xs)
count_of true xs y = (omega arith, λ h. refl)
count_of false xs y = let r = count_append xs y in (omega (arith, r), λ h. r ∙ rw h (omega arith))

pub counted : (eq : Node → Node → Bool) (xs ys : List Node) (y : Node) → ys ≡ insert_key eq xs y → (free_count xs ≤ free_count ys) × (is_free y ≡ false → free_count ys ≡ free_count xs)
counted eq xs ys y e = subst (λ zs. (free_count xs ≤ free_count zs) × (is_free y ≡ false → free_count zs ≡ free_count xs)) (sym e) (count_of (list_any (eq y) xs) xs y)

longer_of : (b : Bool) (xs : List Node) (y : Node) → length xs ≤ length (if b then xs else xs ++ y ∷ [])
longer_of true xs y = omega arith
longer_of false xs y = let l = length-append xs (y ∷ []) in omega (arith, l)

pub later_inserted : (eq : Node → Node → Bool) (xs ys : List Node) (y : Node) → ys ≡ insert_key eq xs y → MayUntie xs ys
later_inserted eq xs ys y e = record {
  grows = subst (λ zs. length xs ≤ length zs) (sym e) (longer_of (list_any (eq y) xs) xs y);
  earlier = λ v h. AllAgree-inserted eq xs ys y v e h;
  inputs = λ k h. IsInput-inserted eq xs ys y k e h;
  rises = (counted eq xs ys y e).0;
}

absent_step : (eq : Node → Node → Bool) (x y : Node) (xs : List Node) (b : Bool) → eq y x ≡ b → (b ≡ true → ⊥) → list_any (eq y) xs ≡ false → list_any (eq y) (x ∷ xs) ≡ false
absent_step eq x y xs true e n r = absurd (n refl)
absent_step eq x y xs false e n r = rw (e, r) refl

absent : (eq : Node → Node → Bool) → ((n m : Node) → eq n m ≡ true → n ≡ m) → (xs : List Node) → (y : Node) → ((k : ℕ) → slice_get xs k ≡ Some y → ⊥) → list_any (eq y) xs ≡ false
absent eq s [] y h = refl
absent eq s (x ∷ xs) y h = absent_step eq x y xs (eq y x) refl (λ e. h 0 (ap Some (sym (s y x e)))) (absent eq s xs y (λ k e. h (suc k) e))

not_either : (a b : Bool) → (a || b) ≡ false → (a ≡ false) × (b ≡ false)
not_either true b h = absurd cc
not_either false b h = (refl, h)

-- an input that comes has the next place
pub input_new : (eq : Node → Node → Bool) → ((n m : Node) → eq n m ≡ true → n ≡ m) → (xs : List Node) → IsOrdered xs → list_any (eq (Input (length xs))) xs ≡ false
input_new eq s xs o = absent eq s xs (Input (length xs)) (λ k h. let p = o.places k (Input (length xs)) h in let w = slice_get_within xs k (Input (length xs)) h in omega (arith, p, w))

pub inserted_new : (eq : Node → Node → Bool) (xs : List Node) (y : Node) → list_any (eq y) xs ≡ false → insert_key eq xs y ≡ xs ++ y ∷ []
inserted_new eq xs y h = rw h refl

absent_place : (p : Node → Bool) (xs : List Node) → list_any p xs ≡ false → position_or_len p xs ≡ length xs
absent_place p [] h = refl
absent_place p (x ∷ xs) h = let a = not_either (p x) (list_any p xs) h in let r = absent_place p xs a.1 in rw (a.0, r) (omega arith)

input_at : (eq : Node → Node → Bool) → ((n m : Node) → eq n m ≡ true → n ≡ m) → (xs : List Node) → IsOrdered xs
    → ((node_made eq xs (Input (length xs))).flag ≡ Var (pos (length xs + 1))) × ((node_made eq xs (Input (length xs))).held ≡ xs ++ Input (length xs) ∷ [])
unfolding node_made
input_at eq s xs o = let a = input_new eq s xs o in (ap (λ k. Var (pos (k + 1))) (absent_place (eq (Input (length xs))) xs a), inserted_new eq xs (Input (length xs)) a)

-- the variable and the nodes of an input that comes
pub input_made : (eq : Node → Node → Bool) → ((n m : Node) → eq n m ≡ true → n ≡ m) → (xs : List Node) (m : ℕ) → m ≡ length xs → IsOrdered xs
    → ((node_made eq xs (Input m)).flag ≡ Var (pos (length xs + 1))) × ((node_made eq xs (Input m)).held ≡ xs ++ Input (length xs) ∷ [])
input_made eq s xs m e o = subst (λ k. ((node_made eq xs (Input k)).flag ≡ Var (pos (length xs + 1))) × ((node_made eq xs (Input k)).held ≡ xs ++ Input (length xs) ∷ [])) (sym e) (input_at eq s xs o)

pub input_lit : {E : Type 0} (r : Result Lit E) (l m : Lit) → IfOk r (λ q. q ≡ l) → l ≡ m → IfOk r (λ q. q ≡ m)
input_lit (Ok q) l m h e = h ∙ e
input_lit (Err q) l m h e = tt

pub input_held : {E : Type 0} (r : Result Lit E) (now xs ys : List Node) → OnOk r (now ≡ xs) → xs ≡ ys → OnOk r (now ≡ ys)
input_held (Ok q) now xs ys h e = h ∙ e
input_held (Err q) now xs ys h e = tt

input_there : (xs ys : List Node) → ys ≡ xs ++ Input (length xs) ∷ [] → IsInput ys (length xs)
unfolding IsInput
input_there xs ys e =
    let l = length-append xs (Input (length xs) ∷ []) in
    let s : slice_get (xs ++ Input (length xs) ∷ []) (length xs) ≡ Some (Input (length xs)) = slice_get-get_or (xs ++ Input (length xs) ∷ []) (length xs) (Input (length xs)) (omega arith) ∙ ap Some (get_or-append_seam xs (Input (length xs)) [] (Input (length xs))) in
    subst (λ ks. slice_get ks (length xs) ≡ Some (Input (length xs))) (sym e) s

pub input_stands : {E : Type 0} (r : Result Lit E) (xs ys : List Node) → OnOk r (ys ≡ xs ++ Input (length xs) ∷ []) → OnOk r (IsInput ys (length xs))
input_stands (Ok q) xs ys e = input_there xs ys e
input_stands (Err q) xs ys e = tt

pub GatesAgree-inserted : (eq : Node → Node → Bool) (xs ys : List Node) (y : Node) (v : ℕ → Bool) → ys ≡ insert_key eq xs y → GatesAgree ys v → GatesAgree xs v
unfolding GatesAgree
GatesAgree-inserted eq xs ys y v e h k n f = h k n (subst (λ ks. slice_get ks k ≡ Some n) (sym e) (slice_get-insert_key eq xs y k n f))
