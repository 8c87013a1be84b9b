-- Where windows and bodies begin.
use Rattle.std.proofs.Common.{◌≡◌, ℕ, ◌+◌, ◌<◌, ◌≤◌, Bool, List, [], length, refl, ap, subst, arith, add-one, get_or, ◌∙◌}
use Rattle.std.specs.Prelude.{Result, Ok, Err, IfOk, OnOk}
use Rattle.std.proofs.lemmas.List.{get_or_default}
use Rattle.std.proofs.Math.Decide.{dec_lt}
use Rattle.access_circuits.specs.Lists.{AreAccesses, AccessesOwned}
use Rattle.access_circuits.specs.declared.accesses.AccessWords.{AccessWords}
use Rattle.place_circuits.specs.Places.{PlacesOwned, with_place}
use Rattle.place_circuits.specs.Fields.{field_value}
use Rattle.place_circuits.specs.declared.fields.Field.{Field}
use Rattle.place_circuits.specs.declared.places.Places.{Places}
use Rattle.window_circuits.specs.Starts.{no_field, with_homes}

pub if_ok_map : {T E : Type 0} (P Q : T → Type 0) (r : Result T E) → ((x : T) → P x → Q x) → IfOk r P → IfOk r Q
if_ok_map P Q (Ok x) f p = f x p
if_ok_map P Q (Err e) f p = tt

pub on_ok_map : {T E P Q : Type 0} (r : Result T E) → (P → Q) → OnOk r P → OnOk r Q
on_ok_map (Ok x) f p = f p
on_ok_map (Err e) f p = tt

pub no_accesses : (w : ℕ → Bool) (xs : List AccessWords) → xs ≡ [] → AreAccesses w xs []
no_accesses w xs e = let n : length xs ≡ 0 = ap length e in record { count = n; each = λ k l. absurd (omega (arith, n, l)) }

pub no_accesses_owned : (m : ℕ) (xs : List AccessWords) → xs ≡ [] → AccessesOwned m xs
no_accesses_owned m xs e = let n : length xs ≡ 0 = ap length e in record { address = λ k l. absurd (omega (arith, n, l)); stored = λ k l. absurd (omega (arith, n, l)) }

pub places_later : (m n : ℕ) (places : Places) → m ≤ n → PlacesOwned m places → PlacesOwned n places
places_later m n places l o = record { each = λ k h. let p = o.each k h in omega (arith, p, l) }

pub homes_none : (homes : List Field) (t : ℕ → ℕ) → with_homes 0 homes t ≡ t
unfolding with_homes
homes_none homes t = refl

pub homes_one_more : (n : ℕ) (homes : List Field) (d : Field) (t : ℕ → ℕ) → n < length homes → with_place (32 + n) (field_value (get_or homes n d) t) (with_homes n homes t) ≡ with_homes (n + 1) homes t
unfolding with_homes
homes_one_more n homes d t l = let e : get_or homes n d ≡ get_or homes n no_field = get_or_default homes n d no_field l in ap (λ f. with_place (32 + n) (field_value f t) (with_homes n homes t)) e ∙ (rw add-one refl)

pub one_more : (P : ℕ → Type 0) (i : ℕ) → ((k : ℕ) → k < i → P k) → P i → (k : ℕ) → k < i + 1 → P k
one_more P i below here k h = elim (dec_lt k i) [
  | yes lt ↦ below k lt
  | no ge ↦ let e : i ≡ k = omega arith in subst P e here
]
