-- What is owned stays so, and what holds behind an answer.
use Rattle.std.proofs.Common.{ℕ, ◌≤◌, List, arith}
use Rattle.std.specs.Prelude.{Result, Ok, Err, IfOk, OnOk}
use Rattle.circuit.specs.declared.literals.Lit.{Lit}
use Rattle.access_circuits.specs.Bytes.{BytesOwned}
use Rattle.access_circuits.specs.Lists.{AccessesOwned}
use Rattle.access_circuits.specs.declared.accesses.AccessWords.{AccessWords}
use Rattle.place_circuits.specs.Places.{PlacesOwned}
use Rattle.place_circuits.specs.declared.places.Places.{Places}

pub on_ok_map : {T E P Q : Type 0} (r : Result T E) → (P → Q) → OnOk r P → OnOk r Q
on_ok_map (Ok x) f p = f p
on_ok_map (Err e) f p = tt

pub if_ok_map : {T E : Type 0} (P Q : T → Type 0) (r : Result T E) → ((x : T) → P x → Q x) → IfOk r P → IfOk r Q
if_ok_map P Q (Ok x) f p = f x p
if_ok_map P Q (Err e) f p = tt

pub bytes_later : (m n : ℕ) (bytes : List (List Lit)) → m ≤ n → BytesOwned m bytes → BytesOwned n bytes
bytes_later m n bytes l o = record { each = λ k h. let p = o.each k h in omega (arith, p, l) }

pub accesses_later : (m n : ℕ) (xs : List AccessWords) → m ≤ n → AccessesOwned m xs → AccessesOwned n xs
accesses_later m n xs l o = record { address = λ k h. let p = o.address k h in omega (arith, p, l); stored = λ k h. let p = o.stored k h in omega (arith, p, l) }

pub places_later : (m n : ℕ) (places : Places) → m ≤ n → PlacesOwned m places → PlacesOwned n places
places_later m n places l o = record { each = λ k h. let p = o.each k h in omega (arith, p, l) }
