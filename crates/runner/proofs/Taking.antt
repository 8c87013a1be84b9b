-- Bytes that are taken piece by piece.
use Rattle.std.proofs.Common.{◌≡◌, ◌≤◌, ◌+◌, ℕ, List, [], ◌++◌, length, take, drop, Option, Some, None, refl, sym, ap, ◌∙◌, arith, append_assoc}
use Rattle.std.proofs.Math.Seq.{drop-append_seam, take-append_seam}
use Rattle.std.proofs.lemmas.List.{length-take, length-drop, length-append, take-append-drop, take-append-le, take_all}
use Rattle.std.specs.Io.KnownBytes.{Consumes, IsAtEnd, Keeps}
use Rattle.runner.specs.Prelude.{Takes, TakesPartly, TakesInVain}

-- the bytes so far are the first of those that were left, and the source has the rest
pub record HasSoFar (now : Option (List ℕ)) (left bytes : List ℕ) : Type 0 where
  pub first : bytes ≡ take (length bytes) left
  pub rest : now ≡ Some (drop (length bytes) left)
  pub some : length bytes ≤ length left

pub nothing_yet : (now : Option (List ℕ)) (left : List ℕ) → now ≡ Some left → HasSoFar now left []
nothing_yet now left e = record { first = refl; rest = e; some = omega arith }

some_injective : {x y : List ℕ} → Some x ≡ Some y → x ≡ y
some_injective e = grind arith

-- what a known source has behind a piece
behind_piece : (now later : Option (List ℕ)) (rest piece : List ℕ) → now ≡ Some rest → Consumes now later piece → (after : List ℕ) × (later ≡ Some after) × (rest ≡ piece ++ after)
behind_piece None later rest piece e h = grind arith
behind_piece (Some xs) None rest piece e h = elim h [ ]
behind_piece (Some xs) (Some ys) rest piece e h = (ys, refl, sym (some_injective e) ∙ h)

pub more_taken : (now later : Option (List ℕ)) (left bytes piece : List ℕ) → HasSoFar now left bytes → Consumes now later piece → HasSoFar later left (bytes ++ piece)
more_taken now later left bytes piece h consumed =
    let (after, e, parts) = behind_piece now later (drop (length bytes) left) piece h.rest consumed in
    let whole : left ≡ (bytes ++ piece) ++ after = sym (take-append-drop (length bytes) left) ∙ ap (λ v. v ++ drop (length bytes) left) (sym h.first) ∙ ap (λ v. bytes ++ v) parts ∙ sym (append_assoc bytes piece after) in
    record {
      first = sym (ap (take (length (bytes ++ piece))) whole ∙ take-append_seam (bytes ++ piece) after);
      rest = e ∙ ap Some (sym (ap (drop (length (bytes ++ piece))) whole ∙ drop-append_seam (bytes ++ piece) after));
      some = omega (arith, ap length whole, length-append (bytes ++ piece) after);
    }

-- the piece is what stands at the front of a longer buffer
pub more_from : (now later : Option (List ℕ)) (left bytes into behind : List ℕ) (n : ℕ) → n ≤ length into → HasSoFar now left bytes → Consumes now later (take n into) → HasSoFar later left (bytes ++ take n (into ++ behind))
more_from now later left bytes into behind n le h consumed =
    rw (take-append-le n into behind le) (more_taken now later left bytes (take n into) h consumed)

kept_is : (now later : Option (List ℕ)) (rest : List ℕ) → now ≡ Some rest → Keeps now later → later ≡ Some rest
kept_is None later rest e k = grind arith
kept_is (Some xs) None rest e k = elim k [ ]
kept_is (Some xs) (Some ys) rest e k = ap Some k ∙ e

-- the source failed, or is at its end, or all is taken
pub taken_partly : (now later : Option (List ℕ)) (left bytes : List ℕ) (count : ℕ) → length bytes ≤ count → HasSoFar now left bytes → Keeps now later → TakesPartly later left count
taken_partly now later left bytes count le h kept = record {
  taken = length bytes;
  some = omega (arith, h.some, le, length-take count left);
  left_is = kept_is now later (drop (length bytes) left) h.rest kept;
}

pub taken_wholly : (now : Option (List ℕ)) (left bytes : List ℕ) (count : ℕ) → length bytes ≡ count → HasSoFar now left bytes → (bytes ≡ take count left) × Takes now left (length bytes)
taken_wholly now left bytes count len h = (h.first ∙ ap (λ n. take n left) len, h.rest)

rest_empty : (now : Option (List ℕ)) (rest : List ℕ) → now ≡ Some rest → IsAtEnd now → rest ≡ []
rest_empty None rest e end = grind arith
rest_empty (Some xs) rest e end = some_injective (sym e) ∙ end

pub taken_to_end : (now later : Option (List ℕ)) (left bytes into : List ℕ) (count n : ℕ) → length bytes ≤ count → HasSoFar now left bytes → n ≡ 0 → Consumes now later (take n into) → IsAtEnd later → (bytes ≡ take count left) × Takes later left (length bytes)
taken_to_end now later left bytes into count n le h none consumed end =
    let (after, e, found) = behind_piece now later (drop (length bytes) left) (take n into) h.rest consumed in
    let parts : drop (length bytes) left ≡ after = found ∙ ap (λ k. take k into ++ after) none in
    let empty : drop (length bytes) left ≡ [] = parts ∙ rest_empty later after e end in
    let all : length bytes ≡ length left = omega (arith, h.some, length-drop (length bytes) left, ap length empty) in
    (h.first ∙ take_all (length bytes) left (omega (arith, all)) ∙ sym (take_all count left (omega (arith, all, le))), e ∙ ap Some (sym parts))

-- a piece was taken that found no memory
pub taken_in_vain : (now later : Option (List ℕ)) (left bytes into : List ℕ) (count n faults faults' : ℕ) → length bytes + n ≤ count → faults ≤ faults' → HasSoFar now left bytes → Consumes now later (take n into) → TakesInVain count left later faults faults'
taken_in_vain now later left bytes into count n faults faults' few le h consumed =
    let more = more_taken now later left bytes (take n into) h consumed in
    let whole = length-append bytes (take n into) in
    let piece = length-take n into in
    record { taken = length (bytes ++ take n into); some = omega (arith, more.some, whole, piece, few, length-take count left); left_is = more.rest; later = le }
