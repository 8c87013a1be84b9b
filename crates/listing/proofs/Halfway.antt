-- A sink to which the front of a text was put, and the rest is still to come.
use Rattle.std.proofs.Common.{◌≡◌, ℕ, ◌+◌, ◌-◌, ◌≤◌, List, [], ◌++◌, length, take, drop, length-drop, Option, Some, None, refl, ap, sym, subst, ◌∙◌, arith, append_assoc, append-nil}
use Rattle.std.proofs.lemmas.List.{length-append, take-append-le}
use Rattle.std.proofs.Math.Seq.{take-append-add, take-length}
use Rattle.std.specs.Io.KnownBytes.{Appends}
use Rattle.outside.specs.Streams.{AppendsPrefix}

-- the slice from a place on
pub rest_is : (bytes : List ℕ) (place : ℕ) → take (length bytes - place) (drop place bytes) ≡ drop place bytes
rest_is bytes place = rw (← length-drop place bytes) (take-length (drop place bytes))

pub record Halfway (old now : Option (List ℕ)) (rest whole : List ℕ) : Type 0 where
  pub front : List ℕ
  pub put : Appends old now front
  pub split : front ++ rest ≡ whole

none_put : (old : Option (List ℕ)) → Appends old old []
none_put None = tt
none_put (Some shown) = sym (append-nil shown)

both_put : (old mid new : Option (List ℕ)) (first second : List ℕ) → Appends old mid first → Appends mid new second → Appends old new (first ++ second)
both_put None mid new first second a b = tt
both_put (Some xs) (Some ys) (Some zs) first second a b = b ∙ ap (λ v. v ++ second) a ∙ append_assoc xs first second
both_put (Some xs) None new first second a b = elim a [ ]
both_put (Some xs) (Some ys) None first second a b = elim b [ ]

pub at_start : (old : Option (List ℕ)) (whole : List ℕ) → Halfway old old whole whole
at_start old whole = record { front = []; put = none_put old; split = refl }

pub at_line : (old mid new : Option (List ℕ)) (line rest left whole : List ℕ) → left ≡ line ++ rest → Halfway old mid left whole → Appends mid new line → Halfway old new rest whole
at_line old mid new line rest left whole next h put = record {
  front = h.front ++ line;
  put = both_put old mid new h.front line h.put put;
  split = append_assoc h.front line rest ∙ ap (λ v. h.front ++ v) (sym next) ∙ h.split;
}

pub at_end : (old new : Option (List ℕ)) (left whole : List ℕ) → left ≡ [] → Halfway old new left whole → Appends old new whole
at_end old new left whole none h =
    subst (λ v. Appends old new v) (sym (append-nil h.front) ∙ ap (λ v. h.front ++ v) (sym none) ∙ h.split) h.put

prefix : (front line rest : List ℕ) (n : ℕ) → n ≤ length line → take (length front + n) (front ++ (line ++ rest)) ≡ front ++ take n line
prefix front line rest n le = take-append-add front (line ++ rest) n ∙ ap (λ v. front ++ v) (take-append-le n line rest le)

pub at_fault : (old mid new : Option (List ℕ)) (line rest left whole : List ℕ) → left ≡ line ++ rest → Halfway old mid left whole → AppendsPrefix mid new line → AppendsPrefix old new whole
at_fault old mid new line rest left whole next h put =
    let e : h.front ++ (line ++ rest) ≡ whole = ap (λ v. h.front ++ v) (sym next) ∙ h.split in (
      length h.front + put.0,
      subst (λ v. length h.front + put.0 ≤ length v) e (omega (arith, put.1, length-append h.front (line ++ rest), length-append line rest)),
      subst (λ v. Appends old new v) (sym (prefix h.front line rest put.0 put.1) ∙ ap (take (length h.front + put.0)) e)
          (both_put old mid new h.front (take put.0 line) h.put put.2),
    )
