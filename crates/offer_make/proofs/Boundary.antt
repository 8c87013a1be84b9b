-- The first six of the GPRs that two maps hold and that words use.
use Rattle.std.proofs.Common.{◌≡◌, ℕ, ◌+◌, ◌<◌, ◌≤◌, List, [], ◌∷◌, ◌++◌, length, Option, Some, None, sym, subst, inl, inr, arith}
use Rattle.std.specs.List.{All, Contains}
use Rattle.std.proofs.lemmas.List.Elements.{All-take, Contains-append_left, Contains-append_right, Contains-append_cases, Contains-get_or}
use Rattle.machines.specs.Prelude.{Map, IsMap, IsHeld}
use Rattle.reg_map.specs.Place.{IsEmpty}
use Rattle.plan_form.specs.Prelude.{IsContentOf, IsMapOver}
use Rattle.offer_make.specs.Candidates.{held, held_by, firsts}
use Rattle.offer_make.proofs.Elements.{none, first, single}
use Rattle.offer_make.proofs.Firsts.{six_of, six-of-few, firsts-to}

held-small : (o : Option ℕ) (g : ℕ) → IsHeld o → Contains (held o) g → g < 32
held-small None g h c = absurd (none g c)
held-small (Some k) g h c = let e = single k g c in omega (arith, e, h)

map-small : (m : Map) (g : ℕ) → IsMap m → Contains (held_by m) g → g < 32
map-small m g h c = elim (Contains-append_cases (held m.ebx ++ held m.esi) (held m.edi) g c) [
  | inl a ↦ elim (Contains-append_cases (held m.ebx) (held m.esi) g a) [ inl b ↦ held-small m.ebx g h.ebx b | inr d ↦ held-small m.esi g h.esi d ]
  | inr b ↦ held-small m.edi g h.edi b
]

held-few : (o : Option ℕ) → length (held o) ≤ 1
held-few None = omega arith
held-few (Some g) = omega arith

long : (xs ys : List ℕ) → length (xs ++ ys) ≡ length xs + length ys
long [] ys = omega arith
long (x ∷ xs) ys = let e = long xs ys in omega (arith, e)

map-few : (m : Map) → length (held_by m) ≤ 3
map-few m =
    let a = held-few m.ebx in let b = held-few m.esi in let c = held-few m.edi in
    let e = long (held m.ebx ++ held m.esi) (held m.edi) in let f = long (held m.ebx) (held m.esi) in omega (arith, a, b, c, e, f)

content-of : (xs : List ℕ) (o : Option ℕ) → ((g : ℕ) → Contains (held o) g → Contains xs g) → IsContentOf xs o
content-of xs None h = tt
content-of xs (Some g) h = h g (first g [])

held-over : (xs : List ℕ) (m : Map) → IsMap m → ((g : ℕ) → Contains (held_by m) g → Contains xs g) → IsMapOver xs m
held-over xs m is h = record {
  is_map = is;
  ebx = content-of xs m.ebx (λ g c. h g (Contains-append_left (held m.ebx ++ held m.esi) (held m.edi) g (Contains-append_left (held m.ebx) (held m.esi) g c)));
  esi = content-of xs m.esi (λ g c. h g (Contains-append_left (held m.ebx ++ held m.esi) (held m.edi) g (Contains-append_right (held m.ebx) (held m.esi) g c)));
  edi = content-of xs m.edi (λ g c. h g (Contains-append_right (held m.ebx ++ held m.esi) (held m.edi) g c));
}

pub empty-over : (m : Map) → IsMap m → IsEmpty m → IsMapOver [] m
empty-over m is e = record {
  is_map = is;
  ebx = subst (IsContentOf []) (sym e.0) tt;
  esi = subst (IsContentOf []) (sym e.1) tt;
  edi = subst (IsContentOf []) (sym e.2) tt;
}

module _ (entry exit : Map) (used six : List ℕ) (is_six : six ≡ six_of ((held_by entry ++ held_by exit) ++ used)) (is_entry : IsMap entry) (is_exit : IsMap exit) where
  within : (g : ℕ) → Contains (held_by entry ++ held_by exit) g → Contains six g
  within g c =
      let a = map-few entry in let b = map-few exit in let e = long (held_by entry) (held_by exit) in
      subst (λ l. Contains l g) (sym is_six) (six-of-few (held_by entry ++ held_by exit) used g (omega (arith, a, b, e)) c)

  pub entry-over : IsMapOver six entry
  entry-over = held-over six entry is_entry (λ g c. within g (Contains-append_left (held_by entry) (held_by exit) g c))

  pub exit-over : IsMapOver six exit
  exit-over = held-over six exit is_exit (λ g c. within g (Contains-append_right (held_by entry) (held_by exit) g c))

  pub six-small : ((g : ℕ) → Contains used g → g < 32) → All (λ g. g < 32) six
  six-small small = subst (All (λ g. g < 32)) (sym is_six) (All-take (λ g. g < 32) 6 (firsts ((held_by entry ++ held_by exit) ++ used)) each)
    where
      of : (g : ℕ) → Contains ((held_by entry ++ held_by exit) ++ used) g → g < 32
      of g c = elim (Contains-append_cases (held_by entry ++ held_by exit) used g c) [
        | inl a ↦ elim (Contains-append_cases (held_by entry) (held_by exit) g a) [ inl b ↦ map-small entry g is_entry b | inr d ↦ map-small exit g is_exit d ]
        | inr b ↦ small g b
      ]

      each : All (λ g. g < 32) (firsts ((held_by entry ++ held_by exit) ++ used))
      each k d at =
          let l = firsts ((held_by entry ++ held_by exit) ++ used) in
          of _ (firsts-to ((held_by entry ++ held_by exit) ++ used) _ (Contains-get_or l k d at))
