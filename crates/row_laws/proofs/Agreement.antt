-- Both laws together, in one location.
use Rattle.std.proofs.Common.{◌≡◌, ◌≢◌, ℕ, ◌⊎◌, List, [], ◌∷◌, Contains, sym, ◌∙◌, subst, inl, inr, arith}
use Rattle.machines.specs.Prelude.{Outcome, Goes, Asks, Ends, locations_written, Guest, effect_of, guest_acts}
use Rattle.row_laws.specs.Laws.{Next, Alike, AreSame, AgreeBut, KeepsAgreement}
use Rattle.row_laws.proofs.Lists.{Lacks, none_in, first_in, later_in, first_or_later}
use Rattle.row_laws.proofs.Changes.{changes}
use Rattle.row_laws.proofs.Depends.{depends}

-- a location is in a list, or it isn't
pub in_or_not : (xs : List ℕ) (x : ℕ) → Contains xs x ⊎ Lacks xs x
in_or_not [] x = inr (λ c. none_in x c)
in_or_not (y ∷ ys) x = by_cases (in_or_not ys x) (grind arith)
  where
    by_cases : Contains ys x ⊎ Lacks ys x → (y ≡ x) ⊎ (y ≢ x) → Contains (y ∷ ys) x ⊎ Lacks (y ∷ ys) x
    by_cases (inl c) e = inl (later_in y x ys c)
    by_cases (inr out) (inl e) = inl (subst (λ (z : ℕ). Contains (y ∷ ys) z) e (first_in y ys))
    by_cases (inr out) (inr ne) = inr (λ c. elim (first_or_later y ys x c) [ inl e ↦ ne e | inr later ↦ out later ])

-- what is known of both states, and of each alone
together : (R S : Guest → Guest → Type 0) (P Q : Guest → Type 0) (o o' : Outcome Guest) → ((g h : Guest) → R g h → P g → Q h → S g h) → Alike R o o' → Next P o → Next Q o' → Alike S o o'
together R S P Q (Goes g) (Goes h) f r p q = f g h r p q
together R S P Q (Asks call next) (Asks other other_next) f r p q = (r.0, λ a. f (next a) (other_next a) (r.1 a) (p a) (q a))
together R S P Q (Ends how) (Ends other) f r p q = r
together R S P Q (Goes g) (Asks other next) f r p q = absurd r
together R S P Q (Goes g) (Ends how) f r p q = absurd r
together R S P Q (Asks call next) (Goes h) f r p q = absurd r
together R S P Q (Asks call next) (Ends how) f r p q = absurd r
together R S P Q (Ends how) (Goes h) f r p q = absurd r
together R S P Q (Ends how) (Asks other next) f r p q = absurd r

pub agreement : KeepsAgreement
agreement i rights g h x legal fg fh same lt e = by_place (in_or_not written x)
  where
    written : List ℕ
    written = locations_written i

    by_place : Contains written x ⊎ Lacks written x → Alike (λ a b. a.locs x ≡ b.locs x) (guest_acts rights i (effect_of i g) g) (guest_acts rights i (effect_of i h) h)
    by_place (inl c) = together (AreSame written) (λ a b. a.locs x ≡ b.locs x) (λ a. AgreeBut written a g) (λ b. AgreeBut written b h) (guest_acts rights i (effect_of i g) g) (guest_acts rights i (effect_of i h) h)
        (λ a b r p q. r.locs x c) (depends i rights g h legal fg fh same) (changes i rights g legal fg) (changes i rights h legal fh)
    by_place (inr out) = together (AreSame written) (λ a b. a.locs x ≡ b.locs x) (λ a. AgreeBut written a g) (λ b. AgreeBut written b h) (guest_acts rights i (effect_of i g) g) (guest_acts rights i (effect_of i h) h)
        (λ a b r p q. p x lt out ∙ e ∙ sym (q x lt out)) (depends i rights g h legal fg fh same) (changes i rights g legal fg) (changes i rights h legal fh)
