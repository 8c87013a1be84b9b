-- What is live before a word is passed on to the words before it.
use Rattle.std.proofs.Common.{◌≡◌, ◌≢◌, ℕ, ◌+◌, ◌-◌, ◌<◌, ◌≤◌, inl, inr, List, Bool, IsTrue, length, get_or, sym, ◌∙◌, subst, arith}
use Rattle.std.specs.Prelude.{slice_index}
use Rattle.std.proofs.lemmas.Bool.{cases_lt}
use Rattle.std.proofs.lemmas.List.{get_or_default}
use Rattle.std.proofs.lemmas.Bool.Decides.{eqb_tells}
use Rattle.liveness.specs.Prelude.{Flow, flow_at, IsLast, AreNamers, IsSettled}
use Rattle.liveness.specs.Flows.{Leads}

-- what leads to other words is settled, the word before falls settled, and so are the words from x on that name this one
pub record IsSpread (flows : List Flow) (sets : List ℕ) (waiting : List Bool) (place x : ℕ) : Type 0 where
  pub within : x ≤ length flows
  pub names : 0 < x → (flow_at flows (x - 1)).target ≡ place
  pub others : (p s : ℕ) → Leads flows p s → s ≢ place → IsSettled flows sets waiting p s
  pub falls : (p : ℕ) → p + 1 ≡ place → IsTrue (flow_at flows p).falls → IsSettled flows sets waiting p place
  pub named : (p : ℕ) → x ≤ p → p < length flows → (flow_at flows p).target ≡ place → IsSettled flows sets waiting p place

module _ (flows : List Flow) (sets : List ℕ) (waiting : List Bool) (place : ℕ) where
  pub all_settled : IsSpread flows sets waiting place 0 → (p s : ℕ) → Leads flows p s → IsSettled flows sets waiting p s
  all_settled spread p s leads = elim (eqb_tells s place) [
    | inl e ↦ subst (λ (j : ℕ). IsSettled flows sets waiting p j) (sym e.1) (elim leads.2 [
      | inl f ↦ spread.falls p (sym f.1 ∙ e.1) f.0
      | inr n ↦ spread.named p (omega arith) leads.0 (n ∙ e.1)
    ])
    | inr e ↦ spread.others p s leads e.1
  ]

module _ (flows : List Flow) (last before : List ℕ) (place : ℕ) (are : AreNamers flows (length flows) last before) (lt : place < length flows) where
  pub spread_first : (sets : List ℕ) (waiting : List Bool) (x : ℕ) → x ≡ get_or last place x
      → ((p s : ℕ) → Leads flows p s → s ≢ place → IsSettled flows sets waiting p s)
      → ((p : ℕ) → p + 1 ≡ place → IsTrue (flow_at flows p).falls → IsSettled flows sets waiting p place) → IsSpread flows sets waiting place x
  spread_first sets waiting x read others falls =
      let e : slice_index last place ≡ x = let n = are.lasts in sym (read ∙ get_or_default last place x 0 (omega arith)) in
      let is = subst (λ (y : ℕ). IsLast flows place (length flows) y) e (are.each place lt) in
      record { within = is.within; names = is.names; others = others; falls = falls; named = λ p le lt same. absurd (is.none_behind p le lt same) }

  pub spread_next : (sets sets' : List ℕ) (waiting waiting' : List Bool) (x x' : ℕ) → IsSpread flows sets waiting place x → 0 < x
      → ((p s : ℕ) → IsSettled flows sets waiting p s → IsSettled flows sets' waiting' p s) → IsSettled flows sets' waiting' (x - 1) place
      → x' ≡ get_or before (x - 1) x' → IsSpread flows sets' waiting' place x'
  spread_next sets sets' waiting waiting' x x' spread pos keeps settled read =
      let within = spread.within in
      let e : slice_index before (x - 1) ≡ x' = let n = are.befores in sym (read ∙ get_or_default before (x - 1) x' 0 (omega arith)) in
      let target = spread.names pos in
      let earlier = are.earlier (x - 1) (omega arith) (subst (λ (t : ℕ). t < length flows) (sym target) lt) in
      let is = subst (λ (y : ℕ). IsLast flows place (x - 1) y) e (subst (λ (t : ℕ). IsLast flows t (x - 1) (slice_index before (x - 1))) target earlier) in
      let less = is.within in
      record {
        within = omega arith;
        names = is.names;
        others = λ p s leads ne. keeps p s (spread.others p s leads ne);
        falls = λ p next falls. keeps p place (spread.falls p next falls);
        named = λ p le in_words same. elim (cases_lt p (x - 1)) [
          | inl lower ↦ absurd (is.none_behind p le lower same)
          | inr higher ↦ elim (eqb_tells p (x - 1)) [
            | inl here ↦ subst (λ (q : ℕ). IsSettled flows sets' waiting' q place) (sym here.1) settled
            | inr ne ↦ (let other : p ≢ x - 1 = ne.1 in keeps p place (spread.named p (omega arith) in_words same))
          ]
        ];
      }
