-- The induction over runs: from states that meet, every number of guest steps has its number of host steps.
use Rattle.std.proofs.Common.{◌≡◌, ◌≢◌, ℕ, zero, suc, ◌+◌, ◌-◌, ◌*◌, ◌<◌, ◌≤◌, List, [], ◌∷◌, refl, sym, ap, ◌∙◌, subst, ⊎_elim, arith}
use Rattle.std.proofs.lemmas.Bool.{cases_lt}
use Rattle.space.specs.declared.call.End.TheVariants.{Running, Outside, Dry}
use Rattle.space.specs.Reports.{AnswerValue, ended, listed, going_on}
use Rattle.runs.specs.Prelude.{Outcome, run, After, Along, Anywhere, onward, called, over, lost}
use Rattle.runs.specs.Simulation as kinds
use Rattle.runs.proofs.Walking.{run_walk, along_walk, run_within, run_end, run_dry, run_ask}

module _ {G H : Type 0} (guest : G → Outcome G) (host : H → Outcome H) (IsClean : H → Type 0) (Meets : ℕ → ℕ → G → H → Type 0) where
  abbrev Onward : ℕ → ℕ → G → H → Type 0
  Onward = kinds.Onward guest host IsClean Meets

  abbrev Called : ℕ → ℕ → G → H → Type 0
  Called = kinds.Called guest host IsClean Meets

  abbrev Over : ℕ → G → H → Type 0
  Over = kinds.Over guest host IsClean Meets

  abbrev Lost : ℕ → G → Type 0
  Lost = kinds.Lost guest host IsClean Meets

  abbrev Advance : ℕ → ℕ → G → H → Type 0
  Advance = kinds.Advance guest host IsClean Meets

  -- the agreement, with the shares of both bounds that p and q have taken
  record Follows (p q n : ℕ) (answers : List AnswerValue) (g : G) (h : H) : Type 0 where
    pub m : ℕ
    pub fast : m + q ≤ 256 * n + 256
    pub clean : Along IsClean host m answers h
    pub inside : (run guest n answers g).ending ≢ Outside → (n + p ≤ 64 * m + 64) × (run host m answers h ≡ run guest n answers g)
    pub outside : (run guest n answers g).ending ≡ Outside → run host m answers h ≡ going_on (run guest n answers g)

  -- the host stands still while the guest goes on and calls nothing
  waits : (p q n : ℕ) (answers : List AnswerValue) (g : G) (h : H) → q ≤ 256 → n + p ≤ 64 → run guest n answers g ≡ ended Running → Follows p q n answers g h
  waits p q n answers g h le_q le e = record {
    m = 0;
    fast = omega arith;
    clean = tt;
    inside = λ _. (omega arith, sym e);
    outside = λ _. sym (ap going_on e);
  }

  onward_follows : (p q n : ℕ) (answers : List AnswerValue) (g : G) (h : H) → q ≤ 256 → (o : Onward p q g h) → ((n' : ℕ) → n ≡ o.k + n' → Follows o.p' o.q' n' answers o.g' o.h') → Follows p q n answers g h
  onward_follows p q n answers g h le_q o rest = ⊎_elim short long (cases_lt n o.k)
    where
      short : n < o.k → Follows p q n answers g h
      short lt = waits p q n answers g h le_q (omega (arith, o.in_block)) (run_within Anywhere guest o.k n answers g o.g' o.guest_walks (omega arith))

      long : o.k ≤ n → Follows p q n answers g h
      long le =
          let n' : ℕ = n - o.k in
          let e : n ≡ o.k + n' = omega arith in
          let r = rest n' e in
          let guest_run : run guest n answers g ≡ run guest n' answers o.g' = ap (λ k. run guest k answers g) e ∙ run_walk Anywhere guest o.k n' answers g o.g' o.guest_walks in
          let host_run : run host (o.j + r.m) answers h ≡ run host r.m answers o.h' = run_walk IsClean host o.j r.m answers h o.h' o.host_walks in
          record {
            m = o.j + r.m;
            fast = omega (arith, o.fast, r.fast);
            clean = along_walk IsClean host o.j r.m answers h o.h' o.host_walks r.clean;
            inside = λ ne. let i = r.inside (λ x. ne (ap (λ x. x.ending) guest_run ∙ x)) in (omega (arith, i.0, o.slow), host_run ∙ i.1 ∙ sym guest_run);
            outside = λ x. host_run ∙ r.outside (ap (λ x. x.ending) (sym guest_run) ∙ x) ∙ ap going_on (sym guest_run);
          }

  over_follows : (p q n : ℕ) (answers : List AnswerValue) (g : G) (h : H) → p ≤ 64 → Over q g h → Follows p q (suc n) answers g h
  over_follows p q n answers g h le_p o =
      let guest_run : run guest (suc n) answers g ≡ ended o.how = run_end guest n answers g o.how o.guest_ends in
      let host_run : run host (o.j + suc n) answers h ≡ ended o.how = run_walk IsClean host o.j (suc n) answers h o.h1 o.host_walks ∙ run_end host n answers o.h1 o.how o.host_ends in
      record {
        m = o.j + suc n;
        fast = omega (arith, o.soon);
        clean = along_walk IsClean host o.j (suc n) answers h o.h1 o.host_walks (o.clean, subst (After (Along IsClean host n) answers) (sym o.host_ends) tt);
        inside = λ ne. (omega arith, host_run ∙ sym guest_run);
        outside = λ x. absurd (o.inside (ap (λ x. x.ending) (sym guest_run) ∙ x));
      }

  lost_follows : (p q n : ℕ) (answers : List AnswerValue) (g : G) (h : H) → q ≤ 256 → Lost p g → Follows p q n answers g h
  lost_follows p q n answers g h le_q o = ⊎_elim gone still (cases_lt o.k n)
    where
      still : n ≤ o.k → Follows p q n answers g h
      still le = waits p q n answers g h le_q (omega (arith, o.in_block)) (run_within Anywhere guest o.k n answers g o.g' o.guest_walks le)

      gone : o.k < n → Follows p q n answers g h
      gone lt =
          let n' : ℕ = n - suc o.k in
          let e : n ≡ o.k + suc n' = omega arith in
          let guest_run : run guest n answers g ≡ ended Outside = ap (λ k. run guest k answers g) e ∙ run_walk Anywhere guest o.k (suc n') answers g o.g' o.guest_walks ∙ run_end guest n' answers o.g' Outside o.goes_outside in
          record {
            m = 0;
            fast = omega arith;
            clean = tt;
            inside = λ ne. absurd (ne (ap (λ x. x.ending) guest_run));
            outside = λ _. sym (ap going_on guest_run);
          }

  called_follows : (p q n : ℕ) (answers : List AnswerValue) (g : G) (h : H) → p ≤ 64 → (o : Called p q g h) → ((a : AnswerValue) (later : List AnswerValue) → Follows (o.answered a).p' (o.answered a).q' n later (o.guest_next a) (o.answered a).h') → Follows p q (suc n) answers g h
  called_follows p q n [] g h le_p o rest =
      let guest_run : run guest (suc n) [] g ≡ listed o.call (ended Dry) = run_dry guest n g o.call o.guest_next o.guest_asks in
      let host_run : run host (o.j + suc n) [] h ≡ listed o.call (ended Dry) = run_walk IsClean host o.j (suc n) [] h o.h1 o.host_walks ∙ run_dry host n o.h1 o.call o.host_next o.host_asks in
      record {
        m = o.j + suc n;
        fast = omega (arith, o.soon);
        clean = along_walk IsClean host o.j (suc n) [] h o.h1 o.host_walks (o.clean, subst (After (Along IsClean host n) []) (sym o.host_asks) tt);
        inside = λ ne. (omega arith, host_run ∙ sym guest_run);
        outside = λ x. let no : Dry ≡ Outside = ap (λ x. x.ending) (sym guest_run) ∙ x in cc;
      }
  called_follows p q n (a ∷ later) g h le_p o rest =
      let t = o.answered a in
      let r = rest a later in
      let walk : (k : ℕ) → run host (t.i + k) later (o.host_next a) ≡ run host k later t.h' = λ k. run_walk IsClean host t.i k later (o.host_next a) t.h' t.host_walks in
      let guest_run : run guest (suc n) (a ∷ later) g ≡ listed o.call (run guest n later (o.guest_next a)) = run_ask guest n a later g o.call o.guest_next o.guest_asks in
      let host_run : run host (o.j + suc (t.i + r.m)) (a ∷ later) h ≡ listed o.call (run host r.m later t.h') =
      run_walk IsClean host o.j (suc (t.i + r.m)) (a ∷ later) h o.h1 o.host_walks ∙ run_ask host (t.i + r.m) a later o.h1 o.call o.host_next o.host_asks ∙ ap (listed o.call) (walk r.m) in
      record {
        m = o.j + suc (t.i + r.m);
        fast = omega (arith, t.fast, r.fast);
        clean = along_walk IsClean host o.j (suc (t.i + r.m)) (a ∷ later) h o.h1 o.host_walks (o.clean, subst (After (Along IsClean host (t.i + r.m)) (a ∷ later)) (sym o.host_asks) (along_walk IsClean host t.i r.m later (o.host_next a) t.h' t.host_walks r.clean));
        inside = λ ne. let i = r.inside (λ x. ne (ap (λ x. x.ending) guest_run ∙ x)) in (omega (arith, i.0, t.slow), host_run ∙ ap (listed o.call) i.1 ∙ sym guest_run);
        outside = λ x. host_run ∙ ap (listed o.call) (r.outside (ap (λ x. x.ending) (sym guest_run) ∙ x)) ∙ ap going_on (sym guest_run);
      }

  module _ (bounded : kinds.IsBounded guest host IsClean Meets) (advance : kinds.Advances guest host IsClean Meets) where
    -- what follows where the host ops that may still pass are bounded by this fuel: each advance spends some of it
    abbrev Below : ℕ → Type 0
    Below fuel = (p q n : ℕ) (answers : List AnswerValue) (g : G) (h : H) → 256 * n + 256 ≤ fuel + q → Meets p q g h → Follows p q n answers g h

    one_advance : (fuel p q n : ℕ) (answers : List AnswerValue) (g : G) (h : H) → Below fuel → p ≤ 64 → q ≤ 256 → 256 * suc n + 256 ≤ suc fuel + q → Advance p q g h → Follows p q (suc n) answers g h
    one_advance fuel p q n answers g h below le_p le_q le (onward o) =
        onward_follows p q (suc n) answers g h le_q o (λ n' e. below o.p' o.q' n' answers o.g' o.h' (omega (arith, o.fast)) o.meets)
    one_advance fuel p q n answers g h below le_p le_q le (called o) =
        called_follows p q n answers g h le_p o (λ a later. let t = o.answered a in below t.p' t.q' n later (o.guest_next a) t.h' (omega (arith, t.fast)) t.meets)
    one_advance fuel p q n answers g h below le_p le_q le (over o) = over_follows p q n answers g h le_p o
    one_advance fuel p q n answers g h below le_p le_q le (lost o) = lost_follows p q (suc n) answers g h le_q o

    follow_by : (fuel : ℕ) → Below fuel
    follow_by fuel p q zero answers g h le meets = let b = bounded p q g h meets in waits p q 0 answers g h b.1 (omega (arith, b.0)) refl
    follow_by zero p q (suc n) answers g h le meets = let b = bounded p q g h meets in absurd (omega (arith, b.1))
    follow_by (suc fuel) p q (suc n) answers g h le meets =
        let b = bounded p q g h meets in one_advance fuel p q n answers g h (follow_by fuel) b.0 b.1 le (advance p q g h meets)

    -- from states that meet the host agrees with the guest
    pub agrees : kinds.Agreement guest host IsClean Meets
    agrees p q g h meets answers n =
        let r = follow_by (256 * n + 256) p q n answers g h (omega arith) meets in
        record {
          m = r.m;
          soon = omega (arith, r.fast);
          clean = r.clean;
          agrees = record { inside = λ ne. let i = r.inside ne in (omega (arith, i.0), i.1); outside = r.outside };
        }
