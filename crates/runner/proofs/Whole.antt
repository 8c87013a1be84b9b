-- There is one run in which every call moves all that it can.
use Rattle.std.proofs.Common.{◌≡◌, ℕ, zero, suc, ◌&&◌, List, [], ◌∷◌, ◌++◌, Option, Some, None, refl, sym, ap, ◌∙◌, arith}
use Rattle.machines.specs.Prelude.{End, ListedCall, AnswerValue, one_if, Outcome, Goes, Asks, Ends, run, reported}
use Rattle.outside.specs.Causes.{Rose}
use Rattle.runner.specs.Prelude.{Stream, Input, Output, Errors, Bytes, Extent, Full, Faulted, Transfer, faults_on, is_same, is_faulted, IsAnswered, IsAnsweredOn, IsTransferred, AreAnswered, AreWhole, HasWholeRun, stream_of, Streams, RoseBy, HasCounted}
use Rattle.runner.proofs.Runs.{add_faults}

whole_first : (xs ys : List Transfer) → AreWhole (xs ++ ys) → AreWhole xs
unfolding AreWhole
whole_first [] ys w = tt
whole_first (x ∷ xs) ys w = (w.0, whole_first xs ys w.1)

whole_later : (xs ys : List Transfer) → AreWhole (xs ++ ys) → AreWhole ys
unfolding AreWhole
whole_later [] ys w = w
whole_later (x ∷ xs) ys w = whole_later xs ys w.1

not_faulted : (k : ℕ) → Faulted k ≡ Full → ⊥
not_faulted k e = grind arith

faulted : (stream : Stream) (k : ℕ) (xs : List Transfer) → xs ≡ record { stream = stream; extent = Faulted k } ∷ [] → AreWhole xs → ⊥
unfolding AreWhole
faulted stream k [] e w = grind arith
faulted stream k (x ∷ xs) e w = not_faulted k (sym (ap (extent_of Full) e) ∙ w.0)
  where
    extent_of : Extent → List Transfer → Extent
    extent_of d [] = d
    extent_of d (t ∷ ts) = t.extent

-- one answer, and one state of the streams behind it
record Same (a b : AnswerValue) (m n : Bytes) : Type 0 where
  answer : a ≡ b
  middle : m ≡ n

same_by : (stream : Stream) (call : ListedCall) (a b : AnswerValue) (xs ys : List Transfer) (before m n : Bytes) → AreWhole xs → AreWhole ys → (p q : Extent) → xs ≡ record { stream = stream; extent = p } ∷ [] → ys ≡ record { stream = stream; extent = q } ∷ [] → IsTransferred call stream p a before m → IsTransferred call stream q b before n → Same a b m n
same_by stream call a b xs ys before m n wx wy Full Full e f s t = record { answer = s.answered ∙ sym t.answered; middle = s.streams ∙ sym t.streams }
same_by stream call a b xs ys before m n wx wy Full (Faulted k) e f s t = absurd (faulted stream k ys f wy)
same_by stream call a b xs ys before m n wx wy (Faulted k) q e f s t = absurd (faulted stream k xs e wx)

same_on : (stream : Option Stream) (call : ListedCall) (a b : AnswerValue) (xs ys : List Transfer) (before m n : Bytes) → AreWhole xs → AreWhole ys → IsAnsweredOn stream call a xs before m → IsAnsweredOn stream call b ys before n → Same a b m n
same_on None call a b xs ys before m n wx wy x y = record { answer = x.0 ∙ sym y.0; middle = x.2 ∙ sym y.2 }
same_on (Some stream) call a b xs ys before m n wx wy x y = same_by stream call a b xs ys before m n wx wy x.0 y.0 x.1 y.1 x.2 y.2

-- what a run comes to, by its first step
EndsBy : {S : Type 0} → (S → Outcome S) → ℕ → Bytes → End → Outcome S → Type 0
EndsBy step n before e (Goes t) = HasWholeRun step t n before e
EndsBy step n before e (Ends f) = f ≡ e
EndsBy step n before e (Asks call next) = (answer : AnswerValue) × (first : List Transfer) × (middle : Bytes) × AreWhole first × IsAnswered call answer first before middle × HasWholeRun step (next answer) n middle e

module _ {S : Type 0} (step : S → Outcome S) where
  asks_by : (n : ℕ) (before after : Bytes) (e : End) (call : ListedCall) (next : AnswerValue → S) (answers : List AnswerValue) (transfers : List Transfer) → AreWhole transfers
      → AreAnswered (reported (run step n) answers (Asks call next)).calls answers transfers before after → (reported (run step n) answers (Asks call next)).ending ≡ e → EndsBy step n before e (Asks call next)
  unfolding AreAnswered EndsBy
  asks_by n before after e call next [] transfers w attended is = absurd attended
  asks_by n before after e call next (a ∷ more) transfers w attended is =
      let parts : AreWhole (attended.first ++ attended.later) = rw (sym attended.parts) w in
      (a, attended.first, attended.middle, whole_first attended.first attended.later parts, attended.now, record { transfers = attended.later; after = after; moved = whole_later attended.first attended.later parts; runs = record { answers = more; attended = attended.next; ends = is } })

  by_outcome : (n : ℕ) (before after : Bytes) (e : End) (o : Outcome S) (answers : List AnswerValue) (transfers : List Transfer) → AreWhole transfers
      → AreAnswered (reported (run step n) answers o).calls answers transfers before after → (reported (run step n) answers o).ending ≡ e → EndsBy step n before e o
  unfolding EndsBy
  by_outcome n before after e (Goes t) answers transfers w attended is = record { transfers = transfers; after = after; moved = w; runs = record { answers = answers; attended = attended; ends = is } }
  by_outcome n before after e (Ends f) answers transfers w attended is = is
  by_outcome n before after e (Asks call next) answers transfers w attended is = asks_by n before after e call next answers transfers w attended is

  one_from : (n : ℕ) → ((s : S) (before : Bytes) (e f : End) → HasWholeRun step s n before e → HasWholeRun step s n before f → e ≡ f)
      → (o : Outcome S) (before : Bytes) (e f : End) → EndsBy step n before e o → EndsBy step n before f o → e ≡ f
  unfolding EndsBy
  one_from n one (Goes t) before e f x y = one t before e f x y
  one_from n one (Ends g) before e f x y = sym x ∙ y
  one_from n one (Asks call next) before e f x y =
      let same = same_on (stream_of call) call x.0 y.0 x.1 y.1 before x.2 y.2 x.3 y.3 x.4 y.4 in
      one (next x.0) x.2 e f x.5 (rw (same.answer, same.middle) y.5)

  pub one_whole_run : (n : ℕ) (s : S) (before : Bytes) (e f : End) → HasWholeRun step s n before e → HasWholeRun step s n before f → e ≡ f
  one_whole_run zero s before e f x y = sym x.runs.ends ∙ y.runs.ends
  one_whole_run (suc n) s before e f x y =
      one_from n (λ t b g h p q. one_whole_run n t b g h p q) (step s) before e f
      (by_outcome n before x.after e (step s) x.runs.answers x.transfers x.moved x.runs.attended x.runs.ends)
      (by_outcome n before y.after f (step s) y.runs.answers y.transfers y.moved y.runs.attended y.runs.ends)

none_of : (n before now : ℕ) → RoseBy n before now → (Rose before now → ⊥) → n ≡ 0
none_of zero before now rose calm = refl
none_of (suc n) before now rose calm = absurd (calm (omega (arith, rose)))

-- a transfer that is counted on no stream
calm_one : (stream : Stream) (x : Extent) → one_if (is_same Input stream && is_faulted x) ≡ 0 → one_if (is_same Output stream && is_faulted x) ≡ 0 → one_if (is_same Errors stream && is_faulted x) ≡ 0 → x ≡ Full
calm_one stream Full i o e = refl
calm_one Input (Faulted k) i o e = absurd (grind arith)
calm_one Output (Faulted k) i o e = absurd (grind arith)
calm_one Errors (Faulted k) i o e = absurd (grind arith)

alone : (stream : Stream) (t : Transfer) → faults_on stream (t ∷ []) ≡ one_if (is_same stream t.stream && is_faulted t.extent)
unfolding faults_on
alone stream t = omega arith

one_of : (stream : Stream) (t : Transfer) (ts : List Transfer) → faults_on stream (t ∷ ts) ≡ 0 → (one_if (is_same stream t.stream && is_faulted t.extent) ≡ 0) × (faults_on stream ts ≡ 0)
one_of stream t ts e =
    let parts = add_faults stream (t ∷ []) ts in
    let first = alone stream t in
    (omega (arith, parts, e, first), omega (arith, parts, e))

whole_if_none : (ts : List Transfer) → faults_on Input ts ≡ 0 → faults_on Output ts ≡ 0 → faults_on Errors ts ≡ 0 → AreWhole ts
unfolding AreWhole
whole_if_none [] i o e = tt
whole_if_none (t ∷ ts) i o e =
    let x = one_of Input t ts i in
    let y = one_of Output t ts o in
    let z = one_of Errors t ts e in
    (calm_one t.stream t.extent x.0 y.0 z.0, whole_if_none ts x.1 y.1 z.1)

-- where no count rose no stream failed
pub whole_if_calm : (old new : Streams) (ts : List Transfer) → HasCounted old new ts → (Rose old.input_faults new.input_faults → ⊥) → (Rose old.output_faults new.output_faults → ⊥) → (Rose old.errors_faults new.errors_faults → ⊥) → AreWhole ts
whole_if_calm old new ts counted i o e = whole_if_none ts (none_of _ _ _ counted.input i) (none_of _ _ _ counted.output o) (none_of _ _ _ counted.errors e)
