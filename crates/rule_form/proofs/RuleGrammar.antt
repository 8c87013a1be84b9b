-- The grammar of rule texts: each text is read, what was read is shown, and each good state can be closed.
use Rattle.std.proofs.Common.{◌≡◌, inl, inr, ℕ, zero, suc, ◌<◌, ◌≤◌, ◌^◌, ◌++◌, List, [], ◌∷◌, length, map, refl, sym, ap, subst, ◌∙◌, arith, Bool, true, false, Option, Some, None, ℤ, slice_get, length-append, append_assoc, lit<}
use Rattle.std.specs.List.{AllByRecursion, flat_map}
use Rattle.std.specs.Int.Bits.{and_zero_l}
use Rattle.std.proofs.lemmas.Grind.{flat_map-append}
use Rattle.std.proofs.lemmas.List.{map-append}
use Rattle.ppc_isa.specs.declared.instr.Instr.{Instr}
use Rattle.ppc_isa.specs.declared.instr.Instr.TheVariants.{Sync}
use Rattle.ppc_isa.specs.Legal.{layout}
use Rattle.ppc_isa.specs.Word.{word}
use Rattle.line_text.proofs.Grammars.{Grammar, IsGrammar, run, append-nil, all-append, run-append}
use Rattle.rule_body.specs.declared.goal.Guest.{Guest}
use Rattle.rule_body.specs.declared.line.HostLine.{HostLine}
use Rattle.rule_body.specs.Prelude.{numbers, highest, Template, AreGuests, IsWindow, IsPlaced, IsTemplate, slot_count, IsHostLine, IsHoleFor, AreHostLines, IsTake, AreRising, accesses}
use Rattle.ia_codec.specs.declared.op.Op.{Op}
use Rattle.rule_body.specs.declared.line.Hole.{Hole}
use Rattle.rule_form.specs.Prelude.{Item, Title, Open, GuestLine, At, Dead, Host, Take, Clause, End, RuleText, IsWritten, AreWritten, opened, items_of, words_of, IsItem, IsHoleWord, IsTakeWord, State, Start, Between, InGuests, InDead, InHosts, InClauses, next, shown, HaveRoom, IsFront, IsGood}
use Rattle.rule_form.proofs.ItemWords.{are-words, words-same}
use Rattle.rule_form.proofs.Windows.{count-append, window-less, highest-few, branching, not-branching, ends, word-below}

abbrev pub rules : Grammar
rules = record {
  Item = Item;
  State = State;
  Whole = List RuleText;
  words_of = words_of;
  IsItem = IsItem;
  items_of = items_of;
  IsWhole = AreWritten;
  start = Start;
  next = next;
  ended = Between;
  shown = shown;
  IsGood = IsGood;
}

-- Each text is read whole.
run-guests : (done : List RuleText) (gs xs : List Guest) → run rules (Some (InGuests done gs)) (map GuestLine xs) ≡ Some (InGuests done (gs ++ xs))
run-guests done gs [] = rw (append-nil gs) refl
run-guests done gs (x ∷ xs) = run-guests done (gs ++ x ∷ []) xs ∙ ap (λ l. Some (InGuests done l)) (append_assoc gs (x ∷ []) xs)

run-hosts : (done : List RuleText) (t : Template) (hs xs : List HostLine) → run rules (Some (InHosts done t hs)) (map Host xs) ≡ Some (InHosts done t (hs ++ xs))
run-hosts done t hs [] = rw (append-nil hs) refl
run-hosts done t hs (x ∷ xs) = run-hosts done t (hs ++ x ∷ []) xs ∙ ap (λ l. Some (InHosts done t l)) (append_assoc hs (x ∷ []) xs)

run-clauses : (done : List RuleText) (r : RuleText) (cs xs : List (List ℤ)) → run rules (Some (InClauses done (record r { clauses = cs }))) (map Clause xs) ≡ Some (InClauses done (record r { clauses = cs ++ xs }))
run-clauses done r cs [] = rw (append-nil cs) refl
run-clauses done r cs (x ∷ xs) = run-clauses done r (cs ++ x ∷ []) xs ∙ ap (λ l. Some (InClauses done (record r { clauses = l }))) (append_assoc cs (x ∷ []) xs)

run-opened : (done : List RuleText) (r : RuleText) → run rules (Some (Between done)) (opened r) ≡ Some (InClauses done r)
run-opened done r =
    let t = r.template in
    let tail = Take r.take ∷ map Clause r.clauses in
    let hosts = map Host r.lines ++ tail in
    run-append rules (Some (InGuests done [])) (map GuestLine t.guests) (At t.slots ∷ Dead t.dead ∷ hosts)
    ∙ ap (λ s. run rules s (At t.slots ∷ Dead t.dead ∷ hosts)) (run-guests done [] t.guests)
    ∙ run-append rules (Some (InHosts done t [])) (map Host r.lines) tail
    ∙ ap (λ s. run rules s tail) (run-hosts done t [] r.lines)
    ∙ run-clauses done r [] r.clauses

abbrev whole : RuleText → List Item
whole r = opened r ++ End ∷ []

run-rules : (done more : List RuleText) → run rules (Some (Between done)) (flat_map whole more) ≡ Some (Between (done ++ more))
run-rules done [] = rw (append-nil done) refl
run-rules done (r ∷ more) =
    run-append rules (Some (Between done)) (whole r) (flat_map whole more)
    ∙ ap (λ s. run rules s (flat_map whole more)) (run-append rules (Some (Between done)) (opened r) (End ∷ []) ∙ ap (λ s. run rules s (End ∷ [])) (run-opened done r))
    ∙ run-rules (done ++ r ∷ []) more ∙ ap (λ l. Some (Between l)) (append_assoc done (r ∷ []) more)

-- What was read is shown.
items-append : (done : List RuleText) (r : RuleText) → items_of (done ++ r ∷ []) ≡ items_of done ++ (opened r ++ End ∷ [])
items-append done r = ap (λ xs. Title ∷ xs) (flat_map-append whole done (r ∷ []) ∙ ap (λ l. flat_map whole done ++ l) (append-nil (whole r)))

some-same : (a b : State) → Some a ≡ Some b → a ≡ b
some-same a b e = cc

-- the part grows at its end
grows : (done front part : List Item) (x : Item) → part ≡ front ++ x ∷ [] → done ++ part ≡ (done ++ front) ++ x ∷ []
grows done front part x e = ap (λ l. done ++ l) e ∙ sym (append_assoc done front (x ∷ []))

to : (s t : State) (xs : List Item) → Some t ≡ Some s → shown t ≡ xs → shown s ≡ xs
to s t xs e is = ap shown (sym (some-same t s e)) ∙ is

shows : (s : State) (x : Item) (t : State) → next s x ≡ Some t → shown t ≡ shown s ++ x ∷ []
shows Start Title t e = to t (Between []) (Title ∷ []) e refl
shows (Between done) Open t e = to t (InGuests done []) (items_of done ++ Open ∷ []) e refl
shows (InGuests done gs) (GuestLine x) t e =
    to t (InGuests done (gs ++ x ∷ [])) ((items_of done ++ Open ∷ map GuestLine gs) ++ GuestLine x ∷ []) e
    (grows (items_of done) (Open ∷ map GuestLine gs) (Open ∷ map GuestLine (gs ++ x ∷ [])) (GuestLine x) (ap (λ l. Open ∷ l) (map-append GuestLine gs (x ∷ []))))
shows (InGuests done gs) (At a) t e =
    to t (InDead done gs a) ((items_of done ++ Open ∷ map GuestLine gs) ++ At a ∷ []) e
    (grows (items_of done) (Open ∷ map GuestLine gs) (Open ∷ (map GuestLine gs ++ At a ∷ [])) (At a) refl)
shows (InDead done gs a) (Dead d) t e =
    to t (InHosts done (record { guests = gs; slots = a; dead = d }) []) ((items_of done ++ Open ∷ (map GuestLine gs ++ At a ∷ [])) ++ Dead d ∷ []) e
    (grows (items_of done) (Open ∷ (map GuestLine gs ++ At a ∷ [])) (Open ∷ (map GuestLine gs ++ (At a ∷ Dead d ∷ []))) (Dead d) (ap (λ l. Open ∷ l) (sym (append_assoc (map GuestLine gs) (At a ∷ []) (Dead d ∷ [])))))
shows (InHosts done t hs) (Host x) s e =
    let front = Open ∷ (map GuestLine t.guests ++ (At t.slots ∷ Dead t.dead ∷ map Host hs)) in
    to s (InHosts done t (hs ++ x ∷ [])) ((items_of done ++ front) ++ Host x ∷ []) e
    (grows (items_of done) front (Open ∷ (map GuestLine t.guests ++ (At t.slots ∷ Dead t.dead ∷ map Host (hs ++ x ∷ [])))) (Host x)
    (ap (λ l. Open ∷ (map GuestLine t.guests ++ (At t.slots ∷ Dead t.dead ∷ l))) (map-append Host hs (x ∷ []))
    ∙ ap (λ l. Open ∷ l) (sym (append_assoc (map GuestLine t.guests) (At t.slots ∷ Dead t.dead ∷ map Host hs) (Host x ∷ [])))))
shows (InHosts done t hs) (Take c) s e =
    let front = Open ∷ (map GuestLine t.guests ++ (At t.slots ∷ Dead t.dead ∷ map Host hs)) in
    let r : RuleText = record { template = t; lines = hs; take = c; clauses = [] } in
    to s (InClauses done r) ((items_of done ++ front) ++ Take c ∷ []) e
    (grows (items_of done) front (opened r) (Take c) (ap (λ l. Open ∷ l) (sym (append_assoc (map GuestLine t.guests) (At t.slots ∷ Dead t.dead ∷ map Host hs) (Take c ∷ [])))))
shows (InClauses done r) (Clause x) t e =
    let g = map GuestLine r.template.guests in
    let before = λ (l : List Item). Open ∷ (g ++ (At r.template.slots ∷ Dead r.template.dead ∷ (map Host r.lines ++ (Take r.take ∷ l)))) in
    let after = λ (l : List Item). Open ∷ (g ++ (At r.template.slots ∷ Dead r.template.dead ∷ l)) in
    to t (InClauses done (record r { clauses = r.clauses ++ x ∷ [] })) ((items_of done ++ opened r) ++ Clause x ∷ []) e
    (grows (items_of done) (opened r) (opened (record r { clauses = r.clauses ++ x ∷ [] })) (Clause x)
    (ap before (map-append Clause r.clauses (x ∷ []))
    ∙ ap after (sym (append_assoc (map Host r.lines) (Take r.take ∷ map Clause r.clauses) (Clause x ∷ [])))
    ∙ ap (λ l. Open ∷ l) (sym (append_assoc g (At r.template.slots ∷ Dead r.template.dead ∷ (map Host r.lines ++ (Take r.take ∷ map Clause r.clauses))) (Clause x ∷ [])))))
shows (InClauses done r) End t e =
    to t (Between (done ++ r ∷ [])) ((items_of done ++ opened r) ++ End ∷ []) e (items-append done r ∙ sym (append_assoc (items_of done) (opened r) (End ∷ [])))
shows _ _ t e = absurd (let none : None ≡ Some t = e in cc)

-- Good states come from good ones.
all-less : {X : Type 0} (P : X → Type 0) (xs ys : List X) → AllByRecursion P (xs ++ ys) → AllByRecursion P xs
all-less P [] ys h = tt
all-less P (x ∷ xs) ys h = (h.0, all-less P xs ys h.1)

all-last : {X : Type 0} (P : X → Type 0) (xs : List X) (y : X) → AllByRecursion P (xs ++ y ∷ []) → P y
all-last P [] y h = h.0
all-last P (x ∷ xs) y h = all-last P xs y h.1

hosts-less : (t : Template) (hs : List HostLine) (x : HostLine) → AreHostLines t (hs ++ x ∷ []) → AreHostLines t hs
hosts-less t hs x h = record {
  few = let f = length-append hs (x ∷ []) in omega (arith, f, h.few);
  each = all-less (IsHostLine t) hs (x ∷ []) h.each;
  one_access = let f = count-append (λ (line : HostLine). accesses line.op) hs (x ∷ []) in omega (arith, f, h.one_access);
}

back : (s t : State) → Some t ≡ Some s → IsGood s → IsGood t
back s t e h = subst IsGood (sym (some-same t s e)) h

before : (s : State) (x : Item) (t : State) → next s x ≡ Some t → IsGood t → IsGood s
before Start Title t e h = tt
before (Between done) Open t e h = let k = back t (InGuests done []) e h in record { few = (let f = k.0.0 in omega (arith, f)); each = k.0.1 }
before (InGuests done gs) (GuestLine x) t e h = let k = back t (InGuests done (gs ++ x ∷ [])) e h in let m = window-less gs x k.1.0 k.1.1 in (k.0, (m.front, m.window))
before (InGuests done gs) (At a) t e h = let k = back t (InDead done gs a) e h in (k.0, (k.1.window, k.1.is))
before (InDead done gs a) (Dead d) t e h = let k = back t (InHosts done (record { guests = gs; slots = a; dead = d }) []) e h in (k.0, k.1.placed)
before (InHosts done t hs) (Host x) s e h = let k = back s (InHosts done t (hs ++ x ∷ [])) e h in (k.0, k.1, hosts-less t hs x k.2)
before (InHosts done t hs) (Take c) s e h = let k = back s (InClauses done (record { template = t; lines = hs; take = c; clauses = [] })) e h in (k.0, k.1.template, k.1.lines)
before (InClauses done r) (Clause x) t e h =
    let k = back t (InClauses done (record r { clauses = r.clauses ++ x ∷ [] })) e h in
    (k.0, record { template = k.1.template; lines = k.1.lines; taken = k.1.taken; clauses = all-less (AreRising 0) r.clauses (x ∷ []) k.1.clauses })
before (InClauses done r) End t e h =
    let k = back t (Between (done ++ r ∷ [])) e h in
    (((let f = length-append done (r ∷ []) in omega (arith, f, k.few)), all-less IsWritten done (r ∷ []) k.each), all-last IsWritten done r k.each)
before _ _ t e h = absurd (let none : None ≡ Some t = e in cc)

-- Their lines can be written.
fit-guests : (gs : List Guest) (v : List Instr) → AreGuests gs v → AllByRecursion IsItem (map GuestLine gs)
fit-guests [] v h = tt
fit-guests (g ∷ gs) [] h = absurd h
fit-guests (g ∷ gs) (i ∷ v) h = (word-below g.word i h.0.word, fit-guests gs v h.1)

few-slots : (gs : List Guest) (slots : List Bool) → IsPlaced gs slots → length slots ≤ 6
few-slots gs slots h = let f = highest-few 0 (flat_map numbers h.window) h.is.numbered (omega arith) in omega (arith, f, h.parameters)

get-below : {X : Type 0} (xs : List X) (k : ℕ) (x : X) → slice_get xs k ≡ Some x → k < length xs
get-below [] k x e = absurd (let none : None ≡ Some x = e in cc)
get-below (y ∷ xs) zero x e = omega arith
get-below (y ∷ xs) (suc k) x e = let f = get-below xs k x e in omega (arith, f)

fit-hole : (t : Template) (op : Op) (hole : Option (Hole × ℕ)) → IsTemplate t → IsHoleFor t op hole → IsHoleWord hole
fit-hole t op None h is = tt
fit-hole t op (Some hole) h is = let g = is.0 in let b = get-below t.guests hole.1 g.0 g.1 in let f = h.placed.is.few in omega (arith, b, f)

fit-hosts : (t : Template) (hs : List HostLine) → IsTemplate t → AllByRecursion (IsHostLine t) hs → AllByRecursion IsItem (map Host hs)
fit-hosts t [] k h = tt
fit-hosts t (x ∷ hs) k h = ((h.0.profile, fit-hole t x.op x.hole k h.0.hole), fit-hosts t hs k h.1)

fit-clauses : (cs : List (List ℤ)) → AllByRecursion (AreRising 0) cs → AllByRecursion IsItem (map Clause cs)
fit-clauses [] h = tt
fit-clauses (c ∷ cs) h = (h.0, fit-clauses cs h.1)

fit-take : (gs : List Guest) (c : Option ℕ) → IsTake gs c → IsTakeWord c
fit-take gs None h = tt
fit-take gs (Some c) h = elim h.1 [ inl k ↦ (let l = k.1 in omega (arith, l)) | inr k ↦ (let l = k.1 in omega (arith, l)) ]

fit-opened : (r : RuleText) → IsWritten r → AllByRecursion IsItem (opened r)
fit-opened r h =
    let t = h.template in
    let p = t.placed in (
      tt,
      all-append IsItem (map GuestLine r.template.guests) (At r.template.slots ∷ Dead r.template.dead ∷ (map Host r.lines ++ (Take r.take ∷ map Clause r.clauses)))
          (fit-guests r.template.guests p.window p.is.words) (
            few-slots r.template.guests r.template.slots p,
            (
              t.names,
              all-append IsItem (map Host r.lines) (Take r.take ∷ map Clause r.clauses) (fit-hosts r.template r.lines h.template h.lines.each)
                  (fit-take r.template.guests r.take h.taken, fit-clauses r.clauses h.clauses),
            ),
          ),
    )

fit-rules : (done : List RuleText) → AllByRecursion IsWritten done → AllByRecursion IsItem (flat_map whole done)
fit-rules [] h = tt
fit-rules (r ∷ done) h = all-append IsItem (whole r) (flat_map whole done) (all-append IsItem (opened r) (End ∷ []) (fit-opened r h.0) (tt, tt)) (fit-rules done h.1)

fits : (s : State) → IsGood s → AllByRecursion IsItem (shown s)
fits Start h = tt
fits (Between done) h = (tt, fit-rules done h.each)
fits (InGuests done gs) h = all-append IsItem (items_of done) (Open ∷ map GuestLine gs) (tt, fit-rules done h.0.1) (tt, fit-guests gs h.1.0 h.1.1.words)
fits (InDead done gs a) h =
    all-append IsItem (items_of done) (Open ∷ (map GuestLine gs ++ At a ∷ [])) (tt, fit-rules done h.0.1)
    (tt, all-append IsItem (map GuestLine gs) (At a ∷ []) (fit-guests gs h.1.window h.1.is.words) (few-slots gs a h.1, tt))
fits (InHosts done t hs) h =
    let p = h.1.placed in
    all-append IsItem (items_of done) (Open ∷ (map GuestLine t.guests ++ (At t.slots ∷ Dead t.dead ∷ map Host hs))) (tt, fit-rules done h.0.1) (
      tt,
      all-append IsItem (map GuestLine t.guests) (At t.slots ∷ Dead t.dead ∷ map Host hs) (fit-guests t.guests p.window p.is.words)
          (few-slots t.guests t.slots p, (h.1.names, fit-hosts t hs h.1 h.2.each)),
    )
fits (InClauses done r) h = all-append IsItem (items_of done) (opened r) (tt, fit-rules done h.0.1) (fit-opened r h.1)

-- Each good state can be closed.
unfoldable pub homes : ℕ → List Bool
homes zero = []
homes (suc n) = false ∷ homes n

length-homes : (n : ℕ) → length (homes n) ≡ n
unfolding homes
length-homes zero = refl
length-homes (suc n) = let f = length-homes n in omega (arith, f)

none-in-slots : (n : ℕ) → slot_count (homes n) ≡ 0
unfolding homes
none-in-slots zero = refl
none-in-slots (suc n) = none-in-slots n

-- a window may be closed with each parameter at home
at-home : (gs : List Guest) (window : List Instr) → IsWindow gs window → 0 < length gs → IsPlaced gs (homes (highest (flat_map numbers window)))
at-home gs window h some = record {
  window = window;
  is = h;
  some = some;
  parameters = length-homes (highest (flat_map numbers window));
  few = let f = none-in-slots (highest (flat_map numbers window)) in omega (arith, f);
}

-- with nothing dead
alive : (gs : List Guest) (slots : List Bool) → IsPlaced gs slots → IsTemplate (record { guests = gs; slots = slots; dead = 0 })
alive gs slots h = record { placed = h; names = lit< tt; written = λ k less set. absurd (set (and_zero_l (2 ^ k))) }

no-lines : (t : Template) → AreHostLines t []
no-lines t = record { few = omega arith; each = tt; one_access = omega arith }

-- with the condition of equality, where it ends in a branch
taken : (t : Template) → IsTemplate t → (c : Option ℕ) × IsTake t.guests c
taken t h = go (ends h.placed.window) refl
  where
    go : (b : Bool) → ends h.placed.window ≡ b → (c : Option ℕ) × IsTake t.guests c
    go true e = (Some 4, (branching t.guests h.placed.window h.placed.is.words e, inl (omega arith, omega arith)))
    go false e = (None, not-branching t.guests h.placed.window h.placed.is.words e)

-- the lines of a rule go on
goes-on : (done : List RuleText) (r : RuleText) (front back : List Item) → HaveRoom done → IsWritten r → opened r ≡ front ++ back
    → (w : List RuleText) × AreWritten w × ((zs : List Item) × (items_of w ≡ (items_of done ++ front) ++ zs))
goes-on done r front back room h is = (
  done ++ r ∷ [],
  record { few = (let f = length-append done (r ∷ []) in let k = room.0 in omega (arith, f, k)); each = all-append IsWritten done (r ∷ []) room.1 (h, tt) },
  (
    back ++ End ∷ [],
    items-append done r ∙ ap (λ l. items_of done ++ (l ++ End ∷ [])) is ∙ ap (λ l. items_of done ++ l) (append_assoc front back (End ∷ []))
        ∙ sym (append_assoc (items_of done) front (back ++ End ∷ [])),
  ),
)

-- some word may stand alone: sync
syncing : Guest
syncing = record { word = word (layout Sync); free = false }

sync-alone : IsWindow (syncing ∷ []) (Sync ∷ [])
unfolding syncing
sync-alone = record {
  few = omega arith;
  words = (record { word = record { spelled = refl; legal = record { fit = (omega arith, (omega arith, (omega arith, (omega arith, (omega arith, (omega arith, tt)))))); allowed = tt } }; row = refl }, tt);
  straight = tt;
  one_access = omega arith;
  numbered = tt;
}

guests-close : (gs : List Guest) → IsFront gs → (xs : List Guest) × (slots : List Bool) × IsPlaced (gs ++ xs) slots
guests-close [] h = (syncing ∷ [], homes (highest (flat_map numbers (Sync ∷ []))), at-home (syncing ∷ []) (Sync ∷ []) sync-alone (omega arith))
guests-close (g ∷ gs) h = ([], homes (highest (flat_map numbers h.0)), subst (λ l. IsPlaced l (homes (highest (flat_map numbers h.0)))) (sym (append-nil (g ∷ gs))) (at-home (g ∷ gs) h.0 h.1 (omega arith)))

template-closes : (done : List RuleText) (t : Template) (front : List Item) (more : List Item) → HaveRoom done → IsTemplate t
    → (Open ∷ (map GuestLine t.guests ++ (At t.slots ∷ Dead t.dead ∷ []))) ≡ front ++ more
    → (w : List RuleText) × AreWritten w × ((zs : List Item) × (items_of w ≡ (items_of done ++ front) ++ zs))
template-closes done t front more room h is =
    let c = taken t h in
    goes-on done (record { template = t; lines = []; take = c.0; clauses = [] }) front (more ++ Take c.0 ∷ []) room
    (record { template = h; lines = no-lines t; taken = c.1; clauses = tt })
    (ap (λ l. Open ∷ l) (sym (append_assoc (map GuestLine t.guests) (At t.slots ∷ Dead t.dead ∷ []) (Take c.0 ∷ [])))
    ∙ ap (λ l. l ++ Take c.0 ∷ []) is ∙ append_assoc front more (Take c.0 ∷ []))

closes : (s : State) → IsGood s → (w : List RuleText) × AreWritten w × ((zs : List Item) × (items_of w ≡ shown s ++ zs))
closes Start h = ([], record { few = omega arith; each = tt }, (Title ∷ [], refl))
closes (Between done) h = (done, h, ([], sym (append-nil (items_of done))))
closes (InGuests done gs) h =
    let c = guests-close gs h.1 in
    let t : Template = record { guests = gs ++ c.0; slots = c.1; dead = 0 } in
    template-closes done t (Open ∷ map GuestLine gs) (map GuestLine c.0 ++ (At c.1 ∷ Dead 0 ∷ [])) h.0 (alive (gs ++ c.0) c.1 c.2)
    (ap (λ l. Open ∷ (l ++ (At c.1 ∷ Dead 0 ∷ []))) (map-append GuestLine gs c.0) ∙ ap (λ l. Open ∷ l) (append_assoc (map GuestLine gs) (map GuestLine c.0) (At c.1 ∷ Dead 0 ∷ [])))
closes (InDead done gs a) h =
    template-closes done (record { guests = gs; slots = a; dead = 0 }) (Open ∷ (map GuestLine gs ++ At a ∷ [])) (Dead 0 ∷ []) h.0 (alive gs a h.1)
    (ap (λ l. Open ∷ l) (sym (append_assoc (map GuestLine gs) (At a ∷ []) (Dead 0 ∷ []))))
closes (InHosts done t hs) h =
    let c = taken t h.1 in
    goes-on done (record { template = t; lines = hs; take = c.0; clauses = [] }) (Open ∷ (map GuestLine t.guests ++ (At t.slots ∷ Dead t.dead ∷ map Host hs))) (Take c.0 ∷ []) h.0
    (record { template = h.1; lines = h.2; taken = c.1; clauses = tt })
    (ap (λ l. Open ∷ l) (sym (append_assoc (map GuestLine t.guests) (At t.slots ∷ Dead t.dead ∷ map Host hs) (Take c.0 ∷ []))))
closes (InClauses done r) h = goes-on done r (opened r) [] h.0 h.1 (sym (append-nil (opened r)))

between-same : (v w : List RuleText) → Between v ≡ Between w → v ≡ w
between-same v w e = cc

pub is-grammar : IsGrammar rules
is-grammar = record {
  are_words = are-words;
  words_same = words-same;
  runs = λ w. run-rules [] w;
  starts = refl;
  shows = shows;
  ended_same = λ v w e. between-same v w e;
  start_good = tt;
  before = before;
  fits = fits;
  closes = λ s h. let c = closes s h in (c.0, c.1, c.2.0, c.2.1);
  whole_good = λ w h. h;
  good_whole = λ w h. h;
}
