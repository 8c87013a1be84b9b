-- A simulation relation: what has to come next from states that it relates, for their runs to agree.
--
-- Meets p q g h carries two numbers: p counts the guest instructions since the basic block began, at most 64, and q the
-- host ops since the last guest instruction, at most 256.
-- A guest instruction raises p and only a host op lets it fall, by 64 at most, so the guest is never further ahead than
-- 64 instructions for each host op and 64 more: n ≤ 64 * (m + 1).
-- A host op raises q and only a guest instruction lets it fall, by 256 at most, so the host spends no more than 256 ops
-- for each instruction and 256 more, m ≤ 256 * (n + 1); and where no instruction is carried out q rises by more than the
-- ops that were spent, so that no moves follow one another for ever.
--
-- What a translator does fits so, with k guest and j host steps from p, q to p', q':
--   a word without an op, as sync          k = 1, j = 0, p' = p + 1, q' = 0
--   the move of a register                 k = 0, j = 1, p' = p, q' = q + 2; without code j = 0, q' = q + 1
--   a tile for k words, of up to 128 ops   p' = p + k or, where it has an op, as the last of a block, p' = 0; q' = 0
--   an edge or an adapter of j ops         k = 0, p' = p, q' = q + j + 1; or they are a part of the tile before them
-- A block begins with p = 0, and one of up to 64 words has an op at its last word. Six moves in a row, a tile of 128 ops,
-- an edge and an adapter stay below 256 where the last two have at most 100 ops together. A call is a tile, whose ops
-- stand partly before it and partly behind its answer.
use Rattle.std.specs.Prelude.{◌≡◌, ◌≢◌, ℕ, suc, ◌+◌, ◌*◌, ◌<◌, ◌≤◌, ◌⊎◌}
use Rattle.space.specs.declared.call.End.{End}
use Rattle.space.specs.declared.call.End.TheVariants.{Exit, Outside}
use Rattle.space.specs.Reports.{ListedCall, AnswerValue}
use Rattle.runs.specs.Machine.{Outcome, Goes, Asks, Ends, Anywhere, AgreesFrom}

-- the machine makes j steps from s that end nothing and ask for nothing, each from a state of P, and comes to t
pub data Walks {S : Type 0} (P : S → Type 0) (step : S → Outcome S) : ℕ → S → S → Type 0 where
  stays : {s : S} → Walks P step 0 s s
  walks : {j : ℕ} {s t u : S} → P s → step s ≡ Goes t → Walks P step j t u → Walks P step (suc j) s u

module _ {G H : Type 0} (guest : G → Outcome G) (host : H → Outcome H) (IsClean : H → Type 0) (Meets : ℕ → ℕ → G → H → Type 0) where
  -- both go on: k guest steps and j host steps lead to states that meet again
  pub record Onward (p q : ℕ) (g : G) (h : H) : Type 0 where
    pub k : ℕ
    pub j : ℕ
    pub p' : ℕ
    pub q' : ℕ
    pub g' : G
    pub h' : H
    pub guest_walks : Walks Anywhere guest k g g'
    pub host_walks : Walks IsClean host j h h'
    pub meets : Meets p' q' g' h'
    pub in_block : p + k ≤ 64
    pub slow : p + k ≤ 64 * j + p'
    pub fast : q + j < 256 * k + q'

  -- behind the answer to a call that the host made after j steps, it makes i more to a state that meets again
  pub record Answered (p q j : ℕ) (g : G) (h : H) : Type 0 where
    pub i : ℕ
    pub p' : ℕ
    pub q' : ℕ
    pub h' : H
    pub host_walks : Walks IsClean host i h h'
    pub meets : Meets p' q' g h'
    pub slow : p + 1 ≤ 64 * (j + 1 + i) + p'
    pub fast : q + (j + 1 + i) < 256 + q'

  -- the guest calls, the host makes the same call after j steps, and under each answer they meet again
  pub record Called (p q : ℕ) (g : G) (h : H) : Type 0 where
    pub j : ℕ
    pub h1 : H
    pub call : ListedCall
    pub guest_next : AnswerValue → G
    pub host_next : AnswerValue → H
    pub guest_asks : guest g ≡ Asks call guest_next
    pub host_walks : Walks IsClean host j h h1
    pub host_asks : host h1 ≡ Asks call host_next
    pub clean : IsClean h1
    pub soon : q + j < 256
    pub answered : (a : AnswerValue) → Answered p q j (guest_next a) (host_next a)

  -- the guest ends, and the host ends in the same way after j steps
  pub record Over (q : ℕ) (g : G) (h : H) : Type 0 where
    pub j : ℕ
    pub h1 : H
    pub how : End
    pub inside : how ≢ Outside
    pub guest_ends : guest g ≡ Ends how
    pub host_walks : Walks IsClean host j h h1
    pub host_ends : host h1 ≡ Ends how
    pub clean : IsClean h1
    pub soon : q + j < 256

  -- the guest makes k steps, and the next one goes outside: nothing is asked of the host
  pub record Lost (p : ℕ) (g : G) : Type 0 where
    pub k : ℕ
    pub g' : G
    pub guest_walks : Walks Anywhere guest k g g'
    pub goes_outside : guest g' ≡ Ends Outside
    pub in_block : p + k ≤ 64

  -- what may come next from states that meet
  pub data Advance (p q : ℕ) (g : G) (h : H) : Type 0 where
    onward : Onward p q g h → Advance p q g h
    called : Called p q g h → Advance p q g h
    over : Over q g h → Advance p q g h
    lost : Lost p g → Advance p q g h

  abbrev pub IsBounded : Type 0
  IsBounded = (p q : ℕ) (g : G) (h : H) → Meets p q g h → (p ≤ 64) × (q ≤ 256)

  abbrev pub Advances : Type 0
  Advances = (p q : ℕ) (g : G) (h : H) → Meets p q g h → Advance p q g h

  -- from states that meet the host agrees with the guest
  abbrev pub Agreement : Type 0
  Agreement = (p q : ℕ) (g : G) (h : H) → Meets p q g h → AgreesFrom guest host IsClean g h

-- the relation is kept, or the states stand still at the same numbers
abbrev pub AdvancesOrStands : {G H : Type 0} → (G → Outcome G) → (H → Outcome H) → (H → Type 0) → (ℕ → ℕ → G → H → Type 0) → Type 0
AdvancesOrStands guest host IsClean Meets = (p q : ℕ) (g : _) (h : _) → Meets p q g h → Advance guest host IsClean Meets p q g h ⊎ Meets p q g h

-- a guest that exits at once, and a host that goes on for ever
abbrev pub exits_at_once : Unit {0} → Outcome (Unit {0})
exits_at_once g = Ends (Exit 0)

abbrev pub goes_for_ever : Unit {0} → Outcome (Unit {0})
goes_for_ever h = Goes h

-- each meets the other as long as nothing is counted
abbrev pub MeetAtZero : ℕ → ℕ → Unit {0} → Unit {0} → Type 0
MeetAtZero p q g h = (p ≡ 0) × (q ≡ 0)
