-- When ops carry out words: the relation of the translator in small, and that each of its steps keeps it.
use Rattle.std.proofs.Common.{◌≡◌, ℕ, ◌+◌, ◌%◌, ◌^◌, ◌<◌, ◌≤◌, List, [], ◌∷◌, ◌++◌, length, take, get_or, refl, ap, ◌∙◌, subst, ◌⊎◌, inl, inr, append_assoc, arith}
use Rattle.std.proofs.lemmas.List.{take_more}
use Rattle.space.specs.declared.call.End.TheVariants.{Exit, Outside}
use Rattle.space.specs.Reports.{Write, given}
use Rattle.runs.specs.Prelude.{Word, Op, Ends, Anywhere, IsNarrower, stays, walks, Advance, onward, called, over, lost, IsBounded, Advances, Guest, Host, guest_step, host_by, host_step, guarded_by, guarded_step, returned}
use Rattle.runs.specs.declared.example.Word.TheVariants as word
use Rattle.runs.specs.declared.example.Op.TheVariants as op

-- With b in the buffer, p words since the block began and q ops since the last of them, the ops carry out the words.
pub data Carries : ℕ → ℕ → ℕ → List Word → List Op → Type 0 where
  nothing : {b p q : ℕ} {ops : List Op} → Carries b p q [] ops
  -- a word without an op
  silent : {b p q : ℕ} {ws : List Word} {ops : List Op} → p + 1 ≤ 64 → Carries b (p + 1) 0 ws ops → Carries b p q (word.Sync ∷ ws) ops
  -- a block ends, since it would grow too long
  passed : {b p q : ℕ} {ws : List Word} {ops : List Op} → p + 1 ≤ 64 → Carries b 0 0 ws ops → Carries b p q (word.Sync ∷ ws) (op.Pass ∷ ops)
  added : {b p q n : ℕ} {ws : List Word} {ops : List Op} → p + 1 ≤ 64 → Carries b 0 0 ws ops → Carries b p q (word.Add n ∷ ws) (op.Add n ∷ ops)
  -- an op that no word stands for: at most six in a row
  stored : {b p q c : ℕ} {ws : List Word} {ops : List Op} → q + 2 ≤ 12 → Carries c p (q + 2) ws ops → Carries b p q ws (op.Store c ∷ ops)
  written : {b p q : ℕ} {ws : List Word} {ops : List Op} → p + 1 ≤ 64 → Carries b 0 0 ws ops → Carries b p q (word.Write b ∷ ws) (op.Call ∷ ops)
  spins : {b p q : ℕ} {ws : List Word} {ops : List Op} → p + 1 ≤ 64 → Carries b p q (word.Spin ∷ ws) (op.Hold ∷ ops)
  exits : {b p q : ℕ} {ws : List Word} {ops : List Op} → Carries b p q (word.Exit ∷ ws) (op.Exit ∷ ops)
  leaves : {b p q : ℕ} {ws : List Word} {ops : List Op} → Carries b p q (word.Leave ∷ ws) ops

-- the states meet: one register, and the host's ops carry out the guest's words
pub record Meets (p q : ℕ) (g : Guest) (h : Host) : Type 0 where
  pub in_block : p ≤ 64
  pub few : q ≤ 12
  pub register : g.register ≡ h.register
  pub carries : Carries h.buffer p q g.words h.ops

pub is_bounded : IsBounded guest_step guarded_step Anywhere Meets
is_bounded p q g h meets = let in_block = meets.in_block in let few = meets.few in (omega arith, omega arith)

-- what comes next, by the tile that stands there
abbrev Next : ℕ → ℕ → Guest → Host → Type 0
Next p q g h = Advance guest_step guarded_step Anywhere Meets p q g h

next : (r b p q : ℕ) (ws : List Word) (ops : List Op) → p ≤ 64 → q ≤ 12 → Carries b p q ws ops → Next p q (record { register = r; words = ws }) (record { register = r; buffer = b; ops = ops })
next r b p q ws ops le_p le_q nothing = lost (record { k = 0; g' = record { register = r; words = [] }; guest_walks = stays; goes_outside = refl; in_block = omega arith })
next r b p q ws ops le_p le_q (silent {ws = rest} fits c) = onward (record {
  k = 1;
  j = 0;
  p' = p + 1;
  q' = 0;
  g' = record { register = r; words = rest };
  h' = record { register = r; buffer = b; ops = ops };
  guest_walks = walks tt refl stays;
  host_walks = stays;
  meets = record { in_block = fits; few = omega arith; register = refl; carries = c };
  in_block = fits;
  slow = omega arith;
  fast = omega arith;
})
next r b p q ws ops le_p le_q (passed {ws = rest} {ops = more} fits c) = onward (record {
  k = 1;
  j = 1;
  p' = 0;
  q' = 0;
  g' = record { register = r; words = rest };
  h' = record { register = r; buffer = b; ops = more };
  guest_walks = walks tt refl stays;
  host_walks = walks tt refl stays;
  meets = record { in_block = omega arith; few = omega arith; register = refl; carries = c };
  in_block = fits;
  slow = omega arith;
  fast = omega arith;
})
next r b p q ws ops le_p le_q (added {n = n} {ws = rest} {ops = more} fits c) = onward (record {
  k = 1;
  j = 1;
  p' = 0;
  q' = 0;
  g' = record { register = (r + n) % 2 ^ 32; words = rest };
  h' = record { register = (r + n) % 2 ^ 32; buffer = b; ops = more };
  guest_walks = walks tt refl stays;
  host_walks = walks tt refl stays;
  meets = record { in_block = omega arith; few = omega arith; register = refl; carries = c };
  in_block = fits;
  slow = omega arith;
  fast = omega arith;
})
next r b p q ws ops le_p le_q (stored {c = byte} {ops = more} room c) = onward (record {
  k = 0;
  j = 1;
  p' = p;
  q' = q + 2;
  g' = record { register = r; words = ws };
  h' = record { register = r; buffer = byte; ops = more };
  guest_walks = stays;
  host_walks = walks tt refl stays;
  meets = record { in_block = le_p; few = room; register = refl; carries = c };
  in_block = omega arith;
  slow = omega arith;
  fast = omega arith;
})
next r b p q ws ops le_p le_q (written {ws = rest} {ops = more} fits c) = called (record {
  j = 0;
  h1 = record { register = r; buffer = b; ops = ops };
  call = Write 1 (b ∷ []);
  guest_next = λ a. record { register = returned (given (Write 1 (b ∷ [])) a); words = rest };
  host_next = λ a. record { register = returned (given (Write 1 (b ∷ [])) a); buffer = b; ops = more };
  guest_asks = refl;
  host_walks = stays;
  host_asks = refl;
  clean = tt;
  soon = omega arith;
  answered = λ a. record {
    i = 0;
    p' = 0;
    q' = 0;
    h' = record { register = returned (given (Write 1 (b ∷ [])) a); buffer = b; ops = more };
    host_walks = stays;
    meets = record { in_block = omega arith; few = omega arith; register = refl; carries = c };
    slow = omega arith;
    fast = omega arith;
  };
})
next r b p q ws ops le_p le_q (spins fits) = onward (record {
  k = 1;
  j = 1;
  p' = 0;
  q' = 0;
  g' = record { register = r; words = ws };
  h' = record { register = r; buffer = b; ops = ops };
  guest_walks = walks tt refl stays;
  host_walks = walks tt refl stays;
  meets = record { in_block = omega arith; few = omega arith; register = refl; carries = spins (omega arith) };
  in_block = fits;
  slow = omega arith;
  fast = omega arith;
})
next r b p q ws ops le_p le_q exits = over (record {
  j = 0;
  h1 = record { register = r; buffer = b; ops = ops };
  how = Exit r;
  inside = λ e. cc;
  guest_ends = refl;
  host_walks = stays;
  host_ends = refl;
  clean = tt;
  soon = omega arith;
})
next r b p q ws ops le_p le_q (leaves {ws = rest}) = lost (record { k = 0; g' = record { register = r; words = word.Leave ∷ rest }; guest_walks = stays; goes_outside = refl; in_block = omega arith })

pub advances : Advances guest_step guarded_step Anywhere Meets
advances p q g h meets =
    subst (λ r. Next p q g (record h { register = r })) meets.register (next g.register h.buffer p q g.words h.ops meets.in_block meets.few meets.carries)

-- without its code the host makes the same step, or goes outside
narrower : (r b : ℕ) (ops : List Op) → (guarded_by r b ops ≡ host_by r b ops) ⊎ (guarded_by r b ops ≡ Ends Outside)
narrower r b [] = inl refl
narrower r b (op.Peek ∷ rest) = inr refl
narrower r b (op.Pass ∷ rest) = inl refl
narrower r b (op.Add n ∷ rest) = inl refl
narrower r b (op.Store byte ∷ rest) = inl refl
narrower r b (op.Call ∷ rest) = inl refl
narrower r b (op.Hold ∷ rest) = inl refl
narrower r b (op.Exit ∷ rest) = inl refl

pub is_narrower : IsNarrower guarded_step host_step
is_narrower h = narrower h.register h.buffer h.ops

-- The ops so far carry out the words so far, whatever may follow them.
pub record SoFar (words : List Word) (place : ℕ) (ops : List Op) : Type 0 where
  pub in_block : place < 64
  pub carried : (later : List Word) (more : List Op) → ((b : ℕ) → Carries b place 0 later more) → (b : ℕ) → Carries b 0 0 (words ++ later) (ops ++ more)

-- this op and those behind it carry out this word and those behind it
abbrev pub IsTile : ℕ → Word → List Op → ℕ → Type 0
IsTile place w tile next = (later : List Word) (more : List Op) → ((b : ℕ) → Carries b next 0 later more) → (b : ℕ) → Carries b place 0 (w ∷ later) (tile ++ more)

pub one_more : (words : List Word) (i place next place' : ℕ) (ops tile ops' : List Op) (w : Word) → i < length words → next < 64 → SoFar (take i words) place ops → get_or words i word.Sync ≡ w → IsTile place w tile next → place' ≡ next → ops' ≡ ops ++ tile → SoFar (take (i + 1) words) place' ops'
one_more words i place next place' ops tile ops' w lt fits so_far at_i lays same_place same_ops = record {
  in_block = omega arith;
  carried = λ later more rest b.
      let behind : take (i + 1) words ++ later ≡ take i words ++ (w ∷ later) = ap (λ ws. ws ++ later) (take_more words i word.Sync lt ∙ ap (λ v. take i words ++ v ∷ []) at_i) ∙ append_assoc (take i words) (w ∷ []) later in
      let laid : ops' ++ more ≡ ops ++ (tile ++ more) = ap (λ os. os ++ more) same_ops ∙ append_assoc ops tile more in
      rw (behind, laid) (so_far.carried (w ∷ later) (tile ++ more) (lays later more (subst (λ k. (b : ℕ) → Carries b k 0 later more) same_place rest)) b);
}

module _ (place : ℕ) (fits : place + 1 ≤ 64) where
  pub silent_tile : IsTile place word.Sync [] (place + 1)
  silent_tile later more rest b = silent fits (rest b)

  pub passed_tile : IsTile place word.Sync (op.Pass ∷ []) 0
  passed_tile later more rest b = passed fits (rest b)

  pub added_tile : (n : ℕ) → IsTile place (word.Add n) (op.Add n ∷ []) 0
  added_tile n later more rest b = added fits (rest b)

  pub written_tile : (byte : ℕ) → IsTile place (word.Write byte) (op.Store byte ∷ op.Call ∷ []) 0
  written_tile byte later more rest b = stored (omega arith) (written fits (rest byte))

  pub spins_tile : IsTile place word.Spin (op.Hold ∷ []) 0
  spins_tile later more rest b = spins fits

  pub exits_tile : IsTile place word.Exit (op.Exit ∷ []) 0
  exits_tile later more rest b = exits

  pub leaves_tile : IsTile place word.Leave [] 0
  leaves_tile later more rest b = leaves

-- two ops pushed one after the other
pub two_pushed : (ops one two : List Op) (a b : Op) → one ≡ ops ++ a ∷ [] → two ≡ one ++ b ∷ [] → two ≡ ops ++ (a ∷ b ∷ [])
two_pushed ops one two a b first second = second ∙ ap (λ os. os ++ b ∷ []) first ∙ append_assoc ops (a ∷ []) (b ∷ [])
