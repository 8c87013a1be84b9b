-- The answer to a call, by what came of moving its bytes.
use Rattle.std.proofs.Common.{◌≡◌, ◌≤◌, ◌<◌, inl, inr, ℕ, Bool, true, false, leb, List, [], ◌∷◌, ◌++◌, length, take, drop, Option, Some, None, refl, sym, ap, ◌∙◌, arith}
use Rattle.std.proofs.lemmas.List.{length-take-le}
use Rattle.space.specs.Memory.{Memory}
use Rattle.machines.specs.Prelude.{Call, CallKind, ListedCall, Read, Write, Close, AnswerValue, Got, Took, Error, Outcome, Goes}
use Rattle.space.specs.declared.call.CallKind.TheVariants as kind
use Rattle.std.specs.Prelude.{Vec, Result, Ok, Err, OnErr}
use Rattle.std.specs.Global.{Global}
use Rattle.runner.specs.Prelude.{Taken, Describes, StandAt, Input, Output, Errors, Bytes, Full, Faulted, faults_on, stream_of, other_answer, Streams, Told, RoseBy, CallAnswered, TakenInVain, TakesInVain, HasTaken, HasTakeCause, ReadAnswered, WriteAnswered}
use Rattle.runner.specs.declared.transfers.Taken.TheVariants as taken

-- what holds in any case
pub if_err : {T E : Type 0} → (r : Result T E) (P : Type 0) → P → OnErr r P
if_err (Ok v) P p = tt
if_err (Err e) P p = p

pub none_rose : (n : ℕ) → RoseBy 0 n n
none_rose n = grind arith

later_rose : (n m : ℕ) → n ≤ m → RoseBy 0 n m
later_rose n m le = grind arith

taken_length : (left : List ℕ) (count n : ℕ) → n ≤ length (take count left) → length (take n (take count left)) ≡ n
taken_length left count n le = length-take-le n (take count left) le

true_not_false : true ≡ false → ⊥
true_not_false e = grind arith

items_in : Taken → List ℕ
items_in (taken.Bytes v) = v.items
items_in taken.Failed = []

failed_is_none : (v : Vec ℕ Global) → taken.Failed ≡ taken.Bytes v → ⊥
failed_is_none v e = grind arith

pub taken_in_vain : (s : Streams) (b : Bytes) → Told s b → (fd count : ℕ) → fd ≡ 0 → (now : Option (List ℕ)) (faults : ℕ) → TakesInVain count b.left now s.input_faults faults
    → TakenInVain (Read fd count) s (record s { left = now; input_faults = faults }) b
unfolding faults_on
taken_in_vain s b told fd count first now faults t = record {
  count = count;
  is_read = ap (λ n. Read n count) first;
  taken = t.taken;
  some = t.some;
  told = record { left = t.left_is; output = told.output; errors = told.errors };
  counted = record { input = later_rose _ _ t.later; output = none_rose _; errors = none_rose _ };
}

module _ {S : Type 0} (Shows : Outcome S → Type 0) (next : AnswerValue → S) (s : Streams) (b : Bytes) (told : Told s b) where
  pub read_answered : (count : ℕ) (now : Option (List ℕ)) (faults : ℕ) → ReadAnswered Shows next count b.left now s.input_faults faults
      → CallAnswered Shows (Read 0 count) next s (record s { left = now; input_faults = faults }) b
  unfolding faults_on
  read_answered count now faults (inl w) = record {
    answer = Got (take count b.left);
    transfers = record { stream = Input; extent = Full } ∷ [];
    after = record b { left = drop (length (take count b.left)) b.left };
    answered = (Full, refl, record { answered = refl; streams = refl });
    shows = w.shows;
    told = record { left = w.taken; output = told.output; errors = told.errors };
    counted = record { input = later_rose _ _ w.later; output = none_rose _; errors = none_rose _ };
  }
  read_answered count now faults (inr f) = record {
    answer = Error 5;
    transfers = record { stream = Input; extent = Faulted f.taken.taken } ∷ [];
    after = record b { left = drop (length (take f.taken.taken (take count b.left))) b.left };
    answered = (Faulted f.taken.taken, refl, (f.taken.some, record { answered = refl; streams = refl }));
    shows = f.shows;
    told = record { left = f.taken.left_is ∙ ap (λ n. Some (drop n b.left)) (sym (taken_length b.left count f.taken.taken f.taken.some)); output = told.output; errors = told.errors };
    counted = record { input = f.rose; output = none_rose _; errors = none_rose _ };
  }

  pub output_answered : (bytes : List ℕ) (now : Option (List ℕ)) (faults : ℕ) → WriteAnswered Shows next bytes b.output now s.output_faults faults
      → CallAnswered Shows (Write 1 bytes) next s (record s { output = now; output_faults = faults }) b
  unfolding faults_on
  output_answered bytes now faults (inl w) = record {
    answer = Took (length bytes);
    transfers = record { stream = Output; extent = Full } ∷ [];
    after = record b { output = b.output ++ bytes };
    answered = (Full, refl, record { answered = refl; streams = refl });
    shows = w.shows;
    told = record { left = told.left; output = w.put; errors = told.errors };
    counted = record { input = none_rose _; output = later_rose _ _ w.later; errors = none_rose _ };
  }
  output_answered bytes now faults (inr f) = record {
    answer = Error 5;
    transfers = record { stream = Output; extent = Faulted f.count } ∷ [];
    after = record b { output = b.output ++ take f.count bytes };
    answered = (Faulted f.count, refl, (f.some, record { answered = refl; streams = refl }));
    shows = f.shows;
    told = record { left = told.left; output = f.put; errors = told.errors };
    counted = record { input = none_rose _; output = f.rose; errors = none_rose _ };
  }

  pub errors_answered : (bytes : List ℕ) (now : Option (List ℕ)) (faults : ℕ) → WriteAnswered Shows next bytes b.errors now s.errors_faults faults
      → CallAnswered Shows (Write 2 bytes) next s (record s { errors = now; errors_faults = faults }) b
  unfolding faults_on
  errors_answered bytes now faults (inl w) = record {
    answer = Took (length bytes);
    transfers = record { stream = Errors; extent = Full } ∷ [];
    after = record b { errors = b.errors ++ bytes };
    answered = (Full, refl, record { answered = refl; streams = refl });
    shows = w.shows;
    told = record { left = told.left; output = told.output; errors = w.put };
    counted = record { input = none_rose _; output = none_rose _; errors = later_rose _ _ w.later };
  }
  errors_answered bytes now faults (inr f) = record {
    answer = Error 5;
    transfers = record { stream = Errors; extent = Faulted f.count } ∷ [];
    after = record b { errors = b.errors ++ take f.count bytes };
    answered = (Faulted f.count, refl, (f.some, record { answered = refl; streams = refl }));
    shows = f.shows;
    told = record { left = told.left; output = told.output; errors = f.put };
    counted = record { input = none_rose _; output = none_rose _; errors = f.rose };
  }

  -- a call without a stream
  pub other_answered : (call : ListedCall) → stream_of call ≡ None → Shows (Goes (next (other_answer call))) → CallAnswered Shows call next s s b
  unfolding faults_on
  other_answered call none shows = record {
    answer = other_answer call;
    transfers = [];
    after = b;
    answered = rw none (refl, refl, refl);
    shows = shows;
    told = told;
    counted = record { input = none_rose _; output = none_rose _; errors = none_rose _ };
  }

module _ {S : Type 0} (Shows : Outcome S → Type 0) (next : AnswerValue → S) where
  pub whole_read : (t : Taken) (v : Vec ℕ Global) → t ≡ taken.Bytes v → (count : ℕ) (left : List ℕ) (now : Option (List ℕ)) (faults faults' : ℕ) → HasTaken t now left count → HasTakeCause faults faults' t → Shows (Goes (next (Got v.items))) → ReadAnswered Shows next count left now faults faults'
  unfolding items_in
  whole_read (taken.Bytes w) v is count left now faults faults' h cause shows =
      let same : w.items ≡ v.items = ap items_in is in
      let all : v.items ≡ take count left = sym same ∙ h.0 in
      inl (record { shows = rw (sym all) shows; taken = rw (sym h.0) h.1; later = cause })
  whole_read taken.Failed v is count left now faults faults' h cause shows = absurd (failed_is_none v is)

  pub failed_read : (t : Taken) → t ≡ taken.Failed → (count : ℕ) (left : List ℕ) (now : Option (List ℕ)) (faults faults' : ℕ) → HasTaken t now left count → HasTakeCause faults faults' t → Shows (Goes (next (Error 5))) → ReadAnswered Shows next count left now faults faults'
  failed_read (taken.Bytes w) is count left now faults faults' h cause shows = absurd (failed_is_none w (sym is))
  failed_read taken.Failed is count left now faults faults' h cause shows = inr (record { shows = shows; taken = h; rose = cause })

-- which call is listed, by its kind
is_read : CallKind → Bool
is_read kind.Read = true
is_read kind.Write = false
is_read kind.Close = false

is_close : CallKind → Bool
is_close kind.Read = false
is_close kind.Write = false
is_close kind.Close = true

pub listed_read : (m : Memory) (c : Call) (listed : ListedCall) → c.kind ≡ kind.Read → Describes m c listed → listed ≡ Read c.fd c.count
unfolding is_read
listed_read m c (Read fd count) is d = sym (ap (λ f. Read f c.count) d.file ∙ ap (Read fd) d.count)
listed_read m c (Write fd bytes) is d = absurd (true_not_false (sym (ap is_read is) ∙ ap is_read d.kind))
listed_read m c (Close fd) is d = absurd (true_not_false (sym (ap is_read is) ∙ ap is_read d.kind))

pub record ListedWrite (m : Memory) (c : Call) (listed : ListedCall) : Type 0 where
  pub bytes : List ℕ
  pub is : listed ≡ Write c.fd bytes
  pub count : length bytes ≡ c.count
  pub stand : StandAt m c.at bytes

pub listed_write : (m : Memory) (c : Call) (listed : ListedCall) → c.kind ≡ kind.Write → Describes m c listed → ListedWrite m c listed
unfolding is_read is_close
listed_write m c (Read fd count) is d = absurd (true_not_false (sym (ap is_read d.kind) ∙ ap is_read is))
listed_write m c (Write fd bytes) is d = record { bytes = bytes; is = sym (ap (λ f. Write f bytes) d.file); count = sym d.count; stand = d.stand }
listed_write m c (Close fd) is d = absurd (true_not_false (sym (ap is_close d.kind) ∙ ap is_close is))

pub within : (fd : ℕ) → fd ≤ 2 → leb fd 2 ≡ true
within fd le = grind arith

pub beyond : (fd : ℕ) → 2 < fd → leb fd 2 ≡ false
beyond fd lt = grind arith
