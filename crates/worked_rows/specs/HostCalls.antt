-- Addresses of the host, and its calls with their answers, worked out by hand.
use Rattle.std.specs.Prelude.{◌≡◌, ℕ, true, false, List, [], ◌∷◌, Option, Some, None}
use Rattle.machines.specs.Prelude.{ListedCall, Read, Write, Close, AnswerValue, Got, Took, Error, Outcome, Goes, Asks, Ends, Base, Pair, Int80, update, load, Rights, Host, place_of, host_acts}
use Rattle.ia_codec.specs.RowExamples.{flags}
use Rattle.machines.specs.Host.{Memory}

-- ebx is 0xfffffff0 and ecx 8, and the other registers are 0
abbrev pub high_base : ℕ → ℕ
high_base = update (update (λ r. 0) 3 0xfffffff0) 1 8

-- a byte for each of the last two addresses and the first two
abbrev pub around_0 : ℕ → ℕ
around_0 = update (update (update (update (λ a. 0) 0xfffffffe 0x11) 0xffffffff 0x22) 0 0x33) 1 0x44

pub record AddressesWrap : Type 0 where
  pub base : place_of 4 (Base 3 0x18) high_base ≡ Memory 4 8
  pub negative : place_of 1 (Base 3 0xfffffff8) high_base ≡ Memory 1 0xffffffe8
  pub pair : place_of 2 (Pair 3 1 2 4) high_base ≡ Memory 2 0x14
  pub bytes : load 4 0xfffffffe around_0 ≡ 0x44332211

-- every address may be read, and written
abbrev pub all_rights : Rights
all_rights = record { held = λ a. true; writable = λ a. true }

-- the host with these numbers in eax, ebx, ecx and edx, and 7 in each byte
abbrev pub calling : ℕ → ℕ → ℕ → ℕ → Host
calling eax ebx ecx edx = record {
  core = record {
    regs = update (update (update (update (λ r. 0) 0 eax) 3 ebx) 1 ecx) 2 edx;
    flags = flags false false false false;
    bytes = λ a. 7;
  };
  eip = 0x08048000;
  choices = [];
}

-- what is asked, and behind an answer: eax, the next address, and the first three bytes from 0x09000000 on
pub record Answered : Type 0 where
  pub call : ListedCall
  pub eax : ℕ
  pub next : ℕ
  pub bytes : List ℕ

abbrev pub shown : ListedCall → Host → Answered
shown call h = record { call = call; eax = h.core.regs 0; next = h.eip; bytes = h.core.bytes 0x09000000 ∷ h.core.bytes 0x09000001 ∷ h.core.bytes 0x09000002 ∷ [] }

abbrev pub answered : AnswerValue → Outcome Host → Option Answered
answered a (Asks call next) = Some (shown call (next a))
answered a (Goes h) = None
answered a (Ends e) = None

-- int 0x80 with these numbers, and an answer: what is asked, eax and the bytes
abbrev pub Answers : Host → AnswerValue → ListedCall → ℕ → List ℕ → Type 0
Answers h answer call eax bytes = answered answer (host_acts all_rights Int80 0x08048002 h) ≡ Some (record { call = call; eax = eax; next = 0x08048002; bytes = bytes })

-- A read of 3 bytes to 0x09000000, a write of 2 bytes from there, and a close; an error e is 2^32 - e.
pub record AnswersShown : Type 0 where
  pub reads_some : Answers (calling 3 0 0x09000000 3) (Got (104 ∷ 105 ∷ [])) (Read 0 3) 2 (104 ∷ 105 ∷ 7 ∷ [])
  pub reads_no_more : Answers (calling 3 0 0x09000000 3) (Got (1 ∷ 2 ∷ 3 ∷ 4 ∷ [])) (Read 0 3) 3 (1 ∷ 2 ∷ 3 ∷ [])
  pub reads_in_vain : Answers (calling 3 0 0x09000000 3) (Error 5) (Read 0 3) 0xfffffffb (7 ∷ 7 ∷ 7 ∷ [])
  pub writes : Answers (calling 4 1 0x09000000 2) (Took 1) (Write 1 (7 ∷ 7 ∷ [])) 1 (7 ∷ 7 ∷ 7 ∷ [])
  pub writes_in_vain : Answers (calling 4 1 0x09000000 2) (Error 9) (Write 1 (7 ∷ 7 ∷ [])) 0xfffffff7 (7 ∷ 7 ∷ 7 ∷ [])
  pub closes : Answers (calling 6 2 0 0) (Took 4) (Close 2) 0 (7 ∷ 7 ∷ 7 ∷ [])
