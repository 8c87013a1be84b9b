-- Ops whose spellings stand in the code stand there.
use Rattle.std.proofs.Common.{◌≡◌, ℕ, ◌+◌, ◌-◌, ◌%◌, ◌^◌, ◌<◌, Bool, true, cond, leb, ltb, List, ◌++◌, length, take, drop, Option, Some, refl, ap, ◌∙◌, arith, append_assoc, length-append}
use Rattle.std.proofs.Math.Seq.{take-append_seam, drop-append_seam}
use Rattle.std.proofs.lemmas.List.{take-take, length-take}
use Rattle.std.proofs.lemmas.Bool.Decides.{nat_tests}
use Rattle.machines.specs.Prelude.{Outside, spelling, IsInProfile, IsSpelt, Op, Jmp, Goes, Ends, Code, is_code, Fetched, host_acts, host_executes, op_bytes}
use Rattle.ia_codec.proofs.Lengths.{length-spelling}
use Rattle.symbolic_tiles.specs.Prelude.{OpAt}
use Rattle.simulation.specs.Prelude.{SimulationContext, JumpsTo}
use Rattle.laid_code.specs.Prelude.{HasBytes, RunsCode}

pub first_bytes_at : (code : Code) (here : ℕ) (x y : List ℕ) → HasBytes code here (x ++ y) → HasBytes code here x
first_bytes_at code here x y h = record {
  before = h.before;
  behind = y ++ h.behind;
  cut = h.cut ∙ ap (λ z. h.before ++ z) (append_assoc x y h.behind);
  begins = h.begins;
}

pub next_bytes_at : (code : Code) (here : ℕ) (x y : List ℕ) → HasBytes code here (x ++ y) → HasBytes code (here + length x) y
next_bytes_at code here x y h = record {
  before = h.before ++ x;
  behind = h.behind;
  cut = h.cut ∙ simp append_assoc;
  begins = omega (arith, length-append h.before x, h.begins);
}

-- a spelling begins twelve bytes from it on
spelt_in_twelve : (op : Op) (rest : List ℕ) → IsInProfile op → IsSpelt op (take 12 (spelling op ++ rest)) (length (spelling op))
spelt_in_twelve op rest ok = record {
  profile = ok;
  within = omega (arith, length-take 12 (spelling op ++ rest), length-append (spelling op) rest, (length-spelling op).1);
  front = take-take (length (spelling op)) 12 (spelling op ++ rest) (length-spelling op).1 ∙ take-append_seam (spelling op) rest;
}

-- the bytes that the machine sees there
seen : (code : Code) (here : ℕ) (bytes : List ℕ) (h : HasBytes code here bytes) → op_bytes code here ≡ take 12 (bytes ++ h.behind)
seen code here bytes h =
    let place : here - code.at ≡ length h.before = omega (arith, h.begins) in
    rw (place, h.cut, drop-append_seam h.before (bytes ++ h.behind)) refl

within : (code : Code) (here : ℕ) (bytes : List ℕ) → HasBytes code here bytes → 0 < length bytes → is_code code here ≡ true
within code here bytes h some =
    let long : length code.bytes ≡ length h.before + (length bytes + length h.behind) = ap length h.cut ∙ length-append h.before (bytes ++ h.behind) ∙ ap (λ n. length h.before + n) (length-append bytes h.behind) in
    let from : leb code.at here ≡ true = grind (arith, nat_tests, h.begins) in
    let to : ltb here (code.at + length code.bytes) ≡ true = grind (arith, nat_tests, h.begins, long, some) in
    rw (from, to) refl

pub bytes_end_low : (code : Code) (here : ℕ) (bytes : List ℕ) → code.at + length code.bytes < 2 ^ 32 → HasBytes code here bytes → here + length bytes < 2 ^ 32
bytes_end_low code here bytes low h =
    let long : length code.bytes ≡ length h.before + (length bytes + length h.behind) = ap length h.cut ∙ length-append h.before (bytes ++ h.behind) ∙ ap (λ n. length h.before + n) (length-append bytes h.behind) in
    omega (arith, h.begins, long, low)

pub ends_low : (s : SimulationContext) (code : Code) (reading : List ℕ → Option Fetched) (here : ℕ) (bytes : List ℕ) → RunsCode s code reading → HasBytes code here bytes → here + length bytes < 2 ^ 32
ends_low s code reading here bytes runs h = bytes_end_low code here bytes runs.low h

pub spelling_stands : (s : SimulationContext) (code : Code) (reading : List ℕ → Option Fetched) (here : ℕ) (op : Op) → RunsCode s code reading → IsInProfile op → HasBytes code here (spelling op) → OpAt s.host s.host_step here op (here + length (spelling op))
spelling_stands s code reading here op runs ok has h at =
    let fetched : reading (op_bytes code here) ≡ Some (record { op = op; len = length (spelling op) }) = ap reading (seen code here (spelling op) has) ∙ runs.reads.only _ (record { op = op; len = length (spelling op) }) (spelt_in_twelve op has.behind ok) in
    let low : (here + length (spelling op)) % 2 ^ 32 ≡ here + length (spelling op) = omega (arith, ends_low s code reading here (spelling op) runs has) in
    runs.steps h
    ∙ ap (λ (a : ℕ). cond (is_code code a) (host_executes s.host (reading (op_bytes code a)) h) (Ends Outside)) at
    ∙ ap (λ (b : Bool). cond b (host_executes s.host (reading (op_bytes code here)) h) (Ends Outside)) (within code here (spelling op) has (length-spelling op).0)
    ∙ ap (λ (f : Option Fetched). host_executes s.host f h) fetched
    ∙ ap (λ (a : ℕ). host_acts s.host op ((a + length (spelling op)) % 2 ^ 32) h) at
    ∙ ap (λ (a : ℕ). host_acts s.host op a h) low

pub jump_leads : (s : SimulationContext) (code : Code) (reading : List ℕ → Option Fetched) (here target : ℕ) → RunsCode s code reading → target < 2 ^ 32 → HasBytes code here (spelling (Jmp ((target + (2 ^ 32 - (here + 5))) % 2 ^ 32))) → JumpsTo s here target
jump_leads s code reading here target runs low has h at =
    let rel : ℕ = (target + (2 ^ 32 - (here + 5))) % 2 ^ 32 in
    let behind : here + 5 < 2 ^ 32 = ends_low s code reading here (spelling (Jmp rel)) runs has in
    let to : ((here + 5) + rel) % 2 ^ 32 ≡ target = omega arith in
    spelling_stands s code reading here (Jmp rel) runs (omega arith) has h at
    ∙ ap (λ (a : ℕ). Goes (record { core = h.core; eip = a; choices = drop 1 h.choices })) to
