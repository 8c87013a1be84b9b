use Rattle.std.proofs.Common.{◌≡◌, ◌≢◌, ℕ, zero, suc, ◌+◌, ◌*◌, ◌<◌, ◌≤◌, List, [], ◌∷◌, ◌++◌, replicate, refl, sym, ap, ◌∙◌, arith}
use Rattle.space.specs.declared.call.End.TheVariants.{Running, Exit, Outside, Dry}
use Rattle.space.specs.Reports.{Write, ended, listed}
use Rattle.runs.specs.declared.example.Word.TheVariants as word
use Rattle.runs.specs.Prelude.{Op, run, Along, StaysIn, ExampleAgrees, host_step, guarded_step, host_start}
use Rattle.runs.specs.declared.example.Op.TheVariants as op
use Rattle.runs.proofs.example.wrong_ops_disagree.Goals as goal

-- the host writes 2, and the guest 1
writes_another : (m : ℕ) → run host_step m [] (host_start (op.Store 2 ∷ op.Call ∷ op.Hold ∷ [])) ≡ listed (Write 1 (1 ∷ [])) (ended Dry) → ⊥
writes_another zero e = let dry : Running ≡ Dry = ap (λ r. r.ending) e in cc
writes_another (suc zero) e = let dry : Running ≡ Dry = ap (λ r. r.ending) e in cc
writes_another (suc (suc m)) e =
    let calls : Write 1 (2 ∷ []) ∷ [] ≡ Write 1 (1 ∷ []) ∷ [] = ap (λ r. r.calls) e in
    let one : ℕ = 1 in
    let bytes : 2 ≡ one = cc in
    absurd (omega arith)

other_byte : ¬ (ExampleAgrees (word.Write 1 ∷ word.Spin ∷ []) (op.Store 2 ∷ op.Call ∷ op.Hold ∷ []))
other_byte agrees =
    let r = agrees [] 1 in
    let dry : Dry ≢ Outside = λ e. cc in
    writes_another r.m (r.agrees.inside dry).1

-- its first step is none where the code is held outside
peeks : (m : ℕ) → Along (StaysIn guarded_step host_step) host_step m [] (host_start (op.Peek ∷ op.Exit ∷ [])) → run host_step m [] (host_start (op.Peek ∷ op.Exit ∷ [])) ≡ ended (Exit 0) → ⊥
peeks zero clean e = let exits : Running ≡ Exit 0 = ap (λ r. r.ending) e in cc
peeks (suc m) clean e = (clean.0).inside refl

reads_code : ¬ (ExampleAgrees (word.Sync ∷ word.Exit ∷ []) (op.Peek ∷ op.Exit ∷ []))
reads_code agrees =
    let r = agrees [] 2 in
    let exits : Exit 0 ≢ Outside = λ e. cc in
    peeks r.m r.clean (r.agrees.inside exits).1

stays_behind : (m : ℕ) → 65 ≤ 64 * (m + 1) → run host_step m [] (host_start []) ≡ ended Running → ⊥
stays_behind zero le e = absurd (omega arith)
stays_behind (suc m) le e = let runs : Outside ≡ Running = ap (λ r. r.ending) e in cc

stands_still : ¬ (ExampleAgrees (word.Spin ∷ []) [])
stands_still agrees =
    let r = agrees [] 65 in
    let runs : Running ≢ Outside = λ e. cc in
    let i = r.agrees.inside runs in
    stays_behind r.m i.0 i.1

-- it passes for as long as it has ops to pass
passes : (k m : ℕ) (rest : List Op) → m ≤ k → run host_step m [] (host_start (replicate k op.Pass ++ rest)) ≡ ended Running
passes k zero rest le = refl
passes zero (suc m) rest le = absurd (omega arith)
passes (suc k) (suc m) rest le = passes k m rest (omega arith)

too_slow : (k : ℕ) → 512 < k → ¬ (ExampleAgrees (word.Exit ∷ []) (replicate k op.Pass ++ op.Exit ∷ []))
too_slow k lt agrees =
    let r = agrees [] 1 in
    let exits : Exit 0 ≢ Outside = λ e. cc in
    let runs : Running ≡ Exit 0 = ap (λ r. r.ending) (sym (passes k r.m (op.Exit ∷ []) (omega (arith, r.soon))) ∙ (r.agrees.inside exits).1) in
    cc

pub returns : goal.returns
returns c = record { other_byte = other_byte; reads_code = reads_code; stands_still = stands_still; too_slow = too_slow }
