-- From given bytes to the bytes that an oracle answers with.
use Rattle.std.proofs.Common.{◌≡◌, ℕ, zero, suc, true, List, [], ◌∷◌, ◌++◌, length, refl, sym, ◌∙◌, ap, subst, arith, length-append}
use Rattle.std.proofs.lemmas.List.{get_or_append_left}
use Rattle.std.proofs.Math.Seq.{get_or-append_seam}
use Rattle.ppc_isa.specs.Effect.{Access, NoAccess, LoadAccess, StoreAccess}
use Rattle.ppc_isa.specs.Rows.{guest_row}
use Rattle.row_runs.specs.Accesses.{Accessed, Finds, big_number, little_number, always}
use Rattle.row_runs.specs.Windows.{Row, WindowRun, with_loaded, unloaded, row_effect, row_accesses, guest_step, guest_steps}
use Rattle.row_runs.specs.Bodies.{Line, Pick, BodyRun, Operand, Own, Loaded, operand, operand_accesses, result_accesses, line_effect, behind_line, host_step, host_steps}
use Rattle.row_runs.specs.Oracles.{is_load, WindowsLoadAlike, SameAccessesLoadAlike}
use Rattle.row_runs.proofs.Prompt.{prompt}

finds_before : (o : ℕ → ℕ → ℕ) (f : ℕ → ℕ) (xs ys : List Accessed) → Finds o f (xs ++ ys) → Finds o f xs
finds_before o f xs ys h = λ k d l.
    let n = length-append xs ys in
    subst (λ a. a.loads ≡ true → o a.address ≡ f) (get_or_append_left xs ys d k l) (h k d (omega (arith, n, l)))

finds_last : (o : ℕ → ℕ → ℕ) (f : ℕ → ℕ) (xs : List Accessed) (x : Accessed) → Finds o f (xs ++ x ∷ []) → x.loads ≡ true → o x.address ≡ f
finds_last o f xs x h =
    let n = length-append xs (x ∷ []) in
    subst (λ a. a.loads ≡ true → o a.address ≡ f) (get_or-append_seam xs x [] x) (h (length xs) x (omega (arith, n)))

-- a row over an oracle that answers its load with these bytes
effect_same : (o : ℕ → ℕ → ℕ) (f : ℕ → ℕ) (r : Row) (t : ℕ → ℕ) (acc : List Accessed) (k : Access) → (row_effect o r t).kind ≡ k → Finds o f (acc ++ row_accesses k (row_effect o r t)) → row_effect o r t ≡ row_effect (always f) r t
effect_same o f r t acc NoAccess e h = (prompt r.instr (r.reads t) _ _).still (ap is_load e)
effect_same o f r t acc LoadAccess e h =
    let found = finds_last o f acc _ h refl in
    ap (λ b. guest_row r.instr (with_loaded (r.reads t) (big_number (unloaded r t).width b))) (ap o ((prompt r.instr (r.reads t) 0 (big_number (unloaded r t).width (o (unloaded r t).address))).address) ∙ found)
effect_same o f r t acc StoreAccess e h = (prompt r.instr (r.reads t) _ _).still (ap is_load e)

guest_step_same : (o : ℕ → ℕ → ℕ) (f : ℕ → ℕ) (r : Row) (s : WindowRun) → Finds o f (guest_step o r s).accesses → guest_step o r s ≡ guest_step (always f) r s
guest_step_same o f r s h =
    ap (λ e. record { places = r.puts e s.places; accesses = s.accesses ++ row_accesses e.kind e; taken = e.taken })
    (effect_same o f r s.places s.accesses (row_effect o r s.places).kind refl h)

pub guest_same : WindowsLoadAlike
unfolding guest_steps
guest_same zero o f rows r h = refl
guest_same (suc n) o f rows r h =
    let s = guest_steps n o rows r in
    let e = row_effect o (rows n) s.places in
    let before = guest_same n o f rows r (finds_before o f s.accesses (row_accesses e.kind e) h) in
    guest_step_same o f (rows n) s h ∙ ap (guest_step (always f) (rows n)) before

operand_same : (o : ℕ → ℕ → ℕ) (f : ℕ → ℕ) (y : Operand) (t : ℕ → ℕ) (acc : List Accessed) → Finds o f (acc ++ operand_accesses y t) → operand (always f) y t ≡ operand o y t
operand_same o f (Own s) t acc h = refl
operand_same o f (Loaded m) t acc h = ap (little_number m.width) (sym (finds_last o f acc _ h refl))

host_step_same : (o : ℕ → ℕ → ℕ) (f : ℕ → ℕ) (l : Line) (p : Pick) (s : BodyRun) → Finds o f (host_step (always f) l p s).accesses → host_step (always f) l p s ≡ host_step o l p s
host_step_same o f l p s h =
    let n = (line_effect l p s (operand (always f) l.y s.places)).result in
    ap (behind_line l p s) (operand_same o f l.y s.places s.accesses (finds_before o f (s.accesses ++ operand_accesses l.y s.places) (result_accesses l.stores n s.places) h))

-- a body whose loads are answered with these bytes, and find them
pub host_same : (n : ℕ) (o : ℕ → ℕ → ℕ) (f : ℕ → ℕ) (lines : ℕ → Line) (picks : ℕ → Pick) (r : BodyRun) → Finds o f (host_steps n (always f) lines picks r).accesses → host_steps n (always f) lines picks r ≡ host_steps n o lines picks r
unfolding host_steps
host_same zero o f lines picks r h = refl
host_same (suc n) o f lines picks r h =
    let l = lines n in
    let s = host_steps n (always f) lines picks r in
    let result = (line_effect l (picks n) s (operand (always f) l.y s.places)).result in
    let before = host_same n o f lines picks r (finds_before o f s.accesses (operand_accesses l.y s.places) (finds_before o f (s.accesses ++ operand_accesses l.y s.places) (result_accesses l.stores result s.places) h)) in
    host_step_same o f l (picks n) s h ∙ ap (host_step o l (picks n)) before

pub over_memory : SameAccessesLoadAlike
over_memory n m o f rows lines picks g h same finds =
    let guest = guest_same n o f rows g finds in
    let found = subst (Finds o f) (ap (λ r. r.accesses) guest ∙ same) finds in
    (guest, sym (host_same m o f lines picks h found))
