-- What ops access of the guest's memory. This project's own.
use Rattle.std.specs.Prelude.{◌≡◌, ℕ, ◌+◌, ◌*◌, ◌%◌, ◌^◌, List, [], ◌∷◌, ◌++◌}
use Rattle.machines.specs.Prelude.{Map, Op, MovTo, MovFrom, MovToImm, MovHalfTo, MovByteTo, MovByteFrom, Extend, Operand, Base, Pair, Outcome, Goes, Asks, Ends, Rights, Guest, Choice, Core, Host, extend_size}
use Rattle.symbolic_tiles.specs.Prelude.{op_outcome, Window, TilePrecondition, span}

-- the addresses of so many bytes at an operand that is a sum of registers
abbrev pub summed : ℕ → Operand → (ℕ → ℕ) → List ℕ
summed size (Base b d) regs = span size ((regs b + d) % 2 ^ 32)
summed size (Pair b x s d) regs = span size ((regs b + regs x * 2 ^ s + d) % 2 ^ 32)
summed size operand regs = []

-- the addresses of the bytes that an op loads by such an operand, and of those that it stores; lea has no access
abbrev pub op_loads : Op → (ℕ → ℕ) → List ℕ
op_loads (MovFrom to from) regs = summed 4 from regs
op_loads (MovByteFrom to from) regs = summed 1 from regs
op_loads (Extend op to from) regs = summed (extend_size op) from regs
op_loads op regs = []

abbrev pub op_stores : Op → (ℕ → ℕ) → List ℕ
op_stores (MovTo to from) regs = summed 4 to regs
op_stores (MovToImm to imm) regs = summed 4 to regs
op_stores (MovHalfTo to from) regs = summed 2 to regs
op_stores (MovByteTo to from) regs = summed 1 to regs
op_stores op regs = []

-- what the rest accesses behind an op
abbrev pub accessed_behind : (List Choice → Core → List ℕ) → Outcome Host → List ℕ
accessed_behind rest (Goes h) = rest h.choices h.core
accessed_behind rest (Asks call next) = []
accessed_behind rest (Ends e) = []

-- the addresses that ops access one after another, where each accesses these
unfoldable pub accessed : (Op → (ℕ → ℕ) → List ℕ) → Rights → List Op → List Choice → Core → List ℕ
accessed access rights [] choices core = []
accessed access rights (op ∷ ops) choices core = access op core.regs ++ accessed_behind (accessed access rights ops) (op_outcome rights op choices core)

-- the ops access the bytes that the window does in the same order, and no others of the guest's memory
pub record HaveAccess (host : Rights) (ops : List Op) (choices : List Choice) (core : Core) (window : Window) (g : Guest) : Type 0 where
  pub loads : accessed op_loads host ops choices core ≡ window.loads g
  pub stores : accessed op_stores host ops choices core ≡ window.stores g

-- They do at this map and area, wherever the window goes on: with any rights, from each state that represents the guest,
-- and for every list of choices.
abbrev pub AccessWindow : Window → Map → ℕ → List Op → Type 0
AccessWindow window map area ops =
    (guest host : Rights) (g g' : Guest) (core : Core) (choices : List Choice) →
    TilePrecondition window map area guest host g core → window.outcome guest g ≡ Goes g' → HaveAccess host ops choices core window g
