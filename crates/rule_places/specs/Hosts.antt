-- The host as numbered places. This project's own.
use Rattle.std.specs.Prelude.{◌≡◌, ◌≢◌, ◌+◌, ◌-◌, ◌*◌, ◌<◌, ◌≤◌, ◌⊎◌, ℕ, true, false, List, Some, map as list_map, slice_get, IsBitSet}
use Rattle.std.specs.List.{flat_map}
use Rattle.machines.specs.Prelude.{Op, Rights, Choice, Core, load, eax, ecx, edx, chosen_word, chosen_flags, choice_at}
use Rattle.symbolic_tiles.specs.Prelude.{op_at, perform, IsCore}
use Rattle.rule_body.specs.declared.goal.Goal.{Goal}
use Rattle.rule_body.specs.declared.body.Body.{Body}
use Rattle.rule_body.specs.Prelude.{guests_of, template_of}
use Rattle.rule_body.specs.Templates.{HasConstant}
use Rattle.rule_soundness.specs.Prelude.{Match, body_slot, laid_ops, accessed, op_loads, op_stores}
use Rattle.rule_renaming.specs.Plain.{plain}
use Rattle.row_runs.specs.Bodies.{BodyRun, Pick}
use Rattle.rule_places.specs.Accesses.{loads_at, stores_at, behind_accesses}

-- The places hold the temporaries, each parameter as its register or its home has it, the bytes of the homes from 128 on, and the
-- constants; and the flags are the run's.
pub record ShowsHost (goal : Goal) (m : Match) (area : ℕ) (core : Core) (run : BodyRun) : Type 0 where
  pub eax : core.regs eax ≡ run.places 13
  pub ecx : core.regs ecx ≡ run.places 14
  pub edx : core.regs edx ≡ run.places 15
  pub in_slots : (k : ℕ) → slice_get (template_of goal).slots k ≡ Some true → core.regs (body_slot (template_of goal).slots k) ≡ run.places k
  pub at_home : (k : ℕ) → slice_get (template_of goal).slots k ≡ Some false → load 4 (area + 4 * (k + 1)) core.bytes ≡ run.places k
  pub homes : (i : ℕ) → i < 20 → core.bytes (area + (128 + i)) ≡ run.places (32 + i)
  pub constants : (j : ℕ) → HasConstant (guests_of goal) j → run.places (20 + j) ≡ m.constant j
  pub flags : core.flags ≡ run.flags

-- what the processor chooses for each op
abbrev pub picks_of : List Choice → ℕ → Pick
picks_of choices k = record { value = chosen_word (choice_at choices k); flags = chosen_flags (choice_at choices k) }

-- the ops of a body with each parameter as the GPR of its own number, over a home page
abbrev pub plain_ops : Body → Match → ℕ → List Op
plain_ops body m area = list_map (op_at area) (laid_ops (plain m) body)

-- an offset of the home page at which no byte of a home stands that a body may write
pub record IsNoHome (goal : Goal) (i : ℕ) : Type 0 where
  pub no_parameter : (k : ℕ) → slice_get (template_of goal).slots k ≡ Some false → (i < 4 * (k + 1)) ⊎ (4 * (k + 1) + 4 ≤ i)
  pub no_other : (i < 128) ⊎ (148 ≤ i)

-- A run over numbers shows what the ops do from a core on: they don't fault, its places show the core behind them, and its accesses
-- are theirs. All else stays: memory outside the home page but for what is stored, the page's bytes but for homes of the body,
-- byte homes of dead locations, and registers other than the temporaries and the slots of parameters.
pub record HostRan (goal : Goal) (body : Body) (m : Match) (area : ℕ) (host : Rights) (choices : List Choice) (core after : Core) (run : BodyRun) : Type 0 where
  pub performs : perform host (plain_ops body m area) choices core ≡ Some after
  pub shows : ShowsHost goal m area after run
  pub outside : (a : ℕ) → (a < area) ⊎ (area + 4096 ≤ a) → after.bytes a ≡ behind_accesses run.accesses core.bytes a
  pub page : (i : ℕ) → i < 4096 → IsNoHome goal i → after.bytes (area + i) ≡ core.bytes (area + i)
  pub dead : (b : ℕ) → 136 ≤ b → b < 148 → IsBitSet goal.dead.bits (b - 128) → after.bytes (area + b) ≡ core.bytes (area + b)
  pub registers : (r : ℕ) → r ≢ eax → r ≢ ecx → r ≢ edx → ((k : ℕ) → slice_get (template_of goal).slots k ≡ Some true → r ≢ body_slot (template_of goal).slots k) → after.regs r ≡ core.regs r
  pub loads : accessed op_loads host (plain_ops body m area) choices core ≡ flat_map loads_at run.accesses
  pub stores : accessed op_stores host (plain_ops body m area) choices core ≡ flat_map stores_at run.accesses
  pub is_core : IsCore after
