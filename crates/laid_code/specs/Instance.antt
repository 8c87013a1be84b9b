-- The context of a program and of the program that was written for it. This project's own.
use Rattle.std.specs.Prelude.{◌≡◌, ℕ, ◌+◌, ◌*◌, ◌^◌, ◌<◌, ◌≤◌, Bool, true, false, List, length, get_or, Option}
use Rattle.std.specs.List.{flat_map}
use Rattle.byteorder.specs.Endian.{little_bytes}
use Rattle.machines.specs.Prelude.{Instr, Map, Program, rights_of, code_of, first_bytes, Fetched, guest_machine, without, narrow_machine}
pub use Rattle.code_words.specs.Words.{HasWords}
use Rattle.simulation.specs.Prelude.{SimulationContext}
use Rattle.reg_map.specs.Prelude.{is_live}
use Rattle.liveness.specs.Prelude.{Sets, live_at}
use Rattle.plan_form.specs.declared.problem.Step.{Step}
use Rattle.code_layout.specs.Prelude.{no_registers, entry_of, IsCodeFor}

-- where the table begins: behind the home page
abbrev pub table_start : ℕ → ℕ
table_start area = area + 0x1000

-- where the code begins, with `hold`: behind the home page and the table
abbrev pub code_start : ℕ → ℕ
code_start area = area + 0x81000

-- What blocks take for granted where they begin: for each guest address the register map under which the block there
-- begins, and which locations are live before its word.
pub record Interface : Type 0 where
  pub entry_map : ℕ → Map
  pub live : ℕ → ℕ → Bool

-- The guest runs P. The host runs Q, where no byte of its code is read as data. Edges lead where `targets` says, and the
-- indirect sequence where the table says.
abbrev pub context_of : Interface → (ℕ → ℕ) → (ℕ → Option Instr) → (List ℕ → Option Fetched) → Program → Program → ℕ → ℕ → List ℕ → SimulationContext
context_of interface targets words ops P Q first area table = record {
  guest = rights_of P;
  host = without (code_of Q) (rights_of Q);
  area = area;
  image = first_bytes Q.segments;
  guest_step = guest_machine words P;
  host_step = narrow_machine ops Q;
  hold = code_start area;
  entry_map = interface.entry_map;
  target = targets;
  door = entry_of first table (code_start area);
  first = first;
  count = length table;
  table = table_start area;
  live = interface.live;
}

-- no block begins with a GPR in a register
abbrev pub without_registers : (ℕ → ℕ → Bool) → Interface
without_registers live = record { entry_map = λ w. no_registers; live = live }

-- so code is laid by plans, with what these live sets have: edges, too, lead where the table says
abbrev pub laid_interface : Sets → Interface
laid_interface sets = without_registers (λ w x. is_live (live_at sets w) x)

abbrev pub laid_context : Sets → (ℕ → Option Instr) → (List ℕ → Option Fetched) → Program → Program → ℕ → ℕ → List ℕ → SimulationContext
laid_context sets words ops P Q first area table = context_of (laid_interface sets) (entry_of first table (code_start area)) words ops P Q first area table

-- the code of Q is that of these words' blocks by these plans and live sets, by this table, and lies below 2^32
pub record HasCodeFor (Q : Program) (first entry : ℕ) (words : List ℕ) (live : Sets) (plans : List (List Step)) (area : ℕ) (table : List ℕ) : Type 0 where
  pub at : (code_of Q).at ≡ code_start area
  pub low : code_start area + length (code_of Q).bytes < 2 ^ 32
  pub count : length table ≡ length words
  pub code : IsCodeFor first entry words live plans area table (code_of Q).bytes

-- these words stand in the context's table, which can be read and not written
pub record HasTableOf (s : SimulationContext) (entries : List ℕ) : Type 0 where
  pub low : s.table + 4 * length entries ≤ 2 ^ 32
  pub held : (i : ℕ) → i < 4 * length entries → s.host.held (s.table + i) ≡ true
  pub unwritable : (i : ℕ) → i < 4 * length entries → s.host.writable (s.table + i) ≡ false
  pub bytes : (i : ℕ) → i < 4 * length entries → s.image (s.table + i) ≡ get_or (flat_map (little_bytes 4) entries) i 0
