-- States whose parts change.
use Rattle.std.proofs.Common.{◌≡◌, ℕ, List, ◌+◌, ◌%◌, ◌^◌, Bool, true, false, cond, refl, sym, ◌∙◌, ap, subst}
use Rattle.machines.specs.Prelude.{Program, Guest, at_next, load_outcome, store_outcome, behind, branches, linked, branch_target, guest_acts, Outside, Event, Went, Ended, Effect, Instr, Goes, update, each_byte, rights_of}
use Rattle.access.specs.Kept.{Keeps}
use Rattle.space.specs.Memory.{Memory}
use Rattle.ppc_registers.specs.Held.{locs_of}
use Rattle.ppc_step.specs.Prelude.{State, IsState, Leads}

-- other registers
pub with_registers : (p : Program) (s : State) (g : Guest) (r : List ℕ) (locs : ℕ → ℕ) → IsState p s g → locs_of r ≡ locs
    → IsState p (record s { registers = r }) (record g { locs = locs })
with_registers p s g r locs is holds = record { registers = holds; next = is.next; memory = is.memory }

-- one register more, where the others are those of the guest
pub gpr_put : (r s : List ℕ) (locs : ℕ → ℕ) (k v : ℕ) → locs_of s ≡ update (locs_of r) k v → locs_of r ≡ locs → locs_of s ≡ update locs k v
gpr_put r s locs k v put is = put ∙ ap (λ f. update f k v) is

-- other memory
pub with_memory : (p : Program) (s : State) (g : Guest) (m : Memory) (bytes : ℕ → ℕ) → IsState p s g → Keeps p bytes m
    → IsState p (record s { memory = m }) (record g { bytes = bytes })
with_memory p s g m bytes is keeps = record { registers = is.registers; next = is.next; memory = keeps }

-- a load, and a store, each of whose bytes is inside, and one that isn't
module _ (p : Program) (new : State) (g : Guest) (e : Effect) where
  pub load_goes : (event : Event) (locs : ℕ → ℕ) → event ≡ Went → each_byte (rights_of p).held e.width e.address ≡ true
      → IsState p new (at_next locs g) → Leads p event new (load_outcome (rights_of p) locs e g)
  load_goes event locs went inside is = rw (went, inside) is

  pub load_stops : (locs : ℕ → ℕ) → each_byte (rights_of p).held e.width e.address ≡ false → Leads p (Ended Outside) new (load_outcome (rights_of p) locs e g)
  load_stops locs outside = rw outside refl

  pub store_goes : (event : Event) (bytes locs : ℕ → ℕ) → event ≡ Went → each_byte (rights_of p).writable e.width e.address ≡ true
      → IsState p new (record (at_next locs g) { bytes = bytes }) → Leads p event new (store_outcome (rights_of p) bytes locs e g)
  store_goes event bytes locs went inside is = rw (went, inside) is

  pub store_stops : (bytes locs : ℕ → ℕ) → each_byte (rights_of p).writable e.width e.address ≡ false
      → Leads p (Ended Outside) new (store_outcome (rights_of p) bytes locs e g)
  store_stops bytes locs outside = rw outside refl

-- a branch that is taken or not
pub jumped : (p : Program) (s : State) (g : Guest) (r : List ℕ) (link taken : Bool) (target after next : ℕ) → IsState p s g → after ≡ behind s.next
    → locs_of r ≡ (cond link (update g.locs 32 after) g.locs) → next ≡ cond taken target after
    → IsState p (record { registers = r; next = next; memory = s.memory }) (branches (linked link g.next g.locs) taken target g)
jumped p s g r link taken target after next is after_is holds next_is =
    let e : after ≡ behind g.next = after_is ∙ ap behind is.next in
    record {
      registers = holds ∙ ap (λ b. cond link (update g.locs 32 b) g.locs) e;
      next = next_is ∙ ap (λ b. cond taken target b) e;
      memory = is.memory;
    }

pub target_is : (len field : ℕ) (absolute : Bool) (at next d t : ℕ) → at ≡ next → d ≡ branch_target len field true 0
    → t ≡ cond absolute d ((at + d) % 2 ^ 32) → t ≡ branch_target len field absolute next
target_is len field absolute at next d t at_is d_is t_is =
    t_is ∙ ap (λ x. cond absolute x ((at + x) % 2 ^ 32)) d_is ∙ ap (λ x. cond absolute (branch_target len field true 0) ((x + branch_target len field true 0) % 2 ^ 32)) at_is

-- the instruction that acts
pub acted : (p : Program) (g : Guest) (i j : Instr) (e : Effect) (event : Event) (new : State) → i ≡ j → Leads p event new (guest_acts (rights_of p) j e g)
    → Leads p event new (guest_acts (rights_of p) i e g)
acted p g i j e event new same is = subst (λ k. Leads p event new (guest_acts (rights_of p) k e g)) (sym same) is

pub went : (p : Program) (event : Event) (new : State) (h : Guest) → event ≡ Went → IsState p new h → Leads p event new (Goes h)
went p event new h e is = rw e is
