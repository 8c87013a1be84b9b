-- Tiles of all loads and stores of one number.
use Rattle.std.proofs.Common.{◌≡◌, ℕ, ◌+◌, ◌/◌, ◌%◌, ◌^◌, ◌<◌, Bool, true, false, cond, eqb, List, ◌++◌, refl, ap, ◌∙◌, arith, ◌≤◌}
use Rattle.std.proofs.lemmas.Bool.Decides.{nat_tests}
use Rattle.machines.specs.Prelude.{sign_extended, shifted_arith, LoadOp, Lwz, Lbz, Lhz, Lha, LoadUpdateOp, Lwzu, Lbzu, Lhzu, Lhau, LoadIndexedOp, Lwzx, Lbzx, Lhzx, Lhax, Lwbrx, Lhbrx, LoadIndexedUpdateOp, Lwzux, Lbzux, Lhzux, Lhaux, StoreOp, Stw, Stb, Sth, StoreUpdateOp, Stwu, Stbu, Sthu, StoreIndexedOp, Stwx, Stbx, Sthx, Stwbrx, Sthbrx, StoreIndexedUpdateOp, Stwux, Stbux, Sthux, IsLegal, half_extended, word_reversed, half_reversed, Flags, swapped, load, store, load_big, store_big, Rights, Guest, Choice}
use Rattle.ppc_isa.specs.declared.instr.Instr.TheVariants as instr
use Rattle.symbolic_tiles.specs.Prelude.{AreWellFormed, SymbolicState, execute_ops, can_load, can_store, IsTileOf, room_of}
use Rattle.base_mem.specs.Addresses.{immediate_address, indexed_address}
use Rattle.base_mem.specs.Loads.{lwz_ops, lbz_ops, lhz_ops, lha_ops, lwbrx_ops, lhbrx_ops, put_ops, load_ops, load_update_ops, load_indexed_ops, load_indexed_update_ops}
use Rattle.base_mem.specs.Stores.{stw_ops, stb_ops, sth_ops, stwbrx_ops, sthbrx_ops, update_ops, store_ops, store_update_ops, store_indexed_ops, store_indexed_update_ops}
use Rattle.symbolic_tiles.proofs.Done.{state_of}
use Rattle.symbolic_tiles.proofs.Results.{Then}
use Rattle.symbolic_tiles.proofs.Registers.{word, gpr, extended_word}
use Rattle.base_mem.proofs.Accesses.{inside_then, Bytes, byte_at, HasAddress, HasNumber, HasStored, Inside, Loads, Stores, at_zero, immediate_addressed, immediate_are, immediate_short, lwz_loads, lhz_loads, stw_stores, load_does, store_does}

-- the values of the other loads
module _ (f : ℕ → ℕ) (a : ℕ) where
  byte_is : Bytes f a 1 → load 1 a f % 256 ≡ load_big 1 a f
  unfolding load load_big
  byte_is h = let b0 = byte_at f a 1 0 a (omega arith) (omega arith) h in omega arith

  half_is : Bytes f a 2 → shifted_arith (swapped (load 2 a f % 2 ^ 16)) (16 % 32) ≡ half_extended (load_big 2 a f)
  unfolding load load_big
  half_is h =
      let b0 = byte_at f a 2 0 a (omega arith) (omega arith) h in
      let b1 = byte_at f a 2 1 (a + 1) (omega arith) (omega arith) h in
      grind (arith, nat_tests)

  word_back : Bytes f a 4 → load 4 a f ≡ word_reversed (load_big 4 a f)
  unfolding load load_big
  word_back h =
      let b0 = byte_at f a 4 0 a (omega arith) (omega arith) h in
      let b1 = byte_at f a 4 1 (a + 1) (omega arith) (omega arith) h in
      let b2 = byte_at f a 4 2 (a + 1 + 1) (omega arith) (omega arith) h in
      let b3 = byte_at f a 4 3 (a + 1 + 1 + 1) (omega arith) (omega arith) h in
      omega arith

  half_back : Bytes f a 2 → load 2 a f % 2 ^ 16 ≡ half_reversed (load_big 2 a f)
  unfolding load load_big
  half_back h =
      let b0 = byte_at f a 2 0 a (omega arith) (omega arith) h in
      let b1 = byte_at f a 2 1 (a + 1) (omega arith) (omega arith) h in
      omega arith

-- so many bytes and what a line makes of the number
module _ (guest host : Rights) (n : ℕ) (value : ℕ → (ℕ → ℕ) → ℕ) (made : ℕ → (ℕ → ℕ) → ℕ) (equal : (A : ℕ) (bytes : ℕ → ℕ) → Bytes bytes A n → made A bytes ≡ value A bytes) (A : ℕ) (g : Guest) (s : SymbolicState) (inside : Inside guest host n A g) (h : HasAddress A g s) where
  can_here : can_load guest host n ((s.regs 2 + 0) % 2 ^ 32) ≡ true
  can_here = ap (can_load guest host n) (at_zero guest host A s g inside.low h) ∙ inside.can

  made_here : made ((s.regs 2 + 0) % 2 ^ 32) s.bytes ≡ value A g.bytes
  made_here = ap (λ k. made k s.bytes) (at_zero guest host A s g inside.low h) ∙ ap (made A) h.2 ∙ equal A g.bytes inside.bytes

module _ (guest host : Rights) where
  lbz_loads : Loads guest host 1 lbz_ops (λ A bytes. load_big 1 A bytes)
  lbz_loads A g choices s inside h =
      inside_then (HasNumber (load_big 1 A g.bytes) A g) _ _ _ (can_here guest host 1 (λ A bytes. load_big 1 A bytes) (λ A bytes. load 1 A bytes % 256) (λ A bytes b. byte_is bytes A b) A g s inside h)
      (made_here guest host 1 (λ A bytes. load_big 1 A bytes) (λ A bytes. load 1 A bytes % 256) (λ A bytes b. byte_is bytes A b) A g s inside h, h.0, h.1, h.2)

  lha_loads : Loads guest host 2 lha_ops (λ A bytes. half_extended (load_big 2 A bytes))
  lha_loads A g choices s inside h =
      inside_then (HasNumber (half_extended (load_big 2 A g.bytes)) A g) _ _ _ (can_here guest host 2 (λ A bytes. half_extended (load_big 2 A bytes)) (λ A bytes. shifted_arith (swapped (load 2 A bytes % 2 ^ 16)) (16 % 32)) (λ A bytes b. half_is bytes A b) A g s inside h)
      (made_here guest host 2 (λ A bytes. half_extended (load_big 2 A bytes)) (λ A bytes. shifted_arith (swapped (load 2 A bytes % 2 ^ 16)) (16 % 32)) (λ A bytes b. half_is bytes A b) A g s inside h, h.0, h.1, h.2)

  lwbrx_loads : Loads guest host 4 lwbrx_ops (λ A bytes. word_reversed (load_big 4 A bytes))
  lwbrx_loads A g choices s inside h =
      inside_then (HasNumber (word_reversed (load_big 4 A g.bytes)) A g) _ _ _ (can_here guest host 4 (λ A bytes. word_reversed (load_big 4 A bytes)) (λ A bytes. load 4 A bytes) (λ A bytes b. word_back bytes A b) A g s inside h)
      (made_here guest host 4 (λ A bytes. word_reversed (load_big 4 A bytes)) (λ A bytes. load 4 A bytes) (λ A bytes b. word_back bytes A b) A g s inside h, h.0, h.1, h.2)

  lhbrx_loads : Loads guest host 2 lhbrx_ops (λ A bytes. half_reversed (load_big 2 A bytes))
  lhbrx_loads A g choices s inside h =
      inside_then (HasNumber (half_reversed (load_big 2 A g.bytes)) A g) _ _ _ (can_here guest host 2 (λ A bytes. half_reversed (load_big 2 A bytes)) (λ A bytes. load 2 A bytes % 2 ^ 16) (λ A bytes b. half_back bytes A b) A g s inside h)
      (made_here guest host 2 (λ A bytes. half_reversed (load_big 2 A bytes)) (λ A bytes. load 2 A bytes % 2 ^ 16) (λ A bytes b. half_back bytes A b) A g s inside h, h.0, h.1, h.2)

  indexed_addressed : (z : Bool) (a b : ℕ) (g : Guest) (regs : ℕ → ℕ) (flags : Flags) (choices : List Choice) → g.locs b < 2 ^ 32 →
      Then (HasAddress ((cond z 0 (g.locs a) + g.locs b) % 2 ^ 32) g) (execute_ops guest host (indexed_address z a b) choices (state_of g regs flags))
  indexed_addressed true a b g regs flags choices lb = (omega (arith, lb), refl, refl)
  indexed_addressed false a b g regs flags choices lb = (omega arith, refl, refl)

indexed_short : (z : Bool) (a b : ℕ) → room_of (indexed_address z a b) ≤ 12
indexed_short true a b = omega arith
indexed_short false a b = omega arith

indexed_are : (z : Bool) (a b : ℕ) → a < 32 → b < 32 → AreWellFormed (indexed_address z a b)
indexed_are true a b la lb = ((tt, word b lb), tt)
indexed_are false a b la lb = ((tt, word a la), ((tt, word b lb), tt))

-- the ops of a kind of load, and that they are ops
lwz_are : AreWellFormed lwz_ops
lwz_are = ((tt, tt, omega arith), (tt, tt))

lbz_are : AreWellFormed lbz_ops
lbz_are = ((tt, tt, omega arith), tt)

lhz_are : AreWellFormed lhz_ops
lhz_are = ((tt, tt, omega arith), (tt, ((tt, omega arith), tt)))

lha_are : AreWellFormed lha_ops
lha_are = ((tt, tt, omega arith), (tt, ((tt, omega arith), tt)))

pub load_tile_does : (op : LoadOp) (d a imm : ℕ) → IsLegal (instr.Load op d a imm) → IsTileOf (instr.Load op d a imm) (immediate_address (eqb a 0) a imm ++ (load_ops op ++ put_ops false d a))
load_tile_does Lwz d a imm legal =
    load_does (instr.Load Lwz d a imm) false d a 4 (λ g. (cond (eqb a 0) 0 (g.locs a) + sign_extended 16 imm) % 2 ^ 32) (λ A bytes. load_big 4 A bytes) (legal.fit.1.0) (legal.fit.1.1.0) (immediate_address (eqb a 0) a imm) lwz_ops legal
    (immediate_are (eqb a 0) a imm (legal.fit.1.1.0) (extended_word imm (legal.fit.1.1.1.0))) lwz_are (immediate_short (eqb a 0) a imm) (omega arith) (λ guest g. refl) (λ guest host g given. given.loads)
    (λ guest host g range regs flags choices. (omega arith, immediate_addressed guest host (eqb a 0) a imm g regs flags choices (extended_word imm (legal.fit.1.1.1.0)))) (λ guest host. lwz_loads guest host)
load_tile_does Lbz d a imm legal =
    load_does (instr.Load Lbz d a imm) false d a 1 (λ g. (cond (eqb a 0) 0 (g.locs a) + sign_extended 16 imm) % 2 ^ 32) (λ A bytes. load_big 1 A bytes) (legal.fit.1.0) (legal.fit.1.1.0) (immediate_address (eqb a 0) a imm) lbz_ops legal
    (immediate_are (eqb a 0) a imm (legal.fit.1.1.0) (extended_word imm (legal.fit.1.1.1.0))) lbz_are (immediate_short (eqb a 0) a imm) (omega arith) (λ guest g. refl) (λ guest host g given. given.loads)
    (λ guest host g range regs flags choices. (omega arith, immediate_addressed guest host (eqb a 0) a imm g regs flags choices (extended_word imm (legal.fit.1.1.1.0)))) (λ guest host. lbz_loads guest host)
load_tile_does Lhz d a imm legal =
    load_does (instr.Load Lhz d a imm) false d a 2 (λ g. (cond (eqb a 0) 0 (g.locs a) + sign_extended 16 imm) % 2 ^ 32) (λ A bytes. load_big 2 A bytes) (legal.fit.1.0) (legal.fit.1.1.0) (immediate_address (eqb a 0) a imm) lhz_ops legal
    (immediate_are (eqb a 0) a imm (legal.fit.1.1.0) (extended_word imm (legal.fit.1.1.1.0))) lhz_are (immediate_short (eqb a 0) a imm) (omega arith) (λ guest g. refl) (λ guest host g given. given.loads)
    (λ guest host g range regs flags choices. (omega arith, immediate_addressed guest host (eqb a 0) a imm g regs flags choices (extended_word imm (legal.fit.1.1.1.0)))) (λ guest host. lhz_loads guest host)
load_tile_does Lha d a imm legal =
    load_does (instr.Load Lha d a imm) false d a 2 (λ g. (cond (eqb a 0) 0 (g.locs a) + sign_extended 16 imm) % 2 ^ 32) (λ A bytes. half_extended (load_big 2 A bytes)) (legal.fit.1.0) (legal.fit.1.1.0) (immediate_address (eqb a 0) a imm) lha_ops legal
    (immediate_are (eqb a 0) a imm (legal.fit.1.1.0) (extended_word imm (legal.fit.1.1.1.0))) lha_are (immediate_short (eqb a 0) a imm) (omega arith) (λ guest g. refl) (λ guest host g given. given.loads)
    (λ guest host g range regs flags choices. (omega arith, immediate_addressed guest host (eqb a 0) a imm g regs flags choices (extended_word imm (legal.fit.1.1.1.0)))) (λ guest host. lha_loads guest host)

pub load_update_tile_does : (op : LoadUpdateOp) (d a imm : ℕ) → IsLegal (instr.LoadUpdate op d a imm) → IsTileOf (instr.LoadUpdate op d a imm) (immediate_address false a imm ++ (load_update_ops op ++ put_ops true d a))
load_update_tile_does Lwzu d a imm legal =
    load_does (instr.LoadUpdate Lwzu d a imm) true d a 4 (λ g. (g.locs a + sign_extended 16 imm) % 2 ^ 32) (λ A bytes. load_big 4 A bytes) (legal.fit.1.0) (legal.fit.1.1.0) (immediate_address false a imm) lwz_ops legal
    (immediate_are false a imm (legal.fit.1.1.0) (extended_word imm (legal.fit.1.1.1.0))) lwz_are (immediate_short false a imm) (omega arith) (λ guest g. refl) (λ guest host g given. given.loads)
    (λ guest host g range regs flags choices. (omega arith, immediate_addressed guest host false a imm g regs flags choices (extended_word imm (legal.fit.1.1.1.0)))) (λ guest host. lwz_loads guest host)
load_update_tile_does Lbzu d a imm legal =
    load_does (instr.LoadUpdate Lbzu d a imm) true d a 1 (λ g. (g.locs a + sign_extended 16 imm) % 2 ^ 32) (λ A bytes. load_big 1 A bytes) (legal.fit.1.0) (legal.fit.1.1.0) (immediate_address false a imm) lbz_ops legal
    (immediate_are false a imm (legal.fit.1.1.0) (extended_word imm (legal.fit.1.1.1.0))) lbz_are (immediate_short false a imm) (omega arith) (λ guest g. refl) (λ guest host g given. given.loads)
    (λ guest host g range regs flags choices. (omega arith, immediate_addressed guest host false a imm g regs flags choices (extended_word imm (legal.fit.1.1.1.0)))) (λ guest host. lbz_loads guest host)
load_update_tile_does Lhzu d a imm legal =
    load_does (instr.LoadUpdate Lhzu d a imm) true d a 2 (λ g. (g.locs a + sign_extended 16 imm) % 2 ^ 32) (λ A bytes. load_big 2 A bytes) (legal.fit.1.0) (legal.fit.1.1.0) (immediate_address false a imm) lhz_ops legal
    (immediate_are false a imm (legal.fit.1.1.0) (extended_word imm (legal.fit.1.1.1.0))) lhz_are (immediate_short false a imm) (omega arith) (λ guest g. refl) (λ guest host g given. given.loads)
    (λ guest host g range regs flags choices. (omega arith, immediate_addressed guest host false a imm g regs flags choices (extended_word imm (legal.fit.1.1.1.0)))) (λ guest host. lhz_loads guest host)
load_update_tile_does Lhau d a imm legal =
    load_does (instr.LoadUpdate Lhau d a imm) true d a 2 (λ g. (g.locs a + sign_extended 16 imm) % 2 ^ 32) (λ A bytes. half_extended (load_big 2 A bytes)) (legal.fit.1.0) (legal.fit.1.1.0) (immediate_address false a imm) lha_ops legal
    (immediate_are false a imm (legal.fit.1.1.0) (extended_word imm (legal.fit.1.1.1.0))) lha_are (immediate_short false a imm) (omega arith) (λ guest g. refl) (λ guest host g given. given.loads)
    (λ guest host g range regs flags choices. (omega arith, immediate_addressed guest host false a imm g regs flags choices (extended_word imm (legal.fit.1.1.1.0)))) (λ guest host. lha_loads guest host)

pub load_indexed_tile_does : (op : LoadIndexedOp) (d a b : ℕ) → IsLegal (instr.LoadIndexed op d a b) → IsTileOf (instr.LoadIndexed op d a b) (indexed_address (eqb a 0) a b ++ (load_indexed_ops op ++ put_ops false d a))
load_indexed_tile_does Lwzx d a b legal =
    load_does (instr.LoadIndexed Lwzx d a b) false d a 4 (λ g. (cond (eqb a 0) 0 (g.locs a) + g.locs b) % 2 ^ 32) (λ A bytes. load_big 4 A bytes) (legal.fit.1.0) (legal.fit.1.1.0) (indexed_address (eqb a 0) a b) lwz_ops legal
    (indexed_are (eqb a 0) a b (legal.fit.1.1.0) (legal.fit.1.1.1.0)) lwz_are (indexed_short (eqb a 0) a b) (omega arith) (λ guest g. refl) (λ guest host g given. given.loads)
    (λ guest host g range regs flags choices. (omega arith, indexed_addressed guest host (eqb a 0) a b g regs flags choices (gpr g b range (legal.fit.1.1.1.0)))) (λ guest host. lwz_loads guest host)
load_indexed_tile_does Lbzx d a b legal =
    load_does (instr.LoadIndexed Lbzx d a b) false d a 1 (λ g. (cond (eqb a 0) 0 (g.locs a) + g.locs b) % 2 ^ 32) (λ A bytes. load_big 1 A bytes) (legal.fit.1.0) (legal.fit.1.1.0) (indexed_address (eqb a 0) a b) lbz_ops legal
    (indexed_are (eqb a 0) a b (legal.fit.1.1.0) (legal.fit.1.1.1.0)) lbz_are (indexed_short (eqb a 0) a b) (omega arith) (λ guest g. refl) (λ guest host g given. given.loads)
    (λ guest host g range regs flags choices. (omega arith, indexed_addressed guest host (eqb a 0) a b g regs flags choices (gpr g b range (legal.fit.1.1.1.0)))) (λ guest host. lbz_loads guest host)
load_indexed_tile_does Lhzx d a b legal =
    load_does (instr.LoadIndexed Lhzx d a b) false d a 2 (λ g. (cond (eqb a 0) 0 (g.locs a) + g.locs b) % 2 ^ 32) (λ A bytes. load_big 2 A bytes) (legal.fit.1.0) (legal.fit.1.1.0) (indexed_address (eqb a 0) a b) lhz_ops legal
    (indexed_are (eqb a 0) a b (legal.fit.1.1.0) (legal.fit.1.1.1.0)) lhz_are (indexed_short (eqb a 0) a b) (omega arith) (λ guest g. refl) (λ guest host g given. given.loads)
    (λ guest host g range regs flags choices. (omega arith, indexed_addressed guest host (eqb a 0) a b g regs flags choices (gpr g b range (legal.fit.1.1.1.0)))) (λ guest host. lhz_loads guest host)
load_indexed_tile_does Lhax d a b legal =
    load_does (instr.LoadIndexed Lhax d a b) false d a 2 (λ g. (cond (eqb a 0) 0 (g.locs a) + g.locs b) % 2 ^ 32) (λ A bytes. half_extended (load_big 2 A bytes)) (legal.fit.1.0) (legal.fit.1.1.0) (indexed_address (eqb a 0) a b) lha_ops legal
    (indexed_are (eqb a 0) a b (legal.fit.1.1.0) (legal.fit.1.1.1.0)) lha_are (indexed_short (eqb a 0) a b) (omega arith) (λ guest g. refl) (λ guest host g given. given.loads)
    (λ guest host g range regs flags choices. (omega arith, indexed_addressed guest host (eqb a 0) a b g regs flags choices (gpr g b range (legal.fit.1.1.1.0)))) (λ guest host. lha_loads guest host)
load_indexed_tile_does Lwbrx d a b legal =
    load_does (instr.LoadIndexed Lwbrx d a b) false d a 4 (λ g. (cond (eqb a 0) 0 (g.locs a) + g.locs b) % 2 ^ 32) (λ A bytes. word_reversed (load_big 4 A bytes)) (legal.fit.1.0) (legal.fit.1.1.0) (indexed_address (eqb a 0) a b) lwbrx_ops legal
    (indexed_are (eqb a 0) a b (legal.fit.1.1.0) (legal.fit.1.1.1.0)) ((tt, tt, omega arith), tt) (indexed_short (eqb a 0) a b) (omega arith) (λ guest g. refl) (λ guest host g given. given.loads)
    (λ guest host g range regs flags choices. (omega arith, indexed_addressed guest host (eqb a 0) a b g regs flags choices (gpr g b range (legal.fit.1.1.1.0)))) (λ guest host. lwbrx_loads guest host)
load_indexed_tile_does Lhbrx d a b legal =
    load_does (instr.LoadIndexed Lhbrx d a b) false d a 2 (λ g. (cond (eqb a 0) 0 (g.locs a) + g.locs b) % 2 ^ 32) (λ A bytes. half_reversed (load_big 2 A bytes)) (legal.fit.1.0) (legal.fit.1.1.0) (indexed_address (eqb a 0) a b) lhbrx_ops legal
    (indexed_are (eqb a 0) a b (legal.fit.1.1.0) (legal.fit.1.1.1.0)) ((tt, tt, omega arith), tt) (indexed_short (eqb a 0) a b) (omega arith) (λ guest g. refl) (λ guest host g given. given.loads)
    (λ guest host g range regs flags choices. (omega arith, indexed_addressed guest host (eqb a 0) a b g regs flags choices (gpr g b range (legal.fit.1.1.1.0)))) (λ guest host. lhbrx_loads guest host)

pub load_indexed_update_tile_does : (op : LoadIndexedUpdateOp) (d a b : ℕ) → IsLegal (instr.LoadIndexedUpdate op d a b) → IsTileOf (instr.LoadIndexedUpdate op d a b) (indexed_address false a b ++ (load_indexed_update_ops op ++ put_ops true d a))
load_indexed_update_tile_does Lwzux d a b legal =
    load_does (instr.LoadIndexedUpdate Lwzux d a b) true d a 4 (λ g. (g.locs a + g.locs b) % 2 ^ 32) (λ A bytes. load_big 4 A bytes) (legal.fit.1.0) (legal.fit.1.1.0) (indexed_address false a b) lwz_ops legal
    (indexed_are false a b (legal.fit.1.1.0) (legal.fit.1.1.1.0)) lwz_are (indexed_short false a b) (omega arith) (λ guest g. refl) (λ guest host g given. given.loads)
    (λ guest host g range regs flags choices. (omega arith, indexed_addressed guest host false a b g regs flags choices (gpr g b range (legal.fit.1.1.1.0)))) (λ guest host. lwz_loads guest host)
load_indexed_update_tile_does Lbzux d a b legal =
    load_does (instr.LoadIndexedUpdate Lbzux d a b) true d a 1 (λ g. (g.locs a + g.locs b) % 2 ^ 32) (λ A bytes. load_big 1 A bytes) (legal.fit.1.0) (legal.fit.1.1.0) (indexed_address false a b) lbz_ops legal
    (indexed_are false a b (legal.fit.1.1.0) (legal.fit.1.1.1.0)) lbz_are (indexed_short false a b) (omega arith) (λ guest g. refl) (λ guest host g given. given.loads)
    (λ guest host g range regs flags choices. (omega arith, indexed_addressed guest host false a b g regs flags choices (gpr g b range (legal.fit.1.1.1.0)))) (λ guest host. lbz_loads guest host)
load_indexed_update_tile_does Lhzux d a b legal =
    load_does (instr.LoadIndexedUpdate Lhzux d a b) true d a 2 (λ g. (g.locs a + g.locs b) % 2 ^ 32) (λ A bytes. load_big 2 A bytes) (legal.fit.1.0) (legal.fit.1.1.0) (indexed_address false a b) lhz_ops legal
    (indexed_are false a b (legal.fit.1.1.0) (legal.fit.1.1.1.0)) lhz_are (indexed_short false a b) (omega arith) (λ guest g. refl) (λ guest host g given. given.loads)
    (λ guest host g range regs flags choices. (omega arith, indexed_addressed guest host false a b g regs flags choices (gpr g b range (legal.fit.1.1.1.0)))) (λ guest host. lhz_loads guest host)
load_indexed_update_tile_does Lhaux d a b legal =
    load_does (instr.LoadIndexedUpdate Lhaux d a b) true d a 2 (λ g. (g.locs a + g.locs b) % 2 ^ 32) (λ A bytes. half_extended (load_big 2 A bytes)) (legal.fit.1.0) (legal.fit.1.1.0) (indexed_address false a b) lha_ops legal
    (indexed_are false a b (legal.fit.1.1.0) (legal.fit.1.1.1.0)) lha_are (indexed_short false a b) (omega arith) (λ guest g. refl) (λ guest host g given. given.loads)
    (λ guest host g range regs flags choices. (omega arith, indexed_addressed guest host false a b g regs flags choices (gpr g b range (legal.fit.1.1.1.0)))) (λ guest host. lha_loads guest host)

-- the bytes that the other stores leave
module _ (f : ℕ → ℕ) (a v x : ℕ) where
  stored_byte_is : store 1 a (v % 256) f x ≡ store_big 1 a (v % 2 ^ 8) f x
  unfolding store store_big
  stored_byte_is = let b0 : v % 256 % 256 ≡ v % 2 ^ 8 / 2 ^ 0 % 256 = omega arith in rw b0 refl

  stored_half_is : store 2 a (swapped v / 2 ^ 16 % 65536) f x ≡ store_big 2 a (v % 2 ^ 16) f x
  unfolding store store_big
  stored_half_is =
      let b0 : swapped v / 2 ^ 16 % 65536 % 256 ≡ v % 2 ^ 16 / 2 ^ 8 % 256 = omega arith in
      let b1 : swapped v / 2 ^ 16 % 65536 / 256 % 256 ≡ v % 2 ^ 16 / 2 ^ 0 % 256 = omega arith in
      rw (b0, b1) refl

  stored_back_is : v < 2 ^ 32 → store 4 a v f x ≡ store_big 4 a (word_reversed v) f x
  unfolding store store_big
  stored_back_is h =
      let b0 : word_reversed v / 2 ^ 24 % 256 ≡ v % 256 = omega arith in
      let b1 : word_reversed v / 2 ^ 16 % 256 ≡ v / 256 % 256 = omega arith in
      let b2 : word_reversed v / 2 ^ 8 % 256 ≡ v / 256 / 256 % 256 = omega arith in
      let b3 : word_reversed v / 2 ^ 0 % 256 ≡ v / 256 / 256 / 256 % 256 = omega arith in
      rw (b0, b1, b2, b3) refl

  stored_half_back_is : store 2 a (v % 65536) f x ≡ store_big 2 a (half_reversed v) f x
  unfolding store store_big
  stored_half_back_is =
      let b0 : half_reversed v / 2 ^ 8 % 256 ≡ v % 65536 % 256 = omega arith in
      let b1 : half_reversed v / 2 ^ 0 % 256 ≡ v % 65536 / 256 % 256 = omega arith in
      rw (b0, b1) refl

module _ (guest host : Rights) (k : ℕ) (lk : k < 32) where
  stb_stores : Stores guest host 1 (stb_ops k) (λ A g. store_big 1 A (g.locs k % 2 ^ 8) g.bytes)
  stb_stores A g choices s range low can h =
      let at = at_zero guest host A s g low h in
      inside_then (HasStored A (store_big 1 A (g.locs k % 2 ^ 8) g.bytes) g) _ _ (can_store guest host 1 ((s.regs 2 + 0) % 2 ^ 32)) (ap (can_store guest host 1) at ∙ can)
      (h.0, h.1, λ x. ap (λ m. store 1 m (s.locs k % 256) s.bytes x) at ∙ ap (λ (l : ℕ → ℕ). store 1 A (l k % 256) s.bytes x) h.1 ∙ ap (λ (b : ℕ → ℕ). store 1 A (g.locs k % 256) b x) h.2 ∙ stored_byte_is g.bytes A (g.locs k) x)

  sth_stores : Stores guest host 2 (sth_ops k) (λ A g. store_big 2 A (g.locs k % 2 ^ 16) g.bytes)
  sth_stores A g choices s range low can h =
      let at = at_zero guest host A s g low h in
      inside_then (HasStored A (store_big 2 A (g.locs k % 2 ^ 16) g.bytes) g) _ _ (can_store guest host 2 ((s.regs 2 + 0) % 2 ^ 32)) (ap (can_store guest host 2) at ∙ can)
      (h.0, h.1, λ x. ap (λ m. store 2 m (swapped (s.locs k) / 2 ^ 16 % 65536) s.bytes x) at ∙ ap (λ (l : ℕ → ℕ). store 2 A (swapped (l k) / 2 ^ 16 % 65536) s.bytes x) h.1 ∙ ap (λ (b : ℕ → ℕ). store 2 A (swapped (g.locs k) / 2 ^ 16 % 65536) b x) h.2 ∙ stored_half_is g.bytes A (g.locs k) x)

  stwbrx_stores : Stores guest host 4 (stwbrx_ops k) (λ A g. store_big 4 A (word_reversed (g.locs k)) g.bytes)
  stwbrx_stores A g choices s range low can h =
      let at = at_zero guest host A s g low h in
      inside_then (HasStored A (store_big 4 A (word_reversed (g.locs k)) g.bytes) g) _ _ (can_store guest host 4 ((s.regs 2 + 0) % 2 ^ 32)) (ap (can_store guest host 4) at ∙ can)
      (h.0, h.1, λ x. ap (λ m. store 4 m (s.locs k) s.bytes x) at ∙ ap (λ (l : ℕ → ℕ). store 4 A (l k) s.bytes x) h.1 ∙ ap (λ (b : ℕ → ℕ). store 4 A (g.locs k) b x) h.2 ∙ stored_back_is g.bytes A (g.locs k) x (gpr g k range lk))

  sthbrx_stores : Stores guest host 2 (sthbrx_ops k) (λ A g. store_big 2 A (half_reversed (g.locs k)) g.bytes)
  sthbrx_stores A g choices s range low can h =
      let at = at_zero guest host A s g low h in
      inside_then (HasStored A (store_big 2 A (half_reversed (g.locs k)) g.bytes) g) _ _ (can_store guest host 2 ((s.regs 2 + 0) % 2 ^ 32)) (ap (can_store guest host 2) at ∙ can)
      (h.0, h.1, λ x. ap (λ m. store 2 m (s.locs k % 65536) s.bytes x) at ∙ ap (λ (l : ℕ → ℕ). store 2 A (l k % 65536) s.bytes x) h.1 ∙ ap (λ (b : ℕ → ℕ). store 2 A (g.locs k % 65536) b x) h.2 ∙ stored_half_back_is g.bytes A (g.locs k) x)

pub store_tile_does : (op : StoreOp) (s a imm : ℕ) → IsLegal (instr.Store op s a imm) → IsTileOf (instr.Store op s a imm) (immediate_address (eqb a 0) a imm ++ (store_ops op s ++ update_ops false a))
store_tile_does Stw s a imm legal =
    store_does (instr.Store Stw s a imm) false a 4 (λ g. (cond (eqb a 0) 0 (g.locs a) + sign_extended 16 imm) % 2 ^ 32) (λ A g. store_big 4 A (g.locs s) g.bytes) (legal.fit.1.1.0) (immediate_address (eqb a 0) a imm) (stw_ops s) legal
    (immediate_are (eqb a 0) a imm (legal.fit.1.1.0) (extended_word imm (legal.fit.1.1.1.0))) ((tt, word s (legal.fit.1.0)), (tt, ((tt, tt, omega arith), tt))) (immediate_short (eqb a 0) a imm) (omega arith) (λ guest g. refl) (λ guest host g given. given.stores)
    (λ guest host g range regs flags choices. (omega arith, immediate_addressed guest host (eqb a 0) a imm g regs flags choices (extended_word imm (legal.fit.1.1.1.0)))) (λ guest host. stw_stores guest host s (legal.fit.1.0))
store_tile_does Stb s a imm legal =
    store_does (instr.Store Stb s a imm) false a 1 (λ g. (cond (eqb a 0) 0 (g.locs a) + sign_extended 16 imm) % 2 ^ 32) (λ A g. store_big 1 A (g.locs s % 2 ^ 8) g.bytes) (legal.fit.1.1.0) (immediate_address (eqb a 0) a imm) (stb_ops s) legal
    (immediate_are (eqb a 0) a imm (legal.fit.1.1.0) (extended_word imm (legal.fit.1.1.1.0))) ((tt, word s (legal.fit.1.0)), ((tt, tt, omega arith), tt)) (immediate_short (eqb a 0) a imm) (omega arith) (λ guest g. refl) (λ guest host g given. given.stores)
    (λ guest host g range regs flags choices. (omega arith, immediate_addressed guest host (eqb a 0) a imm g regs flags choices (extended_word imm (legal.fit.1.1.1.0)))) (λ guest host. stb_stores guest host s (legal.fit.1.0))
store_tile_does Sth s a imm legal =
    store_does (instr.Store Sth s a imm) false a 2 (λ g. (cond (eqb a 0) 0 (g.locs a) + sign_extended 16 imm) % 2 ^ 32) (λ A g. store_big 2 A (g.locs s % 2 ^ 16) g.bytes) (legal.fit.1.1.0) (immediate_address (eqb a 0) a imm) (sth_ops s) legal
    (immediate_are (eqb a 0) a imm (legal.fit.1.1.0) (extended_word imm (legal.fit.1.1.1.0))) ((tt, word s (legal.fit.1.0)), (tt, ((tt, omega arith), ((tt, tt, omega arith), tt)))) (immediate_short (eqb a 0) a imm) (omega arith) (λ guest g. refl) (λ guest host g given. given.stores)
    (λ guest host g range regs flags choices. (omega arith, immediate_addressed guest host (eqb a 0) a imm g regs flags choices (extended_word imm (legal.fit.1.1.1.0)))) (λ guest host. sth_stores guest host s (legal.fit.1.0))

pub store_update_tile_does : (op : StoreUpdateOp) (s a imm : ℕ) → IsLegal (instr.StoreUpdate op s a imm) → IsTileOf (instr.StoreUpdate op s a imm) (immediate_address false a imm ++ (store_update_ops op s ++ update_ops true a))
store_update_tile_does Stwu s a imm legal =
    store_does (instr.StoreUpdate Stwu s a imm) true a 4 (λ g. (g.locs a + sign_extended 16 imm) % 2 ^ 32) (λ A g. store_big 4 A (g.locs s) g.bytes) (legal.fit.1.1.0) (immediate_address false a imm) (stw_ops s) legal
    (immediate_are false a imm (legal.fit.1.1.0) (extended_word imm (legal.fit.1.1.1.0))) ((tt, word s (legal.fit.1.0)), (tt, ((tt, tt, omega arith), tt))) (immediate_short false a imm) (omega arith) (λ guest g. refl) (λ guest host g given. given.stores)
    (λ guest host g range regs flags choices. (omega arith, immediate_addressed guest host false a imm g regs flags choices (extended_word imm (legal.fit.1.1.1.0)))) (λ guest host. stw_stores guest host s (legal.fit.1.0))
store_update_tile_does Stbu s a imm legal =
    store_does (instr.StoreUpdate Stbu s a imm) true a 1 (λ g. (g.locs a + sign_extended 16 imm) % 2 ^ 32) (λ A g. store_big 1 A (g.locs s % 2 ^ 8) g.bytes) (legal.fit.1.1.0) (immediate_address false a imm) (stb_ops s) legal
    (immediate_are false a imm (legal.fit.1.1.0) (extended_word imm (legal.fit.1.1.1.0))) ((tt, word s (legal.fit.1.0)), ((tt, tt, omega arith), tt)) (immediate_short false a imm) (omega arith) (λ guest g. refl) (λ guest host g given. given.stores)
    (λ guest host g range regs flags choices. (omega arith, immediate_addressed guest host false a imm g regs flags choices (extended_word imm (legal.fit.1.1.1.0)))) (λ guest host. stb_stores guest host s (legal.fit.1.0))
store_update_tile_does Sthu s a imm legal =
    store_does (instr.StoreUpdate Sthu s a imm) true a 2 (λ g. (g.locs a + sign_extended 16 imm) % 2 ^ 32) (λ A g. store_big 2 A (g.locs s % 2 ^ 16) g.bytes) (legal.fit.1.1.0) (immediate_address false a imm) (sth_ops s) legal
    (immediate_are false a imm (legal.fit.1.1.0) (extended_word imm (legal.fit.1.1.1.0))) ((tt, word s (legal.fit.1.0)), (tt, ((tt, omega arith), ((tt, tt, omega arith), tt)))) (immediate_short false a imm) (omega arith) (λ guest g. refl) (λ guest host g given. given.stores)
    (λ guest host g range regs flags choices. (omega arith, immediate_addressed guest host false a imm g regs flags choices (extended_word imm (legal.fit.1.1.1.0)))) (λ guest host. sth_stores guest host s (legal.fit.1.0))

pub store_indexed_tile_does : (op : StoreIndexedOp) (s a b : ℕ) → IsLegal (instr.StoreIndexed op s a b) → IsTileOf (instr.StoreIndexed op s a b) (indexed_address (eqb a 0) a b ++ (store_indexed_ops op s ++ update_ops false a))
store_indexed_tile_does Stwx s a b legal =
    store_does (instr.StoreIndexed Stwx s a b) false a 4 (λ g. (cond (eqb a 0) 0 (g.locs a) + g.locs b) % 2 ^ 32) (λ A g. store_big 4 A (g.locs s) g.bytes) (legal.fit.1.1.0) (indexed_address (eqb a 0) a b) (stw_ops s) legal
    (indexed_are (eqb a 0) a b (legal.fit.1.1.0) (legal.fit.1.1.1.0)) ((tt, word s (legal.fit.1.0)), (tt, ((tt, tt, omega arith), tt))) (indexed_short (eqb a 0) a b) (omega arith) (λ guest g. refl) (λ guest host g given. given.stores)
    (λ guest host g range regs flags choices. (omega arith, indexed_addressed guest host (eqb a 0) a b g regs flags choices (gpr g b range (legal.fit.1.1.1.0)))) (λ guest host. stw_stores guest host s (legal.fit.1.0))
store_indexed_tile_does Stbx s a b legal =
    store_does (instr.StoreIndexed Stbx s a b) false a 1 (λ g. (cond (eqb a 0) 0 (g.locs a) + g.locs b) % 2 ^ 32) (λ A g. store_big 1 A (g.locs s % 2 ^ 8) g.bytes) (legal.fit.1.1.0) (indexed_address (eqb a 0) a b) (stb_ops s) legal
    (indexed_are (eqb a 0) a b (legal.fit.1.1.0) (legal.fit.1.1.1.0)) ((tt, word s (legal.fit.1.0)), ((tt, tt, omega arith), tt)) (indexed_short (eqb a 0) a b) (omega arith) (λ guest g. refl) (λ guest host g given. given.stores)
    (λ guest host g range regs flags choices. (omega arith, indexed_addressed guest host (eqb a 0) a b g regs flags choices (gpr g b range (legal.fit.1.1.1.0)))) (λ guest host. stb_stores guest host s (legal.fit.1.0))
store_indexed_tile_does Sthx s a b legal =
    store_does (instr.StoreIndexed Sthx s a b) false a 2 (λ g. (cond (eqb a 0) 0 (g.locs a) + g.locs b) % 2 ^ 32) (λ A g. store_big 2 A (g.locs s % 2 ^ 16) g.bytes) (legal.fit.1.1.0) (indexed_address (eqb a 0) a b) (sth_ops s) legal
    (indexed_are (eqb a 0) a b (legal.fit.1.1.0) (legal.fit.1.1.1.0)) ((tt, word s (legal.fit.1.0)), (tt, ((tt, omega arith), ((tt, tt, omega arith), tt)))) (indexed_short (eqb a 0) a b) (omega arith) (λ guest g. refl) (λ guest host g given. given.stores)
    (λ guest host g range regs flags choices. (omega arith, indexed_addressed guest host (eqb a 0) a b g regs flags choices (gpr g b range (legal.fit.1.1.1.0)))) (λ guest host. sth_stores guest host s (legal.fit.1.0))
store_indexed_tile_does Stwbrx s a b legal =
    store_does (instr.StoreIndexed Stwbrx s a b) false a 4 (λ g. (cond (eqb a 0) 0 (g.locs a) + g.locs b) % 2 ^ 32) (λ A g. store_big 4 A (word_reversed (g.locs s)) g.bytes) (legal.fit.1.1.0) (indexed_address (eqb a 0) a b) (stwbrx_ops s) legal
    (indexed_are (eqb a 0) a b (legal.fit.1.1.0) (legal.fit.1.1.1.0)) ((tt, word s (legal.fit.1.0)), ((tt, tt, omega arith), tt)) (indexed_short (eqb a 0) a b) (omega arith) (λ guest g. refl) (λ guest host g given. given.stores)
    (λ guest host g range regs flags choices. (omega arith, indexed_addressed guest host (eqb a 0) a b g regs flags choices (gpr g b range (legal.fit.1.1.1.0)))) (λ guest host. stwbrx_stores guest host s (legal.fit.1.0))
store_indexed_tile_does Sthbrx s a b legal =
    store_does (instr.StoreIndexed Sthbrx s a b) false a 2 (λ g. (cond (eqb a 0) 0 (g.locs a) + g.locs b) % 2 ^ 32) (λ A g. store_big 2 A (half_reversed (g.locs s)) g.bytes) (legal.fit.1.1.0) (indexed_address (eqb a 0) a b) (sthbrx_ops s) legal
    (indexed_are (eqb a 0) a b (legal.fit.1.1.0) (legal.fit.1.1.1.0)) ((tt, word s (legal.fit.1.0)), ((tt, tt, omega arith), tt)) (indexed_short (eqb a 0) a b) (omega arith) (λ guest g. refl) (λ guest host g given. given.stores)
    (λ guest host g range regs flags choices. (omega arith, indexed_addressed guest host (eqb a 0) a b g regs flags choices (gpr g b range (legal.fit.1.1.1.0)))) (λ guest host. sthbrx_stores guest host s (legal.fit.1.0))

pub store_indexed_update_tile_does : (op : StoreIndexedUpdateOp) (s a b : ℕ) → IsLegal (instr.StoreIndexedUpdate op s a b) → IsTileOf (instr.StoreIndexedUpdate op s a b) (indexed_address false a b ++ (store_indexed_update_ops op s ++ update_ops true a))
store_indexed_update_tile_does Stwux s a b legal =
    store_does (instr.StoreIndexedUpdate Stwux s a b) true a 4 (λ g. (g.locs a + g.locs b) % 2 ^ 32) (λ A g. store_big 4 A (g.locs s) g.bytes) (legal.fit.1.1.0) (indexed_address false a b) (stw_ops s) legal
    (indexed_are false a b (legal.fit.1.1.0) (legal.fit.1.1.1.0)) ((tt, word s (legal.fit.1.0)), (tt, ((tt, tt, omega arith), tt))) (indexed_short false a b) (omega arith) (λ guest g. refl) (λ guest host g given. given.stores)
    (λ guest host g range regs flags choices. (omega arith, indexed_addressed guest host false a b g regs flags choices (gpr g b range (legal.fit.1.1.1.0)))) (λ guest host. stw_stores guest host s (legal.fit.1.0))
store_indexed_update_tile_does Stbux s a b legal =
    store_does (instr.StoreIndexedUpdate Stbux s a b) true a 1 (λ g. (g.locs a + g.locs b) % 2 ^ 32) (λ A g. store_big 1 A (g.locs s % 2 ^ 8) g.bytes) (legal.fit.1.1.0) (indexed_address false a b) (stb_ops s) legal
    (indexed_are false a b (legal.fit.1.1.0) (legal.fit.1.1.1.0)) ((tt, word s (legal.fit.1.0)), ((tt, tt, omega arith), tt)) (indexed_short false a b) (omega arith) (λ guest g. refl) (λ guest host g given. given.stores)
    (λ guest host g range regs flags choices. (omega arith, indexed_addressed guest host false a b g regs flags choices (gpr g b range (legal.fit.1.1.1.0)))) (λ guest host. stb_stores guest host s (legal.fit.1.0))
store_indexed_update_tile_does Sthux s a b legal =
    store_does (instr.StoreIndexedUpdate Sthux s a b) true a 2 (λ g. (g.locs a + g.locs b) % 2 ^ 32) (λ A g. store_big 2 A (g.locs s % 2 ^ 16) g.bytes) (legal.fit.1.1.0) (indexed_address false a b) (sth_ops s) legal
    (indexed_are false a b (legal.fit.1.1.0) (legal.fit.1.1.1.0)) ((tt, word s (legal.fit.1.0)), (tt, ((tt, omega arith), ((tt, tt, omega arith), tt)))) (indexed_short false a b) (omega arith) (λ guest g. refl) (λ guest host g given. given.stores)
    (λ guest host g range regs flags choices. (omega arith, indexed_addressed guest host false a b g regs flags choices (gpr g b range (legal.fit.1.1.1.0)))) (λ guest host. sth_stores guest host s (legal.fit.1.0))
