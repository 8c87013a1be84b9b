-- Tiles of rotates and of algebraic shifts.
use Rattle.std.proofs.Common.{◌≡◌, ℕ, ◌+◌, ◌-◌, ◌*◌, ◌/◌, ◌%◌, ◌^◌, ◌<◌, Bool, false, ◌++◌, bit_and, bit_or, refl, sym, ap, ◌∙◌, subst, arith}
use Rattle.std.specs.Int.Bits.{and_lt}
use Rattle.std.proofs.lemmas.Nat.{or_lt}
use Rattle.machines.specs.Prelude.{complement, word_and, word_or, rotated, mask, is_masked, Instr, Rotate, Rlwimi, Rlwinm, Rlwnm, IsLegal, rotate, update, Rol}
use Rattle.word_kit.proofs.BitSums.{word_and-is, word_or-is}
use Rattle.symbolic_tiles.specs.Prelude.{IsTileOf, record_ops}
use Rattle.base_alu.specs.Shifts.{rlwimi_ops, rlwinm_ops, rlwnm_ops}
use Rattle.row_laws.proofs.Bits.{below_power}
use Rattle.row_laws.proofs.Shapes.{gives_in_a}
use Rattle.row_laws.proofs.Changes.{values_in}
use Rattle.symbolic_tiles.proofs.Rooms.{shift_word}
use Rattle.symbolic_tiles.proofs.Results.{plain, results_do}
use Rattle.symbolic_tiles.proofs.Registers.{word, gpr}

pub mask_word : (mb me : ℕ) → mask mb me < 2 ^ 32
unfolding mask
mask_word mb me = below_power (λ k. is_masked mb me (31 - k)) 32

mod_twice : (n : ℕ) → n % 32 % 32 ≡ n % 32
mod_twice n = omega arith

pub insert_word : (r a m : ℕ) → r < 2 ^ 32 → a < 2 ^ 32 → m < 2 ^ 32 → bit_or (bit_and r m) (bit_and a (complement m)) ≡ word_or (word_and r m) (word_and a (complement m))
insert_word r a m hr ha hm =
    let c : complement m < 2 ^ 32 = omega arith in
    let p = word_and-is r m hr hm in
    let q = word_and-is a (complement m) ha c in
    sym (ap (λ x. word_or x (word_and a (complement m))) p ∙ ap (λ x. word_or (bit_and r m) x) q ∙ word_or-is (bit_and r m) (bit_and a (complement m)) (and_lt 32 r m hr hm) (and_lt 32 a (complement m) ha c))

pub rlwimi_does : (s a by mb me : ℕ) (records : Bool) → IsLegal (Rotate Rlwimi s a by mb me records) → IsTileOf (Rotate Rlwimi s a by mb me records) (rlwimi_ops s a by (mask mb me) ++ record_ops records)
rlwimi_does s a by mb me records legal =
    results_do i a false records (λ g. rotate Rlwimi by mb me (values_in i g)) (λ g. false) la (rlwimi_ops s a by (mask mb me)) legal
    ((tt, word s ls), ((tt, legal.fit.1.1.1.0), ((tt, mask_word mb me), ((tt, word a la), ((tt, omega arith), ((tt, tt), ((word a la, tt), tt)))))))
    (omega arith) (λ guest g. refl) (λ g. gives_in_a records (rotate Rlwimi by mb me (values_in i g)) (values_in i g))
    (λ guest host g regs flags choices range words.
    let r : rotated (g.locs s) (by % 32) < 2 ^ 32 = shift_word Rol (g.locs s) (by % 32) (gpr g s range ls) in
    let m = mask_word mb me in
    let w = insert_word (rotated (g.locs s) (by % 32)) (g.locs a) (mask mb me) r (gpr g a range la) m ∙ ap (λ k. word_or (word_and (g.locs s * 2 ^ k % 2 ^ 32 + g.locs s * 2 ^ k / 2 ^ 32) (mask mb me)) (word_and (g.locs a) (complement (mask mb me)))) (mod_twice by) in (
      subst (λ k. k < 2 ^ 32) w (or_lt 32 (bit_and (rotated (g.locs s) (by % 32)) (mask mb me)) (bit_and (g.locs a) (complement (mask mb me))) (and_lt 32 (rotated (g.locs s) (by % 32)) (mask mb me) r m) (and_lt 32 (g.locs a) (complement (mask mb me)) (gpr g a range la) (omega arith))),
      (w, (λ x. ap (λ n. update g.locs a n x) w), refl),
    ))
  where
    i : Instr
    i = Rotate Rlwimi s a by mb me records

    ls : s < 32
    ls = legal.fit.1.0

    la : a < 32
    la = legal.fit.1.1.0

masked_word : (r m : ℕ) → r < 2 ^ 32 → m < 2 ^ 32 → bit_and r m ≡ word_and r m
masked_word r m hr hm = sym (word_and-is r m hr hm)

pub rlwinm_does : (s a by mb me : ℕ) (records : Bool) → IsLegal (Rotate Rlwinm s a by mb me records) → IsTileOf (Rotate Rlwinm s a by mb me records) (rlwinm_ops s a by (mask mb me) ++ record_ops records)
rlwinm_does s a by mb me records legal =
    results_do i a false records (λ g. rotate Rlwinm by mb me (values_in i g)) (λ g. false) (legal.fit.1.1.0) (rlwinm_ops s a by (mask mb me)) legal
    ((tt, word s (legal.fit.1.0)), ((tt, legal.fit.1.1.1.0), ((tt, mask_word mb me), ((word a (legal.fit.1.1.0), tt), tt))))
    (omega arith) (λ guest g. refl) (λ g. gives_in_a records (rotate Rlwinm by mb me (values_in i g)) (values_in i g))
    (λ guest host g regs flags choices range words.
    let r : rotated (g.locs s) (by % 32) < 2 ^ 32 = shift_word Rol (g.locs s) (by % 32) (gpr g s range (legal.fit.1.0)) in
    let m = mask_word mb me in
    plain g.locs g.bytes a (masked_word (rotated (g.locs s) (by % 32)) (mask mb me) r m ∙ ap (λ k. word_and (g.locs s * 2 ^ k % 2 ^ 32 + g.locs s * 2 ^ k / 2 ^ 32) (mask mb me)) (mod_twice by)) (and_lt 32 (rotated (g.locs s) (by % 32)) (mask mb me) r m))
  where
    i : Instr
    i = Rotate Rlwinm s a by mb me records

pub rlwnm_does : (s a b mb me : ℕ) (records : Bool) → IsLegal (Rotate Rlwnm s a b mb me records) → IsTileOf (Rotate Rlwnm s a b mb me records) (rlwnm_ops s a b (mask mb me) ++ record_ops records)
rlwnm_does s a b mb me records legal =
    results_do i a false records (λ g. rotate Rlwnm b mb me (values_in i g)) (λ g. false) (legal.fit.1.1.0) (rlwnm_ops s a b (mask mb me)) legal
    ((tt, word b (legal.fit.1.1.1.0)), ((tt, word s (legal.fit.1.0)), (tt, ((tt, mask_word mb me), ((word a (legal.fit.1.1.0), tt), tt)))))
    (omega arith) (λ guest g. refl) (λ g. gives_in_a records (rotate Rlwnm b mb me (values_in i g)) (values_in i g))
    (λ guest host g regs flags choices range words.
    let c = g.locs b % 2 ^ 8 % 32 in
    let e : c % 32 ≡ g.locs b % 32 = omega arith in
    let r : rotated (g.locs s) c < 2 ^ 32 = shift_word Rol (g.locs s) c (gpr g s range (legal.fit.1.0)) in
    let m = mask_word mb me in
    plain g.locs g.bytes a (masked_word (rotated (g.locs s) c) (mask mb me) r m ∙ ap (λ k. word_and (g.locs s * 2 ^ k % 2 ^ 32 + g.locs s * 2 ^ k / 2 ^ 32) (mask mb me)) e) (and_lt 32 (rotated (g.locs s) c) (mask mb me) r m))
  where
    i : Instr
    i = Rotate Rlwnm s a b mb me records
