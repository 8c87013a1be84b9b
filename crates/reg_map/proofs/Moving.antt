-- A possible move changes the place of its GPR alone.
use Rattle.std.proofs.Common.{◌≡◌, ◌≢◌, ℕ, zero, suc, ◌<◌, false, Option, Some, None, refl, sym, ap, ◌∙◌, subst, arith}
use Rattle.machines.specs.Prelude.{Map, IsMap}
use Rattle.reg_map.specs.Prelude.{holds, slot_of, MovesOne, PossibleMovesMoveOne, Drop, Take}
use Rattle.reg_map.proofs.Slots.{by_slots, in_none, holds_own, holds_other, apart_before, apart_behind, none_apart, held_apart, apart_held}

abbrev map_of : Option ℕ → Option ℕ → Option ℕ → Map
map_of a b c = record { ebx = a; esi = b; edi = c }

drop_ebx : (g : ℕ) (b c : Option ℕ) → IsMap (map_of (Some g) b c) → MovesOne (map_of (Some g) b c) (Drop 0)
drop_ebx g b c m = record {
  is_map = record { ebx = tt; esi = m.esi; edi = m.edi; ebx_esi = tt; ebx_edi = tt; esi_edi = m.esi_edi };
  gpr = m.ebx;
  goes = (
    ap (λ t. by_slots t (holds b g) (holds c g)) (holds_own g),
    ap (λ t. by_slots false t (holds c g)) (apart_behind b g m.ebx_esi) ∙ ap (λ t. by_slots false false t) (apart_behind c g m.ebx_edi),
  );
  others = λ x ne. sym (ap (λ t. by_slots t (holds b x) (holds c x)) (holds_other g x ne));
}

drop_esi : (g : ℕ) (a c : Option ℕ) → IsMap (map_of a (Some g) c) → MovesOne (map_of a (Some g) c) (Drop 1)
drop_esi g a c m = record {
  is_map = record { ebx = m.ebx; esi = tt; edi = m.edi; ebx_esi = none_apart a; ebx_edi = m.ebx_edi; esi_edi = tt };
  gpr = m.esi;
  goes = (
    ap (λ t. by_slots t (holds (Some g) g) (holds c g)) (apart_before a g m.ebx_esi) ∙ ap (λ t. by_slots false t (holds c g)) (holds_own g),
    ap (λ t. by_slots t false (holds c g)) (apart_before a g m.ebx_esi) ∙ ap (λ t. by_slots false false t) (apart_behind c g m.esi_edi),
  );
  others = λ x ne. sym (ap (λ t. by_slots (holds a x) t (holds c x)) (holds_other g x ne));
}

drop_edi : (g : ℕ) (a b : Option ℕ) → IsMap (map_of a b (Some g)) → MovesOne (map_of a b (Some g)) (Drop 2)
drop_edi g a b m = record {
  is_map = record { ebx = m.ebx; esi = m.esi; edi = tt; ebx_esi = m.ebx_esi; ebx_edi = none_apart a; esi_edi = none_apart b };
  gpr = m.edi;
  goes = (
    ap (λ t. by_slots t (holds b g) (holds (Some g) g)) (apart_before a g m.ebx_edi) ∙ ap (λ t. by_slots false t (holds (Some g) g)) (apart_before b g m.esi_edi) ∙ ap (λ t. by_slots false false t) (holds_own g),
    ap (λ t. by_slots t (holds b g) false) (apart_before a g m.ebx_edi) ∙ ap (λ t. by_slots false t false) (apart_before b g m.esi_edi),
  );
  others = λ x ne. sym (ap (λ t. by_slots (holds a x) (holds b x) t) (holds_other g x ne));
}

take_ebx : (g : ℕ) (b c : Option ℕ) → IsMap (map_of None b c) → g < 32 → slot_of (map_of None b c) g ≡ None → MovesOne (map_of None b c) (Take 0 g)
take_ebx g b c m lt e =
    let n = in_none false (holds b g) (holds c g) e in
    record {
      is_map = record { ebx = lt; esi = m.esi; edi = m.edi; ebx_esi = apart_held b g n.1; ebx_edi = apart_held c g n.2; esi_edi = m.esi_edi };
      gpr = lt;
      goes = (e, ap (λ t. by_slots t (holds b g) (holds c g)) (holds_own g));
      others = λ x ne. ap (λ t. by_slots t (holds b x) (holds c x)) (holds_other g x ne);
    }

take_esi : (g : ℕ) (a c : Option ℕ) → IsMap (map_of a None c) → g < 32 → slot_of (map_of a None c) g ≡ None → MovesOne (map_of a None c) (Take 1 g)
take_esi g a c m lt e =
    let n = in_none (holds a g) false (holds c g) e in
    record {
      is_map = record { ebx = m.ebx; esi = lt; edi = m.edi; ebx_esi = held_apart a g n.0; ebx_edi = m.ebx_edi; esi_edi = apart_held c g n.2 };
      gpr = lt;
      goes = (e, ap (λ t. by_slots t (holds (Some g) g) (holds c g)) n.0 ∙ ap (λ t. by_slots false t (holds c g)) (holds_own g));
      others = λ x ne. ap (λ t. by_slots (holds a x) t (holds c x)) (holds_other g x ne);
    }

take_edi : (g : ℕ) (a b : Option ℕ) → IsMap (map_of a b None) → g < 32 → slot_of (map_of a b None) g ≡ None → MovesOne (map_of a b None) (Take 2 g)
take_edi g a b m lt e =
    let n = in_none (holds a g) (holds b g) false e in
    record {
      is_map = record { ebx = m.ebx; esi = m.esi; edi = lt; ebx_esi = m.ebx_esi; ebx_edi = held_apart a g n.0; esi_edi = held_apart b g n.1 };
      gpr = lt;
      goes = (e, ap (λ t. by_slots t (holds b g) (holds (Some g) g)) n.0 ∙ ap (λ t. by_slots false t (holds (Some g) g)) n.1 ∙ ap (λ t. by_slots false false t) (holds_own g));
      others = λ x ne. ap (λ t. by_slots (holds a x) (holds b x) t) (holds_other g x ne);
    }

-- a full slot has a GPR
dropped : (P : Option ℕ → Type 0) (o : Option ℕ) → o ≢ None → ((g : ℕ) → P (Some g)) → P o
dropped P None ne f = absurd (ne refl)
dropped P (Some g) ne f = f g

pub moves_move_one : PossibleMovesMoveOne
moves_move_one m (Drop zero) is_map can = dropped (λ o. IsMap (map_of o m.esi m.edi) → MovesOne (map_of o m.esi m.edi) (Drop 0)) m.ebx can.1 (λ g. drop_ebx g m.esi m.edi) is_map
moves_move_one m (Drop (suc zero)) is_map can = dropped (λ o. IsMap (map_of m.ebx o m.edi) → MovesOne (map_of m.ebx o m.edi) (Drop 1)) m.esi can.1 (λ g. drop_esi g m.ebx m.edi) is_map
moves_move_one m (Drop (suc (suc zero))) is_map can = dropped (λ o. IsMap (map_of m.ebx m.esi o) → MovesOne (map_of m.ebx m.esi o) (Drop 2)) m.edi can.1 (λ g. drop_edi g m.ebx m.esi) is_map
moves_move_one m (Drop (suc (suc (suc n)))) is_map can = absurd (omega (arith, can.0))
moves_move_one m (Take zero g) is_map can = subst (λ o. IsMap (map_of o m.esi m.edi) → slot_of (map_of o m.esi m.edi) g ≡ None → MovesOne (map_of o m.esi m.edi) (Take 0 g)) (sym can.2) (λ k e. take_ebx g m.esi m.edi k can.1 e) is_map can.3
moves_move_one m (Take (suc zero) g) is_map can = subst (λ o. IsMap (map_of m.ebx o m.edi) → slot_of (map_of m.ebx o m.edi) g ≡ None → MovesOne (map_of m.ebx o m.edi) (Take 1 g)) (sym can.2) (λ k e. take_esi g m.ebx m.edi k can.1 e) is_map can.3
moves_move_one m (Take (suc (suc zero)) g) is_map can = subst (λ o. IsMap (map_of m.ebx m.esi o) → slot_of (map_of m.ebx m.esi o) g ≡ None → MovesOne (map_of m.ebx m.esi o) (Take 2 g)) (sym can.2) (λ k e. take_edi g m.ebx m.esi k can.1 e) is_map can.3
moves_move_one m (Take (suc (suc (suc n))) g) is_map can = absurd (omega (arith, can.0))
