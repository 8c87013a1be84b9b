-- At most one op is spelt at the front of given bytes.
use Rattle.std.proofs.Common.{◌≡◌, ℕ, List, ◌++◌, length, take, drop, Option, Some, None, refl, sym, ap, subst, ◌∙◌, arith}
use Rattle.std.proofs.lemmas.List.{take-append-drop, length-take}
use Rattle.ia_codec.specs.Prelude.{Op, spelling, IsSpelt, IsInProfile, read}
use Rattle.ia_codec.proofs.Roundtrip.{read-spelling}

abbrev some : Op × List ℕ → Option (Op × List ℕ)
some x = Some x

abbrev none : Option (Op × List ℕ)
none = None

some_is : (x y : Op × List ℕ) → some x ≡ some y → x ≡ y
some_is x y e = cc

not_some : (x : Op × List ℕ) → none ≡ some x → ⊥
not_some x e = absurd cc

-- What is spelt is read.
pub read-spelt : (op : Op) (bytes : List ℕ) (k : ℕ) → IsSpelt op bytes k → read bytes ≡ some (op, drop k bytes)
read-spelt op bytes k h =
    let parts : spelling op ++ drop k bytes ≡ bytes = rw (← h.front) (take-append-drop k bytes) in
    subst (λ (x : List ℕ). read x ≡ some (op, drop k bytes)) parts (read-spelling op (drop k bytes) h.profile)

-- Where nothing is read, nothing is spelt.
pub not_spelt-unread : (op : Op) (bytes : List ℕ) (k : ℕ) → IsSpelt op bytes k → read bytes ≡ none → ⊥
not_spelt-unread op bytes k h n = not_some (op, drop k bytes) (sym n ∙ read-spelt op bytes k h)

-- An op that is spelt is the one that is read.
pub spelt-is_read : (op other : Op) (bytes rest : List ℕ) (k : ℕ) → IsSpelt op bytes k → read bytes ≡ some (other, rest) → op ≡ other
spelt-is_read op other bytes rest k h r = ap (λ (x : Op × List ℕ). x.0) (some_is (op, drop k bytes) (other, rest) (sym (read-spelt op bytes k h) ∙ r))

pub one_op : (a b : Op) (bytes : List ℕ) (k l : ℕ) → IsSpelt a bytes k → IsSpelt b bytes l → a ≡ b
one_op a b bytes k l p q = spelt-is_read a b bytes (drop l bytes) k p (read-spelt b bytes l q)

one_len : (op : Op) (bytes : List ℕ) (k l : ℕ) → IsSpelt op bytes k → IsSpelt op bytes l → k ≡ l
one_len op bytes k l p q =
    let e : length (take k bytes) ≡ length (take l bytes) = ap length (p.front ∙ sym q.front) in
    omega (arith, e, length-take k bytes, length-take l bytes, p.within, q.within)

abbrev found : Op × ℕ → Option (Op × ℕ)
found x = Some x

pub one_spelt : (a b : Op) (bytes : List ℕ) (k l : ℕ) → IsSpelt a bytes k → IsSpelt b bytes l → found (a, k) ≡ found (b, l)
one_spelt a b bytes k l p q =
    let ops : b ≡ a = one_op b a bytes l k q p in
    let lens : k ≡ l = one_len a bytes k l p (subst (λ (x : Op). IsSpelt x bytes l) ops q) in
    rw (ops, lens) refl

-- No spelling begins another.
pub prefix_free : (a b : Op) (x y : List ℕ) → IsInProfile a → IsInProfile b → spelling a ++ x ≡ spelling b ++ y → a ≡ b
prefix_free a b x y p q e = ap (λ (z : Op × List ℕ). z.0) (some_is (a, x) (b, y) (sym (read-spelling a x p) ∙ ap read e ∙ read-spelling b y q))
