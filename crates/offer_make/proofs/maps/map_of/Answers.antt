use Rattle.std.proofs.Common.{inl, inr, ◌/◌, ◌%◌, refl, sym, subst, ◌∙◌, arith}
use Rattle.std.proofs.lemmas.Bool.{false≢true}
use Rattle.ppc_isa.specs.Map.{AreApart}
use Rattle.offer_make.specs.Maps.{content_of}
use Rattle.offer_make.proofs.Numbers.{no-digit, apart-of, made}
use Rattle.offer_make.proofs.maps.map_of.Goals as goal
use Rattle.offer_make.proofs.maps.map_of.Goals.{then-x-count-via-then-x-count, then-x-count-via-else-x-count+then-y-count, then-x-count-via-else-x-count+else-y-count+then-z-count}
use Rattle.offer_make.proofs.maps.map_of.Goals.{else-apart-via-then-apart+then-apart-2+else-apart-3, else-apart-via-then-apart+else-apart-2, else-apart-via-else-apart}

pub returns-then-x-count : goal.returns-then-x-count
returns-then-x-count c =
    let n = c.args.number in
    no-digit c.args.candidates.now c.requires.few n (elim c.then-x-count.branch [
      | then-x-count-via-then-x-count w ↦ inl (omega (arith, w.if-x-count.true))
      | then-x-count-via-else-x-count+then-y-count w ↦ inr (inl (omega (arith, w.if-y-count.true)))
      | then-x-count-via-else-x-count+else-y-count+then-z-count w ↦ inr (inr (omega (arith, w.if-z-count.true)))
    ])

pub returns-then-apart-3 : goal.returns-then-apart-3
returns-then-apart-3 c =
    let n = c.args.number in
    made c.args.candidates.now c.requires.few c.requires.registers c.requires.distinct n (n / 49) (n / 7 % 7) (n % 7) _ refl refl refl
    (omega (arith, c.if-x-count.false)) (omega (arith, c.if-y-count.false)) (omega (arith, c.if-z-count.false))
    c.content-ebx.ensures c.content-esi.ensures c.content-edi.ensures
    (c.apart.ensures.0 c.if-apart.true) (c.apart-then-apart.ensures.0 c.if-apart-2.true) (c.apart-then-apart-2.ensures.0 c.if-apart-3.true)

pub returns-else-apart : goal.returns-else-apart
returns-else-apart c =
    let n = c.args.number in
    λ m over e.
    let f = apart-of c.args.candidates.now c.requires.few m n over e in
    let x = c.content-ebx.ensures in let y = c.content-esi.ensures in let z = c.content-edi.ensures in
    let xy = subst (λ k. AreApart k c.content-esi.result) (sym x) (subst (AreApart (content_of c.args.candidates.now (n / 49))) (sym y) f.0) in
    let xz = subst (λ k. AreApart k c.content-edi.result) (sym x) (subst (AreApart (content_of c.args.candidates.now (n / 49))) (sym z) f.1) in
    let yz = subst (λ k. AreApart k c.content-edi.result) (sym y) (subst (AreApart (content_of c.args.candidates.now (n / 7 % 7))) (sym z) f.2) in
    elim c.else-apart.branch [
      | else-apart-via-then-apart+then-apart-2+else-apart-3 w ↦ false≢true (sym w.if-apart-3.false ∙ w.apart-then-apart-2.ensures.1 yz)
      | else-apart-via-then-apart+else-apart-2 w ↦ false≢true (sym w.if-apart-2.false ∙ w.apart-then-apart.ensures.1 xz)
      | else-apart-via-else-apart w ↦ false≢true (sym w.if-apart.false ∙ c.apart.ensures.1 xy)
    ]
