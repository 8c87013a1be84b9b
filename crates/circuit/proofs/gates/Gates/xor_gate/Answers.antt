use Rattle.std.proofs.Common.{rules, ◌≡◌, ◌∙◌, sym, ap, refl, false, List, ℤ, int_eq, neg_ℤ, Bool}
use Rattle.circuit.specs.Prelude.{Lit, Var, Node, xor_made, xor_signed_made}
use Rattle.circuit.specs.contracts.nodes.NodePartialEq.TheImpl.{ghosts}
use Rattle.circuit.proofs.gates.Gates.xor_gate.Goals as goal

-- the Xor of two variables that are neither equal nor opposite
of_variables : (eq : Node → Node → Bool) (ns : List Node) (b c : Lit) (x y : ℤ) → b ≡ Var x → c ≡ Var y → int_eq x y ≡ false → int_eq x (neg_ℤ y) ≡ false →
    xor_made eq ns b c ≡ xor_signed_made eq ns x y
unfolding xor_made
of_variables eq ns b c x y hb hc apart unlike = rw (hb, hc, apart, unlike) refl

pub returns-in_ok-sum-in-Var-Var-clause-made : goal.returns-in_ok-sum-in-Var-Var-clause-made
unfolding xor_signed_made
returns-in_ok-sum-in-Var-Var-clause-made c =
    let e : c.turned.result ≡ (xor_signed_made ghosts.eq c.args.self.now.nodes.keys c.in-Var-Var.x c.in-Var-Var.y).flag = search rules in
    e ∙ sym (ap (λ m. m.flag) (of_variables ghosts.eq c.args.self.now.nodes.keys c.args.b c.args.c c.in-Var-Var.x c.in-Var-Var.y c.in-Var-Var.is-0 c.in-Var-Var.is-1 (search rules) (search rules)))

pub returns-in_ok-sum-in-Var-Var-clause-held : goal.returns-in_ok-sum-in-Var-Var-clause-held
unfolding xor_signed_made
returns-in_ok-sum-in-Var-Var-clause-held c =
    let e : c.xor_node.new.self.nodes.keys ≡ (xor_signed_made ghosts.eq c.args.self.now.nodes.keys c.in-Var-Var.x c.in-Var-Var.y).held = search rules in
    e ∙ sym (ap (λ m. m.held) (of_variables ghosts.eq c.args.self.now.nodes.keys c.args.b c.args.c c.in-Var-Var.x c.in-Var-Var.y c.in-Var-Var.is-0 c.in-Var-Var.is-1 (search rules) (search rules)))
