-- An assignment that gives products and divisions their values fits the gates.
use Rattle.std.proofs.Common.{ℕ, ◌+◌, Bool, List}
use Rattle.circuit.specs.Prelude.{AllAgree, Says, GatesAgree, GateSays, Node, Input, And, Xor, Free}

node_fits : (n : Node) (b : Bool) (v : ℕ → Bool) → Says n b v → GateSays n b v
node_fits (Input i) b v h = tt
node_fits (And x y) b v h = h
node_fits (Xor x y) b v h = h
node_fits (Free f place) b v h = tt

pub gates_fit : (ns : List Node) (v : ℕ → Bool) → AllAgree ns v → GatesAgree ns v
unfolding AllAgree GatesAgree
gates_fit ns v h k n e = node_fits n (v (k + 1)) v (h k n e)
