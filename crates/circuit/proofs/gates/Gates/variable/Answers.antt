use Rattle.std.proofs.Common.{ap}
use Rattle.circuit.proofs.Same.{node_same, says_at, gate_says_at}
use Rattle.circuit.proofs.Kept.{later_inserted, GatesAgree-inserted, ordered_either, counted}
use Rattle.circuit.proofs.Sharing.{shared_either}
use Rattle.circuit.specs.Prelude.{lit_truth, AllAgree, GatesAgree}
use Rattle.circuit.specs.contracts.nodes.NodePartialEq.TheImpl.{ghosts}
use Rattle.circuit.proofs.gates.Gates.variable.Goals as goal

pub returns-in-Ok-clause-later : goal.returns-in-Ok-clause-later
returns-in-Ok-clause-later c = later_inserted ghosts.eq _ _ c.args.node c.in-Ok.ensures.keys

pub returns-in-Ok-clause-means : goal.returns-in-Ok-clause-means
unfolding AllAgree
returns-in-Ok-clause-means c = λ v h.
    let s = c.in-Ok.ensures.stored in
    says_at _ _ _ _ v (node_same c.args.node s.0 s.2) (ap (λ l. lit_truth l v) c.literal_at.ensures) (h c.in-Ok.index s.0 s.1)

pub invariant_of-self-clause-ordered : goal.invariant_of-self-clause-ordered
invariant_of-self-clause-ordered c = ordered_either c.insert_full.result ghosts.eq _ _ c.args.node c.insert_full.ensures.keys c.insert_full.ensures.err c.args.self.now.ordered c.requires.reads c.requires.places

pub returns-in-Ok-clause-free : goal.returns-in-Ok-clause-free
returns-in-Ok-clause-free c = (counted ghosts.eq _ _ c.args.node c.in-Ok.ensures.keys).1

pub returns-in-Ok-clause-gates : goal.returns-in-Ok-clause-gates
returns-in-Ok-clause-gates c v h = GatesAgree-inserted ghosts.eq _ _ c.args.node v c.in-Ok.ensures.keys h

pub returns-in-Ok-clause-gate : goal.returns-in-Ok-clause-gate
unfolding GatesAgree
returns-in-Ok-clause-gate c = λ v h.
    let s = c.in-Ok.ensures.stored in
    gate_says_at _ _ _ _ v (node_same c.args.node s.0 s.2) (ap (λ l. lit_truth l v) c.literal_at.ensures) (h c.in-Ok.index s.0 s.1)

pub invariant_of-self-clause-shared : goal.invariant_of-self-clause-shared
invariant_of-self-clause-shared c = shared_either c.insert_full.result ghosts.eq _ _ c.args.node c.insert_full.ensures.keys c.insert_full.ensures.err c.args.self.now.shared c.requires.apart c.requires.begun
