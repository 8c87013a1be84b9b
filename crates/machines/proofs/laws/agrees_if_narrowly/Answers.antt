use Rattle.machines.specs.Prelude.{StaysIn, rights_of, code_of, guest_machine, guest_start, host_machine, host_start, IsClean, narrow_machine}
use Rattle.machines.proofs.Clean.{stays_is_clean, agrees_too}
use Rattle.machines.proofs.laws.agrees_if_narrowly.Goals as goal

pub returns : goal.returns
returns c = λ p q narrowly words ops reads_words reads_ops choices.
    agrees_too (StaysIn (narrow_machine ops q) (host_machine ops q)) (IsClean (code_of q) ops) (stays_is_clean (rights_of q) (code_of q) ops) (host_machine ops q) (guest_machine words p) (guest_start p) (host_start q choices)
    (c.agrees_in_larger.ensures (words, p) (ops, q) (guest_start p) (host_start q choices) (narrowly words ops reads_words reads_ops choices))
