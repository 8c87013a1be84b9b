use Rattle.std.proofs.Common.{◌≢◌, arith}
use Rattle.ppc_step.proofs.Special.{is_other}
use Rattle.ppc_step.proofs.results.put_special.Goals as goal

pub returns-in-1 : goal.returns-in-1
returns-in-1 c = rw c.in-1.is c.put_xer.ensures

pub returns-in-8 : goal.returns-in-8
returns-in-8 c = rw c.in-8.is c.put_lr.ensures

pub returns-in_default : goal.returns-in_default
returns-in_default c =
    let a : c.args.spr ≢ 1 = omega arith in
    let b : c.args.spr ≢ 8 = omega arith in
    rw (is_other c.args.spr 1 a, is_other c.args.spr 8 b) c.put_ctr.ensures
