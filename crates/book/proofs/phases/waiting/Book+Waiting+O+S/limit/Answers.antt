use Rattle.std.proofs.Common.{refl}
use Rattle.rules.specs.declared.calls.Phase.TheVariants.{PreOpen}
use Rattle.rules.specs.declared.calls.Answer.TheVariants.{Entered}
use Rattle.rules.specs.Checks.{limit_checks}
use Rattle.rules.specs.Steps.{limit_in}
use Rattle.book.specs.Model.{waiting, rules_of}
use Rattle.book.proofs.Verdicts.{call_refused, call_taken, limit_room}
use Rattle.book.proofs.phases.waiting.Book+Waiting+O+S.limit.Goals as goal

pub returns-in_err-check_limit : goal.returns-in_err-check_limit
returns-in_err-check_limit g c =
    let m = waiting c.args.self.now in
    let R = rules_of g.O.Policy.rule g.S.Policy.rule c.args.self.now in
    call_refused Entered c.from_residual.result (limit_checks m c.args.e) (limit_in R m c.args.e PreOpen) refl c.in_err-check_limit.ensures c.from_residual.ensures.1

pub wait-requires : goal.wait-requires
wait-requires g c =
    let k = limit_room (waiting c.args.self.now) c.args.e c.in_ok-check_limit.ensures in
    record { room = k.room; number = k.number; fit = k.fit }

pub returns : goal.returns
returns g c =
    let m = waiting c.args.self.now in
    let R = rules_of g.O.Policy.rule g.S.Policy.rule c.args.self.now in
    call_taken (limit_checks m c.args.e) (limit_in R m c.args.e PreOpen) refl c.in_ok-check_limit.ensures (c.wait.ensures PreOpen) (record { opening = refl; session = refl })
