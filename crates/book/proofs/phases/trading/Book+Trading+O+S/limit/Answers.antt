use Rattle.std.proofs.Common.{refl}
use Rattle.rules.specs.declared.calls.Answer.TheVariants.{Entered}
use Rattle.rules.specs.Checks.{limit_checks}
use Rattle.rules.specs.Steps.{meet, limit_incoming}
use Rattle.book.specs.Model.{trading, rules_of}
use Rattle.book.proofs.Verdicts.{call_refused, call_taken, limit_room}
use Rattle.book.proofs.phases.trading.Book+Trading+O+S.limit.Goals as goal

pub returns-in_err-check_limit : goal.returns-in_err-check_limit
returns-in_err-check_limit g c =
    let m = trading c.args.self.now in
    let R = rules_of g.O.Policy.rule g.S.Policy.rule c.args.self.now in
    call_refused Entered c.from_residual.result (limit_checks m c.args.e) (meet R m (limit_incoming m c.args.e)) refl c.in_err-check_limit.ensures c.from_residual.ensures.1

pub meet-requires-clause-number : goal.meet-requires-clause-number
meet-requires-clause-number g c = (limit_room (trading c.args.self.now) c.args.e c.in_ok-check_limit.ensures).number

pub meet-requires-clause-room : goal.meet-requires-clause-room
meet-requires-clause-room g c = (limit_room (trading c.args.self.now) c.args.e c.in_ok-check_limit.ensures).rests

pub returns : goal.returns
returns g c =
    let m = trading c.args.self.now in
    let R = rules_of g.O.Policy.rule g.S.Policy.rule c.args.self.now in
    call_taken (limit_checks m c.args.e) (meet R m (limit_incoming m c.args.e)) refl c.in_ok-check_limit.ensures c.meet.ensures.step c.meet.ensures.policies
