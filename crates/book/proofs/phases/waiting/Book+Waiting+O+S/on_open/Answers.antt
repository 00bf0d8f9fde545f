use Rattle.std.proofs.Common.{refl}
use Rattle.rules.specs.declared.order.Kind.TheVariants.{OnOpen}
use Rattle.rules.specs.declared.calls.Phase.TheVariants.{PreOpen}
use Rattle.rules.specs.declared.calls.Answer.TheVariants.{Entered}
use Rattle.rules.specs.Checks.{on_open_checks}
use Rattle.rules.specs.Steps.{wait}
use Rattle.book.specs.Model.{waiting}
use Rattle.book.proofs.Verdicts.{call_refused, call_taken}
use Rattle.book.proofs.phases.waiting.Book+Waiting+O+S.on_open.Goals as goal

pub returns-in_err-check_on_open : goal.returns-in_err-check_on_open
returns-in_err-check_on_open g c =
    let m = waiting c.args.self.now in
    let e = c.args.e in
    call_refused Entered c.from_residual.result (on_open_checks m e) (wait m e.id e.side OnOpen e.lots e.lifetime) refl c.in_err-check_on_open.ensures c.from_residual.ensures.1

pub returns : goal.returns
returns g c =
    let m = waiting c.args.self.now in
    let e = c.args.e in
    call_taken (on_open_checks m e) (wait m e.id e.side OnOpen e.lots e.lifetime) refl c.in_ok-check_on_open.ensures (c.wait.ensures PreOpen) (record { opening = refl; session = refl })
