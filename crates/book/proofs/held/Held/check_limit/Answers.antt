use Rattle.std.proofs.Common.{[]}
use Rattle.std.proofs.lemmas.Result.{err_from_is_err_and}
use Rattle.rules.specs.Checks.{id_checks, limit_terms}
use Rattle.book.specs.Model.{machine}
use Rattle.book.proofs.Verdicts.{fails_first}
use Rattle.book.proofs.held.Held.check_limit.Goals as goal

pub returns-in_err-check_id : goal.returns-in_err-check_id
returns-in_err-check_id c =
    let m = machine c.args.phase c.args.self.now in
    let p = err_from_is_err_and c.from_residual.result c.from_residual.ensures.1 in
    rw (p.1, p.2) (fails_first (id_checks m c.args.e.id []) (limit_terms m c.args.e) c.in_err-check_id.field-0.0 c.in_err-check_id.ensures)
