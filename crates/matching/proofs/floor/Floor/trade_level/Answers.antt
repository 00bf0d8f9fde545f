use Rattle.std.proofs.Common.{◌≡◌, ℕ, ◌≤◌, List, ◌++◌, length, sym, ap, ◌∙◌, subst, arith}
use Rattle.std.specs.List.{refill}
use Rattle.std.proofs.lemmas.List.Elements.{length_all_zip}
use Rattle.policy.specs.Queue.{Queue}
use Rattle.policy.specs.Fair.{Rule, Fairly, Within, total}
use Rattle.policy.proofs.Queues.{queue_answered}
use Rattle.rules.specs.Orders.{level, queue}
use Rattle.rules.specs.Trades.{shares, lines}
use Rattle.rules.proofs.Shared.{shares_fair}
use Rattle.rules.proofs.Filled.{queue_total}
use Rattle.table.specs.Tables.{open_orders, tape_lines}
use Rattle.table.proofs.Fit.{table_book}
use Rattle.table.proofs.Open.{refilled}
use Rattle.table.proofs.Queues.{table_queue}
use Rattle.matching.specs.Steps.{step_of}
use Rattle.matching.proofs.Counts.{fill_lines}
use Rattle.matching.proofs.floor.Floor.trade_level.Goals as goal

-- What is shared out of a queue, written over it, is the level's shares.
shared : (rule : Rule) → Fairly rule → (v : ℕ) (q asked whole given after : List ℕ) → Queue q → asked ≡ q → whole ≡ q → given ≡ shares rule asked v → after ≡ refill (length whole) whole given → after ≡ shares rule q v
shared rule fair v q asked whole given after b ea ew eg e =
    let is : given ≡ shares rule q v = eg ∙ ap (λ p. shares rule p v) ea in
    let long = length_all_zip (λ place part. part ≤ place) q (shares rule q v) (shares_fair rule fair q v b).within in
    e ∙ refilled whole given (omega (arith, ap length is, ap length ew, long)) ∙ is

pub share_out-requires-clause-answered : goal.share_out-requires-clause-answered
share_out-requires-clause-answered g c =
    let asked = c.deref.ensures.0 ∙ c.queue-queue.ensures in
    let given = c.deref_mut.ensures.value ∙ c.queue-shares.ensures in
    queue_answered c.deref.result.now (length c.deref_mut.result.now) (ap length (given ∙ sym asked)) (subst Queue (sym asked) (table_queue c.args.self.now.table c.args.level.side c.args.level.kind))

pub share_out-requires-clause-held : goal.share_out-requires-clause-held
share_out-requires-clause-held g c = c.lots_at-held.ensures ∙ (sym (queue_total c.args.level.side c.args.level.kind (open_orders c.args.self.now.table)) ∙ ap total (sym (c.deref.ensures.0 ∙ c.queue-queue.ensures)))

pub apply-requires-clause-covered : goal.apply-requires-clause-covered
apply-requires-clause-covered g c =
    let t = c.args.self.now.table in
    let q = queue c.args.level.side c.args.level.kind (open_orders t) in
    let rule = g.P.Policy.rule c.args.policy.now in
    let fair = g.met.P.Policy.fair c.args.policy.now in
    let v = c.args.lots in
    let b = table_queue t c.args.level.side c.args.level.kind in
    let is = shared rule fair v q c.deref.result.now c.queue-shares.result.items c.share_out.new.given c.deref-2.result.now b (c.deref.ensures.0 ∙ c.queue-queue.ensures) c.queue-shares.ensures c.share_out.ensures c.deref-2.ensures.0 in
    subst (Within q) (sym is) (shares_fair rule fair q v b).within

pub returns-clause-lines : goal.returns-clause-lines
returns-clause-lines g c =
    let t = c.args.self.now.table in
    let s = c.args.level.side in
    let k = c.args.level.kind in
    let q = queue s k (open_orders t) in
    let rule = g.P.Policy.rule c.args.policy.now in
    let fair = g.met.P.Policy.fair c.args.policy.now in
    let v = c.args.lots in
    let is = shared rule fair v q c.deref.result.now c.queue-shares.result.items c.share_out.new.given c.deref-2.result.now (table_queue t s k) (c.deref.ensures.0 ∙ c.queue-queue.ensures) c.queue-shares.ensures c.share_out.ensures c.deref-2.ensures.0 in
    let written = c.apply.ensures.written ∙ ap (λ gs. tape_lines c.args.self.now.tape ++ lines c.args.price (level s k (open_orders t)) gs) is in
    omega (arith, ap length written, fill_lines rule fair s v (step_of c.args.self.now) (table_book t) c.args.price k)
