use Rattle.std.proofs.Common.{◌≡◌, ℕ, ◌-◌, ◌<◌, min, Bool, length, Some, filter, sym, ◌∙◌, subst, arith}
use Rattle.rules.specs.declared.order.Kind.TheVariants.{Limit}
use Rattle.rules.specs.Orders.{held, at, level, prices}
use Rattle.rules.specs.Trades.{Step, ranked}
use Rattle.table.specs.Tables.{open_orders}
use Rattle.table.proofs.Fit.{table_book}
use Rattle.matching.specs.Best.{first_of}
use Rattle.matching.specs.Spans.{spans}
use Rattle.matching.specs.Steps.{step_of}
use Rattle.matching.proofs.Counts.{level_within}
use Rattle.matching.proofs.Walks.{Walked, walked_turn, walked_exact, walked_left, next_some, next_lots, next_orders, for_more}
use Rattle.matching.proofs.floor.Floor.walk.Goals as goal
use Rattle.matching.proofs.floor.Floor.walk.Goals.{In-Some}

-- Lots are left, and the price is the first of those in order.
next : (g : _) (c : goal.In-Some g) → (0 < c.loop-x.left) × (first_of (filter (spans c.args.span) (ranked c.args.span.side (open_orders c.loop-x.self.table))) ≡ Some c.in-Some.x)
next g c =
    let t : ℕ → Bool = spans c.args.span in
    next_some c.loop-x.left c.in-Some.x (filter t (ranked c.args.span.side (open_orders c.loop-x.self.table))) (sym c.next_price.ensures ∙ c.in-Some.is)

pub meet_level-left-requires : goal.meet_level-left-requires
meet_level-left-requires g c =
    let os = open_orders c.loop-x.self.table in
    let s = c.args.span.side in
    let x = c.in-Some.x in
    let t : ℕ → Bool = spans c.args.span in
    let first = next g (goal.at.meet_level-left-requires g c).In-Some in
    record {
      some = next_orders s t os (table_book c.loop-x.self.table).sound x first.1;
      room = omega (arith, c.loop-x.invariant.room first.0, c.requires, for_more c.args.terms (length (level s (Limit x) os)) (length (prices s os)) (level_within s x os));
    }

pub loop-x-smaller : goal.loop-x-smaller
loop-x-smaller g c =
    let os = open_orders c.loop-x.self.table in
    let s = c.args.span.side in
    let t : ℕ → Bool = spans c.args.span in
    let first = next g (goal.at.loop-x-smaller g c).In-Some in
    omega (arith, first.0, next_lots s t os (table_book c.loop-x.self.table).sound c.in-Some.x first.1, c.meet_level-left.ensures.traded)

pub loop-x-preserved : goal.loop-x-preserved
loop-x-preserved g c =
    let n = step_of c.loop-x.self in
    let s = c.args.span.side in
    let x = c.in-Some.x in
    let left = c.loop-x.left in
    let t : ℕ → Bool = spans c.args.span in
    let rule = g.P.Policy.rule c.args.policy.now in
    let m = step_of c.args.self.now in
    let first = next g (goal.at.loop-x-preserved g c).In-Some in
    let turn = walked_turn rule (g.met.P.Policy.fair c.args.policy.now) c.args.terms s t left n (table_book c.loop-x.self.table) x first.1 c.args.lots m first.0 c.loop-x.invariant in
    let there = subst (λ (k : Step). Walked rule c.args.terms s t c.args.lots m (left - min left (held (at s (Limit x)) n.orders)) k) (sym c.meet_level-left.ensures.exact) turn in
    subst (λ (r : ℕ). Walked rule c.args.terms s t c.args.lots m (left - r) (step_of c.meet_level-left.new.self)) (sym c.meet_level-left.ensures.traded) there

pub returns-clause-exact : goal.returns-clause-exact
returns-clause-exact g c =
    let s = c.args.span.side in
    let t : ℕ → Bool = spans c.args.span in
    walked_exact (g.P.Policy.rule c.args.policy.now) (g.met.P.Policy.fair c.args.policy.now) c.args.terms s t c.args.lots (step_of c.args.self.now) c.loop-x.left (step_of c.loop-x.self) (table_book c.loop-x.self.table) (sym c.next_price.ensures ∙ c.in_default.is) c.loop-x.invariant

pub returns-clause-left : goal.returns-clause-left
returns-clause-left g c =
    let s = c.args.span.side in
    let t : ℕ → Bool = spans c.args.span in
    walked_left (g.P.Policy.rule c.args.policy.now) (g.met.P.Policy.fair c.args.policy.now) c.args.terms s t c.args.lots (step_of c.args.self.now) c.loop-x.left (step_of c.loop-x.self) (table_book c.loop-x.self.table) (sym c.next_price.ensures ∙ c.in_default.is) c.loop-x.invariant
