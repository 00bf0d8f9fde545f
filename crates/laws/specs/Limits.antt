-- The limit of an order over a run: the price it was entered with, or the opening price once an opening turned it.
use Rattle.std.specs.Prelude.{ℕ, Bool, cond, ◌&&◌, List, [], ◌∷◌, Some, None, Option, ◌==◌, nat_lt}
use Rattle.rules.specs.declared.order.Side.{Side}
use Rattle.rules.specs.declared.order.Side.TheVariants.{Bid, Offer}
use Rattle.rules.specs.declared.order.Kind.{Kind}
use Rattle.rules.specs.declared.order.Kind.TheVariants.{Limit, OnOpen}
use Rattle.rules.specs.declared.order.Order.{Order}
use Rattle.rules.specs.declared.calls.Call.{Call}
use Rattle.rules.specs.declared.calls.Call.TheVariants.{EnterLimit, EnterOnOpen, EnterMarket, Cancel, Reduce, TakeLineDown, BringLineUp, NameSuccessor, Try, OpenBook, CloseBook}
use Rattle.rules.specs.declared.calls.EntryAnswer.{EntryAnswer}
use Rattle.rules.specs.Sides.{better_than}
use Rattle.rules.specs.Orders.{held, on_open}
use Rattle.rules.specs.Price.{price}
use Rattle.laws.specs.Runs.{Event}
use Rattle.laws.specs.Lots.{was_taken, entry_of}

-- The price that an entry gives to the order it enters.
abbrev pub entered_at : ℕ → ℕ → Option EntryAnswer → Option ℕ → Option ℕ
entered_at n x None old = old
entered_at n x (Some a) old = cond (n == a.number) (Some x) old

-- Whether the order of a number waits for an opening's price.
abbrev pub waits : ℕ → List Order → Bool
waits n os = nat_lt 0 (held (λ o. (n == o.number) && on_open o) os)

-- The price that an opening gives to every On-Open order: what is left of it becomes a limit order at that price.
abbrev pub turned_to : Option ℕ → Bool → Option ℕ → Option ℕ
turned_to None turns old = old
turned_to (Some p) turns old = cond turns (Some p) old

-- The order's limit after a call, if it has one: a limit entry gives it its price, and an opening to one that waits the
-- opening price. Market orders, and On-Open orders before their opening, have none.
abbrev pub limit_by : ℕ → Event → Call → Option ℕ → Option ℕ
limit_by n e (EnterLimit x) old = entered_at n x.price (entry_of e.answer) old
limit_by n e (EnterOnOpen x) old = old
limit_by n e (EnterMarket x) old = old
limit_by n e (Cancel id number) old = old
limit_by n e (Reduce id number lots) old = old
limit_by n e (TakeLineDown id) old = old
limit_by n e (BringLineUp id) old = old
limit_by n e (NameSuccessor id successor) old = old
limit_by n e (Try t) old = old
limit_by n e OpenBook old = turned_to (price e.before.orders) (was_taken e.answer && waits n e.before.orders) old
limit_by n e CloseBook old = old

abbrev pub limit_from : ℕ → Option ℕ → List Event → Option ℕ
limit_from n old [] = old
limit_from n old (e ∷ es) = limit_from n (limit_by n e e.call old) es

abbrev pub limit_after : ℕ → List Event → Option ℕ
limit_after n es = limit_from n None es

-- The limit that an open order's kind says: a price, or none while it waits for an opening.
abbrev pub limit_said : Kind → Option ℕ
limit_said (Limit x) = Some x
limit_said OnOpen = None

-- Whether a trade at x is beyond the limit q: a bid's is at a higher price, an offer's at a lower one.
abbrev pub beyond : Side → ℕ → ℕ → Bool
beyond Bid q x = nat_lt q x
beyond Offer q x = nat_lt x q

-- Whether x is a better price than q for orders of the side: the higher for bids, the lower for offers.
abbrev pub beats : Side → ℕ → ℕ → Bool
beats s x q = better_than s q x
