-- The lots of an order over a run: accepted, traded, withdrawn and open. An order goes by its entry number.
use Rattle.std.specs.Prelude.{ℕ, ◌+◌, Bool, true, false, cond, not, ◌&&◌, List, [], ◌∷◌, Some, None, Option, ◌==◌, nat_eq}
use Rattle.rules.specs.declared.order.Side.{Side}
use Rattle.rules.specs.declared.order.Order.{Order}
use Rattle.rules.specs.declared.tape.TapeLine.{TapeLine}
use Rattle.rules.specs.declared.calls.Phase.{Phase}
use Rattle.rules.specs.declared.calls.Phase.TheVariants.{PreOpen, Open}
use Rattle.rules.specs.declared.calls.Call.{Call}
use Rattle.rules.specs.declared.calls.Call.TheVariants.{EnterLimit, EnterOnOpen, EnterMarket, Cancel, Reduce, TakeLineDown, BringLineUp, NameSuccessor, Try, OpenBook, CloseBook}
use Rattle.rules.specs.declared.calls.EntryAnswer.{EntryAnswer}
use Rattle.rules.specs.declared.calls.Answer.{Answer}
use Rattle.rules.specs.declared.calls.Answer.TheVariants.{Entered, Cancelled, Reduced, Dropped, Done, Tried, Opened, Closed, Refused, WrongPhase}
use Rattle.rules.specs.Sides.{is}
use Rattle.rules.specs.Orders.{held, on_open}
use Rattle.rules.specs.Price.{price}
use Rattle.rules.specs.Trades.{lined}
use Rattle.rules.specs.Lines.{heir, drops}
use Rattle.rules.specs.Machine.{Machine}
use Rattle.rules.specs.Steps.{lapses}
use Rattle.laws.specs.Runs.{Event}

-- ---- answers

-- Whether a call was taken: it was neither refused nor sent in the wrong phase.
abbrev pub was_taken : Answer → Bool
was_taken (Entered a) = true
was_taken (Cancelled lots) = true
was_taken (Reduced lots) = true
was_taken (Dropped lots) = true
was_taken Done = true
was_taken (Tried a) = true
was_taken (Opened a) = true
was_taken (Closed lots) = true
was_taken (Refused r) = false
was_taken WrongPhase = false

-- What an entry was answered.
abbrev pub entry_of : Answer → Option EntryAnswer
entry_of (Entered a) = Some a
entry_of (Cancelled lots) = None
entry_of (Reduced lots) = None
entry_of (Dropped lots) = None
entry_of Done = None
entry_of (Tried a) = None
entry_of (Opened a) = None
entry_of (Closed lots) = None
entry_of (Refused r) = None
entry_of WrongPhase = None

-- ---- the tape

abbrev pub is_open : Phase → Bool
is_open PreOpen = false
is_open Open = true

-- Whether a call writes the tape where it is taken: an entry in session, and an opening.
abbrev pub writes : Phase → Call → Bool
writes phase (EnterLimit e) = is_open phase
writes phase (EnterOnOpen e) = false
writes phase (EnterMarket e) = true
writes phase (Cancel id number) = false
writes phase (Reduce id number lots) = false
writes phase (TakeLineDown id) = false
writes phase (BringLineUp id) = false
writes phase (NameSuccessor id successor) = false
writes phase (Try t) = false
writes phase OpenBook = true
writes phase CloseBook = false

-- Whether a phase offers a call.
abbrev pub offers : Phase → Call → Bool
offers phase (EnterLimit e) = true
offers phase (EnterOnOpen e) = not (is_open phase)
offers phase (EnterMarket e) = is_open phase
offers phase (Cancel id number) = true
offers phase (Reduce id number lots) = true
offers phase (TakeLineDown id) = true
offers phase (BringLineUp id) = true
offers phase (NameSuccessor id successor) = true
offers phase (Try t) = not (is_open phase)
offers phase OpenBook = not (is_open phase)
offers phase CloseBook = is_open phase

-- The phase behind a call that is taken.
abbrev pub next_phase : Phase → Call → Phase
next_phase phase (EnterLimit e) = phase
next_phase phase (EnterOnOpen e) = phase
next_phase phase (EnterMarket e) = phase
next_phase phase (Cancel id number) = phase
next_phase phase (Reduce id number lots) = phase
next_phase phase (TakeLineDown id) = phase
next_phase phase (BringLineUp id) = phase
next_phase phase (NameSuccessor id successor) = phase
next_phase phase (Try t) = phase
next_phase phase OpenBook = Open
next_phase phase CloseBook = PreOpen

-- The lines that a call wrote.
abbrev pub tape_of : Event → List TapeLine
tape_of e = cond (was_taken e.answer && writes e.before.phase e.call) e.after.tape []

-- The lots bought, and sold, by some lines.
abbrev pub side_lots : Side → List TapeLine → ℕ
side_lots s ls = lined (λ n side. is s side) ls

-- Those at one price.
abbrev pub lots_at_price : Side → ℕ → List TapeLine → ℕ
lots_at_price s x [] = 0
lots_at_price s x (l ∷ ls) = cond (is s l.side && x == l.price) l.lots 0 + lots_at_price s x ls

-- ---- accepted, traded, open

-- The volume that a call enters.
abbrev pub volume_asked : Call → ℕ
volume_asked (EnterLimit e) = e.lots
volume_asked (EnterOnOpen e) = e.lots
volume_asked (EnterMarket e) = e.lots
volume_asked (Cancel id number) = 0
volume_asked (Reduce id number lots) = 0
volume_asked (TakeLineDown id) = 0
volume_asked (BringLineUp id) = 0
volume_asked (NameSuccessor id successor) = 0
volume_asked (Try t) = 0
volume_asked OpenBook = 0
volume_asked CloseBook = 0

abbrev pub at_entry : (EntryAnswer → ℕ) → ℕ → Option EntryAnswer → ℕ
at_entry f n None = 0
at_entry f n (Some a) = cond (n == a.number) (f a) 0

-- The order's volume, where the call is its entry.
abbrev pub lots_accepted : ℕ → Event → ℕ
lots_accepted n e = at_entry (λ a. volume_asked e.call) n (entry_of e.answer)

-- Whether a call enters an order of the side.
abbrev pub enters : Side → Call → Bool
enters s (EnterLimit e) = is s e.side
enters s (EnterOnOpen e) = is s e.side
enters s (EnterMarket e) = is s e.side
enters s (Cancel id number) = false
enters s (Reduce id number lots) = false
enters s (TakeLineDown id) = false
enters s (BringLineUp id) = false
enters s (NameSuccessor id successor) = false
enters s (Try t) = false
enters s OpenBook = false
enters s CloseBook = false

-- How many entries are taken under a number: in all, and of a side.
abbrev pub given : ℕ → Event → ℕ
given n e = at_entry (λ a. 1) n (entry_of e.answer)

abbrev pub given_on : Side → ℕ → Event → ℕ
given_on s n e = at_entry (λ a. cond (enters s e.call) 1 0) n (entry_of e.answer)

-- Its lots on the tape that the call wrote.
abbrev pub lots_traded : ℕ → Event → ℕ
lots_traded n e = lined (λ i side. nat_eq n i) (tape_of e)

-- Its lots on the book.
abbrev pub lots_open : ℕ → List Order → ℕ
lots_open n os = held (λ o. nat_eq n o.number) os

-- ---- withdrawn, counted step by step

abbrev pub is_none : Option ℕ → Bool
is_none None = true
is_none (Some x) = false

-- The open orders that a call takes off the book: a cancellation that of its number; a line that goes down without an
-- heir those that do not outlive it; an opening without a price the On-Open orders; a close those that lapse.
abbrev pub takes_off : Machine → Call → Order → Bool
takes_off m (EnterLimit e) o = false
takes_off m (EnterOnOpen e) o = false
takes_off m (EnterMarket e) o = false
takes_off m (Cancel id number) o = number == o.number
takes_off m (Reduce id number lots) o = false
takes_off m (TakeLineDown id) o = is_none (heir id m.lines) && drops id o
takes_off m (BringLineUp id) o = false
takes_off m (NameSuccessor id successor) o = false
takes_off m (Try t) o = false
takes_off m OpenBook o = is_none (price m.orders) && on_open o
takes_off m CloseBook o = lapses m.hours m.today o.lifetime

-- The lots by which a call reduces the order.
abbrev pub reduces : ℕ → Call → ℕ
reduces n (EnterLimit e) = 0
reduces n (EnterOnOpen e) = 0
reduces n (EnterMarket e) = 0
reduces n (Cancel id number) = 0
reduces n (Reduce id number lots) = cond (n == number) lots 0
reduces n (TakeLineDown id) = 0
reduces n (BringLineUp id) = 0
reduces n (NameSuccessor id successor) = 0
reduces n (Try t) = 0
reduces n OpenBook = 0
reduces n CloseBook = 0

-- What its entry answered as withdrawn, what a reduction took off, and what it had open when a call took it off the book.
abbrev pub lots_withdrawn : ℕ → Event → ℕ
lots_withdrawn n e =
    at_entry (λ a. a.withdrawn) n (entry_of e.answer)
    + cond (was_taken e.answer) (reduces n e.call + held (λ o. (n == o.number) && takes_off e.before e.call o) e.before.orders) 0
