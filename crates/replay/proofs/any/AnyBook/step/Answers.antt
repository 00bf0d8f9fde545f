use Rattle.std.proofs.Common.{◌≡◌, Result, rules}
use Rattle.policy.specs.Fair.{Rule}
use Rattle.rules.specs.declared.calls.Answer.{Answer}
use Rattle.rules.specs.declared.calls.Call.{Call}
use Rattle.rules.specs.declared.calls.Call.TheVariants.{OpenBook, CloseBook}
use Rattle.rules.specs.declared.calls.Phase.TheVariants.{PreOpen, Open}
use Rattle.rules.specs.declared.refusal.Refusal.{Refusal}
use Rattle.book.specs.Model.{said}
use Rattle.book.specs.declared.phases.Book.{Book}
use Rattle.book.specs.declared.stage.Waiting as waits
use Rattle.book.specs.declared.stage.Trading as trades
use Rattle.replay.specs.declared.any.AnyBook.{AnyBook}
use Rattle.replay.specs.declared.any.AnyBook.TheVariants.{Waiting, Trading}
use Rattle.replay.specs.Sends.{Asked, Stepped}
use Rattle.replay.proofs.any.AnyBook.step.Goals as goal

module _ {O S : Type 0} (opening : O → Rule) (session : S → Rule) (r : Result Answer Refusal) (answer : Answer) (says : answer ≡ said (λ a. a) r) (call : Call) where
  still_waits : (before : AnyBook O S) (book after : Book waits.Waiting O S) → before ≡ Waiting book → (call ≡ OpenBook → ⊥) → Asked opening session PreOpen OpenBook book call r after → Stepped opening session before call answer (Waiting after)
  still_waits before book after b other h = rw (b, says) (record { gives = h.gives other; same_opening = h.policies.opening; same_session = h.policies.session })

  still_trades : (before : AnyBook O S) (book after : Book trades.Trading O S) → before ≡ Trading book → (call ≡ CloseBook → ⊥) → Asked opening session Open CloseBook book call r after → Stepped opening session before call answer (Trading after)
  still_trades before book after b other h = rw (b, says) (record { gives = h.gives other; same_opening = h.policies.opening; same_session = h.policies.session })

pub returns-in_default : goal.returns-in_default
returns-in_default g c =
    still_waits g.O.Policy.rule g.S.Policy.rule c.ask_waiting.result c.unwrap_or_else-answer.result (search rules) c.args.call c.args.self c.in-Waiting.book c.ask_waiting.new.book c.in-Waiting.is c.in_default.not-OpenBook c.ask_waiting.ensures

pub returns-in_default-call : goal.returns-in_default-call
returns-in_default-call g c =
    still_trades g.O.Policy.rule g.S.Policy.rule c.ask_trading.result c.unwrap_or_else-answer-in_default-call.result (search rules) c.args.call c.args.self c.in-Trading.book c.ask_trading.new.book c.in-Trading.is c.in_default-call.not-CloseBook c.ask_trading.ensures
