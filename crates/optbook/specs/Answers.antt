-- What a line is answered, and how that is printed and counted.
use Rattle.std.specs.Prelude.{◌≡◌, ℕ, true, false, List, ◌∷◌, ◌++◌, Ok, Err, vec_items, codes, decimal}
use Rattle.std.specs.List.{flat_map}
use Rattle.policy.specs.Asked as policy
use Rattle.policy.specs.Chosen.{Chosen, chosen_rule}
use Rattle.policy.specs.Queue.{is_queue}
use Rattle.policy.specs.declared.Refusal.TheVariants.{NotAQueue}
use Rattle.rules.specs.Refusals.{number_of}
use Rattle.rules.specs.declared.calls.Answer as calls
use Rattle.rules.specs.declared.calls.Answer.TheVariants.{Entered, Cancelled, Reduced, Dropped, Done, Tried, Opened, Closed, Refused, WrongPhase}
use Rattle.rules.specs.declared.calls.EntryAnswer.{EntryAnswer}
use Rattle.rules.specs.declared.calls.OpeningAnswer.{OpeningAnswer}
use Rattle.rules.specs.declared.calls.TrialAnswer.{TrialAnswer}
use Rattle.optbook.specs.Pages.{page_text}
use Rattle.optbook.specs.Words.{price_word}
use Rattle.optbook.specs.declared.answer.Answer.{Answer}
use Rattle.optbook.specs.declared.answer.Answer.TheVariants.{Shares, Made, Shown, Called}
use Rattle.optbook.specs.declared.tally.Outcome.{Outcome}
use Rattle.optbook.specs.declared.tally.Outcome.TheVariants as outcome

-- A call that the phase does not offer counts as refused.
abbrev pub call_outcome : calls.Answer → Outcome
call_outcome (Refused refusal) = outcome.Refused
call_outcome WrongPhase = outcome.Refused
call_outcome answer = outcome.Taken

abbrev pub outcome_of : Answer → Outcome
outcome_of (Shares (Err refusal)) = outcome.Refused
outcome_of (Called answer) = call_outcome answer
outcome_of answer = outcome.Taken

-- The shares of a queue by the policy's rule; what is no queue is refused.
abbrev pub Shared : Chosen → List ℕ → ℕ → Answer → Type 0
Shared policy queue lots (Shares (Ok shares)) = (is_queue queue ≡ true) × (vec_items shares ≡ chosen_rule policy queue lots)
Shared policy queue lots (Shares (Err refusal)) = (is_queue queue ≡ false) × (refusal ≡ NotAQueue)
Shared policy queue lots answer = ⊥

-- ---- the lines that are printed

-- A blank before each number.
abbrev pub spaced_text : List ℕ → List ℕ
spaced_text ns = flat_map (λ n. 32 ∷ decimal n) ns

abbrev pub entered_text : EntryAnswer → List ℕ
entered_text e =
    codes "entered " ++ (decimal e.number ++ (codes " traded " ++ (decimal e.traded ++ (codes " withdrawn " ++ (decimal e.withdrawn ++ (codes " open " ++ decimal e.«open»))))))

abbrev pub tried_text : TrialAnswer → List ℕ
tried_text t = codes "price " ++ (price_word t.price ++ (codes " volume " ++ decimal t.volume))

abbrev pub opened_text : OpeningAnswer → List ℕ
opened_text o =
    codes "opened volume " ++ (decimal o.volume ++ (codes " total " ++ (decimal o.total ++ (codes " withdrawn " ++ (decimal o.withdrawn ++ (codes " price " ++ price_word o.price))))))

abbrev pub call_text : calls.Answer → List ℕ
call_text (Entered e) = entered_text e
call_text (Cancelled lots) = codes "cancelled " ++ decimal lots
call_text (Reduced lots) = codes "open " ++ decimal lots
call_text (Dropped pair) = codes "withdrawn " ++ (decimal pair.0 ++ (codes " " ++ decimal pair.1))
call_text Done = codes "done"
call_text (Tried t) = tried_text t
call_text (Opened o) = opened_text o
call_text (Closed pair) = codes "closed withdrawn " ++ (decimal pair.0 ++ (codes " " ++ decimal pair.1))
call_text (Refused refusal) = codes "refused " ++ decimal (number_of refusal)
call_text WrongPhase = codes "wrong phase"

abbrev pub answer_text : Answer → List ℕ
answer_text (Shares (Ok shares)) = codes "shares" ++ spaced_text (vec_items shares)
answer_text (Shares (Err refusal)) = codes "refused " ++ decimal (policy.number_of refusal)
answer_text Made = codes "made"
answer_text (Shown page) = page_text page
answer_text (Called answer) = call_text answer
