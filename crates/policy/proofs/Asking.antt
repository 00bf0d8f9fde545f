-- What an answer tells its caller. Assumes nothing.
use Rattle.std.proofs.Common.{◌≡◌, ℕ, min, true, List, length, Ok, Err, ◌∙◌, ⊎_elim}
use Rattle.std.proofs.lemmas.Bool.{cases_Bool, cond-true, cond-false}
use Rattle.policy.specs.Fair.{Rule, Fairly, total}
use Rattle.policy.specs.Asked.{answered, Answered}
use Rattle.policy.specs.declared.Refusal.TheVariants.{NotAQueue}
use Rattle.policy.proofs.Queues.{answered_queue}

-- an `Ok` is the answer to a queue
pub taken_answered : (rule : Rule) (q : List ℕ) (v : ℕ) (before after : List ℕ) (u : Unit {0}) → Answered rule q v before after (Ok u) → answered q (length before) ≡ true
taken_answered rule q v before after u a =
    ⊎_elim
    (λ h. h)
    (λ h. let is : Ok u ≡ Err NotAQueue = a.result ∙ cond-false _ _ _ h in cc)
    (cases_Bool (answered q (length before)))

pub taken_shares : (rule : Rule) (q : List ℕ) (v : ℕ) (before after : List ℕ) (u : Unit {0}) → Answered rule q v before after (Ok u) → after ≡ rule q v
taken_shares rule q v before after u a = a.shares ∙ cond-true _ _ _ (taken_answered rule q v before after u a)

-- the shares of such an answer add up
pub taken_adds : (rule : Rule) → Fairly rule → (q : List ℕ) (v : ℕ) (before after : List ℕ) (u : Unit {0}) → Answered rule q v before after (Ok u) → total after ≡ min v (total q)
taken_adds rule fair q v before after u a =
    let is = taken_shares rule q v before after u a in
    let adds = (fair q v (answered_queue q (length before) (taken_answered rule q v before after u a))).adds in
    cc
