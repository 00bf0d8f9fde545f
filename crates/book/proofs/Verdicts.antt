-- What the checks of a call tell: a refusal, or that each was passed.
use Rattle.std.proofs.Common.{◌≡◌, ℕ, ◌%◌, ◌<◌, Bool, true, false, cond, not, ◌&&◌, eqb, leb, List, [], ◌∷◌, ◌++◌, length, Some, None, Ok, Err, Option, Result, refl, ap, IsErrAnd, arith}
use Rattle.std.proofs.lemmas.Bool.Decides.{nat_tests}
use Rattle.policy.specs.Fair.{Rule}
use Rattle.rules.specs.declared.order.Kind.TheVariants.{Limit}
use Rattle.rules.specs.declared.calls.Phase.{Phase}
use Rattle.rules.specs.declared.calls.Call.{Call}
use Rattle.rules.specs.declared.calls.Answer.{Answer}
use Rattle.rules.specs.declared.calls.LimitEntry.{LimitEntry}
use Rattle.rules.specs.declared.calls.Trial.{Trial}
use Rattle.rules.specs.declared.refusal.Refusal.{Refusal}
use Rattle.rules.specs.Ladders.{step_at}
use Rattle.rules.specs.Refusals.{Check, first}
use Rattle.rules.specs.Checks.{limit_checks, trial_checks}
use Rattle.rules.specs.Machine.{Machine}
use Rattle.rules.specs.Steps.{Outcome, refused, checked, step}
use Rattle.table.specs.Fits.{price_fits, entry_fits}
use Rattle.matching.specs.Entries.{room_for}
use Rattle.book.specs.declared.phases.Book.{Book}
use Rattle.book.specs.Model.{machine, rules_of, said, verdict, Gives, SamePolicies, Calls}

abbrev Verdict : Type 0
Verdict = Result (Unit {0}) Refusal

abbrev pub Passes : List Check → Type 0
Passes cs = ◌≡◌ {A = Verdict} (Ok tt) (verdict (first cs))

abbrev pub Fails : List Check → Refusal → Type 0
Fails cs r = ◌≡◌ {A = Verdict} (Err r) (verdict (first cs))

-- ---- a check that fails, whatever is checked behind it

fails_here : (b : Bool) (q r : Refusal) (rest more : Option Refusal) → (◌≡◌ {A = Verdict} (Err r) (verdict rest) → ◌≡◌ {A = Verdict} (Err r) (verdict more)) → ◌≡◌ {A = Verdict} (Err r) (verdict (cond b (Some q) rest)) → ◌≡◌ {A = Verdict} (Err r) (verdict (cond b (Some q) more))
fails_here true q r rest more later e = e
fails_here false q r rest more later e = later e

pub fails_first : (cs ds : List Check) (r : Refusal) → Fails cs r → Fails (cs ++ ds) r
fails_first [] ds r e = cc
fails_first (c ∷ cs) ds r e = fails_here c.0 c.1 r (first cs) (first (cs ++ ds)) (fails_first cs ds r) e

-- ---- what a call then gives

refuses : {A : Type 0} (o : Option Refusal) (m : Machine) (t : Outcome) (f : A → Answer) (x : Result A Refusal) (r : Refusal) → ◌≡◌ {A = Verdict} (Err r) (verdict o) → IsErrAnd x (λ y. y ≡ r) → Gives (refused o m t) (said f x) m
refuses None m t f x r e same = cc
refuses (Some q) m t f (Ok a) r e same = absurd same
refuses (Some q) m t f (Err y) r e same = let i : y ≡ q = cc in record { answers = ap (λ (z : Refusal). said f (Err z)) i; leaves = refl }

-- A call whose checks fail answers the refusal and leaves the book as it was.
pub call_refused : {P O S A : Type 0} {opening : O → Rule} {session : S → Rule} {phase : Phase} {b : Book P O S} {call : Call} {r : Refusal} (f : A → Answer) (x : Result A Refusal) (cs : List Check) (t : Outcome) →
    step (rules_of opening session b) (machine phase b.held) call ≡ checked cs (machine phase b.held) t → Fails cs r → IsErrAnd x (λ y. y ≡ r) →
    Calls opening session phase b b call (said f x)
call_refused {phase} {b} {r} f x cs t is fails same = record {
  step = rw is (refuses (first cs) (machine phase b.held) t f x r fails same);
  policies = record { opening = refl; session = refl };
}

takes_on : (o : Option Refusal) (m : Machine) (t : Outcome) (a : Answer) (n : Machine) → ◌≡◌ {A = Verdict} (Ok tt) (verdict o) → Gives t a n → Gives (refused o m t) a n
takes_on None m t a n e k = k
takes_on (Some r) m t a n e k = cc

-- One whose checks are passed does what was meant.
pub call_taken : {P O S : Type 0} {opening : O → Rule} {session : S → Rule} {phase : Phase} {before after : Book P O S} {call : Call} {a : Answer} (cs : List Check) (t : Outcome) →
    step (rules_of opening session before) (machine phase before.held) call ≡ checked cs (machine phase before.held) t → Passes cs → Gives t a (machine phase after.held) → SamePolicies before after →
    Calls opening session phase before after call a
call_taken {phase} {before} {after} {a} cs t is passes gives same = record {
  step = rw is (takes_on (first cs) (machine phase before.held) t a (machine phase after.held) passes gives);
  policies = same;
}

-- ---- what passed checks say

split_check : (b : Bool) (r : Refusal) (rest : Option Refusal) → ◌≡◌ {A = Verdict} (Ok tt) (verdict (cond b (Some r) rest)) → (b ≡ false) × (◌≡◌ {A = Verdict} (Ok tt) (verdict rest))
split_check true r rest e = cc
split_check false r rest e = (refl, e)

pub passes_each : (c : Check) (cs : List Check) → Passes (c ∷ cs) → (c.0 ≡ false) × Passes cs
passes_each c cs e = split_check c.0 c.1 (first cs) e

abbrev AllPass : List Check → Type 0
AllPass [] = Unit {0}
AllPass (c ∷ cs) = (c.0 ≡ false) × AllPass cs

pub passes_all : (cs : List Check) → Passes cs → AllPass cs
passes_all [] e = tt
passes_all (c ∷ cs) e = let p = passes_each c cs e in (p.0, passes_all cs p.1)

taken_price : (b : Bool) (x : ℕ) → not (leb 1 x && (leb x 4_000_000 && b)) ≡ false → price_fits x ≡ true
taken_price true x e = grind (arith, nat_tests)
taken_price false x e = grind (arith, nat_tests)

-- What the table and the numbers need of a limit entry, waiting or in session.
pub record LimitRoom (m : Machine) (e : LimitEntry) : Type 0 where
  pub room : length m.orders < 256
  pub number : m.next < 4294967295
  pub fit : entry_fits (Limit e.price) e.lots ≡ true
  pub rests : room_for (Some e.price) m.orders ≡ true

pub limit_room : (m : Machine) (e : LimitEntry) → Passes (limit_checks m e) → LimitRoom m e
limit_room m e ok =
    let a = (passes_all (limit_checks m e) ok).1.1 in
    let p = taken_price (eqb (e.price % step_at m.ladder e.price) 0) e.price a.0 in
    let lots = a.1.0 in
    let full = a.1.1.1.1.1.0 in
    let numbers = a.1.1.1.1.1.1.0 in
    record { room = grind (arith, nat_tests); number = grind (arith, nat_tests); fit = grind (arith, nat_tests); rests = grind (arith, nat_tests) }

-- What a new order needs of the table.
pub record Room (m : Machine) (fit : Bool) : Type 0 where
  pub room : length m.orders < 256
  pub fits : fit ≡ true

pub trial_room : (m : Machine) (t : Trial) → Passes (trial_checks m t) → Room m (entry_fits (Limit t.price) t.lots)
trial_room m t ok =
    let a = passes_all (trial_checks m t) ok in
    let p = taken_price (eqb (t.price % step_at m.ladder t.price) 0) t.price a.0 in
    let lots = a.1.0 in
    let full = a.1.1.0 in
    record { room = grind (arith, nat_tests); fits = grind (arith, nat_tests) }
