-- One call more in a run.
use Rattle.std.proofs.Common.{◌≡◌, ℕ, ◌+◌, ◌<◌, ◌≤◌, min, List, [], ◌∷◌, ◌++◌, map, length, get_or, take, drop, set, sym, refl, ap, ◌∙◌, subst, arith}
use Rattle.std.proofs.lemmas.List.{length-take-le, take_all, length-drop, length-set, take_more, take_more_set, take-append-drop, drop_more, drop-set-lt, drop-drop}
use Rattle.policy.specs.Fair.{Rule}
use Rattle.rules.specs.declared.calls.Call.{Call}
use Rattle.rules.specs.declared.calls.Answer.{Answer}
use Rattle.rules.specs.Machine.{Rules, Machine}
use Rattle.rules.specs.Steps.{step}
use Rattle.book.specs.Model.{Gives}
use Rattle.laws.specs.Runs.{Event, run, after}
use Rattle.laws.proofs.Histories.{after_more}
use Rattle.replay.specs.declared.any.AnyBook.{AnyBook}
use Rattle.replay.specs.Books.{machine_of, opening_of, session_of, rules_in}
use Rattle.replay.specs.Replays.{Ran, Replayed}
use Rattle.replay.proofs.Lawful.{KeepsMeaning, lawful_from}

pub one_more : (R : Rules) (start before last : Machine) (cs : List Call) (c : Call) → before ≡ after R start cs → last ≡ (step R before c).after → last ≡ after R start (cs ++ c ∷ [])
one_more R start before last cs c came stepped = stepped ∙ ap (λ (m : Machine). (step R m c).after) came ∙ sym (after_more R start cs c)

-- Calls behind other calls.
after_both : (R : Rules) (m : Machine) (cs ds : List Call) → after R m (cs ++ ds) ≡ after R (after R m cs) ds
after_both R m [] ds = refl
after_both R m (c ∷ cs) ds = after_both R (step R m c).after cs ds

pub goes_on : (R : Rules) (start before last : Machine) (cs ds : List Call) → before ≡ after R start cs → last ≡ after R before ds → last ≡ after R start (cs ++ ds)
goes_on R start before last cs ds came ran = ran ∙ ap (λ (m : Machine). after R m ds) came ∙ sym (after_both R start cs ds)

abbrev answers_of : List Event → List Answer
answers_of es = map (λ e. e.answer) es

answers_more : (R : Rules) (m : Machine) (cs : List Call) (c : Call) → answers_of (run R m (cs ++ c ∷ [])) ≡ answers_of (run R m cs) ++ (step R (after R m cs) c).answer ∷ []
answers_more R m [] c = refl
answers_more R m (d ∷ cs) c = ap (λ (as' : List Answer). (step R m d).answer ∷ as') (answers_more R (step R m d).after cs c)

-- After i calls the machine is m, the first i answers stand in xs, and the other calls are left.
pub record Sofar (R : Rules) (start : Machine) (cs : List Call) (old : List Answer) (i : ℕ) (m : Machine) (xs : List Answer) (left : List Call) : Type 0 where
  pub leaves : m ≡ after R start (take i cs)
  pub front : take i xs ≡ answers_of (run R start (take i cs))
  pub rest : drop i xs ≡ drop i old
  pub long : length xs ≡ length old
  pub behind : left ≡ drop i cs
  pub within : i ≤ length cs

-- One turn: the first call that is left is sent, and its answer written.
pub sofar_more : (R Q : Rules) (start m n : Machine) (cs : List Call) (old xs : List Answer) (i : ℕ) (left rest : List Call) (c : Call) (a : Answer) → left ≡ c ∷ rest → i < length xs → Q ≡ R → Gives (step Q m c) a n → Sofar R start cs old i m xs left → Sofar R start cs old (i + 1) n (set xs i a) rest
sofar_more R Q start m n cs old xs i left rest c a cut room same gives s =
    let long = ap length (sym cut ∙ s.behind) in
    let within : i < length cs = omega (arith, long, length-drop i cs) in
    let split : c ∷ rest ≡ get_or cs i c ∷ drop (i + 1) cs = sym cut ∙ s.behind ∙ drop_more cs i c within in
    let first : c ≡ get_or cs i c = ap (λ (l : List Call). get_or l 0 c) split in
    let more : take (i + 1) cs ≡ take i cs ++ c ∷ [] = take_more cs i c within ∙ ap (λ (d : Call). take i cs ++ d ∷ []) (sym first) in
    let g : Gives (step R m c) a n = subst (λ (T : Rules). Gives (step T m c) a n) same gives in
    let put = take_more_set xs i a room in
    record {
      leaves = one_more R start m n (take i cs) c s.leaves g.leaves ∙ ap (after R start) (sym more);
      front = put ∙ (λ k. s.front k ++ (g.answers ∙ ap (λ (x : Machine). (step R x c).answer) s.leaves) k ∷ []) ∙ sym (answers_more R start (take i cs) c) ∙ ap (λ (t : List Call). answers_of (run R start t)) (sym more);
      rest = drop-set-lt (i + 1) xs i a (omega arith) ∙ sym (drop-drop 1 i xs) ∙ ap (drop 1) s.rest ∙ drop-drop 1 i old;
      long = length-set xs i a ∙ s.long;
      behind = ap (drop 1) split;
      within = omega (arith, within);
    }

-- No call or no place is left.
pub sofar_all : (R : Rules) (start m : Machine) (cs : List Call) (old xs : List Answer) (i : ℕ) (left : List Call) → Sofar R start cs old i m xs left → Ran R start (take i cs) old xs m
sofar_all R start m cs old xs i left s = record {
  answers = sym (take-append-drop i xs) ∙ (λ j. s.front j ++ s.rest j) ∙ ap (λ (n : ℕ). answers_of (run R start (take i cs)) ++ drop n old) (sym (length-take-le i cs s.within));
  leaves = s.leaves;
}

-- The calls that have a place for their answer.
abbrev pub with_place : List Call → List Answer → List Call
with_place cs old = take (min (length cs) (length old)) cs

pub with_place_length : (cs : List Call) (old : List Answer) → length (with_place cs old) ≡ min (length cs) (length old)
with_place_length cs old = length-take-le (min (length cs) (length old)) cs (omega arith)

-- Where the run ends, none of them is left.
pub replayed : {O S : Type 0} (opening : O → Rule) (session : S → Rule) → KeepsMeaning opening → KeepsMeaning session → (start book : AnyBook O S) (cs : List Call) (old xs : List Answer) (i : ℕ) (left : List Call) → opening_of book ≡ opening_of start → session_of book ≡ session_of start → Sofar (rules_in opening session start) (machine_of start) (with_place cs old) old i (machine_of book) xs left → i ≡ length (with_place cs old) → Replayed opening session start cs old xs book
replayed opening session fair-opening fair-session start book cs old xs i left same-opening same-session s all =
    let R = rules_in opening session start in
    let placed = with_place cs old in
    let ran = subst (λ (sent : List Call). Ran R (machine_of start) sent old xs (machine_of book)) (ap (λ (n : ℕ). take n placed) all ∙ take_all (length placed) placed (omega arith)) (sofar_all R (machine_of start) (machine_of book) placed old xs i left s) in
    record {
      ran = ran;
      same_opening = same-opening;
      same_session = same-session;
      goes_on = λ first ds came. goes_on R first (machine_of start) (machine_of book) ds placed came ran.leaves;
      laws = lawful_from opening session fair-opening fair-session start;
    }
