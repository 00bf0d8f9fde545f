-- What a queue gives where lots trade with it is fair, by every fair rule.
use Rattle.std.proofs.Common.{◌≡◌, ℕ, ◌≤◌, ltb, List, [], ◌∷◌, arith}
use Rattle.std.proofs.lemmas.Bool.{cond_both, cond-false, ltb-false, le-ltb}
use Rattle.policy.specs.Fair.{total, Within, Fair, Rule, Fairly}
use Rattle.rules.specs.Trades.{shares}

within_self : (q : List ℕ) → Within q q
within_self [] = tt
within_self (x ∷ xs) = (omega arith, within_self xs)

-- all where the queue holds no more than trades, else as the rule shares
pub shares_fair : (rule : Rule) → Fairly rule → Fairly (shares rule)
shares_fair rule fair q v h = cond_both (ltb v (total q)) (rule q v) q (Fair q v)
    (λ _. fair q v h)
    (λ e. record { within = within_self q; adds = omega (arith, ltb-false v (total q) e) })

-- a queue that holds no more than trades gives all
pub shares_all : (rule : Rule) (q : List ℕ) (v : ℕ) → total q ≤ v → shares rule q v ≡ q
shares_all rule q v h = cond-false (ltb v (total q)) (rule q v) q (le-ltb v (total q) h)
