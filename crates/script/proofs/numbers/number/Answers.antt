use Rattle.std.proofs.Common.{◌≡◌, ℕ, ◌^◌, ◌<◌, true, List, length, Ok, Err, Result, MatchResult, IsErrAnd, OkIff, arith, rules}
use Rattle.std.proofs.lemmas.Str.Parse.{numerals_by_value, tells_all_ascii_digits, parse_digits}
use Rattle.std.proofs.lemmas.Result.{MatchResult-weaker}
use Rattle.std.proofs.lemmas.Bool.Decides.{nat_tests}
use Rattle.std.specs.Str.Parse.{digits_value}
use Rattle.std.specs.Str.{all_ascii_digits}
use Rattle.script.specs.Numbers.{is_numeral, number_read}
use Rattle.script.specs.declared.numbers.Unread.{Unread}
use Rattle.script.specs.declared.numbers.Unread.TheVariants.{TooLarge}
use Rattle.script.proofs.numbers.number.Goals as goal

-- of digits, `parse` refuses only those that write too large a number
read : {E : Type 0} (word : List ℕ) (parsed : Result ℕ E) (r : Result ℕ Unread) → is_numeral word ≡ true → OkIff parsed ((0 < length word) × (digits_value 10 word < 2 ^ 32)) (digits_value 10 word) → MatchResult parsed (λ n. r ≡ Ok n) (λ _. IsErrAnd r (λ u. u ≡ TooLarge)) → r ≡ number_read word
read word (Ok n) r numeral parses is = grind (arith, nat_tests)
read word (Err e) r numeral parses is = grind (arith, nat_tests)

pub returns : goal.returns
returns c =
    let word = c.args.word.now in
    let numeral : is_numeral word ≡ true = search rules in
    let digits : all_ascii_digits word ≡ true = grind (arith, nat_tests) in
    let own = numerals_by_value (λ (ds : List ℕ). all_ascii_digits ds ≡ true) tells_all_ascii_digits in
    read word c.parse.result c.map_err.result numeral (parse_digits own 32 word c.parse.result c.parse.ensures.value.0 digits)
    (MatchResult-weaker c.parse.result c.map_err.ensures.cases (λ n p. p) (λ e p. search rules))
