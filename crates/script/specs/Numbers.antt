-- What a word reads as, where a number is wanted. Assumes nothing.
use Rattle.std.specs.Prelude.{ℕ, ◌^◌, Bool, cond, not, ◌&&◌, List, length, Ok, Err, Result, ◌==◌, nat_lt}
use Rattle.std.specs.Str.Parse.{digits_value}
use Rattle.std.specs.Str.{all_ascii_digits}
use Rattle.script.specs.declared.numbers.Unread.{Unread}
use Rattle.script.specs.declared.numbers.Unread.TheVariants.{NotDigits, TooLarge}

-- One digit or more, and nothing else.
abbrev pub is_numeral : List ℕ → Bool
is_numeral word = all_ascii_digits word && not (length word == 0)

-- The number that the digits write, where it fits 32 bits.
abbrev pub number_read : List ℕ → Result ℕ Unread
number_read word =
    cond (is_numeral word) (cond (nat_lt (digits_value 10 word) (2 ^ 32)) (Ok (digits_value 10 word)) (Err TooLarge)) (Err NotDigits)
