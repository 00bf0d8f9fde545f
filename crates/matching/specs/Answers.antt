-- What an opening answers.
use Rattle.rules.specs.declared.calls.OpeningAnswer.{OpeningAnswer}
use Rattle.rules.specs.Opening.{Opened}

abbrev pub answer_of : Opened → OpeningAnswer
answer_of o = record { volume = o.volume; total = o.total; withdrawn = o.withdrawn; price = o.price }
