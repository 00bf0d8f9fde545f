use Rattle.std.proofs.Common.{take}
use Rattle.std.specs.Fmt.{IsPlainFormatter, HasWritten}
use Rattle.optbook.specs.Answers.{spaced_text}
use Rattle.optbook.proofs.answer.text.WordRefSliceU32Display.fmt.Given as goal

-- The items before this one are printed.
abbrev pub invariant-loop-n : goal.invariant-loop-n
invariant-loop-n g l = IsPlainFormatter l.initial.f → HasWritten g.W.Write.write_str_gives l.initial.f (spaced_text (take l.n-index l.self.0.now)) l.f
