use Rattle.std.proofs.Common.{take}
use Rattle.std.specs.Fmt.{IsPlainFormatter, HasWritten}
use Rattle.optbook.specs.Pages.{orders_text}
use Rattle.optbook.proofs.page.text.WordRefSliceOrderDisplay.fmt.Given as goal

-- The items before this one are printed.
abbrev pub invariant-loop-order : goal.invariant-loop-order
invariant-loop-order g l = IsPlainFormatter l.initial.f → HasWritten g.W.Write.write_str_gives l.initial.f (orders_text (take l.order-index l.self.0.now)) l.f
