use Rattle.std.proofs.Common.{true, ◌∷◌, decimal, refl, ap}
use Rattle.std.proofs.Output.{has_written_of_eq}
use Rattle.std.proofs.lemmas.List.{take_all}
use Rattle.optbook.specs.Answers.{spaced_text}
use Rattle.optbook.proofs.Printing.{printed_more}
use Rattle.optbook.proofs.answer.text.WordRefSliceU32Display.fmt.Goals as goal

pub loop-n-preserved : goal.loop-n-preserved
loop-n-preserved g c plain =
    let sofar = c.loop-n.invariant plain in
    printed_more g.W.Write.write_str_gives (λ n. 32 ∷ decimal n) c.args.self.now.0.now 0 c.loop-n.n-index c.args.f.now c.loop-n.f c.write.new.self c.loop-n-test.true sofar (c.in_ok-write.ensures.writes sofar.plain (refl {a = true}))

pub returns-clause-writes : goal.returns-clause-writes
returns-clause-writes g c plain ok =
    has_written_of_eq g.W.Write.write_str_gives c.args.f.now _ _ c.loop-n.f (ap spaced_text (take_all _ _ c.loop-n-test.false)) (c.loop-n.invariant plain)
