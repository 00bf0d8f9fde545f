-- Where a book trades, as the plain machine has it.
use Rattle.std.specs.Prelude.{ℕ, ◌*◌}
use Rattle.rules.specs.declared.tape.Terms.{Terms}
use Rattle.rules.specs.declared.tape.Terms.TheVariants.{Opening, Entry}
use Rattle.rules.specs.Trades.{Step}
use Rattle.table.specs.Tables.{open_orders, tape_lines}
use Rattle.matching.specs.declared.floor.Floor.{Floor}

-- No Model: proofs also read what the types of the table and the tape say of them, which a Model would hide.
abbrev pub step_of : Floor → Step
step_of f = record { orders = open_orders f.table; tape = tape_lines f.tape }

-- The most lines that trades with n orders write: one of each, and for a session entry one of its own with each.
abbrev pub lines_for : Terms → ℕ → ℕ
lines_for (Opening p) n = n
lines_for (Entry number) n = 2 * n
