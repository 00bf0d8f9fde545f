-- A loop that prints the items of a list in turn.
use Rattle.std.proofs.Common.{ℕ, ◌+◌, ◌<◌, List, [], ◌++◌, length, get_or, take, sym, ap, ◌∙◌}
use Rattle.std.proofs.Output.{has_written_append, has_written_of_eq}
use Rattle.std.proofs.lemmas.List.{flat_map_more, take_more}
use Rattle.std.specs.Fmt.{HasWritten}
use Rattle.std.specs.List.{flat_map}
use Rattle.std.specs.declared.fmt.Formatter.{Formatter}

-- One item more is printed.
pub printed_more : {W X : Type 0} (took : W → List ℕ → W → Type 0) (text : X → List ℕ) (xs : List X) (d : X) (i : ℕ) (f g h : Formatter W) → i < length xs → HasWritten took f (flat_map text (take i xs)) g → HasWritten took g (text (get_or xs i d)) h → HasWritten took f (flat_map text (take (i + 1) xs)) h
printed_more took text xs d i f g h lt sofar one =
    has_written_of_eq took f (flat_map text (take i xs) ++ text (get_or xs i d)) (flat_map text (take (i + 1) xs)) h
    (flat_map_more text [] (take i xs) (get_or xs i d) ∙ ap (flat_map text) (sym (take_more xs i d lt)))
    (has_written_append took f (flat_map text (take i xs)) g (text (get_or xs i d)) h sofar one)
