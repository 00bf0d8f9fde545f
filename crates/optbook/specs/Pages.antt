-- The text of a page. Assumes nothing.
use Rattle.std.specs.Prelude.{ℕ, List, ◌∷◌, ◌++◌, vec_items, codes, decimal}
use Rattle.std.specs.List.{flat_map}
use Rattle.rules.specs.declared.order.Order.{Order}
use Rattle.optbook.specs.Words.{side_word, kind_word, lifetime_word, phase_word, hours_word}
use Rattle.optbook.specs.declared.page.Page.{Page}

abbrev pub order_word : Order → List ℕ
order_word o =
    codes "order " ++ (decimal o.number ++ (codes " id " ++ (decimal o.id ++ (codes " " ++ (side_word o.side ++ (codes " " ++ (kind_word o.kind ++ (codes " lots " ++ (decimal o.lots ++ (codes " " ++ lifetime_word o.lifetime))))))))))

-- A line break (10), and the order.
abbrev pub order_text : Order → List ℕ
order_text o = 10 ∷ order_word o

abbrev pub orders_text : List Order → List ℕ
orders_text os = flat_map order_text os

abbrev pub book_text : Page → List ℕ
book_text p =
    codes "phase " ++ (phase_word p.phase ++ (codes " session " ++ (hours_word p.hours ++ (codes " day " ++ decimal p.today))))

abbrev pub page_text : Page → List ℕ
page_text p = book_text p ++ orders_text (vec_items p.orders)
