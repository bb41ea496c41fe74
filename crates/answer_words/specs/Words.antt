-- What the plain book answers to a call of the month, as twenty words at fixed places: 0 its kind, 1 the refusal's number or 0, from 2
-- on what is shown, then zeros. The kinds: 0 accepted, 1 refused, 2 a cell, 3 an ask's quotes and ticket, 4 a report, 5 an outlook. That
-- no two answers whose numbers fit their types have the same words is in proofs/Back, and that the plain book's always fit in proofs/Fits.
use Rattle.std.specs.Prelude.{ℕ, ◌≡◌, List, [], ◌∷◌, ◌++◌, length, get_or, replicate, None, Option, Some}
use Rattle.rules.specs.declared.Steps.{Steps}
use Rattle.rules.specs.declared.Millis.{Millis}
use Rattle.rules.specs.declared.LapsesLeft.{LapsesLeft}
use Rattle.rules.specs.declared.LapsesLeft.TheVariants as L
use Rattle.rules.specs.Widths.{SignedWord}
use Rattle.rules.specs.Records.{unsigned_of}
use Rattle.rules.specs.Answers.{Outcome, accepted, refused, Reply, done, cell, asked, report, outlook}
use Rattle.lent.specs.Words.{flag_word, low, high, cell_words}

-- a quote's two words: whether there is one, and its price
abbrev pub quote_flag : Option Steps → ℕ
quote_flag None = 0
quote_flag (Some p) = 1

abbrev pub quote_word : Option Steps → ℕ
quote_word None = 0
quote_word (Some p) = unsigned_of p.0

-- a number of milliseconds or a time, where there is one: whether there is, and which
abbrev pub possible_flag : Option Millis → ℕ
possible_flag None = 0
possible_flag (Some m) = 1

abbrev pub possible_word : Option Millis → ℕ
possible_word None = 0
possible_word (Some m) = m.0

-- the lapses left: 0 for no limit, 1 over it, 2 and how many
abbrev pub lapses_kind : LapsesLeft → ℕ
lapses_kind L.Unlimited = 0
lapses_kind L.Over = 1
lapses_kind (L.Left n) = 2

abbrev pub lapses_word : LapsesLeft → ℕ
lapses_word L.Unlimited = 0
lapses_word L.Over = 0
lapses_word (L.Left n) = n

unfoldable pub answer_words : Outcome Reply → List ℕ
answer_words (accepted done) = 0 ∷ 0 ∷ replicate 18 0
answer_words (refused n) = 1 ∷ n ∷ replicate 18 0
-- 2 to 11 the cell, 12 its verdict, 13 its weight
answer_words (accepted (cell v)) = 2 ∷ 0 ∷ (cell_words v.cell ++ (flag_word v.met ∷ v.weight ∷ replicate 6 0))
-- 2 and 3 the best bid, 4 and 5 the best ask; the ticket: 6 to 9 t, id, price and volume, 10 and 11 the count
answer_words (accepted (asked p)) =
    let a = p.ticket.amendment in
    3 ∷ 0 ∷ quote_flag p.bid ∷ quote_word p.bid ∷ quote_flag p.ask ∷ quote_word p.ask
    ∷ a.t.0 ∷ a.id ∷ unsigned_of a.price.0 ∷ a.volume.0 ∷ low p.ticket.count ∷ high p.ticket.count ∷ replicate 8 0
-- 2 whether a quantum is open, 3 the time, 4 the live orders, 5 and 6 the best bid, 7 and 8 the best ask, 9 the kept time, 10 the
-- lapses, 11 to 16 the failures of each series, 17 and 18 the fee
answer_words (accepted (report r)) =
    4 ∷ 0 ∷ flag_word r.running ∷ r.time.0 ∷ r.orders ∷ quote_flag r.bid ∷ quote_word r.bid ∷ quote_flag r.ask ∷ quote_word r.ask
    ∷ r.kept.0 ∷ r.lapses ∷ get_or r.failures 0 0 ∷ get_or r.failures 1 0 ∷ get_or r.failures 2 0 ∷ get_or r.failures 3 0
    ∷ get_or r.failures 4 0 ∷ get_or r.failures 5 0 ∷ low r.fee.0 ∷ high r.fee.0 ∷ 0 ∷ []
-- 2 what must still be kept, 3 what is left, 4 and 5 the latest time, 6 and 7 what the full weight needs, 8 and 9 the lapses left, 10
-- whether the maker may rest, 11 whether all is lost, 12 and 13 the weights if nothing more is kept and if everything is
answer_words (accepted (outlook o)) =
    5 ∷ 0 ∷ o.need.0 ∷ o.left.0 ∷ possible_flag o.by ∷ possible_word o.by ∷ possible_flag o.full ∷ possible_word o.full
    ∷ lapses_kind o.lapses ∷ lapses_word o.lapses ∷ flag_word o.rest ∷ flag_word o.lost ∷ o.resting ∷ o.keeping ∷ replicate 6 0

-- a quote whose price fits its type
abbrev pub QuoteFits : Option Steps → Type 0
QuoteFits None = Unit {0}
QuoteFits (Some p) = SignedWord p.0

-- an answer whose prices and counts fit their types
abbrev pub AnswerFits : Outcome Reply → Type 0
AnswerFits (accepted done) = Unit {0}
AnswerFits (refused n) = Unit {0}
AnswerFits (accepted (cell v)) = Unit {0}
AnswerFits (accepted (asked p)) = QuoteFits p.bid × QuoteFits p.ask × SignedWord p.ticket.amendment.price.0
AnswerFits (accepted (report r)) = QuoteFits r.bid × QuoteFits r.ask × (length r.failures ≡ 6)
AnswerFits (accepted (outlook o)) = Unit {0}
