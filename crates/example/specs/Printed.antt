-- Document 01, "Event records and the session run": the session that it prints, its row, its SP and its events. By document 02, W6, "C6 to
-- C10 and the sheet's example read p 600".
use Rattle.std.specs.Prelude.{ℕ, List, [], ◌∷◌, ◌++◌, pos}
use Rattle.rules.specs.declared.Side.TheVariants.{Buy, Sell}
use Rattle.rules.specs.declared.Event.{Event}
use Rattle.rules.specs.declared.Event.TheVariants.{Add, Cancel}
use Rattle.rules.specs.Terms.{paper}
use Rattle.rules.specs.Units.{millis, steps, contracts}
use Rattle.rules.specs.Records.{record_of}
use Rattle.rules.specs.Session.{Session, session, most_sheet_records}

abbrev pub sheet_words : List ℕ
sheet_words = 1 ∷ 1 ∷ 10000 ∷ 500 ∷ 100 ∷ 1 ∷ 600 ∷ []

abbrev pub sheet_events : List Event
sheet_events =
    Add (millis 0) 1 Buy (steps (pos 99)) (contracts 500)
    ∷ Add (millis 0) 2 Sell (steps (pos 101)) (contracts 500)
    ∷ Cancel (millis 4000) 2
    ∷ Add (millis 4000) 3 Sell (steps (pos 101)) (contracts 500)
    ∷ Cancel (millis 6000) 1
    ∷ []

abbrev pub records_of_all : List Event → List ℕ
records_of_all [] = []
records_of_all (e ∷ es) = record_of e ++ records_of_all es

abbrev pub sheet_session : Session
sheet_session = session paper most_sheet_records sheet_words (steps (pos 2000)) (records_of_all sheet_events)
