-- The printed session follows from the definitions, by computation.
use mathlib.Core.Path.{◌≡◌, refl}
use mathlib.Core.List.{[], ◌∷◌}
use Rattle.lists.specs.Lists.{sum, count_below, below, filter, any}
use Rattle.rules.specs.Orders.{is_live, apply, apply_all, live, time_from, present}
use Rattle.rules.specs.Quotes.{depth, qualifies, lead, best}
use Rattle.rules.specs.Kept.{quotes_keep, orders_keep, up_to, kept_at, kept_below}
use Rattle.rules.specs.Pay.{met, weight_met, weight}
use Rattle.rules.specs.Lapses.{lapses, lapses_below, good_lapse_limit, within_lapse_limit}
use Rattle.rules.specs.Stretches.{stretch, grown, stretches, kept_stretches}
use Rattle.rules.specs.Units.{good_price, good_volume, good_charge}
use Rattle.rules.specs.Rows.{row_of, good_row, good_row_for}
use Rattle.rules.specs.Calls.{fresh_book}
use Rattle.rules.specs.Causes.{first_number, event_causes, causes, refusal_of}
use Rattle.rules.specs.Changes.{changed}
use Rattle.rules.specs.Book.{step}
use Rattle.rules.specs.Records.{word_bytes, signed_of, unsigned_of, event_fields, field_bytes, record_of, fields_of, event_of, unused_zero, padding_zero, good_record, read_record}
use Rattle.rules.specs.Session.{Session, records_of, record_refusal, closing, run_records, session}
use Rattle.example.specs.Printed.{sheet_session}

-- the printed session: K 6000, w 10000, one pair
pub paper-session : sheet_session ≡ Session.accepted 6000 10000 (stretch 0 6000 ∷ [])
unfolding sum count_below below filter any apply apply_all live time_from present depth qualifies lead best quotes_keep orders_keep up_to kept_at kept_below grown stretches kept_stretches met weight_met weight is_live good_price good_volume good_charge row_of good_row good_row_for fresh_book first_number event_causes causes refusal_of changed step word_bytes signed_of unsigned_of event_fields field_bytes record_of fields_of event_of unused_zero padding_zero good_record read_record records_of record_refusal closing run_records session good_lapse_limit within_lapse_limit lapses lapses_below
paper-session = refl
