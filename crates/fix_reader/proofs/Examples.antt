-- The definitions on small messages, by computation; the bar is byte 1.
use Rattle.std.specs.Prelude.{if◌then◌else◌, None, Some}
use Prim.Native.Nat.{ℕ}
use mathlib.Core.Path.{◌≡◌, refl}
use mathlib.Core.List.{List, [], ◌∷◌}
use lib.Dec.{eqb}
use lib.IntN.{pos, negsuc}
use Rattle.rules.specs.declared.Side.TheVariants.{Buy, Sell}
use Rattle.lists.specs.Lists.{sum, any}
use Rattle.rules.specs.Units.{steps, contracts}
use Rattle.rules.specs.Answers.{accepted, refused}
use Rattle.rules.specs.Text.{ascii}
use Rattle.rules.specs.Digits.{all_digits, number_from, in_digits, word_in, steps_in, decimal_by, decimal_of, signed_decimal}
use Rattle.rules.specs.Dates.{has_form, parts_of, is_leap, month_days, good_date, good_clock, time_in, days_of_years, days_of_months, days_before, instant_of, at, late, before, moment_of, since}
use Rattle.rules.specs.Fields.{field_bytes, fields_bytes, pieces, split_field, good_tag, field_of, fields_in, fields_of, same_bytes, values_of}
use Rattle.rules.specs.Frame.{kind_in, ending_of, framed, body_in}
use Rattle.rules.specs.Messages.{new_order, cancel_order, replace_order, side_in, message_of, read_message, written_fields, message_bytes, write_message}

barred : List ℕ → List ℕ
barred [] = []
barred (b ∷ bs) = (if eqb b 124 then 1 else b) ∷ barred bs

-- D
new_order_lem : read_message (barred (ascii "8=FIX.4.4|9=54|35=D|11=7|54=1|38=500|44=-99|60=20261115-10:00:00.000|10=211|"))
    ≡ accepted (new_order 7 Buy (contracts 500) (steps (negsuc 98)) (record { year = 2026; month = 11; day = 15; hour = 10; minute = 0; second = 0; millis = 0 }))
unfolding barred sum any all_digits number_from in_digits word_in steps_in has_form parts_of is_leap month_days good_date good_clock time_in field_bytes fields_bytes pieces split_field good_tag field_of fields_in fields_of same_bytes values_of kind_in ending_of framed body_in side_in message_of read_message
new_order_lem = refl

-- F, with leading zeros, a skipped tag twice, an equals sign in a value, and a 54 that F does not use
cancel_order_lem : read_message (barred (ascii "8=FIX.4.4|9=61|35=F|49=A|11=08|41=0007|54=x|60=20261115-10:00:01.250|49=B=C|10=147|"))
    ≡ accepted (cancel_order 8 7 (record { year = 2026; month = 11; day = 15; hour = 10; minute = 0; second = 1; millis = 250 }))
unfolding barred sum any all_digits number_from in_digits word_in steps_in has_form parts_of is_leap month_days good_date good_clock time_in field_bytes fields_bytes pieces split_field good_tag field_of fields_in fields_of same_bytes values_of kind_in ending_of framed body_in side_in message_of read_message
cancel_order_lem = refl

-- G, in another order, with a volume that the call will refuse
replace_order_lem : read_message (barred (ascii "8=FIX.4.4|9=64|35=G|60=20261115-10:00:02.000|41=7|11=8|54=2|38=0005000000|44=0|10=150|"))
    ≡ accepted (replace_order 8 7 Sell (contracts 5000000) (steps (pos 0)) (record { year = 2026; month = 11; day = 15; hour = 10; minute = 0; second = 2; millis = 0 }))
unfolding barred sum any all_digits number_from in_digits word_in steps_in has_form parts_of is_leap month_days good_date good_clock time_in field_bytes fields_bytes pieces split_field good_tag field_of fields_in fields_of same_bytes values_of kind_in ending_of framed body_in side_in message_of read_message
replace_order_lem = refl

-- 20: the checksum is one too high
wrong_checksum : read_message (barred (ascii "8=FIX.4.4|9=54|35=D|11=7|54=1|38=500|44=-99|60=20261115-10:00:00.000|10=212|"))
    ≡ refused 20
unfolding barred sum any all_digits number_from in_digits word_in steps_in has_form parts_of is_leap month_days good_date good_clock time_in field_bytes fields_bytes pieces split_field good_tag field_of fields_in fields_of same_bytes values_of kind_in ending_of framed body_in side_in message_of read_message
wrong_checksum = refl

-- 20: an 8 out of place
eight-inside : read_message (barred (ascii "8=FIX.4.4|9=58|35=D|11=7|8=x|54=1|38=500|44=-99|60=20261115-10:00:00.000|10=197|"))
    ≡ refused 20
unfolding barred sum any all_digits number_from in_digits word_in steps_in has_form parts_of is_leap month_days good_date good_clock time_in field_bytes fields_bytes pieces split_field good_tag field_of fields_in fields_of same_bytes values_of kind_in ending_of framed body_in side_in message_of read_message
eight-inside = refl

-- 4294967304 is not 8, and is skipped
long_tag : read_message (barred (ascii "8=FIX.4.4|9=67|35=D|11=7|4294967304=1|54=1|38=500|44=-99|60=20261115-10:00:00.000|10=086|"))
    ≡ accepted (new_order 7 Buy (contracts 500) (steps (negsuc 98)) (record { year = 2026; month = 11; day = 15; hour = 10; minute = 0; second = 0; millis = 0 }))
unfolding barred sum any all_digits number_from in_digits word_in steps_in has_form parts_of is_leap month_days good_date good_clock time_in field_bytes fields_bytes pieces split_field good_tag field_of fields_in fields_of same_bytes values_of kind_in ending_of framed body_in side_in message_of read_message
long_tag = refl

-- 21: minus zero
minus_zero : read_message (barred (ascii "8=FIX.4.4|9=53|35=D|11=7|54=1|38=500|44=-0|60=20261115-10:00:00.000|10=144|"))
    ≡ refused 21
unfolding barred sum any all_digits number_from in_digits word_in steps_in has_form parts_of is_leap month_days good_date good_clock time_in field_bytes fields_bytes pieces split_field good_tag field_of fields_in fields_of same_bytes values_of kind_in ending_of framed body_in side_in message_of read_message
minus_zero = refl

-- 21: 11 twice, with equal values
id_twice : read_message (barred (ascii "8=FIX.4.4|9=59|35=D|11=7|11=7|54=1|38=500|44=-99|60=20261115-10:00:00.000|10=175|"))
    ≡ refused 21
unfolding barred sum any all_digits number_from in_digits word_in steps_in has_form parts_of is_leap month_days good_date good_clock time_in field_bytes fields_bytes pieces split_field good_tag field_of fields_in fields_of same_bytes values_of kind_in ending_of framed body_in side_in message_of read_message
id_twice = refl

-- 21: 54 with a leading zero
side_padded : read_message (barred (ascii "8=FIX.4.4|9=55|35=D|11=7|54=01|38=500|44=-99|60=20261115-10:00:00.000|10=004|"))
    ≡ refused 21
unfolding barred sum any all_digits number_from in_digits word_in steps_in has_form parts_of is_leap month_days good_date good_clock time_in field_bytes fields_bytes pieces split_field good_tag field_of fields_in fields_of same_bytes values_of kind_in ending_of framed body_in side_in message_of read_message
side_padded = refl

-- ---- dates
leap_2000 : time_in (ascii "20000229-23:59:59.999")
    ≡ Some (record { year = 2000; month = 2; day = 29; hour = 23; minute = 59; second = 59; millis = 999 })
unfolding all_digits number_from has_form parts_of is_leap month_days good_date good_clock time_in
leap_2000 = refl

no_leap_1900 : time_in (ascii "19000229-00:00:00.000") ≡ None
unfolding all_digits number_from has_form parts_of is_leap month_days good_date good_clock time_in
no_leap_1900 = refl

-- from one year to the next, over 29 February 2000; a millisecond before; 50 days, which 32 bits do not hold
over_leap_day : since (ascii "20000228-00:00:00.000") (ascii "20000301-00:00:00.001") ≡ accepted (at 172800001)
unfolding all_digits number_from has_form parts_of is_leap month_days good_date good_clock time_in days_of_years days_of_months days_before instant_of moment_of since
over_leap_day = refl

just_before : since (ascii "20261115-10:00:00.000") (ascii "20261115-09:59:59.999") ≡ accepted before
unfolding all_digits number_from has_form parts_of is_leap month_days good_date good_clock time_in days_of_years days_of_months days_before instant_of moment_of since
just_before = refl

fifty_days : since (ascii "20261231-00:00:00.000") (ascii "20270219-00:00:00.000") ≡ accepted late
unfolding all_digits number_from has_form parts_of is_leap month_days good_date good_clock time_in days_of_years days_of_months days_before instant_of moment_of since
fifty_days = refl

-- ---- written
-- a G with the longest numbers: 114 bytes
longest : write_message (replace_order 4294967295 4294967295 Sell (contracts 4294967295) (steps (negsuc 2147483647)) (ascii "20261115-10:00:00.000"))
    ≡ accepted (barred (ascii "8=FIX.4.4|9=92|35=G|11=4294967295|41=4294967295|54=2|38=4294967295|44=-2147483648|60=20261115-10:00:00.000|10=152|"))
unfolding barred sum all_digits number_from has_form parts_of is_leap month_days good_date good_clock time_in decimal_by decimal_of signed_decimal field_bytes fields_bytes written_fields message_bytes write_message
longest = refl

time_unformed : write_message (cancel_order 1 2 (ascii "20261115 10:00:00.000")) ≡ refused 21
unfolding has_form time_in write_message
time_unformed = refl
