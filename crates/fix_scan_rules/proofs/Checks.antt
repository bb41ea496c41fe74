-- A byte between, a heartbeat, then a message with 11 twice, then one that is cut off: by computation.
use Prim.Native.Nat.{ℕ}
use mathlib.Core.Path.{◌≡◌, refl}
use mathlib.Core.List.{List, [], ◌∷◌, ◌++◌}
use Rattle.rules.specs.Text.{ascii}
use Rattle.lists.specs.Lists.{sum, any}
use Rattle.rules.specs.Digits.{all_digits, number_from, in_digits, decimal_by, decimal_of}
use Rattle.rules.specs.Fields.{field_bytes, fields_bytes, pieces, split_field, good_tag, field_of, fields_in, fields_of, same_bytes}
use Rattle.rules.specs.Frame.{ending_of}
use Rattle.fix_scan_rules.specs.AnyFrame.{any_framed, any_body_in}
use Rattle.fix_scan_rules.specs.Rows.{begin_in, size_of_in, spans_in, row_in}
use Rattle.fix_scan_rules.specs.Scans.{digits_front, size_in, turn_of, scan_from, scanned}

abbrev then : List ℕ → List ℕ → List ℕ
then a b = a ++ (1 ∷ b)

abbrev beat : List ℕ → List ℕ
beat rest = then (ascii "8=FIX.4.4") (then (ascii "9=5") (then (ascii "35=0") (then (ascii "10=163") rest)))

abbrev twice : List ℕ → List ℕ
twice rest = then (ascii "8=FIX.4.4") (then (ascii "9=16") (then (ascii "35=AE") (then (ascii "11=A") (then (ascii "11=B") (then (ascii "10=238") rest)))))

abbrev cut_off : List ℕ
cut_off = then (ascii "8=FIX.4.4") (then (ascii "9=50") (ascii "35=0, and more to come"))

pub the_log :
    scanned 9 (41 ∷ 11 ∷ []) (10 ∷ beat (twice cut_off)) ≡ record {
      rows =
          (1 ∷ 26 ∷ 0 ∷ 48 ∷ 0 ∷ 0 ∷ 0 ∷ 0 ∷ [])
          ∷ (27 ∷ 38 ∷ 0 ∷ 17729 ∷ 0 ∷ 0 ∷ 24 ∷ 2147483649 ∷ [])
          ∷ [];
      stop = 65;
    }
unfolding scanned scan_from turn_of size_in digits_front row_in spans_in begin_in size_of_in any_framed any_body_in ending_of fields_of fields_in field_of good_tag split_field pieces fields_bytes field_bytes same_bytes decimal_of decimal_by in_digits number_from all_digits sum any
the_log = refl
