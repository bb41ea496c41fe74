-- Document 01, "A row and a month": the row.
use Rattle.std.specs.Prelude.{ℕ, ◌%◌, List, Bool, ◌&&◌, leb, eqb, get_or}
use Rattle.rules.specs.declared.Row.{Row}
use Rattle.rules.specs.declared.SpreadRule.{SpreadRule}
use Rattle.rules.specs.declared.SpreadRule.TheVariants.{Settled, OfStrike}
use Rattle.lists.specs.Lists.{within}
use Rattle.rules.specs.Terms.{Terms}
use Rattle.rules.specs.Units.{millis, contracts}

-- "expiry (1 or 2: the nearer or the farther one that the programme lists), quantum (0 to 2 ..)"
abbrev pub good_expiry : ℕ → Bool
good_expiry e = within 1 2 e

abbrev pub good_quantum : ℕ → Bool
good_quantum q = leb q 2

-- "L (a multiple of 1,000 from 1,000 to 86,400,000)"
abbrev pub good_length : ℕ → Bool
good_length l = within 1000 86400000 l && eqb (l % 1000) 0

-- "A row is seven unsigned 32-bit words": expiry, quantum, L, M, a, b, p
unfoldable pub row_of : List ℕ → Row
row_of words =
    record {
      expiry = get_or words 0 0;
      quantum = get_or words 1 0;
      length = millis (get_or words 2 0);
      minimum = contracts (get_or words 3 0);
      a = get_or words 4 0;
      b = get_or words 5 0;
      share = get_or words 6 0;
    }

-- every word in its range: "M the least volume (1 to 100,000), a in hundred-thousandths (0 to 100,000 ..), b in price steps
-- (0 to 1,000,000), p the required share in percent (1 to 79)"; document 02, W6: "p is in tenths of a percent, 1 to 799"
unfoldable pub good_row : Terms → Row → Bool
good_row terms row =
    good_expiry row.expiry && good_quantum row.quantum && good_length row.length.0 && within 1 100000 row.minimum.0
    && leb row.a 100000 && leb row.b 1000000 && within 1 terms.most_share row.share

-- document 02, W4: in a strike's open "the row keeps seven words, its a and b unread and free of refusal 2": it is checked as if both were 0
abbrev pub as_read : SpreadRule → Row → Row
as_read (Settled sp) row = row
as_read (OfStrike s) row =
    record {
      expiry = row.expiry;
      quantum = row.quantum;
      length = row.length;
      minimum = row.minimum;
      a = 0;
      b = 0;
      share = row.share;
    }

unfoldable pub good_row_for : Terms → SpreadRule → Row → Bool
good_row_for terms spread row = good_row terms (as_read spread row)
