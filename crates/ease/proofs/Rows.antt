-- A row in range is so test by test; an eased one is in range again, whatever the terms; and the limits are refusal 2's.
use Prim.Native.Nat.{ℕ, ◌+◌, ◌*◌, ◌/◌, min, ◌≤◌}
use native.Mathlib.Omega.{arith}
use mathlib.Core.Path.{◌≡◌, refl}
use mathlib.Core.Bool.{true, and-true}
use borrow.Author.Tests.{le-leb, leb-true}
use lib.Dec.{leb}
use Rattle.rules.specs.declared.Row.{Row}
use Rattle.rules.specs.declared.SpreadRule.{SpreadRule}
use Rattle.rules.specs.declared.SpreadRule.TheVariants.{Settled, OfStrike}
use Rattle.lists.specs.Lists.{within}
use Rattle.rules.specs.Terms.{Terms}
use Rattle.rules.specs.Rows.{good_expiry, good_quantum, good_length, good_row, as_read, good_row_for}
use Rattle.lists.proofs.Lists.{both}
use Rattle.ease.specs.Easing.{most_a, most_b, halved, eased_row}

record Good (terms : Terms) (row : Row) : Type 0 where
  pub expiry : good_expiry row.expiry ≡ true
  pub quantum : good_quantum row.quantum ≡ true
  pub length : good_length row.length.0 ≡ true
  pub minimum : within 1 100000 row.minimum.0 ≡ true
  pub a : leb row.a most_a ≡ true
  pub b : leb row.b most_b ≡ true
  pub share : within 1 terms.most_share row.share ≡ true

module _ (terms : Terms) (row : Row) where
  apart : good_row terms row ≡ true → Good terms row
  unfolding good_row
  apart h =
      let share = both _ _ h in
      let b = both _ _ share.0 in
      let a = both _ _ b.0 in
      let minimum = both _ _ a.0 in
      let length = both _ _ minimum.0 in
      let expiry = both _ _ length.0 in
      record {
        expiry = expiry.0;
        quantum = expiry.1;
        length = length.1;
        minimum = minimum.1;
        a = a.1;
        b = b.1;
        share = share.1;
      }

  together : Good terms row → good_row terms row ≡ true
  unfolding good_row
  together g = simp (g.expiry, g.quantum, g.length, g.minimum, g.a, g.b, g.share)

-- half of 1 to 100,000, rounded up, is again 1 to 100,000
half_within : (m : ℕ) → within 1 100000 m ≡ true → within 1 100000 (halved m) ≡ true
half_within m h =
    let t = both (leb 1 m) (leb m 100000) h in
    let low : 1 ≤ m = leb-true 1 m t.0 in
    let high : m ≤ 100000 = leb-true m 100000 t.1 in
    rw (le-leb 1 ((m + 1) / 2) (omega arith)) (le-leb ((m + 1) / 2) 100000 (omega arith))

-- what an open reads of an eased row is in range again
pub eased_good : (terms : Terms) (spread : SpreadRule) (row : Row) → good_row_for terms spread row ≡ true → good_row_for terms spread (eased_row spread row) ≡ true
unfolding eased_row good_row_for
eased_good terms (Settled sp) row h =
    let g = apart terms row h in
    together terms (eased_row (Settled sp) row)
    (record {
      expiry = g.expiry;
      quantum = g.quantum;
      length = g.length;
      minimum = half_within row.minimum.0 g.minimum;
      a = le-leb (min (2 * row.a) 100000) 100000 (omega arith);
      b = le-leb (min (2 * row.b) 1000000) 1000000 (omega arith);
      share = g.share;
    })
eased_good terms (OfStrike s) row h =
    let g = apart terms (as_read (OfStrike s) row) h in
    together terms (as_read (OfStrike s) (eased_row (OfStrike s) row))
    (record {
      expiry = g.expiry;
      quantum = g.quantum;
      length = g.length;
      minimum = half_within row.minimum.0 g.minimum;
      a = refl;
      b = refl;
      share = g.share;
    })

-- ---- the limits are refusal 2's: in a row that it passes, another a passes exactly up to `most_a`, another b up to `most_b`

abbrev with_ab : Row → ℕ → ℕ → Row
with_ab row a b =
    record { expiry = row.expiry; quantum = row.quantum; length = row.length; minimum = row.minimum; a = a; b = b; share = row.share }

module _ (terms : Terms) (row : Row) (good : good_row terms row ≡ true) (n : ℕ) where
  pub a_limit : good_row terms (with_ab row n row.b) ≡ leb n most_a
  unfolding good_row
  a_limit =
      let g = apart terms row good in
      simp (g.expiry, g.quantum, g.length, g.minimum, g.b, g.share, and-true)

  pub b_limit : good_row terms (with_ab row row.a n) ≡ leb n most_b
  unfolding good_row
  b_limit =
      let g = apart terms row good in
      simp (g.expiry, g.quantum, g.length, g.minimum, g.a, g.share, and-true)
