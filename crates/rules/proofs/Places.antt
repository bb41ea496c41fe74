-- The theorem: one place for each day, expiry and quantum, and the numbers of those that name a cell.
use Prim.Native.Nat.{ℕ, ◌≤◌, ◌<◌}
use native.Mathlib.Omega.{arith}
use mathlib.Core.Path.{◌≡◌}
use mathlib.Core.Bool.{true, ◌&&◌}
use lib.Dec.{leb}
use borrow.Author.Tests.{leb-true, le-leb}
use Rattle.lists.specs.Lists.{within}
use Rattle.rules.specs.Cells.{good_cell, place_of}
use Rattle.rules.specs.Places.{day_at, expiry_at, quantum_at, OnePlaceEach}
use Rattle.lists.proofs.Lists.{both, and}
use Rattle.rules.proofs.Refusals.{within-parts}

pub record InRange (day expiry quantum : ℕ) : Type 0 where
  pub day_least : 1 ≤ day
  pub day_most : day ≤ 31
  pub expiry_least : 1 ≤ expiry
  pub expiry_most : expiry ≤ 2
  pub quantum_most : quantum ≤ 2

pub in_range : (day expiry quantum : ℕ) → good_cell day expiry quantum ≡ true → InRange day expiry quantum
in_range day expiry quantum h =
    let a = both (within 1 31 day && within 1 2 expiry) (leb quantum 2) h in
    let b = both (within 1 31 day) (within 1 2 expiry) a.0 in
    let d = within-parts 1 31 day b.0 in
    let e = within-parts 1 2 expiry b.1 in
    record {
      day_least = d.0;
      day_most = d.1;
      expiry_least = e.0;
      expiry_most = e.1;
      quantum_most = leb-true quantum 2 a.1;
    }

range_in : (day expiry quantum : ℕ) → InRange day expiry quantum → good_cell day expiry quantum ≡ true
range_in day expiry quantum r =
    and
    (and (and (le-leb 1 day r.day_least) (le-leb day 31 r.day_most)) (and (le-leb 1 expiry r.expiry_least) (le-leb expiry 2 r.expiry_most)))
    (le-leb quantum 2 r.quantum_most)

pub place_small : (day expiry quantum : ℕ) → day ≤ 31 → expiry ≤ 2 → quantum ≤ 2 → place_of day expiry quantum < 186
place_small day expiry quantum d e q = omega arith

pub cell_small : (day expiry quantum : ℕ) → good_cell day expiry quantum ≡ true → place_of day expiry quantum < 186
cell_small day expiry quantum h =
    let r = in_range day expiry quantum h in
    place_small day expiry quantum r.day_most r.expiry_most r.quantum_most

same_cell : (d e q d' e' q' : ℕ) → good_cell d e q ≡ true → good_cell d' e' q' ≡ true → place_of d e q ≡ place_of d' e' q' → (d ≡ d') × (e ≡ e') × (q ≡ q')
same_cell d e q d' e' q' g g' p =
    let r = in_range d e q g in
    let r' = in_range d' e' q' g' in
    (omega (arith, r, r', p), omega (arith, r, r', p), omega (arith, r, r', p))

day_back : (day expiry quantum : ℕ) → good_cell day expiry quantum ≡ true → day_at (place_of day expiry quantum) ≡ day
day_back day expiry quantum h = omega (arith, in_range day expiry quantum h)

expiry_back : (day expiry quantum : ℕ) → good_cell day expiry quantum ≡ true → expiry_at (place_of day expiry quantum) ≡ expiry
expiry_back day expiry quantum h = omega (arith, in_range day expiry quantum h)

quantum_back : (day expiry quantum : ℕ) → good_cell day expiry quantum ≡ true → quantum_at (place_of day expiry quantum) ≡ quantum
quantum_back day expiry quantum h = omega (arith, in_range day expiry quantum h)

pub one-place_each : OnePlaceEach
one-place_each =
    record {
      inside = cell_small;
      day = day_back;
      expiry = expiry_back;
      quantum = quantum_back;
      named = λ place h.
          range_in (day_at place) (expiry_at place) (quantum_at place)
          (record {
            day_least = omega arith;
            day_most = omega (arith, h);
            expiry_least = omega arith;
            expiry_most = omega arith;
            quantum_most = omega arith;
          });
      place = λ place h. omega arith;
      different = same_cell;
    }
