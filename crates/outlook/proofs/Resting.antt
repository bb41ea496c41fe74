-- Kept time and lapses where nothing is kept from a time t up to s, and everything from s on.
use Rattle.std.specs.Prelude.{if◌then◌else◌}
use Prim.Native.Nat.{ℕ, zero, suc, ◌+◌, ◌-◌, ◌≤◌, ◌<◌}
use native.Mathlib.Omega.{arith}
use mathlib.Core.Path.{◌≡◌, refl, ap, ◌∙◌}
use mathlib.Core.Bool.{Bool, true, false}
use lib.Dec.{ltb}
use lib.ListN.{length}
use borrow.Author.Tests.{le-leb, lt-leb, lt-ltb, le-ltb, ltb-true, ltb-false, ne_eqb}
use Rattle.lists.specs.Lists.{count_below}
use Rattle.rules.specs.Runs.{before}
use Rattle.rules.specs.Lapses.{lapses, begins, lapse_starts}
use Rattle.rules.specs.Outlook.{resting_till}
use Rattle.lists.proofs.Counting.{count_ext, count_stretch}
use Rattle.rules.proofs.Lapses.{lapses-counted}

abbrev pub one_if : Bool → ℕ
one_if b = if b then 1 else 0

module _ (kept : ℕ → Bool) (t s : ℕ) where
  earlier : (m : ℕ) → m < t → resting_till kept t s m ≡ kept m
  earlier m h = rw (lt-ltb m t h) refl

  rests : (m : ℕ) → t ≤ m → m < s → resting_till kept t s m ≡ false
  rests m l u = rw (le-ltb m t l) (lt-leb s m u)

  keeps : (m : ℕ) → t ≤ m → s ≤ m → resting_till kept t s m ≡ true
  keeps m l u = rw (le-ltb m t l) (le-leb s m u)

  -- ---- kept time

  pub resting_count : (n : ℕ) → t ≤ s → s ≤ n → count_below (resting_till kept t s) n ≡ count_below kept t + (n - s)
  resting_count n h k =
      let p = resting_till kept t s in
      let below : count_below p t ≡ count_below kept t = count_ext p kept t earlier in
      let rest : count_below p (t + (s - t)) ≡ count_below p t + 0 = count_stretch p t (s - t) false (λ m l u. rests m l (omega arith)) in
      let more : count_below p (s + (n - s)) ≡ count_below p s + (n - s) = count_stretch p s (n - s) true (λ m l u. keeps m (omega arith) l) in
      let to-s : t + (s - t) ≡ s = omega arith in
      let to-n : s + (n - s) ≡ n = omega arith in
      omega (arith, ap (count_below p) to-s, ap (count_below p) to-n)

  -- ---- lapses

  before_earlier : (m : ℕ) → m ≤ t → before (resting_till kept t s) m ≡ before kept m
  before_earlier zero h = refl
  before_earlier (suc m) h = earlier m (omega arith)

  starts_earlier : (m : ℕ) → m < t → lapse_starts (resting_till kept t s) m ≡ lapse_starts kept m
  starts_earlier m h = rw (earlier m h, before_earlier m (omega arith)) refl

  -- the first millisecond of resting begins a lapse, unless one is going on
  starts-now : t < s → lapse_starts (resting_till kept t s) t ≡ begins kept t
  starts-now h = rw (rests t (omega arith) h, before_earlier t (omega arith)) refl

  -- the others go on with it
  starts_resting : (m : ℕ) → t < m → m < s → lapse_starts (resting_till kept t s) m ≡ false
  starts_resting zero l u = absurd (omega arith)
  starts_resting (suc m) l u =
      rw (rests (suc m) (omega arith) u, ne_eqb (suc m) 0 (λ e. absurd (omega arith)), rests m (omega arith) (omega arith)) refl

  starts_keeping : (m : ℕ) → t ≤ m → s ≤ m → lapse_starts (resting_till kept t s) m ≡ false
  starts_keeping m l u = rw (keeps m l u) refl

  starts_resting_count : (b : Bool) → ltb t s ≡ b → t ≤ s
      → count_below (lapse_starts (resting_till kept t s)) s ≡ count_below (lapse_starts kept) t + (if b then one_if (begins kept t) else 0)
  starts_resting_count true e h =
      let p = lapse_starts (resting_till kept t s) in
      let later = ltb-true t s e in
      let below : count_below p t ≡ count_below (lapse_starts kept) t = count_ext p (lapse_starts kept) t starts_earlier in
      let one : count_below p (t + 1) ≡ count_below p t + one_if (begins kept t) = count_stretch p t 1 (begins kept t) (λ m l u. at m (omega arith)) in
      let rest : count_below p (t + 1 + (s - (t + 1))) ≡ count_below p (t + 1) + 0 =
      count_stretch p (t + 1) (s - (t + 1)) false (λ m l u. starts_resting m (omega arith) (omega arith)) in
      let to-s : t + 1 + (s - (t + 1)) ≡ s = omega arith in
      omega (arith, ap (count_below p) to-s)
    where
      at : (m : ℕ) → m ≡ t → lapse_starts (resting_till kept t s) m ≡ begins kept t
      at m f = ap (lapse_starts (resting_till kept t s)) f ∙ starts-now (ltb-true t s e)
  starts_resting_count false e h =
      let p = lapse_starts (resting_till kept t s) in
      let below : count_below p t ≡ count_below (lapse_starts kept) t = count_ext p (lapse_starts kept) t starts_earlier in
      let same : t ≡ s = omega (arith, ltb-false t s e) in
      omega (arith, ap (count_below p) same)

  -- one more where resting takes any time and begins one
  pub resting_lapses : (n : ℕ) → t ≤ s → s ≤ n
      → length (lapses (resting_till kept t s) n) ≡ length (lapses kept t) + (if ltb t s then one_if (begins kept t) else 0)
  resting_lapses n h k =
      let q = resting_till kept t s in
      let p = lapse_starts q in
      let start = starts_resting_count (ltb t s) refl h in
      let more : count_below p (s + (n - s)) ≡ count_below p s + 0 = count_stretch p s (n - s) false (λ m l u. starts_keeping m (omega arith) l) in
      let to-n : s + (n - s) ≡ n = omega arith in
      omega (arith, lapses-counted q n, lapses-counted kept t, ap (count_below p) to-n)
