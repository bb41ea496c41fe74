-- One minute of the game in the closed form: what the maker's way gets him at each answer, and what the taker's leaves at each quote.
use Rattle.std.specs.Prelude.{if◌then◌else◌}
use Prim.Native.Nat.{ℕ, suc, ◌+◌, ◌-◌, ◌/◌, ◌≤◌, ◌<◌, min}
use mathlib.Core.Path.{◌≡◌, ap, ◌∙◌}
use mathlib.Core.Bool.{Bool, true, false}
use native.Mathlib.Omega.{arith}
use borrow.Author.Tests.{leb-true, leb-false}
use lib.Dec.{leb}
use Rattle.game.specs.Play.{Volume, single, double}
use Rattle.game.specs.Value.{closed}

-- ---- the most that k knocks can void where s minutes are single and enough are double

most : ℕ → ℕ → ℕ
most k s = min k ((k + s) / 2)

module _ (k s : ℕ) where
  most_none : k < 1 → most k s ≡ 0
  unfolding most
  most_none l = omega arith

  most_single : (t : ℕ) → 1 ≤ k → t ≤ suc s → most k t ≤ suc (most (k - 1) s)
  unfolding most
  most_single t l f = omega arith

  most_all : 1 ≤ k → suc (most (k - 1) s) ≤ most k (suc s)
  unfolding most
  most_all l = omega arith

  most_more : most k s ≤ most k (suc s)
  unfolding most
  most_more = omega arith

  most_double : 2 ≤ k → suc (most (k - 2) s) ≤ most k s
  unfolding most
  most_double l = omega arith

  most_spare : 2 + s ≤ k → most k s ≤ suc (most (k - 2) s)
  unfolding most
  most_spare l = omega arith

  most_kept : k < 2 + s → most k s ≤ s
  unfolding most
  most_kept l = omega arith

  voided_is : min k s + (k - min k s) / 2 ≡ most k s
  unfolding most
  voided_is = omega arith

-- ---- the closed form by it

singles : (m h : ℕ) → m - min h m ≡ m - h
singles m h = omega arith

minus : (m a b : ℕ) → m - a - b ≡ m - (a + b)
minus m a b = omega arith

closed_is : (m h k : ℕ) → closed m h k ≡ m - most k (m - h)
unfolding closed
closed_is m h k =
    simp (singles m h)
    (minus m (min k (m - h)) ((k - min k (m - h)) / 2) ∙ ap (λ (n : ℕ). m - n) (voided_is k (m - h)))

-- with no double left every minute is single
alone : (m h k : ℕ) → h < 1 → closed m h k ≡ m - most k m
alone m h k l = closed_is m h k ∙ ap (λ (s : ℕ). m - most k s) (omega arith)

-- after a double minute as many are single as before it
doubled : (m h k : ℕ) → 1 ≤ h → closed (suc m) h k ≡ suc m - most k (m - (h - 1))
doubled m h k l = closed_is (suc m) h k ∙ ap (λ (s : ℕ). suc m - most k s) (omega arith)

pub closed_none : (h k : ℕ) → closed 0 h k ≡ 0
closed_none h k = closed_is 0 h k ∙ omega arith

-- ---- one minute

-- what a minute counts, with what the m minutes after it are worth, of h doubles and k knocks before it
abbrev pub after : ℕ → ℕ → ℕ → Volume → Bool → ℕ
after m h k single true = closed m h (k - 1)
after m h k single false = suc (closed m h k)
after m h k double true = closed m (h - 1) (k - 2)
after m h k double false = suc (closed m (h - 1) k)

-- with no double left, a single minute gets the maker his due, whether it is voided or stands
pub maker_single : (m h k : ℕ) (isVoid : Bool) → h < 1 → (if isVoid then 1 else 0) ≤ k
    → closed (suc m) h k ≤ after m h k single isVoid
maker_single m h k true l f = rw (alone (suc m) h k l, alone m h (k - 1) l) (omega (arith, most_all k m f))
maker_single m h k false l f = rw (alone (suc m) h k l, alone m h k l) (omega (arith, most_more k m))

-- and so does a double one as long as he has one
pub maker_double : (m h k : ℕ) (isVoid : Bool) → 1 ≤ h → (if isVoid then 2 else 0) ≤ k
    → closed (suc m) h k ≤ after m h k double isVoid
maker_double m h k true l f =
    rw (doubled m h k l, closed_is m (h - 1) (k - 2)) (omega (arith, most_double k (m - (h - 1)) f))
maker_double m h k false l f = rw (doubled m h k l, closed_is m (h - 1) k) (omega arith)

-- the taker holds the maker to his due by voiding a single minute if he has a knock
pub taker_single : (m h k : ℕ) (isVoid : Bool) → leb 1 k ≡ isVoid → after m h k single isVoid ≤ closed (suc m) h k
taker_single m h k true e =
    simp closed_is (omega (arith, most_single k (m - h) (suc m - h) (leb-true 1 k e) (omega arith)))
taker_single m h k false e =
    let l : k < 1 = leb-false 1 k e in
    simp closed_is (omega (arith, most_none k (m - h) l, most_none k (suc m - h) l))

-- and a double one if he keeps a knock for each single minute after it
pub taker_double : (m h k : ℕ) (isVoid : Bool) → 1 ≤ h → leb (2 + (m - (h - 1))) k ≡ isVoid
    → after m h k double isVoid ≤ closed (suc m) h k
taker_double m h k true l e =
    let s = m - (h - 1) in
    rw (doubled m h k l, closed_is m (h - 1) (k - 2)) (omega (arith, most_spare k s (leb-true (2 + s) k e)))
taker_double m h k false l e =
    let s = m - (h - 1) in
    rw (doubled m h k l, closed_is m (h - 1) k) (omega (arith, most_kept k s (leb-false (2 + s) k e)))
