-- The laws of a play: its length, and that it keeps to both stocks, whatever the two choose.
use Rattle.std.specs.Prelude.{if◌then◌else◌}
use Prim.Native.Nat.{ℕ, zero, suc, ◌+◌, ◌≤◌, ◌<◌}
use mathlib.Core.Path.{◌≡◌, refl, ap}
use mathlib.Core.List.{[], ◌∷◌}
use mathlib.Core.Bool.{Bool, true, false}
use native.Mathlib.Omega.{arith}
use borrow.Author.Tests.{ltb-true, leb-true}
use lib.Dec.{ltb}
use lib.ListN.{length}
use Rattle.lists.specs.Lists.{sum, how_many}
use Rattle.lists.proofs.Lists.{both}
use Rattle.game.specs.Play.{Volume, single, double, knocks_for, Minute, History, doubles, knocks, unvoided, Maker, Taker, quote, is_voided, next, play}

abbrev pub minute : Volume → Bool → Minute
minute volume isVoid = record { quoted = volume; voided = isVoid }

-- ---- the counts, at the start and after a minute more

pub doubles_start : doubles [] ≡ 0
unfolding doubles how_many
doubles_start = refl

pub knocks_start : knocks [] ≡ 0
unfolding knocks sum
knocks_start = refl

pub unvoided_start : unvoided [] ≡ 0
unfolding unvoided how_many
unvoided_start = refl

module _ (past : History) where
  pub doubles_single : (b : Bool) → doubles (minute single b ∷ past) ≡ doubles past
  unfolding doubles how_many
  doubles_single b = omega arith

  pub doubles_double : (b : Bool) → doubles (minute double b ∷ past) ≡ suc (doubles past)
  unfolding doubles how_many
  doubles_double b = omega arith

  pub knocks_void : (v : Volume) → knocks (minute v true ∷ past) ≡ knocks_for v + knocks past
  unfolding knocks sum
  knocks_void v = refl

  pub knocks_stands : (v : Volume) → knocks (minute v false ∷ past) ≡ knocks past
  unfolding knocks sum
  knocks_stands v = omega arith

  pub unvoided_void : (v : Volume) → unvoided (minute v true ∷ past) ≡ unvoided past
  unfolding unvoided how_many
  unvoided_void v = omega arith

  pub unvoided_stands : (v : Volume) → unvoided (minute v false ∷ past) ≡ suc (unvoided past)
  unfolding unvoided how_many
  unvoided_stands v = omega arith

pub different : single ≡ double → ⊥
different e = let z : ◌≡◌ {A = ℕ} 0 1 = cc in omega arith

-- ---- the stocks

module _ (h : ℕ) (past : History) where
  by_test : (t : Bool) → ltb (doubles past) h ≡ t → (if t then double else single) ≡ double → doubles past < h
  by_test true e q = ltb-true (doubles past) h e
  by_test false e q = absurd (different q)

  -- whatever the maker chooses, a double minute is one of the h
  pub quoted_double : (chosen : Volume) → quote h past chosen ≡ double → doubles past < h
  quoted_double single q = absurd (different q)
  quoted_double double q = by_test (ltb (doubles past) h) refl q

  quoted_fits : doubles past ≤ h → (v : Volume) (b : Bool) → (v ≡ double → doubles past < h) → doubles (minute v b ∷ past) ≤ h
  quoted_fits fits single b l = omega (arith, doubles_single past b)
  quoted_fits fits double b l = let f = l refl in omega (arith, doubles_double past b)

module _ (k : ℕ) (past : History) (fits : knocks past ≤ k) (v : Volume) where
  spent_fits : (b : Bool) → (b ≡ true → knocks past + knocks_for v ≤ k) → knocks (minute v b ∷ past) ≤ k
  spent_fits true l = let e = l refl in omega (arith, knocks_void past v)
  spent_fits false l = omega (arith, knocks_stands past v)

  voided_fits : (chosen : Bool) → knocks (minute v (is_voided k past v chosen) ∷ past) ≤ k
  voided_fits chosen =
      spent_fits (is_voided k past v chosen) (λ e. leb-true (knocks past + knocks_for v) k (both chosen _ e).1)

-- ---- a play of n minutes

module _ (h k : ℕ) (maker : Maker) (taker : Taker) where
  pub play-length : (n : ℕ) → length (play h k maker taker n) ≡ n
  unfolding play
  play-length zero = refl
  play-length (suc n) = ap suc (play-length n)

  -- "double in at most h of them"
  pub play-doubles : (n : ℕ) → doubles (play h k maker taker n) ≤ h
  unfolding play next
  play-doubles zero = omega (arith, doubles_start)
  play-doubles (suc n) =
      let past = play h k maker taker n in
      quoted_fits h past (play-doubles n) (quote h past (maker past)) (next h k maker taker past).voided
      (quoted_double h past (maker past))

  -- "from a stock of k"
  pub play-knocks : (n : ℕ) → knocks (play h k maker taker n) ≤ k
  unfolding play next
  play-knocks zero = omega (arith, knocks_start)
  play-knocks (suc n) =
      let past = play h k maker taker n in
      let volume = quote h past (maker past) in
      voided_fits k past (play-knocks n) volume (taker past volume)
