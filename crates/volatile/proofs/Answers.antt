-- The answer by its causes, and that two different answers never show the same.
use Rattle.std.specs.Prelude.{if◌then◌else◌}
use Prim.Native.Nat.{ℕ}
use native.Mathlib.Omega.{arith}
use mathlib.Core.Path.{◌≡◌, refl, sym, ap}
use mathlib.Core.List.{List}
use mathlib.Core.Bool.{Bool, true, false, ◌||◌}
use lib.IntN.{ℤ}
use lib.ListN.{length}
use Rattle.lists.specs.Lists.{any}
use Rattle.rules.specs.Answers.{Outcome, accepted, refused}
use Rattle.sigma.specs.Changes.{changes, bad_prices}
use Rattle.sigma.specs.Sigmas.{sigmas}
use Rattle.std.specs.Prelude.{Result, Ok, Err}
use Rattle.volatile.specs.declared.UnusablePrices.{UnusablePrices}
use Rattle.volatile.specs.Periods.{is_in, is_early, periods}
use Rattle.volatile.specs.Answers.{inside_of, shown_day}

module _ (prices : List ℤ) (threshold : ℕ) where
  abbrev list : List ℕ
  list = sigmas (changes prices)

  pub refused_bad : bad_prices prices ≡ true → refused 22 ≡ inside_of prices threshold
  unfolding inside_of
  refused_bad h = rw h refl

  pub refused_early : any is_early (periods list threshold (length list)) ≡ true → refused 22 ≡ inside_of prices threshold
  unfolding inside_of
  refused_early h = rw h (go (bad_prices prices))
    where
      go : (b : Bool) → refused 22 ≡ (if (b || true) then refused 22 else accepted (any (is_in (length list)) (periods list threshold (length list))))
      go true = refl
      go false = refl

  pub answered : {b : Bool} → bad_prices prices ≡ false → any is_early (periods list threshold (length list)) ≡ false
      → b ≡ any (is_in (length list)) (periods list threshold (length list)) → accepted b ≡ inside_of prices threshold
  unfolding inside_of
  answered h e q = rw (h, e) (ap accepted q)

-- ---- two different answers never show the same

clash : {A : Type 0} (b : Bool) → accepted b ≡ refused 22 → A
clash b e = let z : ◌≡◌ {A = ℕ} 0 1 = cc in absurd (omega arith)

same-answer : (a b : Bool) → ◌≡◌ {A = Outcome Bool} (accepted a) (accepted b) → a ≡ b
same-answer a b e = cc

pub day_shows : (a b : Result Bool UnusablePrices) → shown_day a ≡ shown_day b → a ≡ b
day_shows (Ok a) (Ok b) e = ap Ok (same-answer a b e)
day_shows (Ok a) (Err s) e = clash a e
day_shows (Err r) (Ok b) e = clash b (sym e)
day_shows (Err r) (Err s) e = refl
