-- The periods are stretches apart from one another: between the last day of one and the first of a later one lies a day at least, the
-- one whose sigma begins the later.
use Prim.Native.Nat.{ℕ, zero, suc, ◌<◌}
use native.Mathlib.Omega.{arith}
use mathlib.Core.Path.{◌≡◌, refl, sym, ◌∙◌}
use mathlib.Core.List.{List, [], ◌∷◌, ◌++◌}
use mathlib.Core.Bool.{Bool, true, false, true≢false, not}
use borrow.Author.Tests.{leb-true, leb-false, not-true}
use lib.Dec.{leb}
use Rattle.lists.specs.Lists.{any, All}
use Rattle.lists.proofs.Lists.{both}
use Rattle.lists.proofs.Members.{or_false}
use Rattle.volatile.specs.Periods.{Period, is_in, sigma_on, period_from, periods}
use Rattle.volatile.proofs.Periods.{all_append, in_period, Begun, begins, periods-same, periods-more, periods_begun}

-- every one of them is over before day d
abbrev Over : ℕ → List Period → Type 0
Over d = All (λ (p : Period). p.last < d)

-- every one of them begins after a day that comes after `last`
abbrev pub After : ℕ → List Period → Type 0
After last = All (λ (p : Period). suc last < p.first)

abbrev pub Apart : List Period → Type 0
Apart [] = Unit {0}
Apart (p ∷ ps) = After p.last ps × Apart ps

apart_snoc : (d : ℕ) (ps : List Period) (q : Period) → Apart ps → Over d ps → d < q.first → Apart (ps ++ (q ∷ []))
apart_snoc d [] q a o h = (tt, tt)
apart_snoc d (p ∷ ps) q a o h =
    let l = o.0 in
    (all_append _ ps (q ∷ []) a.0 (omega arith, tt), apart_snoc d ps q a.1 o.1 h)

-- begun by day d, and none holds it
none-holds : (d : ℕ) (ps : List Period) → Begun d ps → any (is_in d) ps ≡ false → Over d ps
unfolding any
none-holds d [] b e = tt
none-holds d (p ∷ ps) b e =
    let h = or_false (is_in d p) (any (is_in d) ps) e in
    (ended (leb d p.last) refl h.0, none-holds d ps b.1 h.1)
  where
    ended : (t : Bool) → leb d p.last ≡ t → is_in d p ≡ false → p.last < d
    ended true t h = absurd (true≢false (sym (in_period p d b.0 (leb-true d p.last t)) ∙ h))
    ended false t h = leb-false d p.last t

module _ (sigmas : List ℕ) (threshold : ℕ) where
  none_apart : Apart (periods sigmas threshold 0)
  unfolding periods
  none_apart = tt

  pub periods-apart : (d : ℕ) → Apart (periods sigmas threshold d)
  periods-apart zero = none_apart
  periods-apart (suc d) = go (begins sigmas threshold d) refl (periods-apart d)
    where
      out : begins sigmas threshold d ≡ true → any (is_in d) (periods sigmas threshold d) ≡ false
      out e = not-true _ (both (leb threshold (sigma_on sigmas d)) (not (any (is_in d) (periods sigmas threshold d))) e).1

      go : (b : Bool) → begins sigmas threshold d ≡ b → Apart (periods sigmas threshold d) → Apart (periods sigmas threshold (suc d))
      go true e a =
          rw (periods-more sigmas threshold d e)
          (apart_snoc d (periods sigmas threshold d) (period_from sigmas (suc d)) a
          (none-holds d (periods sigmas threshold d) (periods_begun sigmas threshold d) (out e)) (omega arith))
      go false e a = rw (periods-same sigmas threshold d e) a
