-- The lists of R, of previous prices and of sigmas, by place.
use Prim.Native.Nat.{ℕ, zero, suc, ◌-◌, ◌<◌}
use native.Mathlib.Omega.{arith}
use mathlib.Core.Path.{◌≡◌, refl}
use mathlib.Core.List.{List, [], ◌∷◌}
use lib.IntN.{ℤ, pos}
use lib.ListN.{length, get_or}
use Rattle.sigma.specs.Changes.{change_of, changes, previous}
use Rattle.sigma.specs.Sigmas.{sigma_of, sigmas}

pub length_changes : (ps : List ℤ) → length (changes ps) ≡ length ps - 1
unfolding changes
length_changes [] = refl
length_changes (p ∷ []) = refl
length_changes (p ∷ q ∷ ps) = let h = length_changes (q ∷ ps) in omega arith

pub length_previous : (ps : List ℤ) → length (previous ps) ≡ length ps - 1
unfolding previous
length_previous [] = refl
length_previous (p ∷ []) = refl
length_previous (p ∷ q ∷ ps) = let h = length_previous (q ∷ ps) in omega arith

pub length_sigmas : (rs : List ℤ) → length (sigmas rs) ≡ length rs - 2
unfolding sigmas
length_sigmas [] = refl
length_sigmas (a ∷ []) = refl
length_sigmas (a ∷ b ∷ []) = refl
length_sigmas (a ∷ b ∷ c ∷ rs) = let h = length_sigmas (b ∷ c ∷ rs) in omega arith

pub changes-at : (ps : List ℤ) (i : ℕ) → suc i < length ps
    → get_or (changes ps) i (pos 0) ≡ change_of (get_or ps i (pos 0)) (get_or ps (suc i) (pos 0))
unfolding changes
changes-at [] i h = absurd (omega arith)
changes-at (p ∷ []) i h = absurd (omega arith)
changes-at (p ∷ q ∷ ps) zero h = refl
changes-at (p ∷ q ∷ ps) (suc i) h = changes-at (q ∷ ps) i (omega arith)

pub previous-at : (ps : List ℤ) (i : ℕ) → suc i < length ps → get_or (previous ps) i (pos 0) ≡ get_or ps i (pos 0)
unfolding previous
previous-at [] i h = absurd (omega arith)
previous-at (p ∷ []) i h = absurd (omega arith)
previous-at (p ∷ q ∷ ps) zero h = refl
previous-at (p ∷ q ∷ ps) (suc i) h = previous-at (q ∷ ps) i (omega arith)

pub sigmas-at : (rs : List ℤ) (i : ℕ) → suc (suc i) < length rs
    → get_or (sigmas rs) i 0 ≡ sigma_of (get_or rs i (pos 0)) (get_or rs (suc i) (pos 0)) (get_or rs (suc (suc i)) (pos 0))
unfolding sigmas
sigmas-at [] i h = absurd (omega arith)
sigmas-at (a ∷ []) i h = absurd (omega arith)
sigmas-at (a ∷ b ∷ []) i h = absurd (omega arith)
sigmas-at (a ∷ b ∷ c ∷ rs) zero h = refl
sigmas-at (a ∷ b ∷ c ∷ rs) (suc i) h = sigmas-at (b ∷ c ∷ rs) i (omega arith)
