-- The latest number that passes a test: it passes and none after it does, or none passes.
use Rattle.std.specs.Prelude.{if◌then◌else◌, None, Option, Some}
use Prim.Native.Nat.{ℕ, zero, suc, ◌+◌, ◌≤◌, ◌<◌}
use native.Mathlib.Omega.{arith}
use mathlib.Core.Path.{◌≡◌, refl, sym, ap, ◌∙◌}
use mathlib.Core.Bool.{Bool, true, false, true≢false, false≢true}
use lib.Dec.{eqb}
use borrow.Author.Tests.{eqb-true, eqb-false}
use Rattle.rules.specs.declared.Millis.{Millis}
use Rattle.rules.specs.Units.{millis}
use Rattle.rules.specs.Outlook.{latest, is_never}

pub latest_ext : (p q : ℕ → Bool) (t n : ℕ) → ((s : ℕ) → t ≤ s → s ≤ t + n → p s ≡ q s) → latest p t n ≡ latest q t n
unfolding latest
latest_ext p q t zero h = rw (h t (omega arith) (omega arith)) refl
latest_ext p q t (suc n) h =
    rw (h (t + suc n) (omega arith) (omega arith), latest_ext p q t n (λ s l u. h s l (omega arith))) refl

pub latest-none : (p : ℕ → Bool) (t n : ℕ) → ((s : ℕ) → t ≤ s → s ≤ t + n → p s ≡ false) → latest p t n ≡ None
unfolding latest
latest-none p t zero h = rw (h t (omega arith) (omega arith)) refl
latest-none p t (suc n) h = rw (h (t + suc n) (omega arith) (omega arith)) (latest-none p t n (λ s l u. h s l (omega arith)))

pub latest-at : (p : ℕ → Bool) (t n s : ℕ) → t ≤ s → s ≤ t + n → p s ≡ true → ((m : ℕ) → s < m → m ≤ t + n → p m ≡ false)
    → latest p t n ≡ Some (millis s)
unfolding latest
latest-at p t zero s l u e h =
    let same : t ≡ s = omega arith in
    rw (ap p same ∙ e) (ap (λ (m : ℕ). Some (millis m)) same)
latest-at p t (suc n) s l u e h =
    go (eqb s (t + suc n)) refl (λ k. latest-at p t n s l k e (λ m v w. h m v (omega arith)))
  where
    go : (b : Bool) → eqb s (t + suc n) ≡ b → (s ≤ t + n → latest p t n ≡ Some (millis s))
        → (if p (t + suc n) then Some (millis (t + suc n)) else latest p t n) ≡ Some (millis s)
    go true f ih =
        let same = eqb-true s (t + suc n) f in
        rw (ap p (sym same) ∙ e) (ap (λ (m : ℕ). Some (millis m)) (sym same))
    go false f ih =
        let other : (s ≡ t + suc n → ⊥) = eqb-false s (t + suc n) f in
        let last : s < t + suc n = omega (arith, other) in
        rw (h (t + suc n) last (omega arith)) (ih (omega arith))

-- what is found passes and none after it does, and where nothing is found none does
abbrev pub LatestPassing : (ℕ → Bool) → ℕ → ℕ → Option Millis → Type 0
LatestPassing p t n None = (s : ℕ) → t ≤ s → s ≤ t + n → p s ≡ false
LatestPassing p t n (Some s) = (t ≤ s.0) × (s.0 ≤ t + n) × (p s.0 ≡ true) × ((m : ℕ) → s.0 < m → m ≤ t + n → p m ≡ false)

-- the next does not pass either
one_later : (p : ℕ → Bool) (n s : ℕ) → p (suc n) ≡ false → s ≤ suc n → (s ≤ n → p s ≡ false) → p s ≡ false
one_later p n s e u h = go (eqb s (suc n)) refl
  where
    go : (b : Bool) → eqb s (suc n) ≡ b → p s ≡ false
    go true f = ap p (eqb-true s (suc n) f) ∙ e
    go false f =
        let other : (s ≡ suc n → ⊥) = eqb-false s (suc n) f in
        h (omega (arith, other))

found-more : (p : ℕ → Bool) (t n : ℕ) (o : Option Millis) → LatestPassing p t n o → p (suc (t + n)) ≡ false → LatestPassing p t (suc n) o
found-more p t n None h e = λ s l u. one_later p (t + n) s e (omega (arith, u)) (λ k. h s l k)
found-more p t n (Some s) h e = (h.0, omega (arith, h.1), h.2, λ m l u. one_later p (t + n) m e (omega (arith, u)) (λ k. h.3 m l k))

found_last : (p : ℕ → Bool) (t n : ℕ) (b : Bool) → p (t + suc n) ≡ b → LatestPassing p t n (latest p t n)
    → LatestPassing p t (suc n) (if b then Some (millis (t + suc n)) else latest p t n)
found_last p t n true e h = (omega arith, omega arith, e, λ m l u. absurd (omega (arith, l, u)))
found_last p t n false e h =
    let next : t + suc n ≡ suc (t + n) = omega arith in
    found-more p t n (latest p t n) h (ap p (sym next) ∙ e)

found_first : (p : ℕ → Bool) (t : ℕ) (b : Bool) → p t ≡ b → LatestPassing p t zero (if b then Some (millis t) else None)
found_first p t true e = (omega arith, omega arith, e, λ m l u. absurd (omega (arith, l, u)))
found_first p t false e = λ s l u.
    let same : s ≡ t = omega arith in
    ap p same ∙ e

pub latest-found : (p : ℕ → Bool) (t n : ℕ) → LatestPassing p t n (latest p t n)
unfolding latest
latest-found p t zero = found_first p t (p t) refl
latest-found p t (suc n) = found_last p t n (p (t + suc n)) refl (latest-found p t n)

module _ (p : ℕ → Bool) (t n : ℕ) where
  -- there is one that passes
  pub latest_passes : is_never (latest p t n) ≡ false → (s : ℕ) × (t ≤ s) × (s ≤ t + n) × (p s ≡ true)
  latest_passes = go (latest p t n) (latest-found p t n)
    where
      go : (o : Option Millis) → LatestPassing p t n o → is_never o ≡ false → (s : ℕ) × (t ≤ s) × (s ≤ t + n) × (p s ≡ true)
      go None f h = absurd (true≢false h)
      go (Some s) f h = (s.0, f.0, f.1, f.2)

  -- none does
  pub never_passes : is_never (latest p t n) ≡ true → (s : ℕ) → t ≤ s → s ≤ t + n → p s ≡ false
  never_passes = go (latest p t n) (latest-found p t n)
    where
      go : (o : Option Millis) → LatestPassing p t n o → is_never o ≡ true → (s : ℕ) → t ≤ s → s ≤ t + n → p s ≡ false
      go None f h = f
      go (Some s) f h = absurd (false≢true h)
