-- The periods from one day to the next.
use Rattle.std.specs.Prelude.{if◌then◌else◌}
use Prim.Native.Nat.{ℕ, zero, suc, ◌+◌, ◌-◌, ◌≤◌, ◌<◌}
use native.Mathlib.Omega.{arith}
use mathlib.Core.Path.{◌≡◌, refl, sym, ap, ◌∙◌}
use mathlib.Core.Logic.{◌⊎◌, inl, inr}
use mathlib.Core.List.{List, [], ◌∷◌, ◌++◌, append-nil}
use mathlib.Core.Bool.{Bool, true, false, true≢false, not, ◌&&◌, ◌||◌, and-true, and-false, or-false as or_none}
use borrow.Author.Tests.{le-leb, lt-leb, leb-true, leb-false}
use lib.Dec.{leb, ltb}
use lib.ListN.{length}
use Rattle.lists.specs.Lists.{any, All}
use Rattle.lists.proofs.Members.{any_append, or_false}
use Rattle.std.proofs.lemmas.Bool.{cases_lt}
use Rattle.volatile.specs.Periods.{Period, first_from, is_in, is_early, sigma_on, average, last_day, period_from, periods}

-- ---- the first day that passes

module _ (p : ℕ → Bool) where
  -- it is not before the first
  from_le : (d n : ℕ) → d ≤ first_from p d n
  unfolding first_from
  from_le d zero = omega arith
  from_le d (suc n) = go (p d) (from_le (suc d) n)
    where
      go : (b : Bool) → suc d ≤ first_from p (suc d) n → d ≤ (if b then d else first_from p (suc d) n)
      go true h = omega arith
      go false h = omega arith

  -- it passes, or is the day after them all
  from_stop : (d n : ℕ) → (p (first_from p d n) ≡ true) ⊎ (first_from p d n ≡ d + n)
  unfolding first_from
  from_stop d zero = inr (omega arith)
  from_stop d (suc n) = go (p d) refl (from_stop (suc d) n)
    where
      go : (b : Bool) → p d ≡ b → (p (first_from p (suc d) n) ≡ true) ⊎ (first_from p (suc d) n ≡ suc d + n)
          → (p (if b then d else first_from p (suc d) n) ≡ true) ⊎ ((if b then d else first_from p (suc d) n) ≡ d + suc n)
      go true e h = inl e
      go false e (inl h) = inl h
      go false e (inr h) = inr (omega arith)

  -- none that passes is before it
  from_first : (d n e : ℕ) → d ≤ e → e < d + n → p e ≡ true → first_from p d n ≤ e
  unfolding first_from
  from_first d zero e l u h = absurd (omega arith)
  from_first d (suc n) e l u h = go (p d) refl (λ k. from_first (suc d) n e k (omega arith) h)
    where
      later : p d ≡ false → (b : Bool) → leb (suc d) e ≡ b → suc d ≤ e
      later q true t = leb-true (suc d) e t
      later q false t =
          let u : e < suc d = leb-false (suc d) e t in
          let same : e ≡ d = omega arith in
          absurd (true≢false (sym h ∙ ap p same ∙ q))

      go : (b : Bool) → p d ≡ b → (suc d ≤ e → first_from p (suc d) n ≤ e) → (if b then d else first_from p (suc d) n) ≤ e
      go true q k = l
      go false q k = k (later q (leb (suc d) e) refl)

-- ---- a period's last day

module _ (sigmas : List ℕ) (first : ℕ) where
  abbrev ends_on : ℕ → Bool
  ends_on d = leb (sigma_on sigmas d) (average sigmas first)

  last_later : first ≤ last_day sigmas first
  unfolding last_day
  last_later = omega (arith, from_le ends_on (suc first) (length sigmas - suc first))

  last_by : (d : ℕ) → first < d → d < length sigmas → ends_on d ≡ true → last_day sigmas first < suc d
  unfolding last_day
  last_by d l u e = omega (arith, from_first ends_on (suc first) (length sigmas - suc first) d l (omega arith) e)

  last_after : (d : ℕ) → d < length sigmas → first ≤ d → d ≤ last_day sigmas first
      → (first < d → ends_on d ≡ false) → suc d ≤ last_day sigmas first
  unfolding last_day
  last_after d u b l e = go (from_stop ends_on (suc first) (length sigmas - suc first)) (cases_lt d (last_day sigmas first))
    where
      go : (ends_on (last_day sigmas first) ≡ true) ⊎ (last_day sigmas first ≡ suc first + (length sigmas - suc first))
          → (d < last_day sigmas first) ⊎ (last_day sigmas first ≤ d) → suc d ≤ last_day sigmas first
      go h (inl k) = k
      go (inl h) (inr k) =
          let same : last_day sigmas first ≡ d = omega arith in
          let a : first < d = omega (arith, from_le ends_on (suc first) (length sigmas - suc first)) in
          absurd (true≢false (sym h ∙ ap ends_on same ∙ e a))
      go (inr h) (inr k) = absurd (omega (arith, from_le ends_on (suc first) (length sigmas - suc first)))

-- "That last day still counts"
module _ (p : Period) where
  pub in_period : (day : ℕ) → p.first ≤ day → day ≤ p.last → is_in day p ≡ true
  in_period day h l = rw (le-leb p.first day h) (le-leb day p.last l)

  past_period : (day : ℕ) → p.last < day → is_in day p ≡ false
  past_period day h = go (leb p.first day)
    where
      go : (b : Bool) → (b && leb day p.last) ≡ false
      go true = lt-leb day p.last h
      go false = refl

-- ---- periods that have begun, and are over, stay over

abbrev pub Begun : ℕ → List Period → Type 0
Begun d = All (λ (p : Period). p.first ≤ d)

begun_later : (d : ℕ) (ps : List Period) → Begun d ps → Begun (suc d) ps
begun_later d [] b = tt
begun_later d (p ∷ ps) b = (omega (arith, b.0), begun_later d ps b.1)

pub all_append : {A : Type 0} (P : A → Type 0) (xs ys : List A) → All P xs → All P ys → All P (xs ++ ys)
all_append P [] ys b c = c
all_append P (x ∷ xs) ys b c = (b.0, all_append P xs ys b.1 c)

begun_front : (d : ℕ) (ps qs : List Period) → Begun d (ps ++ qs) → Begun d ps
begun_front d [] qs b = tt
begun_front d (p ∷ ps) qs b = (b.0, begun_front d ps qs b.1)

over : (d : ℕ) (ps : List Period) → Begun d ps → any (is_in d) ps ≡ false → any (is_in (suc d)) ps ≡ false
unfolding any
over d [] b e = refl
over d (p ∷ ps) b e =
    let h = or_false (is_in d p) (any (is_in d) ps) e in
    rw (one h.0) (over d ps b.1 h.1)
  where
    one : is_in d p ≡ false → is_in (suc d) p ≡ false
    one h = past_period p (suc d) (gone (leb d p.last) refl)
      where
        gone : (b : Bool) → leb d p.last ≡ b → p.last < suc d
        gone true t = absurd (true≢false (sym (in_period p d b.0 (leb-true d p.last t)) ∙ h))
        gone false t = let u : p.last < d = leb-false d p.last t in omega arith

pub any_snoc : {A : Type 0} (p : A → Bool) (xs : List A) (y : A) → any p (xs ++ (y ∷ [])) ≡ (any p xs || p y)
unfolding any
any_snoc p xs y = any_append p xs (y ∷ []) ∙ ap (λ (b : Bool). any p xs || b) (or_none (p y))

-- ---- from a day to the next

module _ (sigmas : List ℕ) (threshold : ℕ) where
  abbrev pub begins : ℕ → Bool
  begins d = leb threshold (sigma_on sigmas d) && not (any (is_in d) (periods sigmas threshold d))

  pub periods-same : (d : ℕ) → begins d ≡ false → periods sigmas threshold (suc d) ≡ periods sigmas threshold d
  unfolding periods
  periods-same d e = rw e (append-nil (periods sigmas threshold d))

  pub periods-more : (d : ℕ) → begins d ≡ true → periods sigmas threshold (suc d) ≡ periods sigmas threshold d ++ (period_from sigmas (suc d) ∷ [])
  unfolding periods
  periods-more d e = rw e refl

  none_yet : Begun 0 (periods sigmas threshold 0)
  unfolding periods
  none_yet = tt

  pub none_yet_in : (d : ℕ) → any (is_in d) (periods sigmas threshold 0) ≡ false
  unfolding periods any
  none_yet_in d = refl

  pub none_yet_early : any is_early (periods sigmas threshold 0) ≡ false
  unfolding periods any
  none_yet_early = refl

  pub periods_begun : (d : ℕ) → Begun d (periods sigmas threshold d)
  periods_begun zero = none_yet
  periods_begun (suc d) =
      go (begins d) refl (begun_later d (periods sigmas threshold d) (periods_begun d))
    where
      go : (b : Bool) → begins d ≡ b → Begun (suc d) (periods sigmas threshold d) → Begun (suc d) (periods sigmas threshold (suc d))
      go true e h =
          rw (periods-more d e)
          (all_append _ (periods sigmas threshold d) (period_from sigmas (suc d) ∷ []) h (omega arith, tt))
      go false e h = rw (periods-same d e) h

  -- a period that began early stays among them
  pub early_later : (d k : ℕ) → any is_early (periods sigmas threshold d) ≡ true → any is_early (periods sigmas threshold (d + k)) ≡ true
  early_later d zero e = let same : d + 0 ≡ d = omega arith in rw same e
  early_later d (suc k) e =
      let same : d + suc k ≡ suc (d + k) = omega arith in
      rw same (go (begins (d + k)) refl (early_later d k e))
    where
      go : (b : Bool) → begins (d + k) ≡ b → any is_early (periods sigmas threshold (d + k)) ≡ true
          → any is_early (periods sigmas threshold (suc (d + k))) ≡ true
      go true q h =
          ap (any is_early) (periods-more (d + k) q)
          ∙ any_snoc is_early (periods sigmas threshold (d + k)) (period_from sigmas (suc (d + k)))
          ∙ ap (λ (b : Bool). b || is_early (period_from sigmas (suc (d + k)))) h
      go false q h = rw (periods-same (d + k) q) h

  -- the day is in the period that begins on day `first`, the last of them all, and in no other
  pub record Current (d first : ℕ) : Type 0 where
    pub earlier : List Period
    pub all : periods sigmas threshold d ≡ earlier ++ (period_from sigmas first ∷ [])
    pub none : any (is_in d) earlier ≡ false
    pub begun : first ≤ d
    pub going : d ≤ last_day sigmas first

  pub current_in : {d first : ℕ} → Current d first → any (is_in d) (periods sigmas threshold d) ≡ true
  current_in {d} {first} c =
      ap (any (is_in d)) c.all ∙ any_snoc (is_in d) c.earlier (period_from sigmas first)
      ∙ rw c.none (in_period (period_from sigmas first) d c.begun c.going)

  -- ---- a day outside

  out_begins : (d : ℕ) → any (is_in d) (periods sigmas threshold d) ≡ false → begins d ≡ leb threshold (sigma_on sigmas d)
  out_begins d h = rw h (and-true (leb threshold (sigma_on sigmas d)))

  module _ (d : ℕ) (out : any (is_in d) (periods sigmas threshold d) ≡ false) where
    -- its sigma is below the threshold
    stays_same : leb threshold (sigma_on sigmas d) ≡ false → periods sigmas threshold (suc d) ≡ periods sigmas threshold d
    stays_same e = periods-same d (out_begins d out ∙ e)

    pub stays_out : leb threshold (sigma_on sigmas d) ≡ false → any (is_in (suc d)) (periods sigmas threshold (suc d)) ≡ false
    stays_out e = rw (stays_same e) (over d (periods sigmas threshold d) (periods_begun d) out)

    pub stays_early : leb threshold (sigma_on sigmas d) ≡ false
        → any is_early (periods sigmas threshold (suc d)) ≡ any is_early (periods sigmas threshold d)
    stays_early e = ap (any is_early) (stays_same e)

    -- its sigma is at least the threshold: a period begins on the day after
    pub begins-after : leb threshold (sigma_on sigmas d) ≡ true → Current (suc d) (suc d)
    begins-after e =
        record {
          earlier = periods sigmas threshold d;
          all = periods-more d (out_begins d out ∙ e);
          none = over d (periods sigmas threshold d) (periods_begun d) out;
          begun = omega arith;
          going = past (suc d);
        }
      where
        past : (f : ℕ) → f ≤ last_day sigmas f
        past f = last_later sigmas f

    pub begins-early : leb threshold (sigma_on sigmas d) ≡ true → any is_early (periods sigmas threshold d) ≡ false
        → any is_early (periods sigmas threshold (suc d)) ≡ ltb (suc d) 30
    begins-early e h =
        ap (any is_early) (periods-more d (out_begins d out ∙ e))
        ∙ any_snoc is_early (periods sigmas threshold d) (period_from sigmas (suc d)) ∙ rw h refl

  -- ---- a day inside

  module _ (d first : ℕ) (current : Current d first) (has : d < length sigmas) where
    inside-same : periods sigmas threshold (suc d) ≡ periods sigmas threshold d
    inside-same = periods-same d (rw (current_in current) (and-false (leb threshold (sigma_on sigmas d))))

    pub inside-early : any is_early (periods sigmas threshold (suc d)) ≡ any is_early (periods sigmas threshold d)
    inside-early = ap (any is_early) inside-same

    none_after : any (is_in (suc d)) current.earlier ≡ false
    none_after =
        over d current.earlier
        (begun_front d current.earlier (period_from sigmas first ∷ []) (rw current.all at (periods_begun d))) current.none

    -- it is the period's last day
    pub ends-after : first < d → leb (sigma_on sigmas d) (average sigmas first) ≡ true
        → any (is_in (suc d)) (periods sigmas threshold (suc d)) ≡ false
    ends-after l e =
        ap (any (is_in (suc d))) (inside-same ∙ current.all) ∙ any_snoc (is_in (suc d)) current.earlier (period_from sigmas first)
        ∙ rw none_after (past_period (period_from sigmas first) (suc d) (last_by sigmas first d l has e))

    -- it is not
    pub goes_on_after : (first < d → leb (sigma_on sigmas d) (average sigmas first) ≡ false) → Current (suc d) first
    goes_on_after e =
        record {
          earlier = current.earlier;
          all = inside-same ∙ current.all;
          none = none_after;
          begun = omega (arith, current.begun);
          going = last_after sigmas first d has current.begun current.going e;
        }
