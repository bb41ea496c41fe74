-- Lapses: what they are, how a person counts them, and how their number grows as time runs on.
use Rattle.std.specs.Prelude.{if◌then◌else◌}
use Prim.Native.Nat.{ℕ, zero, suc, ◌+◌, ◌-◌, ◌≤◌, ◌<◌}
use native.Mathlib.Omega.{arith}
use mathlib.Core.Path.{◌≡◌, refl, ap, ◌∙◌}
use mathlib.Core.List.{List, [], ◌∷◌, ◌++◌}
use mathlib.Core.Bool.{Bool, true, false, not, ◌&&◌}
use borrow.Author.Tests.{ne_eqb}
use lib.ListN.{length, length-append}
use Rattle.rules.specs.declared.Row.{Row}
use Rattle.rules.specs.declared.SpreadRule.{SpreadRule}
use Rattle.rules.specs.declared.Event.{Event}
use Rattle.lists.specs.Lists.{count_below}
use Rattle.rules.specs.Orders.{live, time_of, present}
use Rattle.rules.specs.Kept.{orders_keep, kept_at}
use Rattle.rules.specs.Stretches.{stretch, stretches}
use Rattle.rules.specs.Runs.{Runs, before}
use Rattle.rules.specs.Lapses.{missing, lapses, lapses_below, begins, lapse_starts}
use Rattle.rules.specs.Bounds.{Ordered}
use Rattle.lists.proofs.Counting.{count_ext}
use Rattle.rules.proofs.Stretches.{stretches-run, stretches_ext, stretches_false, stretches-new, stretches-longer, stretches_few}
use Rattle.rules.proofs.Fewest.{stretches-starts}
use Rattle.rules.proofs.Kept.{kept_at-now, kept_at-snoc}

-- ---- any test

module _ (p : ℕ → Bool) where
  -- in order, none empty, no two touching, holding the numbers that do not pass and no others
  pub lapses-run : (n : ℕ) → Runs (missing p) n (lapses p n)
  unfolding lapses
  lapses-run n = stretches-run (missing p) n

  -- the number right before is none that does not pass: at the start, or after one that passes
  begins_is : (m : ℕ) → not (before (missing p) m) ≡ begins p m
  begins_is zero = refl
  begins_is (suc n) = rw (ne_eqb (suc n) 0 (λ e. absurd (omega arith))) (go (p n))
    where
      go : (b : Bool) → not (not b) ≡ b
      go true = refl
      go false = refl

  -- as many as there are first milliseconds of one
  pub lapses-counted : (n : ℕ) → length (lapses p n) ≡ count_below (lapse_starts p) n
  unfolding lapses
  lapses-counted n =
      stretches-starts (missing p) n
      ∙ count_ext (λ m. missing p m && not (before (missing p) m)) (lapse_starts p) n (λ m l. ap (λ (b : Bool). missing p m && b) (begins_is m))

  lapses-le : (n : ℕ) → length (lapses p n) ≤ n
  unfolding lapses
  lapses-le n = omega (arith, stretches_few (missing p) n)

  -- a piece on which all pass adds none
  lapses-kept : (a d : ℕ) → ((m : ℕ) → a ≤ m → m < a + d → p m ≡ true) → length (lapses p (a + d)) ≡ length (lapses p a)
  unfolding lapses
  lapses-kept a d h = ap length (stretches_false (missing p) a d (λ m l u. ap not (h m l u)))

  -- one on which none does adds one where it begins, and lengthens the last one else
  lapses-missing : (a d : ℕ) → 1 ≤ d → ((m : ℕ) → a ≤ m → m < a + d → p m ≡ false)
      → length (lapses p (a + d)) ≡ length (lapses p a) + (if begins p a then 1 else 0)
  unfolding lapses
  lapses-missing a d l h =
      go (before (missing p) a) refl ∙ ap (λ (b : Bool). length (stretches (missing p) a) + (if b then 1 else 0)) (begins_is a)
    where
      all : (m : ℕ) → a ≤ m → m < a + d → missing p m ≡ true
      all m k u = ap not (h m k u)

      go : (b : Bool) → before (missing p) a ≡ b
          → length (stretches (missing p) (a + d)) ≡ length (stretches (missing p) a) + (if not b then 1 else 0)
      go true e =
          let (ss, s, ends, old, new) = stretches-longer (missing p) a d l all e in
          omega (
            arith,
            ap length new,
            length-append ss (stretch s.offset (s.length + d) ∷ []),
            ap length old,
            length-append ss (s ∷ []),
          )
      go false e =
          omega (arith, ap length (stretches-new (missing p) a d l all e), length-append (stretches (missing p) a) (stretch a d ∷ []))

  before_piece : (b : Bool) (a t : ℕ) → a < t → ((m : ℕ) → a ≤ m → m < t → p m ≡ b) → before p t ≡ b
  before_piece b a zero l h = absurd (omega arith)
  before_piece b a (suc t) l h = h t (omega arith) (omega arith)

before_ext : (p q : ℕ → Bool) (n : ℕ) → ((m : ℕ) → m < n → p m ≡ q m) → before p n ≡ before q n
before_ext p q zero h = refl
before_ext p q (suc n) h = h n (omega arith)

-- ---- the kept milliseconds

module _ (row : Row) (sp : SpreadRule) (es : List Event) where
  pub lapses_below-le : (n : ℕ) → lapses_below row sp es n ≤ n
  unfolding lapses_below
  lapses_below-le n = lapses-le (kept_at row sp es) n

  -- time runs on with the live orders of now: one lapse more, where they do not keep the quote and one begins
  pub lapses-onward : Ordered 0 es → (t : ℕ) → present es < t
      → lapses_below row sp es t
      ≡ lapses_below row sp es (present es)
      + (if orders_keep row sp (live es) then 0 else (if begins (kept_at row sp es) (present es) then 1 else 0))
  unfolding lapses_below
  lapses-onward o t h =
      let to : t ≡ present es + (t - present es) = omega arith in
      ap (λ (n : ℕ). length (lapses (kept_at row sp es) n)) to
      ∙ go (orders_keep row sp (live es)) (t - present es) (omega arith) (λ m l u. kept_at-now row sp es o m l)
    where
      go : (b : Bool) (d : ℕ) → 1 ≤ d → ((m : ℕ) → present es ≤ m → m < present es + d → kept_at row sp es m ≡ b)
          → length (lapses (kept_at row sp es) (present es + d))
          ≡ length (lapses (kept_at row sp es) (present es)) + (if b then 0 else (if begins (kept_at row sp es) (present es) then 1 else 0))
      go true d l k = lapses-kept (kept_at row sp es) (present es) d k ∙ omega arith
      go false d l k = lapses-missing (kept_at row sp es) (present es) d l k

  -- then the millisecond before the present is as they have it
  pub before-onward : Ordered 0 es → (t : ℕ) → present es < t → before (kept_at row sp es) t ≡ orders_keep row sp (live es)
  before-onward o t h = before_piece (kept_at row sp es) (orders_keep row sp (live es)) (present es) t h (λ m l u. kept_at-now row sp es o m l)

  -- an event changes nothing below its own time
  pub lapses-snoc : (e : Event) (n : ℕ) → n ≤ time_of e → lapses_below row sp (es ++ (e ∷ [])) n ≡ lapses_below row sp es n
  unfolding lapses_below lapses
  lapses-snoc e n h =
      ap length
      (stretches_ext (missing (kept_at row sp (es ++ (e ∷ [])))) (missing (kept_at row sp es)) n
      (λ m l. ap not (kept_at-snoc row sp es e m (omega arith))))

  pub before-snoc : (e : Event) (n : ℕ) → n ≤ time_of e → before (kept_at row sp (es ++ (e ∷ []))) n ≡ before (kept_at row sp es) n
  before-snoc e n h =
      before_ext (kept_at row sp (es ++ (e ∷ []))) (kept_at row sp es) n (λ m l. kept_at-snoc row sp es e m (omega arith))
