-- What is read of a time, and what every time that was read keeps.
use Rattle.std.proofs.Common.{Option, None, Some, Ok, ok_or}
use Prim.Native.Nat.{ℕ, ◌+◌, ◌*◌, ◌-◌, ◌≤◌, ◌<◌}
use mathlib.Core.Path.{◌≡◌, refl, sym, ap, ◌∙◌}
use mathlib.Core.Bool.{Bool, true, false, ◌&&◌}
use mathlib.Core.List.{List}
use native.Mathlib.Omega.{arith}
use lib.ListN.{length, get_or}
use Rattle.rules.specs.declared.Timestamp.{Timestamp}
use Rattle.rules.specs.Answers.{refused}
use Rattle.rules.specs.Dates.{form, has_form, part, parts_of, good_date, good_clock, time_in, moment_from, since}
use Rattle.lists.proofs.Lists.{both}
use Rattle.fix_dates.specs.Times.{Timed}
use Rattle.fix_dates.proofs.Forms.{form-length, digits_at, three_is, four_is}
use Rattle.fix_digits.proofs.Numbers.{digit_to}
use Rattle.fix_dates.specs.Internal.{DigitsAt}

module _ (v : List ℕ) where
  pub no_form : has_form form v ≡ false → None ≡ time_in v
  unfolding time_in
  no_form h = rw h refl

  pub other_length : (length v ≡ 21 → ⊥) → None ≡ time_in v
  other_length h = no_form (by (has_form form v) refl)
    where
      by : (t : Bool) → has_form form v ≡ t → t ≡ false
      by true e = absurd (h (form-length form v e))
      by false e = refl

  no_time : has_form form v ≡ true → good_date (parts_of v) && good_clock (parts_of v) ≡ false → None ≡ time_in v
  unfolding time_in
  no_time h k = rw (h, k) refl

  a_time : has_form form v ≡ true → good_date (parts_of v) && good_clock (parts_of v) ≡ true → Some (parts_of v) ≡ time_in v
  unfolding time_in
  a_time h k = rw (h, k) refl

-- ---- what a time that was read keeps
digit_most : (v : List ℕ) (from n i : ℕ) → DigitsAt v from n → i < n → get_or v (from + i) 0 - 48 ≤ 9
digit_most v from n i d h = omega (arith, digit_to (get_or v (from + i) 0) (d.digits i h))

years_most : (v : List ℕ) → DigitsAt v 0 4 → part v 0 4 ≤ 9999
years_most v d =
    rw (four_is v 0 d.inside)
    (sums (get_or v 0 0 - 48) (get_or v 1 0 - 48) (get_or v 2 0 - 48) (get_or v 3 0 - 48)
    (digit_most v 0 4 0 d (omega arith)) (digit_most v 0 4 1 d (omega arith)) (digit_most v 0 4 2 d (omega arith)) (digit_most v 0 4 3 d (omega arith)))
  where
    sums : (a b c d : ℕ) → a ≤ 9 → b ≤ 9 → c ≤ 9 → d ≤ 9 → (a * 10 + b) * 100 + (c * 10 + d) ≤ 9999
    sums a b c d h i j k = omega arith

thousandths_most : (v : List ℕ) → DigitsAt v 18 3 → part v 18 3 ≤ 999
thousandths_most v d =
    rw (three_is v 18 d.inside)
    (sums (get_or v 18 0 - 48) (get_or v 19 0 - 48) (get_or v 20 0 - 48)
    (digit_most v 18 3 0 d (omega arith)) (digit_most v 18 3 1 d (omega arith)) (digit_most v 18 3 2 d (omega arith)))
  where
    sums : (a b c : ℕ) → a ≤ 9 → b ≤ 9 → c ≤ 9 → (a * 10 + b) * 10 + c ≤ 999
    sums a b c h i j = omega arith

never : {s : Timestamp} → None ≡ Some s → ⊥
never q = let z : ◌≡◌ {A = ℕ} 0 1 = cc in omega arith

some_is : {a b : Timestamp} → Some a ≡ Some b → a ≡ b
some_is q = cc

-- the tests passed, or nothing was read
record Passed (v : List ℕ) (s : Timestamp) : Type 0 where
  formed : has_form form v ≡ true
  date : good_date s ≡ true
  clock : good_clock s ≡ true
  parts : parts_of v ≡ s

passed : (v : List ℕ) (s : Timestamp) → time_in v ≡ Some s → Passed v s
passed v s e = by (has_form form v) (good_date (parts_of v) && good_clock (parts_of v)) refl refl
  where
    by : (a b : Bool) → has_form form v ≡ a → good_date (parts_of v) && good_clock (parts_of v) ≡ b → Passed v s
    by true true h k =
        let is : parts_of v ≡ s = some_is (a_time v h k ∙ e) in
        let g = both (good_date (parts_of v)) (good_clock (parts_of v)) k in
        record { formed = h; date = ap good_date (sym is) ∙ g.0; clock = ap good_clock (sym is) ∙ g.1; parts = is }
    by true false h k = absurd (never (no_time v h k ∙ e))
    by false b h k = absurd (never (no_form v h ∙ e))

pub timed : (v : List ℕ) (s : Timestamp) → time_in v ≡ Some s → Timed s
unfolding parts_of
timed v s e =
    let p = passed v s e in
    record {
      date = p.date;
      clock = p.clock;
      years = rw (sym (ap (λ (t : Timestamp). t.year) p.parts)) (years_most v (digits_at v p.formed 0 4 (omega arith) refl));
      thousandths = rw (sym (ap (λ (t : Timestamp). t.millis) p.parts)) (thousandths_most v (digits_at v p.formed 18 3 (omega arith) refl));
    }

-- an answer where there was one
pub told_some : {A E : Type 0} (o : Option A) (e : E) (x : A) → ok_or o e ≡ Ok x → o ≡ Some x
told_some None e x h = absurd (let z : ◌≡◌ {A = ℕ} 0 1 = cc in omega arith)
told_some (Some y) e x h = cc

-- ---- one time from another
module _ (start sixty : List ℕ) where
  pub no_sixty : None ≡ time_in sixty → refused 21 ≡ since start sixty
  unfolding since
  no_sixty h = rw (sym h) (by (time_in start))
    where
      by : (o : Option Timestamp) → refused 21 ≡ moment_from o None
      by None = refl
      by (Some t) = refl

  pub with_sixty : (t : Timestamp) → Some t ≡ time_in sixty → moment_from (time_in start) (Some t) ≡ since start sixty
  unfolding since
  with_sixty t h = ap (moment_from (time_in start)) h

-- ---- the last test, by what the code holds
module _ (v : List ℕ) (s : Timestamp) (a b : Bool) (is : s ≡ parts_of v) (d : a ≡ good_date s) (k : b ≡ good_clock s) (h : has_form form v ≡ true) where
  tests : a && b ≡ good_date (parts_of v) && good_clock (parts_of v)
  tests = λ i. (d ∙ ap good_date is) i && (k ∙ ap good_clock is) i

  pub found : a && b ≡ true → Some s ≡ time_in v
  found t = ap Some is ∙ a_time v h (sym tests ∙ t)

  pub lost : a && b ≡ false → None ≡ time_in v
  lost t = no_time v h (sym tests ∙ t)
