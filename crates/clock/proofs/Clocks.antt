-- From the clock to the accepted events that it represents, and back.
use Rattle.std.specs.Prelude.{if◌then◌else◌}
use Prim.Native.Nat.{ℕ, zero, suc, ◌+◌, ◌*◌, ◌-◌, ◌≤◌, ◌<◌}
use mathlib.Core.Path.{◌≡◌, refl, ap, sym, ◌∙◌}
use mathlib.Core.Bool.{Bool, true, false, ◌||◌}
use lib.Dec.{ltb, eqb}
use mathlib.Core.List.{List, [], ◌∷◌, ◌++◌}
use native.Mathlib.Omega.{arith}
use native.Mathlib.Nat.{le_refl}
use borrow.Author.Tests.{lt-ltb, le-ltb, ltb-true, ltb-false, eq-eqb, ne_eqb}
use Rattle.rules.specs.declared.Millis.{Millis}
use Rattle.rules.specs.declared.Row.{Row}
use Rattle.rules.specs.declared.SpreadRule.{SpreadRule}
use Rattle.rules.specs.declared.SpreadRule.TheVariants.{Settled, OfStrike}
use Rattle.rules.specs.declared.Event.{Event}
use Rattle.rules.specs.declared.Order.{Order}
use Rattle.rules.specs.Units.{millis}
use Rattle.rules.specs.Orders.{live, present, time_of, apply}
use Rattle.rules.specs.Kept.{orders_keep, kept_at, kept_below}
use Rattle.rules.specs.Runs.{before}
use Rattle.rules.specs.Lapses.{lapses_below, begins}
use Rattle.rules.specs.Bounds.{EventBounds}
use Rattle.rules.proofs.Orders.{live-snoc, present-snoc}
use Rattle.rules.proofs.Kept.{kept-onward, kept-snoc, kept-le}
use Rattle.rules.proofs.Lapses.{lapses_below-le, lapses-onward, before-onward, lapses-snoc, before-snoc}
use Rattle.strike.proofs.Rounding.{strike_law}
use Rattle.price_keys.specs.Widest.{WidestFor}
use Rattle.price_keys.proofs.Spread.{widest_law}
use Rattle.clock.specs.declared.Duty.{Duty}
use Rattle.clock.specs.declared.Clock.{Clock}
use Rattle.clock.specs.Clocks.{widest_for, duty_of, clock_of, Onward, starting_by, ran_on}

-- what is fixed at open says the same as the definition
pub widest_for_lem : (row : Row) (sp : SpreadRule) → WidestFor row sp (widest_for row sp)
widest_for_lem row (Settled sp) d = widest_law row.a row.b sp.0 d
widest_for_lem row (OfStrike s) d = strike_law s d

-- 1 or 0
abbrev pub one : Bool → ℕ
one b = if b then 1 else 0

-- ---- whether a lapse starts, by numbers: k and l are 0 or 1

abbrev starts : ℕ → ℕ → ℕ → ℕ
starts k t l = if eqb k 1 then 0 else (if eqb t 0 || eqb l 1 then 1 else 0)

pub starts_first : (k t l : ℕ) → k ≤ 1 → t ≡ 0 → (1 - k ≡ starts k t l) × (1 - k ≤ 1)
starts_first zero t l h e = (rw (eq-eqb t 0 e) refl, omega arith)
starts_first (suc zero) t l h e = (refl, omega arith)
starts_first (suc (suc k)) t l h e = absurd (omega (arith, h))

pub starts_later : (k t l : ℕ) → k ≤ 1 → l ≤ 1 → (t ≡ 0 → ⊥) → ((1 - k) * l ≡ starts k t l) × ((1 - k) * l ≤ 1)
starts_later zero t zero h g f = (rw (ne_eqb t 0 f) refl, omega arith)
starts_later zero t (suc zero) h g f = (rw (ne_eqb t 0 f) refl, omega arith)
starts_later zero t (suc (suc l)) h g f = absurd (omega (arith, g))
starts_later (suc zero) t l h g f = (omega arith, omega arith)
starts_later (suc (suc k)) t l h g f = absurd (omega (arith, h))

-- ---- whether time passes

module _ (c : Clock) (t : Millis) (keeps : ℕ) where
  abbrev total : Millis
  total = millis (c.kept.0 + c.keeps * (t.0 - c.time.0))

  pub ran_later : c.time.0 < t.0 → (n : ℕ) → n ≡ starting_by c
      → ◌≡◌ {A = Clock} (record { time = t; kept = total; keeps = keeps; lapses = c.lapses + n; last = c.keeps }) (ran_on c t keeps)
  ran_later h n e =
      let later = sym (lt-ltb c.time.0 t.0 h) in
      λ i.
      record {
        time = t;
        kept = total;
        keeps = keeps;
        lapses = (ap (λ (k : ℕ). c.lapses + k) e ∙ ap (λ (b : Bool). if b then c.lapses + starting_by c else c.lapses) later) i;
        last = ap (λ (b : Bool). if b then c.keeps else c.last) later i;
      }

  pub ran_still : t.0 ≤ c.time.0
      → ◌≡◌ {A = Clock} (record { time = t; kept = total; keeps = keeps; lapses = c.lapses; last = c.last }) (ran_on c t keeps)
  ran_still h =
      let still = sym (le-ltb c.time.0 t.0 h) in
      λ i.
      record {
        time = t;
        kept = total;
        keeps = keeps;
        lapses = ap (λ (b : Bool). if b then c.lapses + starting_by c else c.lapses) still i;
        last = ap (λ (b : Bool). if b then c.keeps else c.last) still i;
      }

-- ---- the fields

pub length_of_lem : (row : Row) (sp : SpreadRule) (duty : Duty) → duty ≡ duty_of row sp → duty.length.0 ≡ row.length.0
unfolding duty_of
length_of_lem row sp duty is = ap (λ (x : Duty). x.length.0) is

module _ (row : Row) (sp : SpreadRule) (es : List Event) (clock : Clock) (is : clock ≡ clock_of row sp es) where
  pub time_is : clock.time.0 ≡ present es
  unfolding clock_of
  time_is = ap (λ (x : Clock). x.time.0) is

  pub kept_is : clock.kept.0 ≡ kept_below row sp es (present es)
  unfolding clock_of
  kept_is = ap (λ (x : Clock). x.kept.0) is

  pub keeps_is : clock.keeps ≡ one (orders_keep row sp (live es))
  unfolding clock_of
  keeps_is = ap (λ (x : Clock). x.keeps) is

  lapses_is : clock.lapses ≡ lapses_below row sp es (present es)
  unfolding clock_of
  lapses_is = ap (λ (x : Clock). x.lapses) is

  pub last_is : clock.last ≡ one (before (kept_at row sp es) (present es))
  unfolding clock_of
  last_is = ap (λ (x : Clock). x.last) is

  -- ---- time runs on

  keeps_small : (b : Bool) → one b ≤ 1
  keeps_small true = omega arith
  keeps_small false = omega arith

  pub onward : (t : Millis) → clock.time.0 ≤ t.0 → Onward clock t
  onward t h =
      record {
        kept_most = omega (arith, kept_is, time_is, kept-le row sp es (present es));
        onward = h;
        keeps_most = omega (arith, keeps_is, keeps_small (orders_keep row sp (live es)));
        lapses_most = omega (arith, lapses_is, time_is, lapses_below-le row sp es (present es));
        last_most = omega (arith, last_is, keeps_small (before (kept_at row sp es) (present es)));
      }

  times : (b : Bool) (n : ℕ) → one b * n ≡ (if b then n else 0)
  times true n = omega arith
  times false n = omega arith

  -- the quotes kept, or they did not
  pub kept-at : EventBounds row es → (t : ℕ) → clock.time.0 ≤ t → clock.kept.0 + clock.keeps * (t - clock.time.0) ≡ kept_below row sp es t
  kept-at g t h =
      let later : present es ≤ t = omega (arith, time_is) in
      let more : clock.keeps * (t - clock.time.0) ≡ (if orders_keep row sp (live es) then t - present es else 0) =
      ap (λ (n : ℕ). n * (t - clock.time.0)) keeps_is
      ∙ ap (λ (n : ℕ). one (orders_keep row sp (live es)) * (t - n)) time_is
      ∙ times (orders_keep row sp (live es)) (t - present es) in
      omega (arith, kept-onward row sp es g.ordered t later, more, kept_is)

  is_one : (b : Bool) → eqb (one b) 1 ≡ b
  is_one true = refl
  is_one false = refl

  -- a lapse starts or not
  starting_is : starting_by clock ≡ (if orders_keep row sp (live es) then 0 else (if begins (kept_at row sp es) (present es) then 1 else 0))
  starting_is =
      ap (λ (n : ℕ). if eqb n 1 then 0 else (if eqb clock.time.0 0 || eqb clock.last 1 then 1 else 0)) keeps_is
      ∙ ap (λ (b : Bool). if b then 0 else (if eqb clock.time.0 0 || eqb clock.last 1 then 1 else 0)) (is_one (orders_keep row sp (live es)))
      ∙ ap (λ (n : ℕ). if orders_keep row sp (live es) then 0 else (if eqb n 0 || eqb clock.last 1 then 1 else 0)) time_is
      ∙ ap (λ (n : ℕ). if orders_keep row sp (live es) then 0 else (if eqb (present es) 0 || eqb n 1 then 1 else 0)) last_is
      ∙ ap (λ (b : Bool). if orders_keep row sp (live es) then 0 else (if eqb (present es) 0 || b then 1 else 0))
      (is_one (before (kept_at row sp es) (present es)))

  pub lapses-at : EventBounds row es → (t : ℕ) → clock.time.0 ≤ t
      → (if ltb clock.time.0 t then clock.lapses + starting_by clock else clock.lapses) ≡ lapses_below row sp es t
  lapses-at g t h = go (ltb clock.time.0 t) refl
    where
      go : (b : Bool) → ltb clock.time.0 t ≡ b → (if b then clock.lapses + starting_by clock else clock.lapses) ≡ lapses_below row sp es t
      go true e =
          let later : present es < t = omega (arith, ltb-true clock.time.0 t e, time_is) in
          omega (arith, lapses_is, starting_is, lapses-onward row sp es g.ordered t later)
      go false e =
          let same : present es ≡ t = omega (arith, h, ltb-false clock.time.0 t e, time_is) in
          lapses_is ∙ ap (lapses_below row sp es) same

  last_at : EventBounds row es → (t : ℕ) → clock.time.0 ≤ t
      → (if ltb clock.time.0 t then clock.keeps else clock.last) ≡ one (before (kept_at row sp es) t)
  last_at g t h = go (ltb clock.time.0 t) refl
    where
      go : (b : Bool) → ltb clock.time.0 t ≡ b → (if b then clock.keeps else clock.last) ≡ one (before (kept_at row sp es) t)
      go true e =
          let later : present es < t = omega (arith, ltb-true clock.time.0 t e, time_is) in
          keeps_is ∙ ap one (sym (before-onward row sp es g.ordered t later))
      go false e =
          let same : present es ≡ t = omega (arith, h, ltb-false clock.time.0 t e, time_is) in
          last_is ∙ ap (λ (n : ℕ). one (before (kept_at row sp es) n)) same

  -- at an accepted event
  pub clock_event : EventBounds row es → (e : Event) (t : Millis) (keeps : ℕ) → t.0 ≡ time_of e → clock.time.0 ≤ t.0
      → keeps ≡ one (orders_keep row sp (apply (live es) e)) → ran_on clock t keeps ≡ clock_of row sp (es ++ (e ∷ []))
  unfolding clock_of
  clock_event g e t keeps f h k = λ i.
      record {
        time = record { 0 = (f ∙ sym (present-snoc es e)) i };
        kept = record {
          0 = (kept-at g t.0 h
              ∙ ap (kept_below row sp es) f
              ∙ sym (kept-snoc row sp es e (time_of e) (le_refl (time_of e)))
              ∙ ap (kept_below row sp (es ++ (e ∷ []))) (sym (present-snoc es e))) i;
        };
        keeps = (k ∙ ap (λ (l : List Order). one (orders_keep row sp l)) (sym (live-snoc es e))) i;
        lapses = (lapses-at g t.0 h
            ∙ ap (lapses_below row sp es) f
            ∙ sym (lapses-snoc row sp es e (time_of e) (le_refl (time_of e)))
            ∙ ap (lapses_below row sp (es ++ (e ∷ []))) (sym (present-snoc es e))) i;
        last = (last_at g t.0 h
            ∙ ap (λ (n : ℕ). one (before (kept_at row sp es) n)) f
            ∙ ap one (sym (before-snoc row sp es e (time_of e) (le_refl (time_of e))))
            ∙ ap (λ (n : ℕ). one (before (kept_at row sp (es ++ (e ∷ []))) n)) (sym (present-snoc es e))) i;
      }
