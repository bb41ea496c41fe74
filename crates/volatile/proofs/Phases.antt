-- The phase that the code carries is that of the day, by the periods.
use Prim.Native.Nat.{ℕ, suc, ◌/◌, ◌≤◌, ◌<◌}
use native.Mathlib.Numerals.{add-one}
use mathlib.Core.Path.{◌≡◌, refl, sym, ap, ◌∙◌, subst}
use mathlib.Core.List.{List}
use mathlib.Core.Bool.{Bool, true, false, true≢false, ◌&&◌}
use borrow.Author.Tests.{ltb-true, ltb-false, lt-ltb, lt-leb, le-leb}
use lib.Dec.{leb, ltb}
use lib.ListN.{length}
use mathlib.Core.Logic.{◌⊎◌, inl, inr}
use Rattle.std.proofs.lemmas.Bool.{cases_lt}
use Rattle.lists.specs.Lists.{any}
use Rattle.lists.proofs.Lists.{both}
use Rattle.std.specs.Prelude.{Option, Some, None, is_some}
use Rattle.volatile.specs.declared.Disturbed.{Disturbed}
use Rattle.volatile.specs.Periods.{is_in, is_early, sigma_on, average, periods}
use Rattle.volatile.specs.Internal.{ends, phase_after, early}
use Rattle.volatile.proofs.Steps as steps
use Rattle.volatile.proofs.Periods.{Current, current_in, stays_out, stays_early, begins-after, begins-early, inside-early, ends-after, goes_on_after, none_yet_early, none_yet_in}

and_second : (a b : Bool) → (a && b) ≡ false → a ≡ true → b ≡ false
and_second true b e h = e
and_second false b e h = absurd (true≢false (sym h))

module _ (sigmas : List ℕ) (threshold : ℕ) where
  pub record Phased (d : ℕ) (p : Option Disturbed) : Type 0 where
    pub is : is_some p ≡ any (is_in d) (periods sigmas threshold d)
    pub current : (q : Disturbed) → p ≡ Some q → Current sigmas threshold d q.first
    pub average_is : (q : Disturbed) → p ≡ Some q → 30 ≤ q.first → q.average ≡ average sigmas q.first
    pub early_is : any is_early (periods sigmas threshold d) ≡ early p

  pub phased_none : Phased 0 None
  phased_none =
      record {
        is = sym (none_yet_in sigmas threshold 0);
        current = λ q e. cc;
        average_is = λ q e. cc;
        early_is = none_yet_early sigmas threshold;
      }

  module _ (d : ℕ) (has : d < length sigmas) (sigma sum : ℕ) (is : sigma ≡ sigma_on sigmas d)
      (thirtieth : 30 ≤ suc d → sum / 30 ≡ average sigmas (suc d)) where
    -- inside: the first day has thirty sigmas before it, so the average carried is that of the period
    module _ (p : Disturbed) (phased : Phased d (Some p)) (not-early : ltb p.first 30 ≡ false) where
      held : Current sigmas threshold d p.first
      held = phased.current p refl

      same-early : {b : Bool} → early (Some p) ≡ b → any is_early (periods sigmas threshold (suc d)) ≡ b
      same-early h = inside-early sigmas threshold d p.first held has ∙ phased.early_is ∙ h

      small_is : leb sigma p.average ≡ leb (sigma_on sigmas d) (average sigmas p.first)
      small_is = let a = phased.average_is p refl (ltb-false p.first 30 not-early) in cc

      ended : ends p d sigma ≡ true → Phased (suc d) None
      ended e =
          let t = both (ltb p.first d) (leb sigma p.average) e in
          record {
            is = sym (ends-after sigmas threshold d p.first held has (ltb-true p.first d t.0) (sym small_is ∙ t.1));
            current = λ q e. cc;
            average_is = λ q e. cc;
            early_is = same-early not-early;
          }

      goes_on : ends p d sigma ≡ false → Phased (suc d) (Some p)
      goes_on e =
          let next =
          goes_on_after sigmas threshold d p.first held has
          (λ l. sym small_is ∙ and_second (ltb p.first d) (leb sigma p.average) e (lt-ltb p.first d l)) in
          record {
            is = sym (current_in sigmas threshold next);
            current = λ q f. let same : p ≡ q = cc in subst (λ (x : Disturbed). Current sigmas threshold (suc d) x.first) same next;
            average_is = phased.average_is;
            early_is = same-early refl;
          }

    module _ (phased : Phased d None) where
      begins : threshold ≤ sigma → Phased (suc d) (Some (record { first = suc d; average = sum / 30 }))
      begins h =
          let out = sym phased.is in
          let least : leb threshold (sigma_on sigmas d) ≡ true = ap (leb threshold) (sym is) ∙ le-leb threshold sigma h in
          let now = begins-after sigmas threshold d out least in
          record {
            is = sym (current_in sigmas threshold now);
            current = λ q f. let same : ◌≡◌ {A = Disturbed} (record { first = suc d; average = sum / 30 }) q = cc in
                subst (λ (x : Disturbed). Current sigmas threshold (suc d) x.first) same now;
            average_is = λ q f. let same : ◌≡◌ {A = Disturbed} (record { first = suc d; average = sum / 30 }) q = cc in
                subst (λ (x : Disturbed). 30 ≤ x.first → x.average ≡ average sigmas x.first) same thirtieth;
            early_is = begins-early sigmas threshold d out least phased.early_is;
          }

      stays_outside : sigma < threshold → Phased (suc d) None
      stays_outside h =
          let out = sym phased.is in
          let below : leb threshold (sigma_on sigmas d) ≡ false = ap (leb threshold) (sym is) ∙ lt-leb threshold sigma h in
          record {
            is = sym (stays_out sigmas threshold d out below);
            current = λ q e. cc;
            average_is = λ q e. cc;
            early_is = stays_early sigmas threshold d out below ∙ phased.early_is;
          }

    pub phase-after : (p : Option Disturbed) → Phased d p → early p ≡ false → Phased (suc d) (phase_after p d sigma threshold sum)
    phase-after (Some p) phased late = go (ends p d sigma) refl
      where
        go : (e : Bool) → ends p d sigma ≡ e → Phased (suc d) (phase_after (Some p) d sigma threshold sum)
        go true e = subst (Phased (suc d)) (steps.ended p d sigma threshold sum e) (ended p phased late e)
        go false e = subst (Phased (suc d)) (steps.goes_on p d sigma threshold sum e) (goes_on p phased late e)
    phase-after None phased late = go (cases_lt sigma threshold)
      where
        go : (sigma < threshold) ⊎ (threshold ≤ sigma) → Phased (suc d) (phase_after None d sigma threshold sum)
        go (inl h) = subst (Phased (suc d)) (steps.none_begun d sigma threshold sum h ∙ steps.none_after d sigma threshold sum) (stays_outside phased h)
        go (inr h) =
            subst (Phased (suc d))
            (ap (λ (f : ℕ). Some (record { first = f; average = sum / 30 })) (sym (add-one d)) ∙ steps.one_begun d sigma threshold sum h ∙ steps.none_after d sigma threshold sum)
            (begins phased h)
