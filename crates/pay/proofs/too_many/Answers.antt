-- The call and the definition are true alike: where some count is above 15.
use Rattle.std.proofs.Common.{ℕ, ◌<◌, ◌≤◌, Bool, true, false, List, length, Decides, MatchBool, refl, arith, rules, tests}
use Rattle.std.specs.List.{HoldsAt, AllWithin}
use Rattle.std.proofs.lemmas.Iterator.{cases_from_any, YieldsList-from_slice}
use Rattle.std.proofs.lemmas.Bool.{false≢true}
use Rattle.std.proofs.lemmas.Bool.Decides.{same_from_decides, Decides-by_or, Decides-ltb}
use Rattle.lists.specs.Lists.{any}
use Rattle.pay.proofs.Series.{over}
use Rattle.pay.proofs.too_many.Goals as goal

abbrev HasOver : List ℕ → Type 0
HasOver xs = (k : ℕ) × (k < length xs) × HoldsAt (λ x. 15 < x) xs k

Decides-from_cases : (r : Bool) (xs : List ℕ) → MatchBool r (HasOver xs) (AllWithin (λ x. x ≤ 15) xs 0 (length xs)) → Decides r (HasOver xs)
Decides-from_cases true xs h = (λ _. h, λ _. refl)
Decides-from_cases false xs h = (λ e. absurd (false≢true e), λ w. absurd (omega (arith, h w.0 0 (omega arith) w.1, w.2 0)))

pub returns : goal.returns
unfolding any
returns c =
    let xs = c.args.counts in
    let by_call = cases_from_any _ _ _ (λ x. 15 < x) (λ x. x ≤ 15) c.any.ensures.ran (YieldsList-from_slice xs cc) (λ x q k. search (rules, tests)) (λ x q k. search (rules, tests)) in
    let by_spec = Decides-by_or over (λ x. 15 < x) (any over) (Decides-ltb 15) refl (λ _ _. refl) xs in
    same_from_decides _ (any over xs) (Decides-from_cases _ xs by_call) by_spec
