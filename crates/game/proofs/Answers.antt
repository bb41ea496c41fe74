-- The answer by the test of the numbers, and that two different answers never show the same.
use Prim.Native.Nat.{ℕ}
use mathlib.Core.Path.{◌≡◌, refl, sym, ap}
use mathlib.Core.Bool.{true, false, ◌||◌}
use Rattle.rules.specs.Answers.{Outcome, accepted, refused}
use Rattle.rules.specs.Causes.{first_number}
use Rattle.rules.proofs.Answers.{not_refused}
use Rattle.std.specs.Prelude.{Result, Ok, Err}
use Rattle.game.specs.declared.AboveSixty.{AboveSixty}
use Rattle.game.specs.Value.{value}
use Rattle.game.specs.Answers.{is_above, safe_minutes, shown_safe}

module _ (m h k : ℕ) where
  pub refused_26 : (is_above m || is_above h || is_above k) ≡ true → refused 26 ≡ safe_minutes m h k
  unfolding safe_minutes first_number
  refused_26 e = simp e

  pub answered : (is_above m || is_above h || is_above k) ≡ false → accepted (value m h k) ≡ safe_minutes m h k
  unfolding safe_minutes first_number
  answered e = simp e

same_minutes : (a b : ℕ) → ◌≡◌ {A = Outcome ℕ} (accepted a) (accepted b) → a ≡ b
same_minutes a b e = cc

pub safe_shown : (a b : Result ℕ AboveSixty) → shown_safe a ≡ shown_safe b → a ≡ b
safe_shown (Ok g) (Ok f) e = ap Ok (same_minutes g f e)
safe_shown (Ok g) (Err s) e = absurd (not_refused _ _ e)
safe_shown (Err r) (Ok f) e = absurd (not_refused _ _ (sym e))
safe_shown (Err r) (Err s) e = refl
