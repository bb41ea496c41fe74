-- Which calls show something, by the tags of what was decoded.
use Prim.Native.Nat.{ℕ}
use mathlib.Core.Path.{◌≡◌, refl, sym, ap, ◌∙◌}
use mathlib.Core.Logic.{◌⊎◌, inl, inr}
use mathlib.Core.Bool.{Bool, true, false, true≢false, ◌||◌}
use mathlib.Core.List.{List, [], ◌∷◌}
use borrow.Author.Tests.{eq-eqb}
use lib.Dec.{eqb}
use Rattle.lists.proofs.Members.{or_second}
use denote.Enum.Declared.{tag_of}
use types.Run.{OneOf}
use Rattle.call_blocks.specs.declared.Decoded.{Decoded}
use Rattle.call_blocks.specs.declared.Decoded.TheVariants as D
use Rattle.call_blocks.specs.contracts.Decoded.{the_type}
use Rattle.month_words.specs.Internal.{is_shown}

-- one of these numbers
abbrev Among : ℕ → List ℕ → ℕ → Type 0
Among k [] x = x ≡ k
Among k (j ∷ ks) x = (x ≡ k) ⊎ Among j ks x

unfoldable among : ℕ → List ℕ → ℕ → Bool
among k [] x = eqb x k
among k (j ∷ ks) x = eqb x k || among j ks x

first : (a b : Bool) → a ≡ true → (a || b) ≡ true
first true b e = refl
first false b e = absurd (true≢false (sym e))

tested : (k : ℕ) (ks : List ℕ) (x : ℕ) → Among k ks x → among k ks x ≡ true
unfolding among
tested k [] x e = eq-eqb x k e
tested k (j ∷ ks) x (inl e) = first (eqb x k) (among j ks x) (eq-eqb x k e)
tested k (j ∷ ks) x (inr s) = or_second (eqb x k) (tested j ks x s)

never : {A : Type 0} (k : ℕ) (ks : List ℕ) (x : ℕ) → among k ks x ≡ false → Among k ks x → A
never k ks x f s = absurd (true≢false (sym (tested k ks x s) ∙ f))

pub tags_shown : (d : Decoded) → OneOf (3 ∷ 9 ∷ 10 ∷ 11 ∷ []) (tag_of the_type d) → is_shown d ≡ true
unfolding among
tags_shown (D.Open day opening) s = never 3 (9 ∷ 10 ∷ 11 ∷ []) 0 refl s
tags_shown (D.Send e) s = never 3 (9 ∷ 10 ∷ 11 ∷ []) 1 refl s
tags_shown D.Message s = never 3 (9 ∷ 10 ∷ 11 ∷ []) 2 refl s
tags_shown (D.Ask a) s = refl
tags_shown (D.Commit a ticket) s = never 3 (9 ∷ 10 ∷ 11 ∷ []) 4 refl s
tags_shown (D.Close active passive) s = never 3 (9 ∷ 10 ∷ 11 ∷ []) 5 refl s
tags_shown D.Drop s = never 3 (9 ∷ 10 ∷ 11 ∷ []) 6 refl s
tags_shown (D.Charge day expiry quantum active passive) s = never 3 (9 ∷ 10 ∷ 11 ∷ []) 7 refl s
tags_shown (D.Withdraw day expiry quantum) s = never 3 (9 ∷ 10 ∷ 11 ∷ []) 8 refl s
tags_shown (D.Look day expiry quantum) s = refl
tags_shown D.Report s = refl
tags_shown D.Outlook s = refl

abbrev rest : List ℕ
rest = 1 ∷ 2 ∷ 4 ∷ 5 ∷ 6 ∷ 7 ∷ 8 ∷ []

pub tags_unshown : (d : Decoded) → OneOf (0 ∷ rest) (tag_of the_type d) → is_shown d ≡ false
unfolding among
tags_unshown (D.Open day opening) s = refl
tags_unshown (D.Send e) s = refl
tags_unshown D.Message s = refl
tags_unshown (D.Ask a) s = never 0 rest 3 refl s
tags_unshown (D.Commit a ticket) s = refl
tags_unshown (D.Close active passive) s = refl
tags_unshown D.Drop s = refl
tags_unshown (D.Charge day expiry quantum active passive) s = refl
tags_unshown (D.Withdraw day expiry quantum) s = refl
tags_unshown (D.Look day expiry quantum) s = never 0 rest 9 refl s
tags_unshown D.Report s = never 0 rest 10 refl s
tags_unshown D.Outlook s = never 0 rest 11 refl s
