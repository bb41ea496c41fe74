-- What the private functions promise each other.
use Rattle.std.specs.Prelude.{ℕ, ◌≡◌, List, [], ◌∷◌, ℤ, Option, None, Some}
use Rattle.rules.specs.declared.Side.{Side}
use Rattle.rules.specs.Units.{steps, contracts}
use Rattle.rules.specs.Digits.{word_in, steps_in}
use Rattle.rules.specs.Fields.{Field, values_of}
use Rattle.rules.specs.Messages.{side_tag, volume_tag, price_tag, once, side_in, ◌>>=◌}
use Rattle.fix_fields.specs.Spans.{Spanned}
use Rattle.fix_reader.specs.declared.Terms.{Terms}

-- the slots hold the values of some fields
pub record Filled (b spans : List ℕ) : Type 0 where
  pub fs : List Field
  pub spanned : Spanned b spans fs

-- the answer is what the fields mean, whichever these are
abbrev pub Says : {A : Type 0} → List ℕ → List ℕ → A → (List Field → A) → Type 0
Says b spans answer meaning = (fs : List Field) → Spanned b spans fs → answer ≡ meaning fs

-- the one value of a tag
abbrev pub only : List (List ℕ) → Option (List ℕ)
only [] = None
only (v ∷ []) = Some v
only (v ∷ w ∷ vs) = None

-- 54, 38 and 44 together
abbrev pub terms_by : Option Side → Option ℕ → Option ℤ → Option Terms
terms_by s v p = s >>= λ side. v >>= λ volume. p >>= λ price. Some (record { side = side; volume = contracts volume; price = steps price })

unfoldable pub terms_in : List Field → Option Terms
terms_in fs = terms_by (once side_in (values_of side_tag fs)) (once word_in (values_of volume_tag fs)) (once steps_in (values_of price_tag fs))
