-- The lent words: what a row that is read is known for, and the words after easing.
use Prim.Native.Nat.{ℕ}
use native.Mathlib.Omega.{arith}
use mathlib.Core.Path.{◌≡◌, refl, sym, ap}
use mathlib.Core.List.{List, [], ◌∷◌}
use mathlib.Core.Bool.{Bool, true, false, true≢false, not}
use borrow.Author.Tests.{eqb-true}
use lib.Dec.{eqb}
use lib.ListN.{length, set}
use Rattle.rules.specs.declared.Row.{Row}
use Rattle.rules.specs.declared.SpreadRule.{SpreadRule}
use Rattle.rules.specs.Terms.{paper}
use Rattle.rules.specs.Units.{contracts}
use Rattle.rules.specs.Rows.{row_of, good_row_for}
use Rattle.rules.specs.Answers.{Outcome, accepted, refused, outcome_by}
use Rattle.rules.specs.Causes.{cause, first_number, read_row}
use Rattle.std.specs.Prelude.{Result, Ok, Err}
use Rattle.volatile.specs.declared.UnusablePrices.{UnusablePrices}
use Rattle.volatile.specs.Answers.{shown_day}
use Rattle.ease.specs.Easing.{most_a, most_b, doubled, halved, eased_row, words_of, eased_by, eased, eased_if, is_inside}

module _ (spread : SpreadRule) (words : List ℕ) where
  -- 1 and 2 pass the words, and the row is theirs
  pub record Read (row : Row) : Type 0 where
    pub seven : length words ≡ 7
    pub good : good_row_for paper spread (row_of words) ≡ true
    pub is : row ≡ row_of words

  -- the answer by the two tests
  abbrev read_by : Bool → Bool → Outcome Row
  read_by seven good = outcome_by (first_number (cause 1 (not seven) ∷ cause 2 (not good) ∷ [])) (row_of words)

  pub was_read : (row : Row) → accepted row ≡ read_row paper spread words → Read row
  unfolding read_row first_number
  was_read row e = go (eqb (length words) 7) (good_row_for paper spread (row_of words)) refl refl e
    where
      clash : (n : ℕ) → accepted row ≡ refused n → ⊥
      clash n f = let z : ◌≡◌ {A = ℕ} 0 1 = cc in omega arith

      go : (seven good : Bool) → eqb (length words) 7 ≡ seven → good_row_for paper spread (row_of words) ≡ good → accepted row ≡ read_by seven good → Read row
      go true true s g f = record { seven = eqb-true (length words) 7 s; good = g; is = cc }
      go true false s g f = absurd (clash 2 f)
      go false good s g f = absurd (clash 1 f)

  pub eased_is : (row : Row) → accepted row ≡ read_row paper spread words → words_of (eased_row spread row) ≡ eased spread words
  unfolding eased
  eased_is row e = ap (eased_by spread words) e

  pub not_eased : (n : ℕ) → refused n ≡ read_row paper spread words → words ≡ eased spread words
  unfolding eased
  not_eased n e = ap (eased_by spread words) e

-- three of the seven words set
set_three : (words : List ℕ) (m a b : ℕ) → length words ≡ 7
    → set (set (set words 3 m) 4 a) 5 b
    ≡ words_of
    (record {
      expiry = (row_of words).expiry;
      quantum = (row_of words).quantum;
      length = (row_of words).length;
      minimum = contracts m;
      a = a;
      b = b;
      share = (row_of words).share;
    })
unfolding words_of row_of
set_three (e ∷ q ∷ l ∷ _ ∷ _ ∷ _ ∷ p ∷ []) m a b h = refl
set_three [] m a b h = absurd (omega arith)
set_three (e ∷ []) m a b h = absurd (omega arith)
set_three (e ∷ q ∷ []) m a b h = absurd (omega arith)
set_three (e ∷ q ∷ l ∷ []) m a b h = absurd (omega arith)
set_three (e ∷ q ∷ l ∷ w3 ∷ []) m a b h = absurd (omega arith)
set_three (e ∷ q ∷ l ∷ w3 ∷ w4 ∷ []) m a b h = absurd (omega arith)
set_three (e ∷ q ∷ l ∷ w3 ∷ w4 ∷ w5 ∷ []) m a b h = absurd (omega arith)
set_three (e ∷ q ∷ l ∷ w3 ∷ w4 ∷ w5 ∷ p ∷ w ∷ ws) m a b h = absurd (omega arith)

module _ (spread : SpreadRule) (words : List ℕ) (row : Row) (read : accepted row ≡ read_row paper spread words) where
  -- what `ease` has set
  pub eased_words : (m a b : ℕ) → m ≡ halved row.minimum.0 → a ≡ doubled spread most_a row.a → b ≡ doubled spread most_b row.b
      → set (set (set words 3 m) 4 a) 5 b ≡ eased spread words
  unfolding eased_row
  eased_words m a b e f g =
      let r = was_read spread words row read in
      let three = set_three words m a b r.seven in
      let i = r.is in
      let done = eased_is spread words row read in
      cc

-- ---- by the answer

no : false ≡ true → ⊥
no e = true≢false (sym e)

module _ (spread : SpreadRule) (words : List ℕ) where
  pub if_inside : (answer : Result Bool UnusablePrices) {shown : Outcome Bool} → shown_day answer ≡ shown → is_inside answer ≡ true → eased spread words ≡ eased_if shown spread words
  unfolding eased_if
  if_inside (Ok true) e h = ap (λ (o : Outcome Bool). eased_if o spread words) e
  if_inside (Ok false) e h = absurd (no h)
  if_inside (Err _) e h = absurd (no h)

  pub if_not : (answer : Result Bool UnusablePrices) {shown : Outcome Bool} → shown_day answer ≡ shown → is_inside answer ≡ false → words ≡ eased_if shown spread words
  unfolding eased_if
  if_not (Ok true) e h = absurd (no (sym h))
  if_not (Ok false) e h = ap (λ (o : Outcome Bool). eased_if o spread words) e
  if_not (Err _) e h = ap (λ (o : Outcome Bool). eased_if o spread words) e
