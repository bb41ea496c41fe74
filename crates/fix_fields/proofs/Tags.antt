-- What is a field and what is none, by the bytes up to the first that is no digit.
use Rattle.std.specs.Prelude.{if◌then◌else◌, Option, None, Some}
use Prim.Native.Nat.{ℕ, ◌≤◌, ◌<◌}
use native.Mathlib.Omega.{arith}
use mathlib.Core.Path.{◌≡◌, refl, sym, ap, ◌∙◌}
use mathlib.Core.Bool.{Bool, true, false, ◌&&◌, ◌||◌, not, true≢false, and-false}
use mathlib.Core.List.{List, [], ◌∷◌, ◌++◌, append-nil}
use borrow.Author.Tests.{ne_eqb, eqb-false, le-leb, lt-leb, ltb-true, ltb-false, not-true}
use lib.Dec.{eqb, leb, ltb}
use lib.ListN.{length}
use Rattle.rules.specs.Digits.{is_digit, all_digits}
use Rattle.rules.specs.Fields.{Field, tagged_by, split_field, good_tag, good_field, field_of}
use Rattle.fix_fields.specs.Tags.{piece_of}
use Rattle.fix_digits.proofs.Numbers.{both, digit_from, digit_to}
use Rattle.fix_fields.proofs.Pieces.{clear, clear-head, clear-tail}

-- ---- digits
pub digit_not_one : (b : ℕ) → is_digit b ≡ true → b ≡ 1 → ⊥
digit_not_one b h e = omega (arith, digit_from b h)

pub digit_not_sign : (b : ℕ) → is_digit b ≡ true → b ≡ 61 → ⊥
digit_not_sign b h e = omega (arith, digit_to b h)

pub digits_clear : (t : List ℕ) → all_digits t ≡ true → clear t ≡ true
unfolding all_digits clear
digits_clear [] h = refl
digits_clear (b ∷ t) h =
    let hs = both (is_digit b) (all_digits t) h in
    rw (ne_eqb b 1 (digit_not_one b hs.0)) (digits_clear t hs.1)

pub good_digits : (t : List ℕ) → good_tag t ≡ true → all_digits t ≡ true
unfolding good_tag
good_digits [] h = absurd (true≢false (sym h))
good_digits (b ∷ t) h = (both (all_digits (b ∷ t)) (not (eqb b 48)) h).0

pub piece_clear : (l m : List ℕ) → clear l ≡ true → piece_of (l ++ m) ≡ l ++ piece_of m
unfolding piece_of
piece_clear [] m h = refl
piece_clear (b ∷ l) m h = rw (clear-head b l h, piece_clear l m (clear-tail b l h)) refl

-- ---- a tag and its equals sign
split_sign : (t v : List ℕ) → all_digits t ≡ true → split_field (t ++ (61 ∷ v)) ≡ Some (record { tag = t; value = v })
unfolding all_digits split_field
split_sign [] v h = refl
split_sign (b ∷ t) v h =
    let hs = both (is_digit b) (all_digits t) h in
    rw (ne_eqb b 61 (digit_not_sign b hs.0), split_sign t v hs.1) refl

pub a_field : (t v : List ℕ) → good_tag t ≡ true → 0 < length v → field_of (t ++ (61 ∷ v)) ≡ Some (record { tag = t; value = v })
unfolding field_of
a_field t [] h l = absurd (omega arith)
a_field t (b ∷ v) h l = rw (split_sign t (b ∷ v) (good_digits t h), h) refl

pub no_value : (t : List ℕ) → good_tag t ≡ true → field_of (t ++ (61 ∷ [])) ≡ None
unfolding field_of
no_value t h = rw (split_sign t [] (good_digits t h), h) refl

-- ---- digits and then another byte, or the end
not_good : (t : List ℕ) → all_digits t ≡ false → good_tag t ≡ false
unfolding good_tag
not_good [] h = refl
not_good (b ∷ t) h = rw h refl

without : (o : Option Field) → ((f : Field) → o ≡ Some f → good_tag f.tag ≡ false) → good_field o ≡ None
without None h = refl
without (Some f) h = rw (h f refl) refl

no_sign : (t : List ℕ) → all_digits t ≡ true → split_field t ≡ None
unfolding all_digits split_field
no_sign [] h = refl
no_sign (b ∷ t) h =
    let hs = both (is_digit b) (all_digits t) h in
    rw (ne_eqb b 61 (digit_not_sign b hs.0), no_sign t hs.1) refl

-- the tag that a byte in front makes
tagged : (b : ℕ) (o : Option Field) (f : Field) → tagged_by b o ≡ Some f → (g : Field) × (o ≡ Some g) × (f.tag ≡ b ∷ g.tag)
tagged b None f e = absurd (let z : ◌≡◌ {A = ℕ} 0 1 = cc in omega arith)
tagged b (Some g) f e = (g, refl, ap (λ (x : Field). x.tag) (sym is))
  where
    is : record { tag = b ∷ g.tag; value = g.value } ≡ f
    is = cc

mixed_digits : (ds : List ℕ) (x : ℕ) (p : List ℕ) (f : Field) → is_digit x ≡ false → (x ≡ 61 → ⊥)
    → all_digits ds ≡ true → split_field (ds ++ (x ∷ p)) ≡ Some f → all_digits f.tag ≡ false
unfolding all_digits split_field
mixed_digits [] x p f d s h e =
    let g = tagged x (split_field p) f (rw (ne_eqb x 61 s) at e) in
    rw (g.2, d) refl
mixed_digits (b ∷ ds) x p f d s h e =
    let hs = both (is_digit b) (all_digits ds) h in
    let g = tagged b (split_field (ds ++ (x ∷ p))) f (rw (ne_eqb b 61 (digit_not_sign b hs.0)) at e) in
    rw (g.2, mixed_digits ds x p g.0 d s hs.1 g.1) (and-false (is_digit b))

pub no_tag : (ds : List ℕ) (x : ℕ) (rest : List ℕ) → all_digits ds ≡ true → is_digit x ≡ false → (x ≡ 61 → ⊥)
    → field_of (piece_of (ds ++ (x ∷ rest))) ≡ None
unfolding field_of piece_of
no_tag ds x rest h d s = rw (piece_clear ds (x ∷ rest) (digits_clear ds h)) (by (eqb x 1))
  where
    by : (t : Bool) → good_field (split_field (ds ++ (if t then [] else x ∷ piece_of rest))) ≡ None
    by true = rw (append-nil ds, no_sign ds h) refl
    by false = without (split_field (ds ++ (x ∷ piece_of rest))) (λ f e. not_good f.tag (mixed_digits ds x (piece_of rest) f d s h e))

-- ---- a first byte that begins no tag
first_bad : (x : ℕ) (t : List ℕ) → is_digit x && not (eqb x 48) ≡ false → good_tag (x ∷ t) ≡ false
unfolding good_tag all_digits
first_bad x t h = by (is_digit x) (all_digits t) (not (eqb x 48)) h
  where
    by : (a b c : Bool) → a && c ≡ false → a && b && c ≡ false
    by true true c h = h
    by true false c h = refl
    by false b c h = refl

pub no_first_digit : (x : ℕ) (rest : List ℕ) → is_digit x && not (eqb x 48) ≡ false → field_of (piece_of (x ∷ rest)) ≡ None
unfolding field_of piece_of split_field good_tag
no_first_digit x rest h = by (eqb x 1)
  where
    inner : (t : Bool) → good_field (if t then Some (record { tag = []; value = piece_of rest }) else tagged_by x (split_field (piece_of rest))) ≡ None
    inner true = refl
    inner false =
        without (tagged_by x (split_field (piece_of rest)))
        (λ f e. let g = tagged x (split_field (piece_of rest)) f e in ap good_tag g.2 ∙ first_bad x g.0.tag h)

    by : (t : Bool) → good_field (split_field (if t then [] else x ∷ piece_of rest)) ≡ None
    by true = refl
    by false = inner (eqb x 61)

-- by the code's test of the first byte
below : (n : ℕ) → (n ≡ 48 → ⊥) → n < 49 → n < 48
below n e l = omega arith

pub first_outside : (x : ℕ) → ltb x 49 || ltb 57 x ≡ true → is_digit x && not (eqb x 48) ≡ false
first_outside x h = by (ltb x 49) (ltb 57 x) refl refl h
  where
    low : (s : Bool) → eqb x 48 ≡ s → x < 49 → is_digit x && not s ≡ false
    low true e l = and-false (is_digit x)
    low false e l = rw (lt-leb 48 x (below x (eqb-false x 48 e) l)) refl

    by : (a b : Bool) → ltb x 49 ≡ a → ltb 57 x ≡ b → a || b ≡ true → is_digit x && not (eqb x 48) ≡ false
    by true b e f h = low (eqb x 48) refl (ltb-true x 49 e)
    by false true e f h = rw (lt-leb x 57 (ltb-true 57 x f), and-false (leb 48 x)) refl
    by false false e f h = absurd (true≢false (sym h))

pub first-inside : (x : ℕ) → ltb x 49 || ltb 57 x ≡ false → (49 ≤ x) × (x ≤ 57)
first-inside x h = by (ltb x 49) (ltb 57 x) refl refl h
  where
    by : (a b : Bool) → ltb x 49 ≡ a → ltb 57 x ≡ b → a || b ≡ false → (49 ≤ x) × (x ≤ 57)
    by true b e f h = absurd (true≢false h)
    by false true e f h = absurd (true≢false h)
    by false false e f h = (ltb-false x 49 e, ltb-false 57 x f)

-- ---- good tags by their first digit and the others
pub good_tag_lem : (x : ℕ) (t : List ℕ) → 49 ≤ x → x ≤ 57 → all_digits t ≡ true → good_tag (x ∷ t) ≡ true
unfolding good_tag all_digits
good_tag_lem x t l h d = rw (le-leb 48 x (omega arith), le-leb x 57 h, d, ne_eqb x 48 (λ e. omega arith)) refl

pub record GoodTag (x : ℕ) (t : List ℕ) : Type 0 where
  pub low : 49 ≤ x
  pub high : x ≤ 57
  pub digits : all_digits t ≡ true

pub tag_ranges : (x : ℕ) (t : List ℕ) → good_tag (x ∷ t) ≡ true → GoodTag x t
unfolding good_tag all_digits
tag_ranges x t h =
    let a = both (is_digit x && all_digits t) (not (eqb x 48)) h in
    let d = both (is_digit x) (all_digits t) a.0 in
    record { low = low_by (digit_from x d.0) (eqb-false x 48 (not-true (eqb x 48) a.1)); high = digit_to x d.0; digits = d.1 }
  where
    low_by : 48 ≤ x → (x ≡ 48 → ⊥) → 49 ≤ x
    low_by l n = omega arith
