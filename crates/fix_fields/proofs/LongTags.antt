-- Digits passed on the way to an equals sign.
use Prim.Native.Nat.{ℕ, suc, ◌+◌, ◌<◌}
use native.Mathlib.Omega.{arith}
use native.Mathlib.Numerals.{add-one}
use mathlib.Core.Path.{◌≡◌, refl, sym, ap, ◌∙◌}
use mathlib.Core.Bool.{true, false}
use mathlib.Core.List.{List, [], ◌∷◌, ◌++◌, append_assoc}
use lib.ListN.{length, get_or, drop}
use lib.Seq.{drop-cons}
use Rattle.rules.specs.Digits.{is_digit, all_digits}
use Rattle.fix_fields.specs.Ends.{ClosedFrom, DigitsEnd}
use Rattle.fix_fields.specs.Tags.{LongTag, ends, stops}
use Rattle.fix_digits.proofs.Numbers.{both}
use Rattle.fix_fields.proofs.Tags.{digit_not_one}
use Rattle.fix_fields.proofs.Searching.{not_last}

-- the digits from a place up to another
pub record DigitsUpTo (b : List ℕ) (from i : ℕ) : Type 0 where
  pub digits : List ℕ
  pub good : all_digits digits ≡ true
  pub passed : drop from b ≡ digits ++ drop i b
  pub inside : i < length b

digits_snoc : (ds : List ℕ) (x : ℕ) → all_digits ds ≡ true → is_digit x ≡ true → all_digits (ds ++ (x ∷ [])) ≡ true
unfolding all_digits
digits_snoc [] x h d = rw d refl
digits_snoc (y ∷ ds) x h d =
    let hs = both (is_digit y) (all_digits ds) h in
    rw (hs.0, digits_snoc ds x hs.1 d) refl

module _ (b : List ℕ) (from : ℕ) (C : ClosedFrom b from) where
  pub begins : DigitsUpTo b from from
  unfolding all_digits
  begins = record { digits = []; good = refl; passed = refl; inside = C.within }

  pub up_to : (i : ℕ) → DigitsEnd b from i → DigitsUpTo b from i
  up_to i E = record { digits = E.digits; good = E.good; passed = E.passed; inside = E.inside }

  module _ (i : ℕ) (P : DigitsUpTo b from i) where
    pub digit_more : is_digit (get_or b i 0) ≡ true → DigitsUpTo b from (i + 1)
    digit_more d =
        record {
          digits = P.digits ++ (get_or b i 0 ∷ []);
          good = digits_snoc P.digits (get_or b i 0) P.good d;
          passed =
              P.passed
              ∙ ap (λ (l : List ℕ). P.digits ++ l) (drop-cons b i 0 P.inside ∙ ap (λ (n : ℕ). get_or b i 0 ∷ drop n b) (sym (add-one i)))
              ∙ sym (append_assoc P.digits (get_or b i 0 ∷ []) (drop (i + 1) b));
          inside = not_last b i C.closed P.inside (digit_not_one (get_or b i 0) d);
        }

    pub sign : get_or b i 0 ≡ 61 → LongTag b from 6 (i + 1)
    sign e =
        ends P.digits P.good
        (P.passed ∙ ap (λ (l : List ℕ). P.digits ++ l) (drop-cons b i 0 P.inside ∙ (λ j. e j ∷ drop (sym (add-one i) j) b)))
        (not_last b i C.closed P.inside (λ q. omega arith)) refl

    pub no_sign : is_digit (get_or b i 0) ≡ false → (get_or b i 0 ≡ 61 → ⊥) → LongTag b from 7 i
    no_sign d n =
        stops P.digits (get_or b i 0) (drop (suc i) b) P.good
        (P.passed ∙ ap (λ (l : List ℕ). P.digits ++ l) (drop-cons b i 0 P.inside)) d n refl
