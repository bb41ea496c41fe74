-- Fields that are written are read again.
use Rattle.std.specs.Prelude.{if◌then◌else◌, Some}
use Prim.Native.Nat.{ℕ}
use native.Mathlib.Omega.{arith}
use mathlib.Core.Path.{◌≡◌, refl, sym, ap, ◌∙◌}
use mathlib.Core.Bool.{Bool, true, false, not, true≢false}
use mathlib.Core.List.{List, [], ◌∷◌, ◌++◌, append_assoc}
use borrow.Author.Tests.{eq-eqb, ne_eqb, eqb-true}
use lib.Dec.{eqb, leb}
use Rattle.rules.specs.Digits.{is_digit, all_digits}
use Rattle.rules.specs.Dates.{fits_place, has_form}
use Rattle.rules.specs.Fields.{Field, field_bytes, fields_bytes, split_field, good_tag, good_value, good_field, field_of, add_field, pieces, fields_in, fields_of, same_bytes}
use Rattle.fix_digits.proofs.Numbers.{both, digit_from, digit_to}
use Rattle.fix_fields.proofs.Pieces.{clear, clear-cons, clear-append, clear-head, clear-tail, one_field}

-- ---- no byte 1 in digits, nor in a time
pub digits_clear : (l : List ℕ) → all_digits l ≡ true → clear l ≡ true
unfolding all_digits clear
digits_clear [] h = refl
digits_clear (b ∷ l) h =
    let hs = both (is_digit b) (all_digits l) h in
    let low = digit_from b hs.0 in
    clear-cons b l (λ e. omega arith) (digits_clear l hs.1)

place-clear : (p b : ℕ) → (p ≡ 1 → ⊥) → (t : Bool) → leb 65 p ≡ t → (if t then is_digit b else eqb b p) ≡ true → b ≡ 1 → ⊥
place-clear p b n true e h q = let low = digit_from b h in omega arith
place-clear p b n false e h q = n (sym (eqb-true b p h) ∙ q)

pub form-clear : (ps bs : List ℕ) → clear ps ≡ true → has_form ps bs ≡ true → clear bs ≡ true
unfolding has_form clear
form-clear [] [] c h = refl
form-clear [] (b ∷ bs) c h = absurd (true≢false (sym h))
form-clear (p ∷ ps) [] c h = absurd (true≢false (sym h))
form-clear (p ∷ ps) (b ∷ bs) c h =
    let hs = both (fits_place p b) (has_form ps bs) h in
    clear-cons b bs (place-clear p b (not_one p (clear-head p ps c)) (leb 65 p) refl hs.0) (form-clear ps bs (clear-tail p ps c) hs.1)
  where
    not_one : (p : ℕ) → eqb p 1 ≡ false → p ≡ 1 → ⊥
    not_one p e q = true≢false (sym (ap (λ (x : ℕ). eqb x 1) q) ∙ e)

-- ---- one field
pub split_again : (t v : List ℕ) → all_digits t ≡ true → split_field (t ++ (61 ∷ v)) ≡ Some (record { tag = t; value = v })
unfolding all_digits split_field
split_again [] v h = refl
split_again (b ∷ t) v h =
    let hs = both (is_digit b) (all_digits t) h in
    let high = digit_to b hs.0 in
    rw (ne_eqb b 61 (λ e. omega arith), split_again t v hs.1) refl

pub record Sound (f : Field) : Type 0 where
  pub tag : good_tag f.tag ≡ true
  pub clean : clear f.value ≡ true
  pub value : good_value f.value ≡ true

tag_digits : (t : List ℕ) → good_tag t ≡ true → all_digits t ≡ true
unfolding good_tag
tag_digits [] h = absurd (true≢false (sym h))
tag_digits (b ∷ t) h = (both (all_digits (b ∷ t)) (not (eqb b 48)) h).0

pub field_again : (f : Field) → Sound f → field_of (f.tag ++ (61 ∷ f.value)) ≡ Some f
unfolding field_of
field_again f s = ap good_field (split_again f.tag f.value (tag_digits f.tag s.tag)) ∙ rw (s.tag, s.value) refl

piece_clear : (f : Field) → Sound f → clear (f.tag ++ (61 ∷ f.value)) ≡ true
piece_clear f s = clear-append f.tag (61 ∷ f.value) (digits_clear f.tag (tag_digits f.tag s.tag)) (clear-cons 61 f.value (λ e. omega arith) s.clean)

pub one_again : (f : Field) (rest : List ℕ) → Sound f → fields_of (field_bytes f ++ rest) ≡ add_field (Some f) (fields_of rest)
unfolding field_bytes
one_again f rest s =
    ap fields_of (regroup f.tag f.value rest)
    ∙ one_field (f.tag ++ (61 ∷ f.value)) rest (piece_clear f s)
    ∙ ap (λ o. add_field o (fields_of rest)) (field_again f s)
  where
    regroup : (t v r : List ℕ) → (t ++ (61 ∷ (v ++ (1 ∷ [])))) ++ r ≡ (t ++ (61 ∷ v)) ++ (1 ∷ r)
    regroup t v r = simp append_assoc

-- ---- all
pub data AllSound : List Field → Type 0 where
  all_none : AllSound []
  all_more : {f : Field} {fs : List Field} → Sound f → AllSound fs → AllSound (f ∷ fs)

no_fields : fields_of [] ≡ Some []
unfolding fields_of pieces fields_in
no_fields = refl

pub all-again : (fs : List Field) → AllSound fs → fields_of (fields_bytes fs) ≡ Some fs
unfolding fields_bytes
all-again [] s = no_fields
all-again (f ∷ fs) (all_more s ss) = one_again f (fields_bytes fs) s ∙ ap (add_field (Some f)) (all-again fs ss)

pub sound_append : {fs gs : List Field} → AllSound fs → AllSound gs → AllSound (fs ++ gs)
sound_append all_none t = t
sound_append (all_more s ss) t = all_more s (sound_append ss t)

pub same-again : (l : List ℕ) → same_bytes l l ≡ true
unfolding same_bytes
same-again [] = refl
same-again (b ∷ l) = rw (eqb_same b) (same-again l)
  where
    eqb_same : (n : ℕ) → eqb n n ≡ true
    eqb_same n = eq-eqb n n refl
