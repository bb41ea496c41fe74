-- The bytes of a message of any type whose frame is right.
use Rattle.std.proofs.Common.{Option, None, Some}
use Prim.Native.Nat.{ℕ, ◌%◌, ◌<◌}
use native.Mathlib.Omega.{arith}
use mathlib.Core.Path.{◌≡◌, refl, sym, ap, ◌∙◌}
use mathlib.Core.Bool.{Bool, true, false}
use mathlib.Core.List.{List, [], ◌∷◌, ◌++◌, append_assoc}
use lib.ListN.{length}
use Rattle.lists.specs.Lists.{sum}
use Rattle.rules.specs.Digits.{in_digits, three_digits}
use Rattle.rules.specs.Fields.{Field, field_bytes, fields_bytes, fields_of}
use Rattle.rules.specs.Frame.{type_tag, is_number, Ending, ending_of, good_frame}
use Rattle.fix_scan_rules.specs.AnyFrame.{AnyBody, any_body_by, any_framed_by, any_framed, any_framed_in, any_body_in}
use Rattle.fix_fields.proofs.Pieces.{clear}
use Rattle.fix_fields.proofs.Bytes.{fields_bytes_lem}
use Rattle.fix_frame.proofs.Shapes.{eight, nine_of, ten_of, ending_is, Right, right}
use Rattle.fix_any_frame.proofs.Values.{FirstField, first_field}

abbrev pub kind_of : List ℕ → Field
kind_of w = record { tag = type_tag; value = w }

-- the first bytes of a message: the version, 9, 35
pub head_bytes : (v w : List ℕ) (rs : List Field)
    → fields_bytes (eight ∷ nine_of v ∷ kind_of w ∷ rs)
    ≡ 56 ∷ 61 ∷ 70 ∷ 73 ∷ 88 ∷ 46 ∷ 52 ∷ 46 ∷ 52 ∷ 1 ∷ 57 ∷ 61 ∷ (v ++ (1 ∷ 51 ∷ 53 ∷ 61 ∷ (w ++ (1 ∷ fields_bytes rs))))
unfolding fields_bytes field_bytes
head_bytes v w rs =
    ap (λ (l : List ℕ). 56 ∷ 61 ∷ 70 ∷ 73 ∷ 88 ∷ 46 ∷ 52 ∷ 46 ∷ 52 ∷ 1 ∷ 57 ∷ 61 ∷ l)
    (append_assoc v (1 ∷ []) (51 ∷ 53 ∷ 61 ∷ ((w ++ (1 ∷ [])) ++ fields_bytes rs))
    ∙ ap (λ (l : List ℕ). v ++ (1 ∷ 51 ∷ 53 ∷ 61 ∷ l)) (append_assoc w (1 ∷ []) (fields_bytes rs)))

pub record AnyShape (b : List ℕ) : Type 0 where
  pub nine : List ℕ
  pub type : List ℕ
  pub front : List Field
  pub is : b ≡ fields_bytes (eight ∷ nine_of nine ∷ kind_of type ∷ (front ++ (ten_of (three_digits (sum (fields_bytes (eight ∷ nine_of nine ∷ kind_of type ∷ front)) % 256)) ∷ [])))
  pub clean : clear type ≡ true
  pub some_type : 0 < length type
  pub counted : is_number (in_digits nine) (length (fields_bytes (kind_of type ∷ front))) ≡ true

module _ (b : List ℕ) (first size kind : Field) (e : Ending) (rest : List Field) (q : fields_of b ≡ Some (first ∷ size ∷ kind ∷ rest))
    (h : ending_of rest ≡ Some e) (R : Right first size kind e.front e.last) where
  is_kind_lem : kind ≡ kind_of kind.value
  is_kind_lem = λ i. record { tag = R.is_type i; value = kind.value }

  befores : (first ∷ size ∷ kind ∷ e.front) ≡ (eight ∷ nine_of size.value ∷ kind_of kind.value ∷ e.front)
  befores = λ i. R.is_eight i ∷ R.is_nine i ∷ is_kind_lem i ∷ e.front

  is_last : e.last ≡ ten_of (three_digits (sum (fields_bytes (eight ∷ nine_of size.value ∷ kind_of kind.value ∷ e.front)) % 256))
  is_last =
      λ i. record {
        tag = R.is_ten i;
        value = (R.sums ∙ ap (λ (fs : List Field). three_digits (sum (fields_bytes fs) % 256)) befores) i;
      }

  third : FirstField kind rest
  third =
      let one = first_field b first (size ∷ kind ∷ rest) q in
      let two = first_field one.rest size (kind ∷ rest) one.others in
      first_field two.rest kind rest two.others

  shaped : AnyShape b
  shaped =
      record {
        nine = size.value;
        type = kind.value;
        front = e.front;
        is =
            sym (fields_bytes_lem b (first ∷ size ∷ kind ∷ rest) q)
            ∙ ap fields_bytes (λ i. R.is_eight i ∷ R.is_nine i ∷ is_kind_lem i ∷ (ending_is rest e h ∙ ap (λ (f : Field). e.front ++ (f ∷ [])) is_last) i);
        clean = third.clean;
        some_type = third.some_value;
        counted = sym (λ i. is_number (in_digits size.value) (length (fields_bytes (is_kind_lem i ∷ e.front)))) ∙ R.counts;
      }

no_body : {x : AnyBody} → None ≡ Some x → ⊥
no_body e = let z : ◌≡◌ {A = ℕ} 0 1 = cc in omega arith

by_body : (b : List ℕ) (first size kind : Field) (e : Ending) (rest : List Field) → fields_of b ≡ Some (first ∷ size ∷ kind ∷ rest) → ending_of rest ≡ Some e
    → (g : Bool) → good_frame first size kind e.front e.last ≡ g → (x : AnyBody) → any_body_by g kind e.front ≡ Some x → AnyShape b
by_body b first size kind e rest q h false G x E = absurd (no_body E)
by_body b first size kind e rest q h true G x E = shaped b first size kind e rest q h (right first size kind e.front e.last G)

by_ending : (b : List ℕ) (first size kind : Field) (rest : List Field) → fields_of b ≡ Some (first ∷ size ∷ kind ∷ rest) → (o : Option Ending)
    → ending_of rest ≡ o → (x : AnyBody) → any_framed_by first size kind o ≡ Some x → AnyShape b
by_ending b first size kind rest q None h x E = absurd (no_body E)
by_ending b first size kind rest q (Some e) h x E =
    by_body b first size kind e rest q h (good_frame first size kind e.front e.last) refl x E

by_fields : (b : List ℕ) (o : Option (List Field)) → fields_of b ≡ o → (x : AnyBody) → any_framed_in o ≡ Some x → AnyShape b
unfolding any_framed
by_fields b None q x E = absurd (no_body E)
by_fields b (Some []) q x E = absurd (no_body E)
by_fields b (Some (f ∷ [])) q x E = absurd (no_body E)
by_fields b (Some (f ∷ g ∷ [])) q x E = absurd (no_body E)
by_fields b (Some (first ∷ size ∷ kind ∷ rest)) q x E = by_ending b first size kind rest q (ending_of rest) refl x E

-- what no message with a right frame is has no body
pub unshaped : (b : List ℕ) → (AnyShape b → ⊥) → any_body_in b ≡ None
unfolding any_body_in
unshaped b h = by (any_framed_in (fields_of b)) refl
  where
    by : (o : Option AnyBody) → any_framed_in (fields_of b) ≡ o → o ≡ None
    by None e = refl
    by (Some x) e = absurd (h (by_fields b (fields_of b) refl x e))
