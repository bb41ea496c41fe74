-- The bytes of a message whose frame is right.
use Rattle.std.specs.Prelude.{if◌then◌else◌, Option, None, Some}
use Prim.Native.Nat.{ℕ, ◌%◌}
use native.Mathlib.Omega.{arith}
use mathlib.Core.Path.{◌≡◌, refl, sym, ap, ◌∙◌}
use mathlib.Core.Bool.{Bool, true, false, not}
use mathlib.Core.List.{List, [], ◌∷◌, ◌++◌, append_assoc, append-nil}
use lib.ListN.{length}
use Rattle.lists.specs.Lists.{sum, any}
use Rattle.rules.specs.Digits.{in_digits, three_digits}
use Rattle.rules.specs.Fields.{Field, field_bytes, fields_bytes, fields_of, same_bytes, has_tag}
use Rattle.rules.specs.Frame.{version_tag, length_tag, type_tag, checksum_tag, version, Kind, new, cancel, replace, kind_text, kind_in, is_number, length_right, checksum_right, is_frame_tag, Body, Ending, behind, ending_of, good_frame, body_by, framed_by, framed, framed_in, body_in}
use Rattle.fix_frame.specs.Frames.{is_kind}
use Rattle.fix_digits.proofs.Numbers.{both}
use Rattle.fix_fields.proofs.Bytes.{fields_bytes_lem}
use Rattle.fix_fields.proofs.SlotTags.{same_is}
use Rattle.fix_fields.proofs.Closing.{ending_some}

-- ---- the fields of a frame
abbrev pub eight : Field
eight = record { tag = version_tag; value = version }

abbrev pub nine_of : List ℕ → Field
nine_of v = record { tag = length_tag; value = v }

abbrev pub type_of : ℕ → Field
type_of k = record { tag = type_tag; value = k ∷ [] }

abbrev pub ten_of : List ℕ → Field
ten_of v = record { tag = checksum_tag; value = v }

-- ---- the ending of a list is its last field
ending-none : (rs : List Field) → ending_of rs ≡ None → rs ≡ []
ending-none [] h = refl
ending-none (f ∷ rs) h = let e = ending_some f rs in absurd (let z : ◌≡◌ {A = ℕ} 0 1 = cc e.1 in omega arith)

pub ending_is : (rs : List Field) (e : Ending) → ending_of rs ≡ Some e → rs ≡ e.front ++ (e.last ∷ [])
unfolding ending_of
ending_is [] e h = absurd (let z : ◌≡◌ {A = ℕ} 0 1 = cc in omega arith)
ending_is (f ∷ rs) e h = by (ending_of rs) refl (ending_is rs) h
  where
    by : (o : Option Ending) → ending_of rs ≡ o → ((g : Ending) → ending_of rs ≡ Some g → rs ≡ g.front ++ (g.last ∷ []))
        → behind f o ≡ Some e → f ∷ rs ≡ e.front ++ (e.last ∷ [])
    by None q k h =
        let is : record { front = []; last = f } ≡ e = cc in
        ap (λ (l : List Field). f ∷ l) (ending-none rs q) ∙ ap (λ (x : Ending). x.front ++ (x.last ∷ [])) is
    by (Some g) q k h =
        let is : record { front = f ∷ g.front; last = g.last } ≡ e = cc in
        ap (λ (l : List Field). f ∷ l) (k g q) ∙ ap (λ (x : Ending). x.front ++ (x.last ∷ [])) is

-- ---- bytes of fields
pub fields-append : (fs gs : List Field) → fields_bytes (fs ++ gs) ≡ fields_bytes fs ++ fields_bytes gs
unfolding fields_bytes
fields-append [] gs = refl
fields-append (f ∷ fs) gs =
    ap (λ (l : List ℕ). field_bytes f ++ l) (fields-append fs gs) ∙ sym (append_assoc (field_bytes f) (fields_bytes fs) (fields_bytes gs))

pub one_bytes : (f : Field) → fields_bytes (f ∷ []) ≡ field_bytes f
unfolding fields_bytes
one_bytes f = append-nil (field_bytes f)

-- the first bytes of a message: the version, 9, 35
pub head_bytes : (v : List ℕ) (k : ℕ) (rs : List Field)
    → fields_bytes (eight ∷ nine_of v ∷ type_of k ∷ rs)
    ≡ 56 ∷ 61 ∷ 70 ∷ 73 ∷ 88 ∷ 46 ∷ 52 ∷ 46 ∷ 52 ∷ 1 ∷ 57 ∷ 61 ∷ (v ++ (1 ∷ 51 ∷ 53 ∷ 61 ∷ k ∷ 1 ∷ fields_bytes rs))
unfolding fields_bytes field_bytes
head_bytes v k rs =
    ap (λ (l : List ℕ). 56 ∷ 61 ∷ 70 ∷ 73 ∷ 88 ∷ 46 ∷ 52 ∷ 46 ∷ 52 ∷ 1 ∷ 57 ∷ 61 ∷ l)
    (append_assoc v (1 ∷ []) (51 ∷ 53 ∷ 61 ∷ k ∷ 1 ∷ fields_bytes rs))

-- ---- a message whose frame is right
pub record Shape (b : List ℕ) : Type 0 where
  pub nine : List ℕ
  pub kind : ℕ
  pub front : List Field
  pub is : b ≡ fields_bytes (eight ∷ nine_of nine ∷ type_of kind ∷ (front ++ (ten_of (three_digits (sum (fields_bytes (eight ∷ nine_of nine ∷ type_of kind ∷ front)) % 256)) ∷ [])))
  pub kinds : is_kind kind ≡ true
  pub counted : is_number (in_digits nine) (length (fields_bytes (type_of kind ∷ front))) ≡ true

-- a type's byte
kind_byte_lem : (v : List ℕ) (k : Kind) → kind_in v ≡ Some k → (x : ℕ) × (v ≡ x ∷ []) × (is_kind x ≡ true)
unfolding kind_in
kind_byte_lem v k e = by (same_bytes v (kind_text new)) (same_bytes v (kind_text cancel)) (same_bytes v (kind_text replace)) refl refl refl e
  where
    by : (a b c : Bool) → same_bytes v (kind_text new) ≡ a → same_bytes v (kind_text cancel) ≡ b → same_bytes v (kind_text replace) ≡ c
        → (if a then Some new else if b then Some cancel else if c then Some replace else None) ≡ Some k
        → (x : ℕ) × (v ≡ x ∷ []) × (is_kind x ≡ true)
    by true b c p q r e = (68, same_is v (kind_text new) p, refl)
    by false true c p q r e = (70, same_is v (kind_text cancel) q, refl)
    by false false true p q r e = (71, same_is v (kind_text replace) r, refl)
    by false false false p q r e = absurd (let z : ◌≡◌ {A = ℕ} 0 1 = cc in omega arith)

-- what the test of a frame says
pub record Right (first size kind : Field) (body : List Field) (check : Field) : Type 0 where
  pub is_eight : first ≡ eight
  pub is_nine : size ≡ nine_of size.value
  pub counts : length_right size (kind ∷ body) ≡ true
  pub is_type : kind.tag ≡ type_tag
  pub is_ten : check.tag ≡ checksum_tag
  pub sums : check.value ≡ three_digits (sum (fields_bytes (first ∷ size ∷ kind ∷ body)) % 256)

pub right : (first size kind : Field) (body : List Field) (check : Field) → good_frame first size kind body check ≡ true → Right first size kind body check
right first size kind body check h =
    let h₇ = both _ (checksum_right check (first ∷ size ∷ kind ∷ body)) h in
    let h₆ = both _ (has_tag checksum_tag check) h₇.0 in
    let h₅ = both _ (not (any is_frame_tag body)) h₆.0 in
    let h₄ = both _ (has_tag type_tag kind) h₅.0 in
    let h₃ = both _ (length_right size (kind ∷ body)) h₄.0 in
    let h₂ = both _ (has_tag length_tag size) h₃.0 in
    let h₁ = both (has_tag version_tag first) (same_bytes first.value version) h₂.0 in
    record {
      is_eight = λ i. record { tag = same_is first.tag version_tag h₁.0 i; value = same_is first.value version h₁.1 i };
      is_nine = λ i. record { tag = same_is size.tag length_tag h₂.1 i; value = size.value };
      counts = h₃.1;
      is_type = same_is kind.tag type_tag h₄.1;
      is_ten = same_is check.tag checksum_tag h₆.1;
      sums = same_is check.value (three_digits (sum (fields_bytes (first ∷ size ∷ kind ∷ body)) % 256)) h₇.1;
    }

module _ (b : List ℕ) (first size kind : Field) (e : Ending) (rest : List Field) (q : fields_of b ≡ Some (first ∷ size ∷ kind ∷ rest))
    (h : ending_of rest ≡ Some e) (R : Right first size kind e.front e.last) (x : ℕ) (v : kind.value ≡ x ∷ []) (k : is_kind x ≡ true) where
  is_kind_lem : kind ≡ type_of x
  is_kind_lem = λ i. record { tag = R.is_type i; value = v i }

  befores : (first ∷ size ∷ kind ∷ e.front) ≡ (eight ∷ nine_of size.value ∷ type_of x ∷ e.front)
  befores = λ i. R.is_eight i ∷ R.is_nine i ∷ is_kind_lem i ∷ e.front

  is_last : e.last ≡ ten_of (three_digits (sum (fields_bytes (eight ∷ nine_of size.value ∷ type_of x ∷ e.front)) % 256))
  is_last =
      λ i. record {
        tag = R.is_ten i;
        value = (R.sums ∙ ap (λ (fs : List Field). three_digits (sum (fields_bytes fs) % 256)) befores) i;
      }

  shaped : Shape b
  shaped =
      record {
        nine = size.value;
        kind = x;
        front = e.front;
        is =
            sym (fields_bytes_lem b (first ∷ size ∷ kind ∷ rest) q)
            ∙ ap fields_bytes (λ i. R.is_eight i ∷ R.is_nine i ∷ is_kind_lem i ∷ (ending_is rest e h ∙ ap (λ (f : Field). e.front ++ (f ∷ [])) is_last) i);
        kinds = k;
        counted = sym (λ i. is_number (in_digits size.value) (length (fields_bytes (is_kind_lem i ∷ e.front)))) ∙ R.counts;
      }

no_body : {x : Body} → None ≡ Some x → ⊥
no_body e = let z : ◌≡◌ {A = ℕ} 0 1 = cc in omega arith

by_body : (b : List ℕ) (first size kind : Field) (e : Ending) (rest : List Field) → fields_of b ≡ Some (first ∷ size ∷ kind ∷ rest) → ending_of rest ≡ Some e
    → (g : Bool) → good_frame first size kind e.front e.last ≡ g → (o : Option Kind) → kind_in kind.value ≡ o → (x : Body)
    → body_by g o e.front ≡ Some x → Shape b
by_body b first size kind e rest q h false G o K x E = absurd (no_body E)
by_body b first size kind e rest q h true G None K x E = absurd (no_body E)
by_body b first size kind e rest q h true G (Some k) K x E =
    let t = kind_byte_lem kind.value k K in
    shaped b first size kind e rest q h (right first size kind e.front e.last G) t.0 t.1 t.2

by_ending : (b : List ℕ) (first size kind : Field) (rest : List Field) → fields_of b ≡ Some (first ∷ size ∷ kind ∷ rest) → (o : Option Ending)
    → ending_of rest ≡ o → (x : Body) → framed_by first size kind o ≡ Some x → Shape b
by_ending b first size kind rest q None h x E = absurd (no_body E)
by_ending b first size kind rest q (Some e) h x E =
    by_body b first size kind e rest q h (good_frame first size kind e.front e.last) refl (kind_in kind.value) refl x E

by_fields : (b : List ℕ) (o : Option (List Field)) → fields_of b ≡ o → (x : Body) → framed_in o ≡ Some x → Shape b
unfolding framed
by_fields b None q x E = absurd (no_body E)
by_fields b (Some []) q x E = absurd (no_body E)
by_fields b (Some (f ∷ [])) q x E = absurd (no_body E)
by_fields b (Some (f ∷ g ∷ [])) q x E = absurd (no_body E)
by_fields b (Some (first ∷ size ∷ kind ∷ rest)) q x E = by_ending b first size kind rest q (ending_of rest) refl x E

-- what no message with a right frame is has no body
pub unshaped : (b : List ℕ) → (Shape b → ⊥) → body_in b ≡ None
unfolding body_in
unshaped b h = by (framed_in (fields_of b)) refl
  where
    by : (o : Option Body) → framed_in (fields_of b) ≡ o → o ≡ None
    by None e = refl
    by (Some x) e = absurd (h (by_fields b (fields_of b) refl x e))
