-- The words of a message's row: for each tag the place, the length and the repeat of its first value, in the message's own bytes.
use Rattle.std.proofs.Common.{Option, None, Some}
use Prim.Native.Nat.{ℕ, ◌+◌, ◌-◌}
use native.Mathlib.Omega.{arith}
use mathlib.Core.Path.{◌≡◌, refl, sym, ap, subst, ◌∙◌}
use mathlib.Core.Bool.{Bool, true, false}
use mathlib.Core.List.{List, [], ◌∷◌, ◌++◌}
use lib.ListN.{length, drop, length-append}
use lib.Seq.{drop_at}
use Rattle.rules.specs.Fields.{Field, field_bytes, fields_bytes, fields_of, values_of}
use Rattle.rules.specs.Frame.{Ending, ending_of, good_frame}
use Rattle.fix_scan_rules.specs.AnyFrame.{AnyBody, any_body_by, any_framed_by, any_framed, any_framed_in, any_body_in}
use Rattle.fix_scan_rules.specs.Rows.{begin_in, size_of_in}
use Rattle.fix_scan_rules.proofs.Meaning.{FirstValue, first-value}
use Rattle.fix_fields.proofs.Bytes.{fields_bytes_lem}
use Rattle.fix_frame.proofs.Shapes.{ending_is, fields-append, one_bytes, Right, right}

-- where the fields after 35 begin, and that they are there
pub record Fielded (m : List ℕ) (fs : List Field) : Type 0 where
  pub rest : List ℕ
  pub are : drop (length m - (length (fields_bytes fs) + 7)) m ≡ fields_bytes fs ++ rest

module _ (m : List ℕ) (first size kind : Field) (rest : List Field) (e : Ending) (q : fields_of m ≡ Some (first ∷ size ∷ kind ∷ rest))
    (h : ending_of rest ≡ Some e) (R : Right first size kind e.front e.last) where
  start : List ℕ
  start = fields_bytes (first ∷ size ∷ kind ∷ [])

  whole : m ≡ start ++ (fields_bytes e.front ++ field_bytes e.last)
  unfolding start
  whole =
      sym (fields_bytes_lem m (first ∷ size ∷ kind ∷ rest) q)
      ∙ ap (λ (rs : List Field). fields_bytes (first ∷ size ∷ kind ∷ rs)) (ending_is rest e h)
      ∙ fields-append (first ∷ size ∷ kind ∷ []) (e.front ++ (e.last ∷ []))
      ∙ ap (λ (l : List ℕ). fields_bytes (first ∷ size ∷ kind ∷ []) ++ l)
      (fields-append e.front (e.last ∷ []) ∙ ap (λ (l : List ℕ). fields_bytes e.front ++ l) (one_bytes e.last))

  seven : length (field_bytes e.last) ≡ 7
  unfolding field_bytes
  seven =
      length-append e.last.tag (61 ∷ (e.last.value ++ (1 ∷ [])))
      ∙ omega (arith, length-append e.last.value (1 ∷ []), ap length R.is_ten, ap length R.sums)

  fielded : Fielded m e.front
  fielded =
      record {
        rest = field_bytes e.last;
        are =
            ap (drop (length m - (length (fields_bytes e.front) + 7))) whole
            ∙ drop_at start (fields_bytes e.front ++ field_bytes e.last) (length m - (length (fields_bytes e.front) + 7))
            (omega (arith, ap length whole, length-append start (fields_bytes e.front ++ field_bytes e.last), length-append (fields_bytes e.front) (field_bytes e.last), seven));
      }

no_body : {x : AnyBody} → None ≡ Some x → ⊥
no_body e = let z : ◌≡◌ {A = ℕ} 0 1 = cc in omega arith

by_good : (m : List ℕ) (body : AnyBody) (first size kind : Field) (rest : List Field) (e : Ending) → fields_of m ≡ Some (first ∷ size ∷ kind ∷ rest)
    → ending_of rest ≡ Some e → (g : Bool) → good_frame first size kind e.front e.last ≡ g → any_body_by g kind e.front ≡ Some body
    → Fielded m body.fields
by_good m body first size kind rest e q h false g E = absurd (no_body E)
by_good m body first size kind rest e q h true g E =
    let is : record { kind = kind.value; fields = e.front } ≡ body = cc in
    subst (λ (x : AnyBody). Fielded m x.fields) is (fielded m first size kind rest e q h (right first size kind e.front e.last g))

by_ending : (m : List ℕ) (body : AnyBody) (first size kind : Field) (rest : List Field) → fields_of m ≡ Some (first ∷ size ∷ kind ∷ rest)
    → (o : Option Ending) → ending_of rest ≡ o → any_framed_by first size kind o ≡ Some body → Fielded m body.fields
by_ending m body first size kind rest q None h E = absurd (no_body E)
by_ending m body first size kind rest q (Some e) h E =
    by_good m body first size kind rest e q h (good_frame first size kind e.front e.last) refl E

by_fields : (m : List ℕ) (body : AnyBody) (o : Option (List Field)) → fields_of m ≡ o → any_framed_in o ≡ Some body → Fielded m body.fields
unfolding any_framed
by_fields m body None q E = absurd (no_body E)
by_fields m body (Some []) q E = absurd (no_body E)
by_fields m body (Some (f ∷ [])) q E = absurd (no_body E)
by_fields m body (Some (f ∷ g ∷ [])) q E = absurd (no_body E)
by_fields m body (Some (first ∷ size ∷ kind ∷ rest)) q E = by_ending m body first size kind rest q (ending_of rest) refl E

pub message_fields : (m : List ℕ) (body : AnyBody) → any_body_in m ≡ Some body → Fielded m body.fields
unfolding any_body_in
message_fields m body E = by_fields m body (fields_of m) refl E

-- the two words of a tag in `row_with` are those of its first value in the message
pub row_values : (m : List ℕ) (body : AnyBody) → any_body_in m ≡ Some body → (tag : List ℕ)
    → FirstValue m (values_of tag body.fields) (begin_in (length m - (length (fields_bytes body.fields) + 7)) tag body.fields) (size_of_in tag body.fields)
row_values m body E tag =
    let f = message_fields m body E in
    first-value tag m body.fields (length m - (length (fields_bytes body.fields) + 7)) f.rest f.are
