-- A turn of the search for fields: the field that is found, and its slot.
use Rattle.std.proofs.Common.{None}
use Prim.Native.Nat.{ℕ, suc, ◌+◌, ◌-◌, ◌<◌}
use native.Mathlib.Nat.{le_of_lt, eq-or-lt_of_le}
use native.Mathlib.Omega.{arith}
use mathlib.Core.Path.{◌≡◌, refl, sym, ap, ◌∙◌}
use mathlib.Core.Bool.{Bool, true, false}
use mathlib.Core.Logic.{⊎_elim}
use mathlib.Core.List.{List, [], ◌∷◌, ◌++◌, append_assoc}
use borrow.Author.Tests.{ne_eqb, eq-eqb, eqb-true, eqb-false}
use lib.Dec.{eqb}
use lib.ListN.{length, get_or, take, drop, length-drop}
use lib.Seq.{length-take-le, split_at, get_or-take, get_or-drop, drop-drop}
use Rattle.rules.specs.Fields.{good_tag, field_of, fields_of, fields_in}
use Rattle.fix_fields.specs.Ends.{EndOf}
use Rattle.fix_fields.specs.Tags.{slot_of, tag}
use Rattle.fix_fields.specs.Spans.{closing_in, closed}
use Rattle.fix_fields.proofs.Pieces.{clear, clear_by, clear-cons, clear-append, Cut, whole, at, cut_of, all_one, unended}
use Rattle.fix_fields.proofs.Tags.{good_digits, digits_clear, a_field, no_value}
use Rattle.fix_fields.proofs.SlotTags.{frame_is}
use Rattle.fix_fields.proofs.Closing.{in_front, closed_body, closed_frame, closed_none}

-- ---- the bytes from a place up to the first byte 1
module _ (b : List ℕ) (from r : ℕ) (e : EndOf b from r) where
  inside : r - from < length (drop from b)
  inside = rw (length-drop from b) (omega (arith, e.first, e.inside))

  pub value-length : length (take (r - from) (drop from b)) ≡ r - from
  value-length = length-take-le (r - from) (drop from b) (le_of_lt inside)

  pub value-clear : clear (take (r - from) (drop from b)) ≡ true
  value-clear =
      clear_by (take (r - from) (drop from b))
      (λ k m q.
      let s : k < r - from = omega (arith, value-length) in
      e.none (from + k) (omega arith) (omega arith)
      (sym (get_or-drop from b k 0) ∙ sym (get_or-take (r - from) (drop from b) k 0 s) ∙ q))

  ends : get_or (drop from b) (r - from) 0 ≡ 1
  ends = get_or-drop from b (r - from) 0 ∙ ap (λ (n : ℕ). get_or b n 0) (let p : from + (r - from) ≡ r = omega (arith, e.first) in p) ∙ e.ends

  rest_is : drop (suc (r - from)) (drop from b) ≡ drop (r + 1) b
  rest_is =
      drop-drop (suc (r - from)) from b
      ∙ ap (λ (n : ℕ). drop n b) (let p : from + suc (r - from) ≡ r + 1 = omega (arith, e.first) in p)

  pub split_value : drop from b ≡ take (r - from) (drop from b) ++ (1 ∷ drop (r + 1) b)
  split_value = split_at (drop from b) (r - from) 0 inside ∙ (λ i. take (r - from) (drop from b) ++ (ends i ∷ rest_is i))

-- a place more in front, which has no byte 1
pub widen : (b : List ℕ) (from r : ℕ) → EndOf b (from + 1) r → (get_or b from 0 ≡ 1 → ⊥) → EndOf b from r
widen b from r e n =
    record {
      first = omega (arith, e.first);
      inside = e.inside;
      ends = e.ends;
      none = λ k l m q. ⊎_elim (λ s. n (ap (λ (i : ℕ). get_or b i 0) s ∙ q)) (λ s. e.none k (omega arith) m q) (eq-or-lt_of_le l);
    }

-- ---- the field that a tag and a value make
tag_clear : (t : List ℕ) → good_tag t ≡ true → (v : List ℕ) → clear v ≡ true → clear (t ++ (61 ∷ v)) ≡ true
tag_clear t g v h = clear-append t (61 ∷ v) (digits_clear t (good_digits t g)) (clear-cons 61 v (λ e. omega arith) h)

regroup : (t v rest : List ℕ) → t ++ (61 ∷ (v ++ (1 ∷ rest))) ≡ (t ++ (61 ∷ v)) ++ (1 ∷ rest)
regroup t v rest = sym (append_assoc t (61 ∷ v) (1 ∷ rest))

module _ (l t v rest : List ℕ) (g : good_tag t ≡ true) (k : clear v ≡ true) (q : l ≡ t ++ (61 ∷ (v ++ (1 ∷ rest)))) where
  pub turn_body : 0 < length v → (slot_of t ≡ 7 → ⊥) → closed l ≡ in_front (record { tag = t; value = v }) (closed rest)
  turn_body m n =
      ap closed (q ∙ regroup t v rest)
      ∙ closed_body (t ++ (61 ∷ v)) rest (tag_clear t g v k) (record { tag = t; value = v }) (a_field t v g m)
      (frame_is (record { tag = t; value = v }) g ∙ ne_eqb (slot_of t) 7 n)

  pub turn_empty : length v ≡ 0 → closed l ≡ None
  turn_empty m =
      ap closed (q ∙ regroup t v rest)
      ∙ closed_none (t ++ (61 ∷ v)) rest (tag_clear t g v k) (ap (λ (x : List ℕ). field_of (t ++ (61 ∷ x))) (nil v m) ∙ no_value t g)
    where
      nil : (x : List ℕ) → length x ≡ 0 → x ≡ []
      nil [] h = refl
      nil (y ∷ x) h = absurd (omega arith)

  turn_frame : 0 < length v → slot_of t ≡ 7 → 7 < length l → closed l ≡ None
  turn_frame m n long =
      ap closed is
      ∙ closed_frame (t ++ (61 ∷ v)) rest (tag_clear t g v k) (record { tag = t; value = v }) (a_field t v g m)
      (frame_is (record { tag = t; value = v }) g ∙ eq-eqb (slot_of t) 7 n) (rw is at long)
    where
      is : l ≡ (t ++ (61 ∷ v)) ++ (1 ∷ rest)
      is = q ∙ regroup t v rest

-- a tag of the frame, whatever follows it
unclosed : (l : List ℕ) → clear l ≡ true → (length l ≡ 0 → ⊥) → closed l ≡ None
unfolding closed fields_of
unclosed l h n = ap (λ (ps : List (List ℕ)). closing_in (fields_in ps)) (all_one l h) ∙ ap closing_in (unended l n)

pub framed_tag : (l t m : List ℕ) → good_tag t ≡ true → l ≡ t ++ (61 ∷ m) → slot_of t ≡ 7 → 7 < length l → closed l ≡ None
framed_tag l t m g q n long = by (cut_of m)
  where
    sized : (v rest : List ℕ) → clear v ≡ true → m ≡ v ++ (1 ∷ rest) → (d : Bool) → eqb (length v) 0 ≡ d → closed l ≡ None
    sized v rest h p true d = turn_empty l t v rest g h (q ∙ ap (λ (x : List ℕ). t ++ (61 ∷ x)) p) (eqb-true (length v) 0 d)
    sized v rest h p false d =
        let z = eqb-false (length v) 0 d in
        turn_frame l t v rest g h (q ∙ ap (λ (x : List ℕ). t ++ (61 ∷ x)) p) (omega arith) n long

    by : Cut m → closed l ≡ None
    by (whole h) = unclosed l (ap clear q ∙ tag_clear t g m h) (λ e. omega arith)
    by (at v rest h p _) = sized v rest h p (eqb (length v) 0) refl
