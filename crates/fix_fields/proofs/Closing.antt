-- The fields after 35, one in front of the others: none of the frame but the last, a 10 of three bytes.
use Rattle.std.proofs.Common.{Option, None, Some}
use Prim.Native.Nat.{ℕ, ◌+◌, ◌<◌}
use native.Mathlib.Omega.{arith}
use mathlib.Core.Path.{◌≡◌, refl, ap, ◌∙◌}
use mathlib.Core.Bool.{Bool, true, false, ◌&&◌, ◌||◌, not, true≢false}
use mathlib.Core.List.{List, [], ◌∷◌, ◌++◌, append-nil}
use borrow.Author.Tests.{eqb-true}
use lib.Dec.{eqb}
use lib.ListN.{length, length-append}
use Rattle.lists.specs.Lists.{any}
use Rattle.rules.specs.Fields.{Field, field_bytes, fields_bytes, pieces, field_of, add_field, fields_in, fields_of, has_tag}
use Rattle.rules.specs.Frame.{version_tag, length_tag, type_tag, checksum_tag, is_frame_tag, Ending, behind, ending_of}
use Rattle.fix_fields.specs.Tags.{piece_of}
use Rattle.fix_fields.specs.Spans.{closes, closing_by, closing_of, closing_in, closed}
use Rattle.fix_fields.proofs.Pieces.{one_field, clear, no_field, no_first}
use Rattle.fix_fields.proofs.Bytes.{fields_bytes_lem}
use Rattle.fix_fields.proofs.SlotTags.{same_is}

-- ---- a field in front, and several
abbrev pub in_front : Field → Option (List Field) → Option (List Field)
in_front f None = None
in_front f (Some fs) = Some (f ∷ fs)

unfoldable pub all_in_front : List Field → Option (List Field) → Option (List Field)
all_in_front [] o = o
all_in_front (f ∷ fs) o = in_front f (all_in_front fs o)

pub front-snoc : (fs : List Field) (f : Field) (o : Option (List Field)) → all_in_front (fs ++ (f ∷ [])) o ≡ all_in_front fs (in_front f o)
unfolding all_in_front
front-snoc [] f o = refl
front-snoc (g ∷ fs) f o = ap (in_front g) (front-snoc fs f o)

pub front-none : (fs : List Field) → all_in_front fs None ≡ None
unfolding all_in_front
front-none [] = refl
front-none (f ∷ fs) = ap (in_front f) (front-none fs)

pub front_some : (fs gs : List Field) → all_in_front fs (Some gs) ≡ Some (fs ++ gs)
unfolding all_in_front
front_some [] gs = refl
front_some (f ∷ fs) gs = ap (in_front f) (front_some fs gs)

-- ---- the ending of a list with a field in front
pub ending_some : (f : Field) (fs : List Field) → (e : Ending) × (ending_of (f ∷ fs) ≡ Some e)
unfolding ending_of
ending_some f fs = by (ending_of fs)
  where
    by : (o : Option Ending) → (e : Ending) × (behind f o ≡ Some e)
    by None = (record { front = []; last = f }, refl)
    by (Some e) = (record { front = f ∷ e.front; last = e.last }, refl)

not_ten : (f : Field) → is_frame_tag f ≡ false → has_tag checksum_tag f ≡ false
not_ten f h = by (has_tag version_tag f || has_tag length_tag f || has_tag type_tag f) (has_tag checksum_tag f) h
  where
    by : (a b : Bool) → a || b ≡ false → b ≡ false
    by true b h = absurd (true≢false h)
    by false b h = h

-- a field of the body
body_front : (f : Field) → is_frame_tag f ≡ false → (e : Ending)
    → closing_of (Some (record { front = f ∷ e.front; last = e.last })) ≡ in_front f (closing_of (Some e))
unfolding closes any
body_front f h e = rw h (by (not (any is_frame_tag e.front) && (has_tag checksum_tag e.last && eqb (length e.last.value) 3)))
  where
    by : (t : Bool) → closing_by t (f ∷ e.front) ≡ in_front f (closing_by t e.front)
    by true = refl
    by false = refl

body_last : (f : Field) → is_frame_tag f ≡ false → closing_of (Some (record { front = []; last = f })) ≡ None
unfolding closes any
body_last f h = rw (not_ten f h) refl

body_cons : (f : Field) → is_frame_tag f ≡ false → (o : Option (List Field)) → closing_in (add_field (Some f) o) ≡ in_front f (closing_in o)
unfolding ending_of
body_cons f h None = refl
body_cons f h (Some []) = body_last f h
body_cons f h (Some (g ∷ gs)) =
    let e = ending_some g gs in
    rw e.1 (body_front f h e.0)

-- ---- a field of the frame that is not the last, or too long to be the last
frame_front : (f : Field) → is_frame_tag f ≡ true → (e : Ending) → closing_of (Some (record { front = f ∷ e.front; last = e.last })) ≡ None
unfolding closes any
frame_front f h e = rw h refl

frame_last : (f : Field) → 7 < length (field_bytes f) → closing_of (Some (record { front = []; last = f })) ≡ None
unfolding closes any field_bytes
frame_last f l = by (has_tag checksum_tag f) (eqb (length f.value) 3) refl refl
  where
    size : length (field_bytes f) ≡ length f.tag + (1 + (length f.value + 1))
    size = simp length-append (omega arith)

    by : (a b : Bool) → has_tag checksum_tag f ≡ a → eqb (length f.value) 3 ≡ b → closing_by (a && b) [] ≡ None
    by true true p q =
        absurd (omega (arith, size, ap length (same_is f.tag checksum_tag p), eqb-true (length f.value) 3 q))
    by true false p q = refl
    by false b p q = refl

frame_cons : (f : Field) → is_frame_tag f ≡ true → (o : Option (List Field)) → ((gs : List Field) → o ≡ Some gs → 7 < length (field_bytes f ++ fields_bytes gs))
    → closing_in (add_field (Some f) o) ≡ None
unfolding ending_of fields_bytes
frame_cons f h None l = refl
frame_cons f h (Some []) l = frame_last f (rw (append-nil (field_bytes f)) at (l [] refl))
frame_cons f h (Some (g ∷ gs)) l =
    let e = ending_some g gs in
    rw e.1 (frame_front f h e.0)

-- ---- the same on bytes: what is before a byte 1, and what is after it
module _ (p rest : List ℕ) (k : clear p ≡ true) where
  pub closed_body : (f : Field) → field_of p ≡ Some f → is_frame_tag f ≡ false → closed (p ++ (1 ∷ rest)) ≡ in_front f (closed rest)
  unfolding closed
  closed_body f e h = ap closing_in (one_field p rest k ∙ ap (λ (o : Option Field). add_field o (fields_of rest)) e) ∙ body_cons f h (fields_of rest)

  pub closed_frame : (f : Field) → field_of p ≡ Some f → is_frame_tag f ≡ true → 7 < length (p ++ (1 ∷ rest)) → closed (p ++ (1 ∷ rest)) ≡ None
  unfolding closed fields_bytes
  closed_frame f e h l = ap closing_in fields ∙ frame_cons f h (fields_of rest) long
    where
      fields : fields_of (p ++ (1 ∷ rest)) ≡ add_field (Some f) (fields_of rest)
      fields = one_field p rest k ∙ ap (λ (o : Option Field). add_field o (fields_of rest)) e

      long : (gs : List Field) → fields_of rest ≡ Some gs → 7 < length (field_bytes f ++ fields_bytes gs)
      long gs q = rw (fields_bytes_lem (p ++ (1 ∷ rest)) (f ∷ gs) (fields ∙ ap (add_field (Some f)) q)) l

  pub closed_none : field_of p ≡ None → closed (p ++ (1 ∷ rest)) ≡ None
  unfolding closed
  closed_none e = ap closing_in (one_field p rest k ∙ no_field (field_of p) (fields_of rest) e)

-- a first piece that is no field
pub closed_bad : (l : List ℕ) → (length l ≡ 0 → ⊥) → field_of (piece_of l) ≡ None → closed l ≡ None
unfolding closed
closed_bad l h e = ap closing_in (no_first l h e)

-- nothing is left
pub closed-end : closed [] ≡ None
unfolding closed fields_of pieces fields_in ending_of
closed-end = refl
