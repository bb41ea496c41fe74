-- The first field of some bytes: its value is one byte or more, and has no byte 1.
use Rattle.std.specs.Prelude.{if◌then◌else◌, Option, None, Some}
use Prim.Native.Nat.{ℕ, ◌<◌}
use native.Mathlib.Omega.{arith}
use mathlib.Core.Path.{◌≡◌, refl, sym, ap, ◌∙◌}
use mathlib.Core.Bool.{Bool, true, false, ◌&&◌}
use mathlib.Core.List.{List, [], ◌∷◌, ◌++◌, append_assoc}
use lib.ListN.{length, take, length-append}
use lib.Seq.{take_at}
use Rattle.rules.specs.Fields.{Field, field_bytes, pieces, good_tag, good_value, good_field, split_field, field_of, add_field, fields_in, fields_of}
use Rattle.fix_fields.proofs.Pieces.{clear, clear-tail, one_field, Cut, whole, at, cut_of, all_one}
use Rattle.fix_fields.proofs.Bytes.{added, fields_bytes_lem}
use Rattle.fix_frame.proofs.Shapes.{one_bytes}

clear_back : (l m : List ℕ) → clear (l ++ m) ≡ true → clear m ≡ true
clear_back [] m h = h
clear_back (b ∷ l) m h = clear_back l m (clear-tail b (l ++ m) h)

same-front : (l m : List ℕ) → l ++ (1 ∷ []) ≡ m ++ (1 ∷ []) → l ≡ m
same-front l m e =
    let same : length m ≡ length l = omega (arith, ap length e, length-append l (1 ∷ []), length-append m (1 ∷ [])) in
    sym (take_at l (1 ∷ []) (length l) refl) ∙ ap (take (length l)) e ∙ take_at m (1 ∷ []) (length l) same

no_fields : fields_of [] ≡ Some []
unfolding fields_of pieces fields_in
no_fields = refl

value_bytes : (v : List ℕ) (f : Field) → clear v ≡ true → field_of v ≡ Some f → f.tag ++ (61 ∷ f.value) ≡ v
unfolding field_bytes
value_bytes v f k e =
    same-front (f.tag ++ (61 ∷ f.value)) v
    (append_assoc f.tag (61 ∷ f.value) (1 ∷ []) ∙ sym (one_bytes f)
    ∙ fields_bytes_lem (v ++ (1 ∷ [])) (f ∷ []) (one_field v [] k ∙ (λ i. add_field (e i) (no_fields i))))

value-clear : (v : List ℕ) (f : Field) → clear v ≡ true → field_of v ≡ Some f → clear f.value ≡ true
value-clear v f k e = clear-tail 61 f.value (clear_back f.tag (61 ∷ f.value) (ap clear (value_bytes v f k e) ∙ k))

value_some : (v : List ℕ) (f : Field) → field_of v ≡ Some f → 0 < length f.value
unfolding field_of
value_some v f e = by (split_field v) e
  where
    long : (l : List ℕ) → good_value l ≡ true → 0 < length l
    long [] h = absurd (let z : ◌≡◌ {A = ℕ} 0 1 = cc in omega arith)
    long (b ∷ l) h = omega arith

    good : (g : Field) (s t : Bool) → good_value g.value ≡ t → (if s && t then Some g else None) ≡ Some f → 0 < length f.value
    good g true true h e = let is : g ≡ f = cc in rw is at (long g.value h)
    good g true false h e = absurd (let z : ◌≡◌ {A = ℕ} 0 1 = cc in omega arith)
    good g false t h e = absurd (let z : ◌≡◌ {A = ℕ} 0 1 = cc in omega arith)

    by : (o : Option Field) → good_field o ≡ Some f → 0 < length f.value
    by None e = absurd (let z : ◌≡◌ {A = ℕ} 0 1 = cc in omega arith)
    by (Some g) e = good g (good_tag g.tag) (good_value g.value) refl e

pub record FirstField (f : Field) (fs : List Field) : Type 0 where
  pub rest : List ℕ
  pub others : fields_of rest ≡ Some fs
  pub clean : clear f.value ≡ true
  pub some_value : 0 < length f.value

pub first_field : (l : List ℕ) (f : Field) (fs : List Field) → fields_of l ≡ Some (f ∷ fs) → FirstField f fs
unfolding fields_of fields_in
first_field l f fs e = by (cut_of l)
  where
    none-there : (m : List ℕ) → fields_in (m ∷ []) ≡ Some (f ∷ fs) → FirstField f fs
    none-there [] h = absurd (let z : ◌≡◌ {A = ℕ} 0 1 = cc in omega arith)
    none-there (b ∷ m) h = absurd (let z : ◌≡◌ {A = ℕ} 0 1 = cc in omega arith)

    by : Cut l → FirstField f fs
    by (whole k) = none-there l (sym (ap fields_in (all_one l k)) ∙ e)
    by (at v rest k q p) =
        let a = added (field_of v) (fields_of rest) (f ∷ fs) (sym (one_field v rest k) ∙ sym (ap fields_of q) ∙ e) in
        let one : f ≡ a.field = cc a.all in
        let more : fs ≡ a.others = cc a.all in
        let is : field_of v ≡ Some f = a.first ∙ ap Some (sym one) in
        record { rest = rest; others = a.rest ∙ ap Some (sym more); clean = value-clear v f k is; some_value = value_some v f is }
