-- The fields of some bytes, written one behind the other, are those bytes.
use Rattle.std.specs.Prelude.{if◌then◌else◌, Option, None, Some}
use Prim.Native.Nat.{ℕ}
use native.Mathlib.Omega.{arith}
use mathlib.Core.Path.{◌≡◌, refl, sym, ap, ◌∙◌}
use mathlib.Core.Bool.{Bool, true, false, ◌&&◌}
use mathlib.Core.List.{List, [], ◌∷◌, ◌++◌, append_assoc}
use borrow.Author.Tests.{eqb-true}
use lib.Dec.{eqb}
use lib.ListN.{length}
use Rattle.rules.specs.Fields.{Field, field_bytes, fields_bytes, grown, pieces, tagged_by, split_field, good_tag, good_value, good_field, field_of, add_field, fields_in, fields_of}
use Rattle.fix_fields.proofs.Pieces.{some_piece}

-- ---- the pieces with bytes 1 between them
joined : List (List ℕ) → List ℕ
joined [] = []
joined (p ∷ []) = p
joined (p ∷ q ∷ ps) = p ++ (1 ∷ joined (q ∷ ps))

joined-first : (p : List ℕ) (ps : List (List ℕ)) → (length ps ≡ 0 → ⊥) → joined (p ∷ ps) ≡ p ++ (1 ∷ joined ps)
unfolding joined
joined-first p [] h = absurd (h refl)
joined-first p (q ∷ ps) h = refl

joined-grown : (b : ℕ) (ps : List (List ℕ)) → (length ps ≡ 0 → ⊥) → joined (grown b ps) ≡ b ∷ joined ps
unfolding joined
joined-grown b [] h = absurd (h refl)
joined-grown b (p ∷ []) h = refl
joined-grown b (p ∷ q ∷ ps) h = refl

joined-pieces : (l : List ℕ) → joined (pieces l) ≡ l
unfolding joined pieces
joined-pieces [] = refl
joined-pieces (b ∷ l) = by (eqb b 1) refl (joined-pieces l)
  where
    by : (t : Bool) → eqb b 1 ≡ t → joined (pieces l) ≡ l → joined (if t then [] ∷ pieces l else grown b (pieces l)) ≡ b ∷ l
    by true e h = joined-first [] (pieces l) (some_piece l) ∙ (λ i. sym (eqb-true b 1 e) i ∷ h i)
    by false e h = joined-grown b (pieces l) (some_piece l) ∙ ap (λ (m : List ℕ). b ∷ m) h

-- ---- one field
-- a byte in front of a piece that was split, or of one that is not looked at
split_rest : (b : ℕ) (p : List ℕ) (o : Option Field) (f : Field) → ((g : Field) → o ≡ Some g → g.tag ++ (61 ∷ g.value) ≡ p)
    → tagged_by b o ≡ Some f → f.tag ++ (61 ∷ f.value) ≡ b ∷ p
split_rest b p None f h e = absurd (let z : ◌≡◌ {A = ℕ} 0 1 = cc in omega arith)
split_rest b p (Some g) f h e =
    let is : record { tag = b ∷ g.tag; value = g.value } ≡ f = cc in
    sym (ap (λ (x : Field). x.tag ++ (61 ∷ x.value)) is) ∙ ap (λ (l : List ℕ). b ∷ l) (h g refl)

split_by : (b : ℕ) (p : List ℕ) (o : Option Field) (f : Field) → ((g : Field) → o ≡ Some g → g.tag ++ (61 ∷ g.value) ≡ p)
    → (t : Bool) → eqb b 61 ≡ t → (if t then Some (record { tag = []; value = p }) else tagged_by b o) ≡ Some f
    → f.tag ++ (61 ∷ f.value) ≡ b ∷ p
split_by b p o f k true h e =
    let is : record { tag = []; value = p } ≡ f = cc in
    sym (ap (λ (x : Field). x.tag ++ (61 ∷ x.value)) is) ∙ ap (λ (x : ℕ). x ∷ p) (sym (eqb-true b 61 h))
split_by b p o f k false h e = split_rest b p o f k e

split_bytes : (p : List ℕ) (f : Field) → split_field p ≡ Some f → f.tag ++ (61 ∷ f.value) ≡ p
unfolding split_field
split_bytes [] f e = absurd (let z : ◌≡◌ {A = ℕ} 0 1 = cc in omega arith)
split_bytes (b ∷ p) f e = split_by b p (split_field p) f (split_bytes p) (eqb b 61) refl e

good_field_lem : (o : Option Field) (f : Field) → good_field o ≡ Some f → o ≡ Some f
good_field_lem None f e = absurd (let z : ◌≡◌ {A = ℕ} 0 1 = cc in omega arith)
good_field_lem (Some g) f e = by (good_tag g.tag && good_value g.value) e
  where
    by : (t : Bool) → (if t then Some g else None) ≡ Some f → Some g ≡ Some f
    by true e = e
    by false e = absurd (let z : ◌≡◌ {A = ℕ} 0 1 = cc in omega arith)

field_bytes_lem : (p : List ℕ) (f : Field) → field_of p ≡ Some f → f.tag ++ (61 ∷ f.value) ≡ p
unfolding field_of
field_bytes_lem p f e = split_bytes p f (good_field_lem (split_field p) f e)

-- ---- all fields
pub record Added (o : Option Field) (os : Option (List Field)) (fs : List Field) : Type 0 where
  pub field : Field
  pub others : List Field
  pub first : o ≡ Some field
  pub rest : os ≡ Some others
  pub all : fs ≡ field ∷ others

pub added : (o : Option Field) (os : Option (List Field)) (fs : List Field) → add_field o os ≡ Some fs → Added o os fs
added None None fs e = absurd (let z : ◌≡◌ {A = ℕ} 0 1 = cc in omega arith)
added None (Some gs) fs e = absurd (let z : ◌≡◌ {A = ℕ} 0 1 = cc in omega arith)
added (Some f) None fs e = absurd (let z : ◌≡◌ {A = ℕ} 0 1 = cc in omega arith)
added (Some f) (Some gs) fs e = record { field = f; others = gs; first = refl; rest = refl; all = sym (cc) }

front : (f : Field) (p l m : List ℕ) → f.tag ++ (61 ∷ f.value) ≡ p → l ≡ m → field_bytes f ++ l ≡ p ++ (1 ∷ m)
unfolding field_bytes
front f p l m e h = rw (← e, ← h) (simp append_assoc)

in_bytes : (ps : List (List ℕ)) (fs : List Field) → fields_in ps ≡ Some fs → fields_bytes fs ≡ joined ps
unfolding fields_in fields_bytes joined
in_bytes [] fs e = absurd (let z : ◌≡◌ {A = ℕ} 0 1 = cc in omega arith)
in_bytes ([] ∷ []) fs e = let is : fs ≡ [] = cc in ap fields_bytes is
in_bytes ((b ∷ bs) ∷ []) fs e = absurd (let z : ◌≡◌ {A = ℕ} 0 1 = cc in omega arith)
in_bytes (p ∷ q ∷ ps) fs e =
    let a = added (field_of p) (fields_in (q ∷ ps)) fs e in
    ap fields_bytes a.all
    ∙ front a.field p (fields_bytes a.others) (joined (q ∷ ps)) (field_bytes_lem p a.field a.first) (in_bytes (q ∷ ps) a.others a.rest)

pub fields_bytes_lem : (l : List ℕ) (fs : List Field) → fields_of l ≡ Some fs → fields_bytes fs ≡ l
unfolding fields_of
fields_bytes_lem l fs e = in_bytes (pieces l) fs e ∙ joined-pieces l
