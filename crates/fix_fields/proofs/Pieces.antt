-- The bytes cut after each byte 1, and one field in front of the others.
use Rattle.std.specs.Prelude.{if◌then◌else◌, Option, None, Some}
use Prim.Native.Nat.{ℕ, suc, ◌<◌}
use native.Mathlib.Omega.{arith}
use mathlib.Core.Path.{◌≡◌, refl, sym, ap, ◌∙◌}
use mathlib.Core.Bool.{Bool, true, false, true≢false}
use mathlib.Core.List.{List, [], ◌∷◌, ◌++◌}
use borrow.Author.Tests.{ne_eqb, eqb-true}
use lib.Dec.{eqb}
use lib.ListN.{length, get_or}
use Rattle.rules.specs.Fields.{Field, grown, pieces, field_of, add_field, fields_in, fields_of}
use Rattle.fix_fields.specs.Tags.{piece_of}

-- ---- bytes without a byte 1
unfoldable pub clear : List ℕ → Bool
clear [] = true
clear (b ∷ bs) = if eqb b 1 then false else clear bs

pub clear-head : (b : ℕ) (l : List ℕ) → clear (b ∷ l) ≡ true → eqb b 1 ≡ false
unfolding clear
clear-head b l h = by (eqb b 1) h
  where
    by : (t : Bool) → (if t then false else clear l) ≡ true → t ≡ false
    by true h = absurd (true≢false (sym h))
    by false h = refl

pub clear-tail : (b : ℕ) (l : List ℕ) → clear (b ∷ l) ≡ true → clear l ≡ true
unfolding clear
clear-tail b l h = by (eqb b 1) h
  where
    by : (t : Bool) → (if t then false else clear l) ≡ true → clear l ≡ true
    by true h = absurd (true≢false (sym h))
    by false h = h

pub clear-cons : (b : ℕ) (l : List ℕ) → (b ≡ 1 → ⊥) → clear l ≡ true → clear (b ∷ l) ≡ true
unfolding clear
clear-cons b l n h = rw (ne_eqb b 1 n) h

pub clear-append : (l m : List ℕ) → clear l ≡ true → clear m ≡ true → clear (l ++ m) ≡ true
unfolding clear
clear-append [] m h k = k
clear-append (b ∷ l) m h k = rw (clear-head b l h) (clear-append l m (clear-tail b l h) k)

-- by its places
pub clear_by : (l : List ℕ) → ((k : ℕ) → k < length l → get_or l k 0 ≡ 1 → ⊥) → clear l ≡ true
unfolding clear
clear_by [] h = refl
clear_by (b ∷ l) h = rw (ne_eqb b 1 (h 0 (omega arith))) (clear_by l (λ k m. h (suc k) (omega arith)))

-- ---- one piece and the others
pub one_piece : (v rest : List ℕ) → clear v ≡ true → pieces (v ++ (1 ∷ rest)) ≡ v ∷ pieces rest
unfolding pieces
one_piece [] rest h = refl
one_piece (b ∷ v) rest h = rw (clear-head b v h, one_piece v rest (clear-tail b v h)) refl

more-pieces : (v : List ℕ) (ps : List (List ℕ)) → (length ps ≡ 0 → ⊥) → fields_in (v ∷ ps) ≡ add_field (field_of v) (fields_in ps)
unfolding fields_in
more-pieces v [] h = absurd (h refl)
more-pieces [] (q ∷ ps) h = refl
more-pieces (b ∷ v) (q ∷ ps) h = refl

-- there is always a last piece
pub some_piece : (bs : List ℕ) → length (pieces bs) ≡ 0 → ⊥
unfolding pieces
some_piece [] h = omega arith
some_piece (b ∷ bs) h = by (eqb b 1) (pieces bs) h
  where
    by : (t : Bool) (ps : List (List ℕ)) → length (if t then [] ∷ ps else grown b ps) ≡ 0 → ⊥
    by true ps h = omega arith
    by false [] h = omega arith
    by false (p ∷ ps) h = omega arith

pub one_field : (v rest : List ℕ) → clear v ≡ true → fields_of (v ++ (1 ∷ rest)) ≡ add_field (field_of v) (fields_of rest)
unfolding fields_of
one_field v rest h = ap fields_in (one_piece v rest h) ∙ more-pieces v (pieces rest) (some_piece rest)

-- ---- the first piece: up to a byte 1, or all
pub data Cut (l : List ℕ) : Type 0 where
  whole : clear l ≡ true → Cut l
  at : (v rest : List ℕ) → clear v ≡ true → l ≡ v ++ (1 ∷ rest) → piece_of l ≡ v → Cut l

pub cut_of : (l : List ℕ) → Cut l
unfolding clear piece_of
cut_of [] = whole refl
cut_of (b ∷ l) = by (eqb b 1) refl (cut_of l)
  where
    by : (t : Bool) → eqb b 1 ≡ t → Cut l → Cut (b ∷ l)
    by true e c = at [] l refl (ap (λ (x : ℕ). x ∷ l) (eqb-true b 1 e)) (rw e refl)
    by false e (whole h) = whole (rw e h)
    by false e (at v rest h q p) = at (b ∷ v) rest (rw e h) (ap (λ (x : List ℕ). b ∷ x) q) (rw (e, p) refl)

pub all_one : (l : List ℕ) → clear l ≡ true → pieces l ≡ l ∷ []
unfolding pieces
all_one [] h = refl
all_one (b ∷ l) h = rw (clear-head b l h, all_one l (clear-tail b l h)) refl

pub unended : (l : List ℕ) → (length l ≡ 0 → ⊥) → fields_in (l ∷ []) ≡ None
unfolding fields_in
unended [] h = absurd (h refl)
unended (b ∷ l) h = refl

pub no_field : (o : Option Field) (fs : Option (List Field)) → o ≡ None → add_field o fs ≡ None
no_field None None e = refl
no_field None (Some fs) e = refl
no_field (Some f) fs e = absurd (let z : ◌≡◌ {A = ℕ} 0 1 = cc in omega arith)

-- a first piece that is no field
pub no_first : (l : List ℕ) → (length l ≡ 0 → ⊥) → field_of (piece_of l) ≡ None → fields_of l ≡ None
unfolding fields_of
no_first l h e = by (cut_of l)
  where
    by : Cut l → fields_of l ≡ None
    by (whole k) = ap fields_in (all_one l k) ∙ unended l h
    by (at v rest k q p) = ap fields_of q ∙ one_field v rest k ∙ no_field (field_of v) (fields_of rest) (ap field_of (sym p) ∙ e)
