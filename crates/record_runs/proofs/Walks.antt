-- A run over records, whatever it gathers: each record is past the limit, refused or taken. By what a run makes of one record, how it
-- stands at a byte of its records, and that one that is not refused has taken them all.
use Rattle.std.specs.Prelude.{if◌then◌else◌}
use Prim.Native.Nat.{ℕ, zero, suc, ◌+◌, ◌*◌, ◌-◌, ◌/◌, ◌≤◌, ◌<◌}
use native.Mathlib.Omega.{arith}
use native.Mathlib.Nat.{div-eq_of_lt, add-div_left}
use mathlib.Core.Path.{◌≡◌, refl, sym, ap, ◌∙◌, subst}
use mathlib.Core.List.{List, [], ◌∷◌, ◌++◌, map, append_assoc, append-nil}
use mathlib.Core.Bool.{Bool, true, false}
use lib.Dec.{leb, ltb}
use lib.ListN.{length, take, drop, length-take, length-drop}
use lib.Seq.{drop-drop}
use borrow.Author.Tests.{lt-leb, leb-true, leb-false, ltb-true, ltb-false}
use Rattle.rules.specs.declared.Row.{Row}
use Rattle.rules.specs.declared.Event.{Event}
use Rattle.lists.specs.Lists.{below}
use Rattle.rules.specs.Answers.{Outcome, accepted, refused}
use Rattle.rules.specs.Causes.{event_refusal}
use Rattle.rules.specs.Records.{fields_of, event_of, good_record, read_record}
use Rattle.rules.specs.Session.{records_of}
use Rattle.record_runs.specs.Internal.{refusal_by, followed}

-- ---- the records of some bytes, from the first on

below-first : (n : ℕ) → below (suc n) ≡ 0 ∷ map suc (below n)
unfolding below
below-first zero = refl
below-first (suc n) = ap (λ (l : List ℕ). l ++ (suc n ∷ [])) (below-first n) ∙ ap (λ (l : List ℕ). 0 ∷ l) (tail (below n) n)
  where
    tail : (l : List ℕ) (k : ℕ) → map suc l ++ (suc k ∷ []) ≡ map suc (l ++ (k ∷ []))
    tail [] k = refl
    tail (x ∷ l) k = ap (λ (m : List ℕ). suc x ∷ m) (tail l k)

map_map : (f : ℕ → List ℕ) (l : List ℕ) (g : ℕ → List ℕ) → ((k : ℕ) → f (suc k) ≡ g k) → map f (map suc l) ≡ map g l
map_map f [] g h = refl
map_map f (x ∷ l) g h = rw (h x, map_map f l g h) refl

how_many_lem : (n : ℕ) → 1 ≤ n → (n + 19) / 20 ≡ suc ((n - 20 + 19) / 20)
how_many_lem n l = go (leb 20 n) refl
  where
    go : (b : Bool) → leb 20 n ≡ b → (n + 19) / 20 ≡ suc ((n - 20 + 19) / 20)
    go true e =
        let k = leb-true 20 n e in
        let to : n + 19 ≡ 20 + (n - 20 + 19) = omega arith in
        let next = add-div_left (n - 20 + 19) {k = 20} (omega arith) in
        ap (λ (x : ℕ). x / 20) to ∙ next ∙ omega arith
    go false e =
        let k = leb-false 20 n e in
        let to : n + 19 ≡ 20 + (n - 1) = omega arith in
        let next = add-div_left (n - 1) {k = 20} (omega arith) in
        let none : (n - 1) / 20 ≡ 0 = div-eq_of_lt (omega arith) in
        let rest : (n - 20 + 19) / 20 ≡ 0 = div-eq_of_lt (omega arith) in
        ap (λ (x : ℕ). x / 20) to ∙ next ∙ omega arith

pub records_none : (bytes : List ℕ) → length bytes ≡ 0 → records_of bytes ≡ []
unfolding records_of below
records_none bytes e = rw e refl

pub records_some : (bytes : List ℕ) → 1 ≤ length bytes → records_of bytes ≡ take 20 bytes ∷ records_of (drop 20 bytes)
unfolding records_of
records_some bytes l =
    let f : ℕ → List ℕ = λ k. take 20 (drop (20 * k) bytes) in
    let g : ℕ → List ℕ = λ k. take 20 (drop (20 * k) (drop 20 bytes)) in
    let same : (k : ℕ) → f (suc k) ≡ g k =
    λ k. let to : 20 * suc k ≡ 20 + 20 * k = omega arith in ap (λ (n : ℕ). take 20 (drop n bytes)) to ∙ ap (take 20) (sym (drop-drop (20 * k) 20 bytes)) in
    ap (λ (n : ℕ). map f (below n)) (how_many_lem (length bytes) l)
    ∙ ap (map f) (below-first ((length bytes - 20 + 19) / 20))
    ∙ ap (λ (l : List (List ℕ)). take 20 bytes ∷ l) (map_map f (below ((length bytes - 20 + 19) / 20)) g same)
    ∙ ap (λ (n : ℕ). take 20 bytes ∷ map g (below ((n + 19) / 20))) (sym (length-drop 20 bytes))

-- a record that is cut short is no event
pub short_record : (bytes : List ℕ) → length bytes < 20 → read_record bytes ≡ refused 15
unfolding read_record good_record
short_record bytes l = rw (lt-leb 20 (length bytes) l) refl

-- a record that is no event is refused by 15
pub fifteen_only : (bytes : List ℕ) (n : ℕ) → read_record bytes ≡ refused n → n ≡ 15
unfolding read_record
fifteen_only bytes n = go (good_record bytes)
  where
    go : (b : Bool) → (if b then accepted (event_of (fields_of bytes)) else refused 15) ≡ refused n → n ≡ 15
    go true e = let z : ◌≡◌ {A = ℕ} 0 1 = cc in absurd (omega arith)
    go false e = cc

-- ---- what a run makes of the record of a place, when these events were accepted before it

pub record Walk {R : Type 0} (halted : ℕ → ℕ → R) (most : ℕ) (row : Row) (run : ℕ → List Event → List (List ℕ) → R) : Type 0 where
  pub past : (place : ℕ) (es : List Event) (r : List ℕ) (rs : List (List ℕ)) → most < place → run place es (r ∷ rs) ≡ halted 15 place
  pub stops : (place : ℕ) (es : List Event) (r : List ℕ) (rs : List (List ℕ)) (n : ℕ) → place ≤ most → refusal_by row es (read_record r) ≡ suc n
      → run place es (r ∷ rs) ≡ halted (suc n) place
  pub goes : (place : ℕ) (es : List Event) (r : List ℕ) (rs : List (List ℕ)) → place ≤ most → refusal_by row es (read_record r) ≡ 0
      → run place es (r ∷ rs) ≡ run (suc place) (followed es (read_record r)) rs

-- ---- where it stands at a byte

module _ {R : Type 0} {halted : ℕ → ℕ → R} {most : ℕ} {row : Row} {run : ℕ → List Event → List (List ℕ) → R} (walk : Walk halted most row run)
    (bytes : List ℕ) (at place : ℕ) (es : List Event) (here : run 1 [] (records_of bytes) ≡ run place es (records_of (drop at bytes))) where
  abbrev this : List ℕ
  this = take 20 (drop at bytes)

  abbrev rest : List (List ℕ)
  rest = records_of (drop 20 (drop at bytes))

  -- no record is left
  pub walk_end : length bytes ≤ at → run 1 [] (records_of bytes) ≡ run place es []
  walk_end l = here ∙ ap (run place es) (records_none (drop at bytes) (omega (arith, length-drop at bytes)))

  -- a record is there
  module _ (l : at < length bytes) where
    next : run 1 [] (records_of bytes) ≡ run place es (this ∷ rest)
    next = here ∙ ap (run place es) (records_some (drop at bytes) (omega (arith, length-drop at bytes)))

    pub walk_stops : (n : ℕ) → 0 < n → place ≤ most → refusal_by row es (read_record this) ≡ n → run 1 [] (records_of bytes) ≡ halted n place
    walk_stops zero z p e = absurd (omega arith)
    walk_stops (suc n) z p e = next ∙ walk.stops place es this rest n p e

    -- the record past the limit, or fewer than 20 bytes
    pub walk_short : (place ≤ most → length bytes < at + 20) → run 1 [] (records_of bytes) ≡ halted 15 place
    walk_short h = go (ltb most place) refl
      where
        few : place ≤ most → length this < 20
        few p = let l = h p in omega (arith, length-take 20 (drop at bytes), length-drop at bytes)

        go : (b : Bool) → ltb most place ≡ b → run 1 [] (records_of bytes) ≡ halted 15 place
        go true e = next ∙ walk.past place es this rest (ltb-true most place e)
        go false e =
            let p = ltb-false most place e in
            walk_stops 15 (omega arith) p (ap (refusal_by row es) (short_record this (few p)))

    pub walk_on : place ≤ most → refusal_by row es (read_record this) ≡ 0
        → run 1 [] (records_of bytes) ≡ run (place + 1) (followed es (read_record this)) (records_of (drop (at + 20) bytes))
    walk_on p e =
        let one : suc place ≡ place + 1 = omega arith in
        next
        ∙ walk.goes place es this rest p e
        ∙ (λ i. run (one i) (followed es (read_record this)) (records_of (drop-drop 20 at bytes i)))

-- ---- one that is not refused has taken every record

module _ {R : Type 0} {halted : ℕ → ℕ → R} {most : ℕ} {row : Row} {run : ℕ → List Event → List (List ℕ) → R} (walk : Walk halted most row run)
    (end : R) (never : (n place : ℕ) → halted n place ≡ end → ⊥)
    (Stands : List Event → Type 0) (more : (es : List Event) (e : Event) → event_refusal row es e ≡ 0 → Stands es → Stands (es ++ (e ∷ []))) where
  -- their events, and what stands of them as it does of each list with an accepted event more
  pub record Taken (es : List Event) (rs : List (List ℕ)) (place : ℕ) : Type 0 where
    pub events : List Event
    pub read : map read_record rs ≡ map accepted events
    pub many : length events ≡ length rs
    pub stands : Stands (es ++ events)
    pub small : place + length rs ≤ most + 1
    pub ends : run (place + length rs) (es ++ events) [] ≡ end

  module _ (es : List Event) (s : Stands es) (r : List ℕ) (rs : List (List ℕ)) (place : ℕ) (h : run place es (r ∷ rs) ≡ end)
      (further : (fs : List Event) → Stands fs → suc place ≤ most + 1 → run (suc place) fs rs ≡ end → Taken fs rs (suc place)) where
    by_event : (e : Event) → read_record r ≡ accepted e → place ≤ most → refusal_by row es (read_record r) ≡ 0 → Taken es (r ∷ rs) place
    by_event e o l z =
        let t =
        further (es ++ (e ∷ [])) (more es e (sym (ap (refusal_by row es) o) ∙ z) s) (omega arith)
        (ap (λ (x : Outcome Event). run (suc place) (followed es x) rs) (sym o) ∙ sym (walk.goes place es r rs l z) ∙ h) in
        let same = append_assoc es (e ∷ []) t.events in
        let count : place + suc (length rs) ≡ suc place + length rs = omega arith in
        record {
          events = e ∷ t.events;
          read = λ i. o i ∷ t.read i;
          many = ap suc t.many;
          stands = subst Stands same t.stands;
          small = omega (arith, t.small);
          ends = (λ i. run (count i) (sym same i) []) ∙ t.ends;
        }

    by_read : (o : Outcome Event) → read_record r ≡ o → place ≤ most → refusal_by row es (read_record r) ≡ 0 → Taken es (r ∷ rs) place
    by_read (accepted e) o l z = by_event e o l z
    by_read (refused n) o l z = absurd (let a = fifteen_only r n o in let b : n ≡ 0 = sym (ap (refusal_by row es) o) ∙ z in omega arith)

    by_number : (n : ℕ) → refusal_by row es (read_record r) ≡ n → place ≤ most → Taken es (r ∷ rs) place
    by_number zero z l = by_read (read_record r) refl l z
    by_number (suc n) z l = absurd (never (suc n) place (sym (walk.stops place es r rs n l z) ∙ h))

    by_place : (b : Bool) → ltb most place ≡ b → Taken es (r ∷ rs) place
    by_place true e = absurd (never 15 place (sym (walk.past place es r rs (ltb-true most place e)) ∙ h))
    by_place false e = by_number (refusal_by row es (read_record r)) refl (ltb-false most place e)

  pub takes : (es : List Event) (rs : List (List ℕ)) (place : ℕ) → Stands es → place ≤ most + 1 → run place es rs ≡ end → Taken es rs place
  takes es [] place s l h =
      let same = append-nil es in
      let count : place + 0 ≡ place = omega arith in
      record {
        events = [];
        read = refl;
        many = refl;
        stands = subst Stands (sym same) s;
        small = omega arith;
        ends = (λ i. run (count i) (same i) []) ∙ h;
      }
  takes es (r ∷ rs) place s l h = by_place es s r rs place h (λ fs t k g. takes fs rs (suc place) t k g) (ltb most place) refl
