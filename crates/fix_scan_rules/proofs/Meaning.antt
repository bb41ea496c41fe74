-- What a row says. A row of status 0 is that of a message at its place; any other says that 8=FIX. begins there and no message is there.
-- The words of a tag are the place, the length and the repeat of its first value.
use Rattle.std.specs.Prelude.{if◌then◌else◌, Option, None, Some}
use Prim.Native.Nat.{ℕ, zero, suc, ◌+◌, ◌-◌, ◌≤◌}
use native.Mathlib.Numerals.{add-one}
use native.Mathlib.Omega.{arith}
use mathlib.Core.Path.{◌≡◌, refl, sym, ap, subst, ◌∙◌}
use mathlib.Core.Bool.{Bool, true, false, ◌||◌}
use mathlib.Core.List.{List, [], ◌∷◌, ◌++◌, append_assoc}
use borrow.Author.Tests.{ltb-false, lt-ltb}
use lib.Dec.{ltb}
use lib.ListN.{length, take, drop, length-append}
use lib.Seq.{length-take-le, drop-drop, drop_at, take_at}
use Rattle.lists.specs.Lists.{any, All}
use Rattle.rules.specs.Fields.{Field, field_bytes, fields_bytes, has_tag, values_of}
use Rattle.fix_scan_rules.specs.AnyFrame.{AnyBody, any_body_in}
use Rattle.fix_scan_rules.specs.Rows.{begin_in, size_of_in, row_with, row_by, row_in}
use Rattle.fix_scan_rules.specs.Scans.{size_in, Turn, row, cut, wrong_row, turn_by, turn_with, turn_of, Scan, stopped, begins, scan_from, scanned}
use Rattle.fix_scan_rules.specs.Scans as S

-- ---- rows
pub data Says (tags b : List ℕ) : List ℕ → Type 0 where
  message : (at n : ℕ) (body : AnyBody) → n ≤ length (drop at b) → any_body_in (take n (drop at b)) ≡ Some body → Says tags b (at ∷ row_with n tags body)
  broken : (at : ℕ) → begins (drop at b) ≡ true → Says tags b (wrong_row tags at)

row_says : (tags b : List ℕ) (at n : ℕ) (r : List ℕ) → n ≤ length (drop at b) → row_in tags (take n (drop at b)) ≡ Some r → Says tags b (at ∷ r)
unfolding row_in
row_says tags b at n r h e = by (any_body_in (take n (drop at b))) refl e
  where
    by : (o : Option AnyBody) → any_body_in (take n (drop at b)) ≡ o → row_by (length (take n (drop at b))) tags o ≡ Some r → Says tags b (at ∷ r)
    by None q e = absurd (let z : ◌≡◌ {A = ℕ} 0 1 = cc in omega arith)
    by (Some body) q e =
        let is : row_with (length (take n (drop at b))) tags body ≡ r = cc in
        subst (λ (x : List ℕ). Says tags b (at ∷ x)) (ap (λ (k : ℕ). row_with k tags body) (sym (length-take-le n (drop at b) h)) ∙ is) (message at n body h q)

turn_says : (tags b : List ℕ) (at : ℕ) (l r : List ℕ) (n : ℕ) → drop at b ≡ l → begins l ≡ true → turn_of tags at l ≡ row r n → Says tags b r
unfolding turn_of
turn_says tags b at l r n d g e = by (size_in l) e
  where
    wrong : (k : ℕ) → row (wrong_row tags at) 1 ≡ row r k → Says tags b r
    wrong k e = let is : wrong_row tags at ≡ r = cc in subst (Says tags b) is (broken at (ap begins d ∙ g))

    rowed : (k : ℕ) → k ≤ length l → (o : Option (List ℕ)) → row_in tags (take k l) ≡ o → turn_by tags at k o ≡ row r n → Says tags b r
    rowed k h None q e = wrong n e
    rowed k h (Some x) q e =
        let is : at ∷ x ≡ r = cc in
        subst (Says tags b) is (row_says tags b at k x (rw d h) (ap (λ (m : List ℕ). row_in tags (take k m)) d ∙ q))

    whole : (k : ℕ) (t : Bool) → ltb (length l) k ≡ t → (if t then cut else turn_by tags at k (row_in tags (take k l))) ≡ row r n → Says tags b r
    whole k true q e = absurd (let z : ◌≡◌ {A = ℕ} 0 1 = cc in omega arith)
    whole k false q e = rowed k (ltb-false (length l) k q) (row_in tags (take k l)) refl e

    by : (o : Option ℕ) → turn_with tags at l o ≡ row r n → Says tags b r
    by None e = wrong n e
    by (Some k) e = whole k (ltb (length l) k) refl e

drop_one : (b : List ℕ) (at x : ℕ) (l : List ℕ) → drop at b ≡ x ∷ l → drop (suc at) b ≡ l
drop_one b at x l d = ap (λ (k : ℕ). drop k b) (sym (add-one at)) ∙ sym (drop-drop 1 at b) ∙ ap (drop 1) d

found_says : (tags b : List ℕ) (at : ℕ) (l : List ℕ) → drop at b ≡ l → begins l ≡ true → (room : ℕ) (t : Turn) → turn_of tags at l ≡ t → (go : ℕ → ℕ → Scan)
    → ((left n : ℕ) → All (Says tags b) (go left n).rows) → All (Says tags b) (S.found room at t go).rows
found_says tags b at l d g zero t e go h = tt
found_says tags b at l d g (suc room) cut e go h = tt
found_says tags b at l d g (suc room) (row r n) e go h = (turn_says tags b at l r n d g e, h room n)

scan_says : (tags b l : List ℕ) (skip room at : ℕ) → drop at b ≡ l → All (Says tags b) (scan_from skip room tags at l).rows
unfolding scan_from
scan_says tags b [] skip room at d = tt
scan_says tags b (x ∷ l) (suc skip) room at d = scan_says tags b l skip room (suc at) (drop_one b at x l d)
scan_says tags b (x ∷ l) zero room at d =
    by (ltb (length (x ∷ l)) 26) (begins (x ∷ l)) refl (λ skip left. scan_says tags b l skip left (suc at) (drop_one b at x l d))
  where
    by : (s t : Bool) → begins (x ∷ l) ≡ t → ((skip left : ℕ) → All (Says tags b) (scan_from skip left tags (suc at) l).rows)
        → All (Says tags b)
        (if s then stopped at else if t then S.found room at (turn_of tags at (x ∷ l)) (λ left n. scan_from (n - 1) left tags (suc at) l) else scan_from zero room tags (suc at) l).rows
    by true t g again = tt
    by false true g again = found_says tags b at (x ∷ l) d g room (turn_of tags at (x ∷ l)) refl (λ left n. scan_from (n - 1) left tags (suc at) l) (λ left n. again (n - 1) left)
    by false false g again = again zero room

pub rows_say : (room : ℕ) (tags b : List ℕ) → All (Says tags b) (scanned room tags b).rows
unfolding scanned
rows_say room tags b = scan_says tags b b 0 room 0 refl

-- ---- values
-- the words of a tag, by the values of it
abbrev pub FirstValue : List ℕ → List (List ℕ) → ℕ → ℕ → Type 0
FirstValue m [] begin size = (begin ≡ 0) × (size ≡ 0)
FirstValue m (v ∷ []) begin size = (take (length v) (drop begin m) ≡ v) × (size ≡ length v)
FirstValue m (v ∷ w ∷ vs) begin size = (take (length v) (drop begin m) ≡ v) × (size ≡ length v + 2147483648)

-- whether there is another
some_values : (tag : List ℕ) (fs : List Field) → any (has_tag tag) fs ≡ (if ltb 0 (length (values_of tag fs)) then true else false)
unfolding any values_of
some_values tag [] = refl
some_values tag (f ∷ fs) = by (has_tag tag f) (some_values tag fs)
  where
    by : (t : Bool) → any (has_tag tag) fs ≡ (if ltb 0 (length (values_of tag fs)) then true else false)
        → t || any (has_tag tag) fs ≡ (if ltb 0 (length (if t then f.value ∷ values_of tag fs else values_of tag fs)) then true else false)
    by true h = rw (lt-ltb 0 (length (f.value ∷ values_of tag fs)) (omega arith)) refl
    by false h = h

field_split : (f : Field) (rest : List ℕ) → field_bytes f ++ rest ≡ (f.tag ++ (61 ∷ [])) ++ (f.value ++ (1 ∷ rest))
unfolding field_bytes
field_split f rest = simp append_assoc

fields_split : (f : Field) (fs : List Field) (rest : List ℕ) → fields_bytes (f ∷ fs) ++ rest ≡ field_bytes f ++ (fields_bytes fs ++ rest)
unfolding fields_bytes
fields_split f fs rest = append_assoc (field_bytes f) (fields_bytes fs) rest

-- the bytes of the fields begin at the place, with others after them
pub first-value : (tag m : List ℕ) (fs : List Field) (at : ℕ) (rest : List ℕ) → drop at m ≡ fields_bytes fs ++ rest
    → FirstValue m (values_of tag fs) (begin_in at tag fs) (size_of_in tag fs)
unfolding values_of begin_in size_of_in
first-value tag m [] at rest d = (refl, refl)
first-value tag m (f ∷ fs) at rest d = by (has_tag tag f) (first-value tag m fs (at + length (field_bytes f)) rest onward)
  where
    onward : drop (at + length (field_bytes f)) m ≡ fields_bytes fs ++ rest
    onward =
        sym (drop-drop (length (field_bytes f)) at m) ∙ ap (drop (length (field_bytes f))) (d ∙ fields_split f fs rest)
        ∙ drop_at (field_bytes f) (fields_bytes fs ++ rest) (length (field_bytes f)) refl

    here : drop (at + length f.tag + 1) m ≡ f.value ++ (1 ∷ (fields_bytes fs ++ rest))
    here =
        ap (λ (k : ℕ). drop k m) (let p : at + length f.tag + 1 ≡ at + (length f.tag + 1) = omega arith in p)
        ∙ sym (drop-drop (length f.tag + 1) at m)
        ∙ ap (drop (length f.tag + 1)) (d ∙ fields_split f fs rest ∙ field_split f (fields_bytes fs ++ rest))
        ∙ drop_at (f.tag ++ (61 ∷ [])) (f.value ++ (1 ∷ (fields_bytes fs ++ rest))) (length f.tag + 1) (length-append f.tag (61 ∷ []))

    value : take (length f.value) (drop (at + length f.tag + 1) m) ≡ f.value
    value = ap (take (length f.value)) here ∙ take_at f.value (1 ∷ (fields_bytes fs ++ rest)) (length f.value) refl

    first : (vs : List (List ℕ)) → any (has_tag tag) fs ≡ (if ltb 0 (length vs) then true else false)
        → FirstValue m (f.value ∷ vs) (at + length f.tag + 1) (length f.value + (if any (has_tag tag) fs then 2147483648 else 0))
    first [] e = (value, rw e (omega arith))
    first (w ∷ vs) e =
        let more : (if ltb 0 (length (w ∷ vs)) then true else false) ≡ true = rw (lt-ltb 0 (length (w ∷ vs)) (omega arith)) refl in
        (value, rw (e ∙ more) refl)

    by : (t : Bool) → FirstValue m (values_of tag fs) (begin_in (at + length (field_bytes f)) tag fs) (size_of_in tag fs)
        → FirstValue m (if t then f.value ∷ values_of tag fs else values_of tag fs)
        (if t then at + length f.tag + 1 else begin_in (at + length (field_bytes f)) tag fs)
        (if t then length f.value + (if any (has_tag tag) fs then 2147483648 else 0) else size_of_in tag fs)
    by true h = first (values_of tag fs) (some_values tag fs)
    by false h = h
