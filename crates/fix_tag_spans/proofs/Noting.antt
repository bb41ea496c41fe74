-- The words of the wanted tags after a further field.
use Rattle.std.specs.Prelude.{if◌then◌else◌}
use Prim.Native.Nat.{ℕ, suc, ◌+◌, ◌*◌, ◌-◌, ◌≤◌, ◌<◌}
use native.Mathlib.Omega.{arith}
use mathlib.Core.Path.{◌≡◌, refl, sym, ap, ◌∙◌}
use mathlib.Core.Bool.{Bool, true, false, ◌||◌, true≢false}
use mathlib.Core.List.{List, [], ◌∷◌, ◌++◌}
use borrow.Author.Tests.{eq-eqb, ne_eqb, lt-ltb, le-ltb, eqb-true, eqb-false}
use lib.Dec.{eqb, ltb}
use lib.ListN.{length, get_or, set, replicate, length-append, length-set, length-replicate, get_or-replicate}
use lib.Seq.{get_or-set_same, get_or-set_other}
use Rattle.lists.specs.Lists.{any}
use Rattle.rules.specs.Digits.{decimal_of}
use Rattle.rules.specs.Fields.{Field, field_bytes, fields_bytes, has_tag}
use Rattle.fix_scan_rules.specs.Rows.{begin_in, size_of_in, spans_in}
use Rattle.fix_tag_spans.specs.Internal.{noted_at}

field_length : (f : Field) → length (field_bytes f) ≡ length f.tag + 1 + (length f.value + 1)
unfolding field_bytes
field_length f = length-append f.tag (61 ∷ (f.value ++ (1 ∷ []))) ∙ omega (arith, length-append f.value (1 ∷ []))

pub fields-length : (f : Field) (fs : List Field) → length (fields_bytes (f ∷ fs)) ≡ length (field_bytes f) + length (fields_bytes fs)
unfolding fields_bytes
fields-length f fs = length-append (field_bytes f) (fields_bytes fs)

no_length : length (fields_bytes []) ≡ 0
unfolding fields_bytes
no_length = refl

pub snoc_length : (fs : List Field) (f : Field) → length (fields_bytes (fs ++ (f ∷ []))) ≡ length (fields_bytes fs) + (length f.tag + 1 + (length f.value + 1))
snoc_length [] f = omega (arith, fields-length f [], no_length, field_length f)
snoc_length (g ∷ fs) f = omega (arith, fields-length g (fs ++ (f ∷ [])), fields-length g fs, snoc_length fs f)

module _ (u : List ℕ) (f : Field) where
  -- ---- another tag
  any-other : has_tag u f ≡ false → (fs : List Field) → any (has_tag u) (fs ++ (f ∷ [])) ≡ any (has_tag u) fs
  unfolding any
  any-other h [] = rw h refl
  any-other h (g ∷ fs) = ap (λ (d : Bool). has_tag u g || d) (any-other h fs)

  begin_other : has_tag u f ≡ false → (at : ℕ) (fs : List Field) → begin_in at u (fs ++ (f ∷ [])) ≡ begin_in at u fs
  unfolding begin_in
  begin_other h at [] = rw h refl
  begin_other h at (g ∷ fs) = ap (λ (n : ℕ). if has_tag u g then at + length g.tag + 1 else n) (begin_other h (at + length (field_bytes g)) fs)

  size-other : has_tag u f ≡ false → (fs : List Field) → size_of_in u (fs ++ (f ∷ [])) ≡ size_of_in u fs
  unfolding size_of_in any
  size-other h [] = rw h refl
  size-other h (g ∷ fs) =
      (λ i. if has_tag u g then length g.value + (if any-other h fs i then 2147483648 else 0) else size-other h fs i)

  -- ---- the first value of the tag
  or_parts : (a b : Bool) → a || b ≡ false → (a ≡ false) × (b ≡ false)
  or_parts true b h = absurd (true≢false h)
  or_parts false b h = (refl, h)

  begin_zero : (at : ℕ) (fs : List Field) → any (has_tag u) fs ≡ false → begin_in at u fs ≡ 0
  unfolding begin_in any
  begin_zero at [] h = refl
  begin_zero at (g ∷ fs) h = let o = or_parts (has_tag u g) (any (has_tag u) fs) h in rw o.0 (begin_zero (at + length (field_bytes g)) fs o.1)

  begin_first : has_tag u f ≡ true → (at : ℕ) (fs : List Field) → any (has_tag u) fs ≡ false
      → begin_in at u (fs ++ (f ∷ [])) ≡ at + length (fields_bytes fs) + length f.tag + 1
  unfolding begin_in any
  begin_first t at [] h = rw t (omega (arith, no_length))
  begin_first t at (g ∷ fs) h =
      let o = or_parts (has_tag u g) (any (has_tag u) fs) h in
      rw o.0 (begin_first t (at + length (field_bytes g)) fs o.1 ∙ omega (arith, fields-length g fs))

  size-first : has_tag u f ≡ true → (fs : List Field) → any (has_tag u) fs ≡ false → size_of_in u (fs ++ (f ∷ [])) ≡ length f.value
  unfolding size_of_in any
  size-first t [] h = rw t (omega arith)
  size-first t (g ∷ fs) h = let o = or_parts (has_tag u g) (any (has_tag u) fs) h in rw o.0 (size-first t fs o.1)

  -- ---- a further one
  begin_some : (at : ℕ) (fs : List Field) → any (has_tag u) fs ≡ true → begin_in at u fs ≡ 0 → ⊥
  unfolding begin_in any
  begin_some at [] h z = absurd (true≢false (sym h))
  begin_some at (g ∷ fs) h z = by (has_tag u g) (begin_some (at + length (field_bytes g)) fs) h z
    where
      by : (d : Bool) → (any (has_tag u) fs ≡ true → begin_in (at + length (field_bytes g)) u fs ≡ 0 → ⊥) → d || any (has_tag u) fs ≡ true
          → (if d then at + length g.tag + 1 else begin_in (at + length (field_bytes g)) u fs) ≡ 0 → ⊥
      by true again h z = omega arith
      by false again h z = again h z

  begin_stays : (at : ℕ) (fs : List Field) → any (has_tag u) fs ≡ true → begin_in at u (fs ++ (f ∷ [])) ≡ begin_in at u fs
  unfolding begin_in any
  begin_stays at [] h = absurd (true≢false (sym h))
  begin_stays at (g ∷ fs) h = by (has_tag u g) (begin_stays (at + length (field_bytes g)) fs) h
    where
      by : (d : Bool) → (any (has_tag u) fs ≡ true → begin_in (at + length (field_bytes g)) u (fs ++ (f ∷ [])) ≡ begin_in (at + length (field_bytes g)) u fs)
          → d || any (has_tag u) fs ≡ true
          → (if d then at + length g.tag + 1 else begin_in (at + length (field_bytes g)) u (fs ++ (f ∷ [])))
          ≡ (if d then at + length g.tag + 1 else begin_in (at + length (field_bytes g)) u fs)
      by true again h = refl
      by false again h = again h

  any_last : has_tag u f ≡ true → (fs : List Field) → any (has_tag u) (fs ++ (f ∷ [])) ≡ true
  unfolding any
  any_last t [] = rw t refl
  any_last t (g ∷ fs) = by (has_tag u g) (any_last t fs)
    where
      by : (d : Bool) → any (has_tag u) (fs ++ (f ∷ [])) ≡ true → d || any (has_tag u) (fs ++ (f ∷ [])) ≡ true
      by true h = refl
      by false h = h

  -- one value so far, or more: 2^31 is added once
  pub marked : ℕ → ℕ
  marked z = if ltb z 2147483648 then z + 2147483648 else z

  size-again : has_tag u f ≡ true → (fs : List Field) → length (fields_bytes fs) < 2147483648 → any (has_tag u) fs ≡ true
      → size_of_in u (fs ++ (f ∷ [])) ≡ marked (size_of_in u fs)
  unfolding size_of_in any marked
  size-again t [] l h = absurd (true≢false (sym h))
  size-again t (g ∷ fs) l h =
      by (has_tag u g) (any (has_tag u) fs) refl (size-again t fs (omega (arith, fields-length g fs))) h
    where
      by : (d e : Bool) → any (has_tag u) fs ≡ e → (any (has_tag u) fs ≡ true → size_of_in u (fs ++ (f ∷ [])) ≡ marked (size_of_in u fs)) → d || e ≡ true
          → (if d then length g.value + (if any (has_tag u) (fs ++ (f ∷ [])) then 2147483648 else 0) else size_of_in u (fs ++ (f ∷ [])))
          ≡ marked (if d then length g.value + (if e then 2147483648 else 0) else size_of_in u fs)
      by true true q again h =
          rw (any_last t fs, le-ltb (length g.value + 2147483648) 2147483648 (omega arith)) refl
      by true false q again h =
          let small : length g.value + 0 < 2147483648 = omega (arith, fields-length g fs, field_length g) in
          rw (any_last t fs, lt-ltb (length g.value + 0) 2147483648 small) (omega arith)
      by false true q again h = again q
      by false false q again h = absurd (true≢false (sym h))

-- ---- the words
pub record Words (start : ℕ) (tags spans : List ℕ) (fs : List Field) : Type 0 where
  pub size : length spans ≡ 2 * length tags
  pub begins : (j : ℕ) → j < length tags → get_or spans (2 * j) 0 ≡ begin_in start (decimal_of (get_or tags j 0)) fs
  pub sizes : (j : ℕ) → j < length tags → get_or spans (2 * j + 1) 0 ≡ size_of_in (decimal_of (get_or tags j 0)) fs

pub no_words : (start n : ℕ) (tags spans : List ℕ) → n ≡ 2 * length tags → spans ≡ replicate n 0 → Words start tags spans []
unfolding begin_in size_of_in
no_words start n tags spans h e =
    record {
      size = ap length e ∙ length-replicate n 0 ∙ h;
      begins = λ j l. ap (λ (s : List ℕ). get_or s (2 * j) 0) e ∙ get_or-replicate n (2 * j) 0 0 (omega arith);
      sizes = λ j l. ap (λ (s : List ℕ). get_or s (2 * j + 1) 0) e ∙ get_or-replicate n (2 * j + 1) 0 0 (omega arith);
    }

pub all_words : (start : ℕ) (tags spans : List ℕ) (fs : List Field) → Words start tags spans fs → spans ≡ spans_in start tags fs
unfolding spans_in
all_words start [] [] fs w = refl
all_words start [] (a ∷ s) fs w = absurd (omega (arith, w.size))
all_words start (t ∷ ts) [] fs w = absurd (omega (arith, w.size))
all_words start (t ∷ ts) (a ∷ []) fs w = absurd (omega (arith, w.size))
all_words start (t ∷ ts) (a ∷ z ∷ s) fs w =
    let rest : Words start ts s fs = record {
      size = omega (arith, w.size);
      begins = λ j l. ap (λ (k : ℕ). get_or (a ∷ z ∷ s) k 0) (let p : suc (suc (2 * j)) ≡ 2 * suc j = omega arith in p) ∙ w.begins (suc j) (omega arith);
      sizes = λ j l. ap (λ (k : ℕ). get_or (a ∷ z ∷ s) k 0) (let p : suc (suc (2 * j + 1)) ≡ 2 * suc j + 1 = omega arith in p) ∙ w.sizes (suc j) (omega arith);
    } in
    λ i. w.begins 0 (omega arith) i ∷ w.sizes 0 (omega arith) i ∷ all_words start ts s fs rest i

-- a tag that is not wanted
pub words_skip : (start : ℕ) (tags spans : List ℕ) (fs : List Field) (f : Field) → Words start tags spans fs
    → ((j : ℕ) → j < length tags → has_tag (decimal_of (get_or tags j 0)) f ≡ false) → Words start tags spans (fs ++ (f ∷ []))
words_skip start tags spans fs f w h =
    record {
      size = w.size;
      begins = λ j l. w.begins j l ∙ sym (begin_other (decimal_of (get_or tags j 0)) f (h j l) start fs);
      sizes = λ j l. w.sizes j l ∙ sym (size-other (decimal_of (get_or tags j 0)) f (h j l) fs);
    }

-- ---- the words of one slot change
module _ (spans : List ℕ) (at from to : ℕ) (room : at + 1 < length spans) where
  pub noted-length : length (noted_at spans at from to) ≡ length spans
  unfolding noted_at
  noted-length = by (eqb (get_or spans at 0) 0) (ltb (get_or spans (at + 1) 0) 2147483648)
    where
      by : (a b : Bool)
          → length (if a then set (set spans at from) (at + 1) (to - from) else if b then set spans (at + 1) (get_or spans (at + 1) 0 + 2147483648) else spans)
          ≡ length spans
      by true b = length-set (set spans at from) (at + 1) (to - from) ∙ length-set spans at from
      by false true = length-set spans (at + 1) (get_or spans (at + 1) 0 + 2147483648)
      by false false = refl

  noted_other : (k : ℕ) → (k ≡ at → ⊥) → (k ≡ at + 1 → ⊥) → get_or (noted_at spans at from to) k 0 ≡ get_or spans k 0
  unfolding noted_at
  noted_other k h l = by (eqb (get_or spans at 0) 0) (ltb (get_or spans (at + 1) 0) 2147483648)
    where
      by : (a b : Bool)
          → get_or (if a then set (set spans at from) (at + 1) (to - from) else if b then set spans (at + 1) (get_or spans (at + 1) 0 + 2147483648) else spans) k 0
          ≡ get_or spans k 0
      by true b = get_or-set_other (set spans at from) (at + 1) k (to - from) 0 l ∙ get_or-set_other spans at k from 0 h
      by false true = get_or-set_other spans (at + 1) k (get_or spans (at + 1) 0 + 2147483648) 0 l
      by false false = refl

  noted-first : get_or spans at 0 ≡ 0 → (get_or (noted_at spans at from to) at 0 ≡ from) × (get_or (noted_at spans at from to) (at + 1) 0 ≡ to - from)
  unfolding noted_at
  noted-first e =
      rw (eq-eqb (get_or spans at 0) 0 e) (
        get_or-set_other (set spans at from) (at + 1) at (to - from) 0 (λ q. omega arith) ∙ get_or-set_same spans at from 0 (omega arith),
        get_or-set_same (set spans at from) (at + 1) (to - from) 0 (omega (arith, length-set spans at from)),
      )

  noted-again : (u : List ℕ) (f : Field) → (get_or spans at 0 ≡ 0 → ⊥)
      → (get_or (noted_at spans at from to) at 0 ≡ get_or spans at 0) × (get_or (noted_at spans at from to) (at + 1) 0 ≡ marked u f (get_or spans (at + 1) 0))
  unfolding noted_at marked
  noted-again u f n = rw (ne_eqb (get_or spans at 0) 0 n) (by (ltb (get_or spans (at + 1) 0) 2147483648))
    where
      by : (b : Bool)
          → (get_or (if b then set spans (at + 1) (get_or spans (at + 1) 0 + 2147483648) else spans) at 0 ≡ get_or spans at 0)
          × (get_or (if b then set spans (at + 1) (get_or spans (at + 1) 0 + 2147483648) else spans) (at + 1) 0
          ≡ (if b then get_or spans (at + 1) 0 + 2147483648 else get_or spans (at + 1) 0))
      by true = (
        get_or-set_other spans (at + 1) at (get_or spans (at + 1) 0 + 2147483648) 0 (λ q. omega arith),
        get_or-set_same spans (at + 1) (get_or spans (at + 1) 0 + 2147483648) 0 room,
      )
      by false = (refl, refl)

-- a wanted tag, the i-th
module _ (start : ℕ) (tags spans : List ℕ) (fs : List Field) (f : Field) (w : Words start tags spans fs) (small : length (fields_bytes fs) < 2147483648)
    (i : ℕ) (h : i < length tags) (mine : has_tag (decimal_of (get_or tags i 0)) f ≡ true)
    (others : (j : ℕ) → j < length tags → (j ≡ i → ⊥) → has_tag (decimal_of (get_or tags j 0)) f ≡ false)
    (from to : ℕ) (where-from : from ≡ start + length (fields_bytes fs) + length f.tag + 1) (how-long : to - from ≡ length f.value) where
  u : List ℕ
  u = decimal_of (get_or tags i 0)

  room : 2 * i + 1 < length spans
  room = omega (arith, w.size)

  mine_words : (d : Bool) → any (has_tag (decimal_of (get_or tags i 0))) fs ≡ d
      → (get_or (noted_at spans (2 * i) from to) (2 * i) 0 ≡ begin_in start (decimal_of (get_or tags i 0)) (fs ++ (f ∷ [])))
      × (get_or (noted_at spans (2 * i) from to) (2 * i + 1) 0 ≡ size_of_in (decimal_of (get_or tags i 0)) (fs ++ (f ∷ [])))
  unfolding u
  mine_words false e =
      let n = noted-first spans (2 * i) from to room (w.begins i h ∙ begin_zero u f start fs e) in
      (n.0 ∙ where-from ∙ sym (begin_first u f mine start fs e), n.1 ∙ how-long ∙ sym (size-first u f mine fs e))
  mine_words true e =
      let n = noted-again spans (2 * i) from to room u f (λ z. begin_some u f start fs e (sym (w.begins i h) ∙ z)) in (
        n.0 ∙ w.begins i h ∙ sym (begin_stays u f start fs e),
        n.1 ∙ ap (marked u f) (w.sizes i h) ∙ sym (size-again u f mine fs small e),
      )

  pub words_noted : Words start tags (noted_at spans (2 * i) from to) (fs ++ (f ∷ []))
  words_noted =
      record {
        size = noted-length spans (2 * i) from to room ∙ w.size;
        begins = λ j l. by₀ j l (eqb j i) refl;
        sizes = λ j l. by₁ j l (eqb j i) refl;
      }
    where
      by₀ : (j : ℕ) → j < length tags → (d : Bool) → eqb j i ≡ d
          → get_or (noted_at spans (2 * i) from to) (2 * j) 0 ≡ begin_in start (decimal_of (get_or tags j 0)) (fs ++ (f ∷ []))
      by₀ j l true e =
          let same : j ≡ i = eqb-true j i e in
          rw same (mine_words (any (has_tag (decimal_of (get_or tags i 0))) fs) refl).0
      by₀ j l false e =
          let n : j ≡ i → ⊥ = eqb-false j i e in
          noted_other spans (2 * i) from to room (2 * j) (λ q. n (omega arith)) (λ q. omega arith) ∙ w.begins j l
          ∙ sym (begin_other (decimal_of (get_or tags j 0)) f (others j l n) start fs)

      by₁ : (j : ℕ) → j < length tags → (d : Bool) → eqb j i ≡ d
          → get_or (noted_at spans (2 * i) from to) (2 * j + 1) 0 ≡ size_of_in (decimal_of (get_or tags j 0)) (fs ++ (f ∷ []))
      by₁ j l true e =
          let same : j ≡ i = eqb-true j i e in
          rw same (mine_words (any (has_tag (decimal_of (get_or tags i 0))) fs) refl).1
      by₁ j l false e =
          let n : j ≡ i → ⊥ = eqb-false j i e in
          noted_other spans (2 * i) from to room (2 * j + 1) (λ q. omega arith) (λ q. n (omega arith)) ∙ w.sizes j l
          ∙ sym (size-other (decimal_of (get_or tags j 0)) f (others j l n) fs)

-- ---- how the code notes
module _ (spans : List ℕ) (at from to : ℕ) where
  pub note_first : (x y : ℕ) → get_or spans at 0 ≡ 0 → x ≡ from → y ≡ to - from → set (set spans at x) (at + 1) y ≡ noted_at spans at from to
  unfolding noted_at
  note_first x y e p q = rw (eq-eqb (get_or spans at 0) 0 e) (λ i. set (set spans at (p i)) (at + 1) (q i))

  pub note_again : (get_or spans at 0 ≡ 0 → ⊥) → get_or spans (at + 1) 0 < 2147483648
      → set spans (at + 1) (get_or spans (at + 1) 0 + 2147483648) ≡ noted_at spans at from to
  unfolding noted_at
  note_again n l = rw (ne_eqb (get_or spans at 0) 0 n, lt-ltb (get_or spans (at + 1) 0) 2147483648 l) refl

  pub note_done : (get_or spans at 0 ≡ 0 → ⊥) → 2147483648 ≤ get_or spans (at + 1) 0 → spans ≡ noted_at spans at from to
  unfolding noted_at
  note_done n l = rw (ne_eqb (get_or spans at 0) 0 n, le-ltb (get_or spans (at + 1) 0) 2147483648 l) refl
