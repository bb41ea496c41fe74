-- A column of 64 words, and four of them one behind the other.
use Prim.Native.Nat.{ℕ, zero, suc, ◌+◌, ◌-◌, ◌≤◌, ◌<◌}
use mathlib.Core.Path.{◌≡◌, refl, ap, sym, ◌∙◌}
use mathlib.Core.List.{List, [], ◌∷◌, ◌++◌, append_assoc}
use native.Mathlib.Omega.{arith}
use lib.ListN.{length, take, drop, set, get_or, replicate, length-append, length-replicate, length-set, length-take, length-drop, get_or-append, replicate-append-replicate}
use lib.Seq.{set-append_seam, set-append_left, take_at, drop_at, take-append-le, drop-append-le, take-append-add}
use Rattle.order_side.specs.Slots.{column}
use Rattle.order_side.specs.Internal.{shifted}
use Rattle.order_side.proofs.Lists.{behind-at, behind-set, behind-drop}

-- ---- one column

pub column-length : (xs : List ℕ) → length xs ≤ 64 → length (column xs) ≡ 64
unfolding column
column-length xs h = omega (arith, length-append xs (replicate (64 - length xs) 0), length-replicate {A = ℕ} (64 - length xs) 0)

blank_at : (n i : ℕ) → ◌≡◌ {A = ℕ} (get_or (replicate n 0) i 0) 0
blank_at zero i = refl
blank_at (suc n) zero = refl
blank_at (suc n) (suc i) = blank_at n i

-- blanks behind words read as what is not there
pub padded-at : (xs : List ℕ) (n i : ℕ) → get_or (xs ++ replicate n 0) i 0 ≡ get_or xs i 0
padded-at [] n i = blank_at n i
padded-at (x ∷ xs) n zero = refl
padded-at (x ∷ xs) n (suc i) = padded-at xs n i

pub column-at : (xs : List ℕ) (i : ℕ) → get_or (column xs) i 0 ≡ get_or xs i 0
unfolding column
column-at xs i = padded-at xs (64 - length xs) i

-- another word at a place
pub column-set : (xs : List ℕ) (i v : ℕ) → i < length xs → set (column xs) i v ≡ column (set xs i v)
unfolding column
column-set xs i v h =
    set-append_left xs (replicate (64 - length xs) 0) i v h ∙ ap (λ (n : ℕ). set xs i v ++ replicate (64 - n) 0) (sym (length-set xs i v))

-- one more
pub column-more : (xs : List ℕ) (v : ℕ) → length xs < 64 → set (column xs) (length xs) v ≡ column (xs ++ (v ∷ []))
unfolding column
column-more xs v h =
    let rest : 64 - length xs ≡ suc (64 - suc (length xs)) = omega arith in
    let long : length (xs ++ (v ∷ [])) ≡ suc (length xs) = omega (arith, length-append xs (v ∷ [])) in
    ap (λ (k : ℕ). set (xs ++ replicate k 0) (length xs) v) rest
    ∙ set-append_seam xs 0 (replicate (64 - suc (length xs)) 0) v
    ∙ sym (append_assoc xs (v ∷ []) _)
    ∙ ap (λ (k : ℕ). (xs ++ (v ∷ [])) ++ replicate (64 - k) 0) (sym long)

-- those behind a place moved up
pub column-shifted : (xs : List ℕ) (place last : ℕ) → length xs ≤ 64 → suc last ≡ length xs → place ≤ last
    → shifted (column xs) place last ≡ column (take place xs ++ drop (suc place) xs)
unfolding column
column-shifted xs place last few e h =
    let rest : List ℕ = replicate (64 - length xs) 0 in
    let long : length (drop (suc place) xs) ≡ last - place = omega (arith, length-drop (suc place) xs) in
    let left = take place xs ++ drop (suc place) xs in
    let count : 64 - length left ≡ suc (64 - length xs) =
    omega (arith, length-append (take place xs) (drop (suc place) xs), length-take place xs, length-drop (suc place) xs) in
    ap (λ (r : List ℕ). r ++ (take (last - place) (drop (suc place) (xs ++ rest)) ++ (0 ∷ drop (suc last) (xs ++ rest)))) (take-append-le place xs rest (omega arith))
    ∙ ap (λ (r : List ℕ). take place xs ++ (take (last - place) r ++ (0 ∷ drop (suc last) (xs ++ rest)))) (drop-append-le (suc place) xs rest (omega arith))
    ∙ ap (λ (r : List ℕ). take place xs ++ (r ++ (0 ∷ drop (suc last) (xs ++ rest)))) (take_at (drop (suc place) xs) rest (last - place) long)
    ∙ ap (λ (r : List ℕ). take place xs ++ (drop (suc place) xs ++ (0 ∷ r))) (drop_at xs rest (suc last) (sym e))
    ∙ sym (append_assoc (take place xs) (drop (suc place) xs) (0 ∷ rest))
    ∙ ap (λ (n : ℕ). left ++ replicate n 0) (sym count)

front : (xs : List ℕ) (m k : ℕ) → take (length xs + m) (xs ++ replicate (m + k) 0) ≡ xs ++ replicate m 0
front xs m k =
    take-append-add xs (replicate (m + k) 0) m
    ∙ ap (λ (r : List ℕ). xs ++ take m r) (sym (replicate-append-replicate m k 0))
    ∙ ap (λ (r : List ℕ). xs ++ r) (take_at (replicate m 0) (replicate k 0) m (length-replicate m 0))

-- its front, from the words on: the words and blanks
pub column-take : (xs : List ℕ) (n : ℕ) → length xs ≤ n → n ≤ 64 → take n (column xs) ≡ xs ++ replicate (n - length xs) 0
unfolding column
column-take xs n h k =
    let cut : n ≡ length xs + (n - length xs) = omega arith in
    let parts : 64 - length xs ≡ (n - length xs) + (64 - n) = omega arith in
    (λ i. take (cut i) (xs ++ replicate (parts i) 0)) ∙ front xs (n - length xs) (64 - n)

-- ---- four columns

abbrev pub four : List ℕ → List ℕ → List ℕ → List ℕ → List ℕ
four a b c d = a ++ (b ++ (c ++ d))

pub four-length : (a b c d : List ℕ) → length a ≡ 64 → length b ≡ 64 → length c ≡ 64 → length d ≡ 64 → length (four a b c d) ≡ 256
four-length a b c d la lb lc ld = omega (arith, length-append a (b ++ (c ++ d)), length-append b (c ++ d), length-append c d)

module _ (a b c d : List ℕ) (la : length a ≡ 64) (lb : length b ≡ 64) (lc : length c ≡ 64) where
  from_second : (i : ℕ) → 128 + i ≡ 64 + (64 + i)
  from_second i = omega arith

  from_third : (i : ℕ) → 192 + i ≡ 64 + (128 + i)
  from_third i = omega arith

  pub first-at : (i : ℕ) → i < 64 → get_or (four a b c d) i 0 ≡ get_or a i 0
  first-at i h = get_or-append a (b ++ (c ++ d)) 0 i (omega arith)

  pub second_at : (i : ℕ) → i < 64 → get_or (four a b c d) (64 + i) 0 ≡ get_or b i 0
  second_at i h = behind-at a (b ++ (c ++ d)) 64 la i 0 ∙ get_or-append b (c ++ d) 0 i (omega arith)

  pub third_at : (i : ℕ) → i < 64 → get_or (four a b c d) (128 + i) 0 ≡ get_or c i 0
  third_at i h =
      ap (λ (n : ℕ). get_or (four a b c d) n 0) (from_second i)
      ∙ behind-at a (b ++ (c ++ d)) 64 la (64 + i) 0
      ∙ behind-at b (c ++ d) 64 lb i 0
      ∙ get_or-append c d 0 i (omega arith)

  pub fourth_at : (i : ℕ) → get_or (four a b c d) (192 + i) 0 ≡ get_or d i 0
  fourth_at i =
      ap (λ (n : ℕ). get_or (four a b c d) n 0) (from_third i)
      ∙ behind-at a (b ++ (c ++ d)) 64 la (128 + i) 0
      ∙ ap (λ (n : ℕ). get_or (b ++ (c ++ d)) n 0) (from_second i)
      ∙ behind-at b (c ++ d) 64 lb (64 + i) 0
      ∙ behind-at c d 64 lc i 0

  pub first-set : (i v : ℕ) → i < 64 → set (four a b c d) i v ≡ four (set a i v) b c d
  first-set i v h = set-append_left a (b ++ (c ++ d)) i v (omega arith)

  pub second-set : (i v : ℕ) → i < 64 → set (four a b c d) (64 + i) v ≡ four a (set b i v) c d
  second-set i v h =
      behind-set a (b ++ (c ++ d)) 64 la i v ∙ ap (λ (r : List ℕ). a ++ r) (set-append_left b (c ++ d) i v (omega arith))

  pub third-set : (i v : ℕ) → i < 64 → set (four a b c d) (128 + i) v ≡ four a b (set c i v) d
  third-set i v h =
      ap (λ (n : ℕ). set (four a b c d) n v) (from_second i)
      ∙ behind-set a (b ++ (c ++ d)) 64 la (64 + i) v
      ∙ ap (λ (r : List ℕ). a ++ r) (behind-set b (c ++ d) 64 lb i v)
      ∙ ap (λ (r : List ℕ). a ++ (b ++ r)) (set-append_left c d i v (omega arith))

  pub fourth_set : (i v : ℕ) → set (four a b c d) (192 + i) v ≡ four a b c (set d i v)
  fourth_set i v =
      ap (λ (n : ℕ). set (four a b c d) n v) (from_third i)
      ∙ behind-set a (b ++ (c ++ d)) 64 la (128 + i) v
      ∙ ap (λ (n : ℕ). a ++ set (b ++ (c ++ d)) n v) (from_second i)
      ∙ ap (λ (r : List ℕ). a ++ r) (behind-set b (c ++ d) 64 lb (64 + i) v)
      ∙ ap (λ (r : List ℕ). a ++ (b ++ r)) (behind-set c d 64 lc i v)

  behind-first : drop 64 (four a b c d) ≡ b ++ (c ++ d)
  behind-first = drop_at a (b ++ (c ++ d)) 64 la

  behind-second : drop 128 (four a b c d) ≡ c ++ d
  behind-second = behind-drop a (b ++ (c ++ d)) 64 la 64 ∙ drop_at b (c ++ d) 64 lb

  pub first_taken : (n : ℕ) → n ≤ 64 → take n (four a b c d) ≡ take n a
  first_taken n h = take-append-le n a (b ++ (c ++ d)) (omega arith)

  pub second-taken : (n : ℕ) → n ≤ 64 → take n (drop 64 (four a b c d)) ≡ take n b
  second-taken n h = ap (take n) behind-first ∙ take-append-le n b (c ++ d) (omega arith)

  pub third-taken : (n : ℕ) → n ≤ 64 → take n (drop 128 (four a b c d)) ≡ take n c
  third-taken n h = ap (take n) behind-second ∙ take-append-le n c d (omega arith)

  -- a part changed by f and put back
  pub first-moved : (w y : List ℕ) (f : List ℕ → List ℕ) → w ≡ four a b c d → y ≡ f (take 64 w) → y ++ drop 64 w ≡ four (f a) b c d
  first-moved w y f is e =
      (λ i. e i ++ drop 64 w)
      ∙ ap (λ (x : List ℕ). f (take 64 x) ++ drop 64 x) is
      ∙ (λ i. f (take_at a (b ++ (c ++ d)) 64 la i) ++ behind-first i)

  pub second-moved : (w y : List ℕ) (f : List ℕ → List ℕ) → w ≡ four a b c d → y ≡ f (take 64 (drop 64 w))
      → take 64 w ++ (y ++ drop 64 (drop 64 w)) ≡ four a (f b) c d
  second-moved w y f is e =
      (λ i. take 64 w ++ (e i ++ drop 64 (drop 64 w)))
      ∙ ap (λ (x : List ℕ). take 64 x ++ (f (take 64 (drop 64 x)) ++ drop 64 (drop 64 x))) is
      ∙ (λ i. take_at a (b ++ (c ++ d)) 64 la i ++ (f (take 64 (behind-first i)) ++ drop 64 (behind-first i)))
      ∙ (λ i. a ++ (f (take_at b (c ++ d) 64 lb i) ++ drop_at b (c ++ d) 64 lb i))

  before-third : take 128 (four a b c d) ≡ a ++ b
  before-third =
      ap (take 128) (sym (append_assoc a b (c ++ d))) ∙ take_at (a ++ b) (c ++ d) 128 (omega (arith, length-append a b))

  pub third-moved : (w y : List ℕ) (f : List ℕ → List ℕ) → w ≡ four a b c d → y ≡ f (take 64 (drop 128 w))
      → take 128 w ++ (y ++ drop 64 (drop 128 w)) ≡ four a b (f c) d
  third-moved w y f is e =
      (λ i. take 128 w ++ (e i ++ drop 64 (drop 128 w)))
      ∙ ap (λ (x : List ℕ). take 128 x ++ (f (take 64 (drop 128 x)) ++ drop 64 (drop 128 x))) is
      ∙ (λ i. before-third i ++ (f (take 64 (behind-second i)) ++ drop 64 (behind-second i)))
      ∙ (λ i. (a ++ b) ++ (f (take_at c d 64 lc i) ++ drop_at c d 64 lc i))
      ∙ append_assoc a b (f c ++ d)
