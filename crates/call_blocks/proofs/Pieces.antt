-- A list of words that comes in pieces. What has come tells a block's length whatever comes behind it, a block that is whole stays what it
-- is, and so the words of a list, and its calls, are those of its first piece and then those of what that leaves with the rest behind it.
use Rattle.std.specs.Prelude.{if◌then◌else◌}
use Prim.Native.Nat.{ℕ, zero, suc, ◌+◌, ◌*◌, ◌/◌, ◌≤◌, ◌<◌}
use native.Mathlib.Omega.{arith}
use mathlib.Core.Path.{◌≡◌, refl, sym, ap, subst, ◌∙◌}
use mathlib.Core.List.{List, [], ◌∷◌, ◌++◌}
use mathlib.Core.Bool.{Bool, true, false, ◌||◌}
use borrow.Author.Rules.{rules}
use borrow.Author.Tests.{leb-true, leb-false, eqb-true, eqb-false, le-leb}
use lib.Dec.{leb, eqb}
use lib.ListN.{length, get_or, take, drop, length-append, length-drop, take-append-drop}
use lib.Seq.{get_or-take, take-append_seam, drop-append-le, take-append-le, drop-drop, length-take-le}
use Rattle.rules.specs.declared.SpreadRule.TheVariants.{Settled, OfStrike}
use Rattle.rules.specs.declared.Amendment.{Amendment}
use Rattle.rules.specs.declared.Event.TheVariants.{Add, Amend, Cancel, Deal, Tick}
use Rattle.rules.specs.Units.{millis, steps, contracts, kopecks}
use Rattle.rules.specs.Records.{signed_of, word_bytes}
use Rattle.rules.specs.Calls.{Call, Open, Send, Message, Ask, Commit, Close, Charge, Withdraw, Look}
use Rattle.words.specs.Bytes.{bytes_of}
use Rattle.words.proofs.Back.{bytes_append}
use Rattle.call_blocks.specs.Kinds.{word, add_due, due, due_at, block_size, row_at, opening_at, strike_opening_at, wide_at, amendment_at, start_at, message_at, call_by, call_of}
use Rattle.words.specs.Sides.{side_by}
use Rattle.call_blocks.specs.Reading.{calls_of, words_read}
use Rattle.call_blocks.specs.Pieces.{telling, is_told}
use Rattle.call_blocks.proofs.Sizes.{other-telling}
use Rattle.call_blocks.proofs.Reading.{whole, cut, size_fits, short, fewer, calls-none, calls-more, words_none, words_more}

if_same : {A : Type 0} (t : Bool) {x x' y y' : A} → (t ≡ true → x ≡ x') → y ≡ y' → (if t then x else y) ≡ (if t then x' else y')
if_same true f g = f refl
if_same false f g = g

one-at-least : (t : Bool) (x y : ℕ) → 1 ≤ x → 1 ≤ y → 1 ≤ (if t then x else y)
one-at-least true x y h k = h
one-at-least false x y h k = k

telling_some : (kind : ℕ) → 1 ≤ telling kind
unfolding telling
telling_some kind =
    one-at-least (eqb kind 1) _ _ (search rules)
    (one-at-least (eqb kind 2) _ _ (search rules)
    (one-at-least (eqb kind 13) _ _ (search rules) (one-at-least (eqb kind 16) _ _ (search rules) (search rules))))

-- ---- a block's length, told

module _ (ws more : List ℕ) where
  -- a word that has come
  come : (i : ℕ) → i < length ws → word (ws ++ more) i ≡ word ws i
  come i h = sym (get_or-take (length ws) (ws ++ more) i 0 h) ∙ ap (λ (l : List ℕ). get_or l i 0) (take-append_seam ws more)

  module _ (kind : ℕ) (h : telling kind ≤ length ws) where
    of_kind : (k : ℕ) → eqb kind k ≡ true → telling k ≤ length ws
    of_kind k e = subst (λ (j : ℕ). telling j ≤ length ws) (eqb-true kind k e) h

    due_stays : due kind (ws ++ more) ≡ due kind ws
    unfolding due telling
    due_stays =
        if_same (eqb kind 1) (λ e. ap (λ (n : ℕ). 5 + n) (come 1 (let t : 2 ≤ length ws = of_kind 1 e in omega arith)))
        (if_same (eqb kind 2) (λ e. ap add_due (come 3 (let t : 4 ≤ length ws = of_kind 2 e in omega arith)))
        (if_same (eqb kind 3) (λ e. refl)
        (if_same (eqb kind 4) (λ e. refl)
        (if_same (eqb kind 5) (λ e. refl)
        (if_same (eqb kind 6) (λ e. refl)
        (if_same (eqb kind 7) (λ e. refl)
        (if_same (eqb kind 8) (λ e. refl)
        (if_same (eqb kind 9) (λ e. refl)
        (if_same (eqb kind 10) (λ e. refl)
        (if_same (eqb kind 11) (λ e. refl)
        (if_same (eqb kind 12) (λ e. refl)
        (if_same (eqb kind 13) (λ e. ap (λ (n : ℕ). 8 + n) (come 1 (let t : 2 ≤ length ws = of_kind 13 e in omega arith)))
        (if_same (eqb kind 14) (λ e. refl)
        (if_same (eqb kind 15) (λ e. refl)
        (if_same (eqb kind 16)
        (λ e.
        let t : 3 ≤ length ws = of_kind 16 e in
        let a = come 1 (omega arith) in
        let b = come 2 (omega arith) in
        λ i. 3 + (a i + b i + 3) / 4)
        (if_same (eqb kind 17) (λ e. refl) refl))))))))))))))))

  pub told_stays : is_told ws ≡ true → due_at (ws ++ more) ≡ due_at ws
  unfolding is_told
  told_stays e =
      let h : telling (word ws 0) ≤ length ws = leb-true (telling (word ws 0)) (length ws) e in
      let s : 0 < length ws = let t = telling_some (word ws 0) in omega arith in
      ap (λ (k : ℕ). due k (ws ++ more)) (come 0 s) ∙ due_stays (word ws 0) h

-- ---- no block is whole before its length is told

module _ (ws : List ℕ) where
  -- of a kind that is due more words than tell it
  short_of : (k m n : ℕ) → due k ws ≡ n → telling k ≡ m → m ≤ n → word ws 0 ≡ k → length ws < telling k → block_size ws ≡ 0
  short_of k m n d t l e h = cut ws n (ap (λ (j : ℕ). due j ws) e ∙ d) (omega (arith, h, t, l))

  by_side : (b : Bool) → due_at ws ≡ (if b then 6 else 0) → length ws < 4 → block_size ws ≡ 0
  by_side true d h = cut ws 6 d (omega arith)
  by_side false d h = whole ws 0 d (omega arith)

  short_add : word ws 0 ≡ 2 → length ws < telling 2 → block_size ws ≡ 0
  unfolding due telling add_due
  short_add e h = by_side (eqb (word ws 3) 1 || eqb (word ws 3) 2) (ap (λ (j : ℕ). due j ws) e) h

  module _ (kind : ℕ) (e : word ws 0 ≡ kind) (h : length ws < telling kind) where
    of_this : (k : ℕ) → eqb kind k ≡ true → (word ws 0 ≡ k → length ws < telling k → block_size ws ≡ 0) → block_size ws ≡ 0
    of_this k is f = f (e ∙ eqb-true kind k is) (subst (λ (j : ℕ). length ws < telling j) (eqb-true kind k is) h)

    untold_by : (a b c d : Bool) → eqb kind 1 ≡ a → eqb kind 2 ≡ b → eqb kind 13 ≡ c → eqb kind 16 ≡ d → block_size ws ≡ 0
    unfolding due telling
    untold_by true b c d p q r s = of_this 1 p (short_of 1 2 (5 + word ws 1) refl refl (omega arith))
    untold_by false true c d p q r s = of_this 2 q short_add
    untold_by false false true d p q r s = of_this 13 r (short_of 13 2 (8 + word ws 1) refl refl (omega arith))
    untold_by false false false true p q r s = of_this 16 s (short_of 16 3 (3 + (word ws 1 + word ws 2 + 3) / 4) refl refl (omega arith))
    untold_by false false false false p q r s =
        let t = other-telling kind ((((tt, eqb-false kind 1 p), eqb-false kind 2 q), eqb-false kind 13 r), eqb-false kind 16 s) in
        short ws (omega arith)

  untold_none : is_told ws ≡ false → block_size ws ≡ 0
  unfolding is_told
  untold_none e =
      untold_by (word ws 0) refl (leb-false (telling (word ws 0)) (length ws) e) (eqb (word ws 0) 1) (eqb (word ws 0) 2) (eqb (word ws 0) 13)
      (eqb (word ws 0) 16) refl refl refl refl

  module _ (s : block_size ws ≡ 0 → ⊥) where
    told_by : (b : Bool) → is_told ws ≡ b → is_told ws ≡ true
    told_by true e = e
    told_by false e = absurd (s (untold_none e))

    pub whole_told : is_told ws ≡ true
    whole_told = told_by (is_told ws) refl

    due_by : (b : Bool) → leb (due_at ws) (length ws) ≡ b → block_size ws ≡ due_at ws
    due_by true e = whole ws (due_at ws) refl (leb-true (due_at ws) (length ws) e)
    due_by false e = absurd (s (cut ws (due_at ws) refl (leb-false (due_at ws) (length ws) e)))

    is_due : block_size ws ≡ due_at ws
    is_due = due_by (leb (due_at ws) (length ws)) refl

-- a block that is whole keeps its size
pub size_stays : (ws more : List ℕ) → (block_size ws ≡ 0 → ⊥) → block_size (ws ++ more) ≡ block_size ws
size_stays ws more s =
    whole (ws ++ more) (block_size ws) (told_stays ws more (whole_told ws s) ∙ sym (is_due ws s))
    (omega (arith, size_fits ws, length-append ws more))

-- ---- a block's own words are a block of the same size

module _ (ws : List ℕ) (s : due_at ws ≡ 0 → ⊥) where
  fits_of : (k m n : ℕ) → due k ws ≡ n → telling k ≡ m → m ≤ n → word ws 0 ≡ k → telling (word ws 0) ≤ due_at ws
  fits_of k m n d t l e =
      let a : telling (word ws 0) ≡ m = ap telling e ∙ t in
      let b : due_at ws ≡ n = ap (λ (j : ℕ). due j ws) e ∙ d in
      omega (arith, a, b, l)

  fits_side : (b : Bool) → due_at ws ≡ (if b then 6 else 0) → telling (word ws 0) ≡ 4 → telling (word ws 0) ≤ due_at ws
  fits_side true d t = omega (arith, d, t)
  fits_side false d t = absurd (s d)

  fits-add : word ws 0 ≡ 2 → telling (word ws 0) ≤ due_at ws
  unfolding due telling add_due
  fits-add e = fits_side (eqb (word ws 3) 1 || eqb (word ws 3) 2) (ap (λ (j : ℕ). due j ws) e) (ap telling e)

  fits_by : (kind : ℕ) → word ws 0 ≡ kind → (a b c d : Bool) → eqb kind 1 ≡ a → eqb kind 2 ≡ b → eqb kind 13 ≡ c → eqb kind 16 ≡ d
      → telling (word ws 0) ≤ due_at ws
  unfolding due telling
  fits_by kind e true b c d p q r t = fits_of 1 2 (5 + word ws 1) refl refl (omega arith) (e ∙ eqb-true kind 1 p)
  fits_by kind e false true c d p q r t = fits-add (e ∙ eqb-true kind 2 q)
  fits_by kind e false false true d p q r t = fits_of 13 2 (8 + word ws 1) refl refl (omega arith) (e ∙ eqb-true kind 13 r)
  fits_by kind e false false false true p q r t =
      fits_of 16 3 (3 + (word ws 1 + word ws 2 + 3) / 4) refl refl (omega arith) (e ∙ eqb-true kind 16 t)
  fits_by kind e false false false false p q r t =
      let o = other-telling kind ((((tt, eqb-false kind 1 p), eqb-false kind 2 q), eqb-false kind 13 r), eqb-false kind 16 t) in
      let a : telling (word ws 0) ≡ telling kind = ap telling e in
      omega (arith, o, a)

  telling-fits : telling (word ws 0) ≤ due_at ws
  telling-fits = fits_by (word ws 0) refl (eqb (word ws 0) 1) (eqb (word ws 0) 2) (eqb (word ws 0) 13) (eqb (word ws 0) 16) refl refl refl refl

-- ---- a block that is whole says the same call

bytes_length : (ws : List ℕ) → length (bytes_of ws) ≡ 4 * length ws
unfolding bytes_of word_bytes
bytes_length [] = refl
bytes_length (w ∷ ws) = let h = bytes_length ws in omega arith

module _ (ws more : List ℕ) (kind : ℕ) (d : due kind ws ≤ length ws) (some : due kind ws ≡ 0 → ⊥) where
  abbrev all : List ℕ
  all = ws ++ more

  has : (k : ℕ) → eqb kind k ≡ true → due k ws ≤ length ws
  has k e = subst (λ (j : ℕ). due j ws ≤ length ws) (eqb-true kind k e) d

  -- words in the block's row and behind it
  module _ (n : ℕ) (h : 2 + n ≤ length ws) (a : word all 1 ≡ n) where
    row_stays : take (word all 1) (drop 2 all) ≡ take n (drop 2 ws)
    row_stays =
        ap (λ (k : ℕ). take k (drop 2 all)) a
        ∙ ap (take n) (drop-append-le 2 ws more (omega arith))
        ∙ take-append-le n (drop 2 ws) more (let l = length-drop 2 ws in omega arith)

    behind : (f : ℕ → ℕ) → f n < length ws → word all (f (word all 1)) ≡ word ws (f n)
    behind f p = ap (λ (k : ℕ). word all (f k)) a ∙ come ws more (f n) p

  -- a message's bytes
  module _ (s m : ℕ) (h : 3 + (s + m + 3) / 4 ≤ length ws) where
    bytes_stay : bytes_of (drop 3 all) ≡ bytes_of (drop 3 ws) ++ bytes_of more
    bytes_stay = ap bytes_of (drop-append-le 3 ws more (omega arith)) ∙ bytes_append (drop 3 ws) more

    enough : s + m ≤ length (bytes_of (drop 3 ws))
    enough = let l = bytes_length (drop 3 ws) in let k = length-drop 3 ws in omega arith

    start_stays : take s (bytes_of (drop 3 all)) ≡ take s (bytes_of (drop 3 ws))
    start_stays = ap (take s) bytes_stay ∙ take-append-le s (bytes_of (drop 3 ws)) (bytes_of more) (let e = enough in omega arith)

    message_stays : take m (drop s (bytes_of (drop 3 all))) ≡ take m (drop s (bytes_of (drop 3 ws)))
    message_stays =
        ap (λ (l : List ℕ). take m (drop s l)) bytes_stay
        ∙ ap (take m) (drop-append-le s (bytes_of (drop 3 ws)) (bytes_of more) (let e = enough in omega arith))
        ∙ take-append-le m (drop s (bytes_of (drop 3 ws))) (bytes_of more)
        (let e = enough in let l = length-drop s (bytes_of (drop 3 ws)) in omega arith)

  six : (b : Bool) → (◌≡◌ {A = ℕ} (if b then 6 else 0) 0 → ⊥) → (if b then 6 else 0) ≤ length ws → 6 ≤ length ws
  six true z h = h
  six false z h = absurd (z refl)

  add_has : eqb kind 2 ≡ true → 6 ≤ length ws
  unfolding due add_due
  add_has e =
      six (eqb (word ws 3) 1 || eqb (word ws 3) 2) (subst (λ (j : ℕ). due j ws ≡ 0 → ⊥) (eqb-true kind 2 e) some) (has 2 e)

  -- a word of the block, where it has so many
  at : (n : ℕ) → n ≤ length ws → (i : ℕ) → i < n → word all i ≡ word ws i
  at n h i p = come ws more i (omega arith)

  three_stay : 4 ≤ length ws → (f : ℕ → ℕ → ℕ → Call) → f (word all 1) (word all 2) (word all 3) ≡ f (word ws 1) (word ws 2) (word ws 3)
  three_stay h f =
      let a = at 4 h 1 (omega arith) in
      let b = at 4 h 2 (omega arith) in
      let c = at 4 h 3 (omega arith) in
      λ j. f (a j) (b j) (c j)

  amendment_stays : (n : ℕ) → n ≤ length ws → (i : ℕ) → i + 3 < n → amendment_at all i ≡ amendment_at ws i
  amendment_stays n h i p =
      let a = at n h i (omega arith) in
      let b = at n h (i + 1) (omega arith) in
      let c = at n h (i + 2) (omega arith) in
      let e = at n h (i + 3) (omega arith) in
      λ j. record { t = millis (a j); id = b j; price = steps (signed_of (c j)); volume = contracts (e j) }

  wide_stays : (n : ℕ) → n ≤ length ws → (i : ℕ) → i + 1 < n → wide_at all i ≡ wide_at ws i
  wide_stays n h i p =
      let a = at n h i (omega arith) in
      let b = at n h (i + 1) (omega arith) in
      λ j. a j + 4294967296 * b j

  open_stays : 5 + word ws 1 ≤ length ws
      → ◌≡◌ {A = Call} (Open (row_at all) (word all (2 + word all 1)) (opening_at all (3 + word all 1)))
      (Open (row_at ws) (word ws (2 + word ws 1)) (opening_at ws (3 + word ws 1)))
  open_stays h =
      let n = word ws 1 in
      let a = come ws more 1 (omega arith) in
      let row = row_stays n (omega arith) a in
      let day = behind n (omega arith) a (λ (k : ℕ). 2 + k) (omega arith) in
      let sp = behind n (omega arith) a (λ (k : ℕ). 3 + k) (omega arith) in
      let limit = behind n (omega arith) a (λ (k : ℕ). 3 + k + 1) (omega arith) in
      λ j. Open (row j) (day j) (record { spread = Settled (steps (signed_of (sp j))); allowed = limit j })

  strike_stays : 8 + word ws 1 ≤ length ws
      → ◌≡◌ {A = Call} (Open (row_at all) (word all (2 + word all 1)) (strike_opening_at all (3 + word all 1)))
      (Open (row_at ws) (word ws (2 + word ws 1)) (strike_opening_at ws (3 + word ws 1)))
  strike_stays h =
      let n = word ws 1 in
      let a = come ws more 1 (omega arith) in
      let row = row_stays n (omega arith) a in
      let day = behind n (omega arith) a (λ (k : ℕ). 2 + k) (omega arith) in
      let one = behind n (omega arith) a (λ (k : ℕ). 3 + k) (omega arith) in
      let two = behind n (omega arith) a (λ (k : ℕ). 3 + k + 1) (omega arith) in
      let three = behind n (omega arith) a (λ (k : ℕ). 3 + k + 2) (omega arith) in
      let four = behind n (omega arith) a (λ (k : ℕ). 3 + k + 3) (omega arith) in
      let limit = behind n (omega arith) a (λ (k : ℕ). 3 + k + 4) (omega arith) in
      λ j.
      Open (row j) (day j)
      (record { spread = OfStrike (record { a = one j; difference = two j; days = three j; b = four j }); allowed = limit j })

  message_call_stays : 3 + (word ws 1 + word ws 2 + 3) / 4 ≤ length ws
      → ◌≡◌ {A = Call} (Message (start_at all) (message_at all)) (Message (start_at ws) (message_at ws))
  message_call_stays h =
      let a = come ws more 1 (omega arith) in
      let b = come ws more 2 (omega arith) in
      let x = ap (λ (s : ℕ). take s (bytes_of (drop 3 all))) a ∙ start_stays (word ws 1) (word ws 2) h in
      let y = (λ j. take (b j) (drop (a j) (bytes_of (drop 3 all)))) ∙ message_stays (word ws 1) (word ws 2) h in
      λ j. Message (x j) (y j)

  call_by_stays : call_by kind all ≡ call_by kind ws
  unfolding due
  call_by_stays =
      if_same (eqb kind 1) (λ e. open_stays (has 1 e))
      (if_same (eqb kind 2)
      (λ e.
      let h = at 6 (add_has e) in
      let a = h 1 (omega arith) in
      let b = h 2 (omega arith) in
      let c = h 3 (omega arith) in
      let p = h 4 (omega arith) in
      let v = h 5 (omega arith) in
      λ j. Send (Add (millis (a j)) (b j) (side_by (c j)) (steps (signed_of (p j))) (contracts (v j))))
      (if_same (eqb kind 3)
      (λ e. ap (λ (a : Amendment). Send (Amend a.t a.id a.price a.volume)) (amendment_stays 5 (has 3 e) 1 (omega arith)))
      (if_same (eqb kind 4)
      (λ e.
      let h = at 3 (has 4 e) in
      let a = h 1 (omega arith) in
      let b = h 2 (omega arith) in
      λ j. Send (Cancel (millis (a j)) (b j)))
      (if_same (eqb kind 5)
      (λ e. three_stay (has 5 e) (λ t id v. Send (Deal (millis t) id (contracts v))))
      (if_same (eqb kind 6) (λ e. ap (λ (t : ℕ). Send (Tick (millis t))) (at 2 (has 6 e) 1 (omega arith)))
      (if_same (eqb kind 7)
      (λ e.
      let a = wide_stays 5 (has 7 e) 1 (omega arith) in
      let p = wide_stays 5 (has 7 e) 3 (omega arith) in
      λ j. Close (kopecks (a j)) (kopecks (p j)))
      (if_same (eqb kind 8) (λ e. refl)
      (if_same (eqb kind 9)
      (λ e.
      let h = at 8 (has 9 e) in
      let x = h 1 (omega arith) in
      let y = h 2 (omega arith) in
      let z = h 3 (omega arith) in
      let a = wide_stays 8 (has 9 e) 4 (omega arith) in
      let p = wide_stays 8 (has 9 e) 6 (omega arith) in
      λ j. Charge (x j) (y j) (z j) (kopecks (a j)) (kopecks (p j)))
      (if_same (eqb kind 10) (λ e. three_stay (has 10 e) Withdraw)
      (if_same (eqb kind 11) (λ e. three_stay (has 11 e) Look)
      (if_same (eqb kind 13) (λ e. strike_stays (has 13 e))
      (if_same (eqb kind 14) (λ e. ap Ask (amendment_stays 5 (has 14 e) 1 (omega arith)))
      (if_same (eqb kind 15)
      (λ e.
      let a = amendment_stays 11 (has 15 e) 1 (omega arith) in
      let b = amendment_stays 11 (has 15 e) 5 (omega arith) in
      let n = wide_stays 11 (has 15 e) 9 (omega arith) in
      λ j. Commit (a j) (record { amendment = b j; count = n j }))
      (if_same (eqb kind 16) (λ e. message_call_stays (has 16 e)) (if_same (eqb kind 17) (λ e. refl) refl)))))))))))))))

pub call_stays : (ws more : List ℕ) → (block_size ws ≡ 0 → ⊥) → call_of (ws ++ more) ≡ call_of ws
unfolding call_of
call_stays ws more s =
    let k = is_due ws s in
    let f = size_fits ws in
    let h : 0 < length ws = omega arith in
    ap (λ (n : ℕ). call_by n (ws ++ more)) (come ws more 0 h)
    ∙ call_by_stays ws more (word ws 0) (omega arith) (λ z. s (k ∙ z))

-- ---- the words of one block

module _ (ws : List ℕ) (s : block_size ws ≡ 0 → ⊥) where
  abbrev own : List ℕ
  own = take (block_size ws) ws

  own-length : length own ≡ block_size ws
  own-length = length-take-le (block_size ws) ws (size_fits ws)

  parted : own ++ drop (block_size ws) ws ≡ ws
  parted = take-append-drop (block_size ws) ws

  some : 0 < block_size ws
  some = omega (arith, s)

  first_stays : word own 0 ≡ word ws 0
  first_stays = get_or-take (block_size ws) ws 0 0 some

  own_told : is_told own ≡ true
  unfolding is_told
  own_told =
      let d = is_due ws s in
      let f = telling-fits ws (λ z. s (d ∙ z)) in
      let t : telling (word own 0) ≡ telling (word ws 0) = ap telling first_stays in
      le-leb (telling (word own 0)) (length own) (omega (arith, own-length, d, f, t))

  -- they are a block of the same size ..
  pub own-size : block_size own ≡ block_size ws
  own-size =
      whole own (block_size ws)
      (sym (told_stays own (drop (block_size ws) ws) own_told) ∙ ap due_at parted ∙ sym (is_due ws s))
      (omega (arith, own-length))

  -- .. that says the same call
  pub own-call : call_of own ≡ call_of ws
  own-call = sym (call_stays own (drop (block_size ws) ws) (λ z. s (sym own-size ∙ z))) ∙ ap call_of parted

-- ---- a list in two pieces

-- the calls of the first piece, then those of what it leaves with the second behind it; and so its words
abbrev InPieces : List ℕ → List ℕ → Type 0
InPieces ws more =
    (calls_of (ws ++ more) ≡ calls_of ws ++ calls_of (drop (words_read ws) ws ++ more))
    × (words_read (ws ++ more) ≡ words_read ws + words_read (drop (words_read ws) ws ++ more))

module _ (ws more : List ℕ) where
  none-whole : block_size ws ≡ 0 → InPieces ws more
  none-whole e =
      let n = words_none ws e in (
        (λ j. sym (calls-none ws e) j ++ calls_of (sym (ap (λ (k : ℕ). drop k ws ++ more) n) j)),
        (let r : words_read (drop (words_read ws) ws ++ more) ≡ words_read (ws ++ more) = ap (λ (k : ℕ). words_read (drop k ws ++ more)) n in omega arith),
      )

  module _ (s : block_size ws ≡ 0 → ⊥) where
    abbrev left : List ℕ
    left = drop (block_size ws) ws

    left_is : drop (block_size (ws ++ more)) (ws ++ more) ≡ left ++ more
    left_is =
        ap (λ (k : ℕ). drop k (ws ++ more)) (size_stays ws more s) ∙ drop-append-le (block_size ws) ws more (size_fits ws)

    still : block_size (ws ++ more) ≡ 0 → ⊥
    still z = s (sym (size_stays ws more s) ∙ z)

    rest_is : drop (words_read left) left ≡ drop (words_read ws) ws
    rest_is = drop-drop (words_read left) (block_size ws) ws ∙ ap (λ (k : ℕ). drop k ws) (sym (words_more ws s))

    one-whole : InPieces left more → InPieces ws more
    one-whole h = (
      calls-more (ws ++ more) still
          ∙ (λ j. call_stays ws more s j ∷ calls_of (left_is j))
          ∙ ap (λ (l : List Call). call_of ws ∷ l) h.0
          ∙ (λ j. sym (calls-more ws s) j ++ calls_of (rest_is j ++ more)),
      words_more (ws ++ more) still
          ∙ (λ j. size_stays ws more s j + words_read (left_is j))
          ∙ ap (λ (k : ℕ). block_size ws + k) h.1
          ∙ add_up (block_size ws) (words_read left) (words_read (drop (words_read left) left ++ more))
          ∙ (λ j. sym (words_more ws s) j + words_read (rest_is j ++ more)),
    )
      where
        add_up : (a b c : ℕ) → a + (b + c) ≡ (a + b) + c
        add_up a b c = omega arith

in_pieces_by : (n : ℕ) (ws more : List ℕ) → length ws ≤ n → InPieces ws more
in_pieces_by zero ws more h = none-whole ws more (short ws h)
in_pieces_by (suc n) ws more h = go (eqb (block_size ws) 0) refl (λ vs k. in_pieces_by n vs more k)
  where
    go : (b : Bool) → eqb (block_size ws) 0 ≡ b → ((vs : List ℕ) → length vs ≤ n → InPieces vs more) → InPieces ws more
    go true e r = none-whole ws more (eqb-true (block_size ws) 0 e)
    go false e r =
        let s = eqb-false (block_size ws) 0 e in
        one-whole ws more s (r (drop (block_size ws) ws) (fewer ws n s h))

pub in_pieces : (ws more : List ℕ) → InPieces ws more
in_pieces ws more = in_pieces_by (length ws) ws more (omega arith)
