-- The words of values read back.
use Prim.Native.Nat.{ℕ, zero, suc, ◌+◌, ◌*◌, ◌≤◌, ◌<◌}
use native.Mathlib.Numerals.{add-one}
use native.Mathlib.Omega.{arith}
use mathlib.Core.Path.{◌≡◌, refl, sym, ap, ◌∙◌}
use mathlib.Core.Bool.{Bool, true, false}
use mathlib.Core.List.{List, [], ◌∷◌, ◌++◌, append_assoc, append-nil}
use lib.Dec.{eqb}
use mir.Val.{bool_byte as from_bool}
use lib.ListN.{length, get_or, take, drop, set, length-append, length-drop, drop_of_length-le}
use lib.Seq.{take-suc, take-suc-set, take_at, take_all, length-take-le, drop-drop, drop-append-add}
use Rattle.rules.specs.declared.Cell.{Cell}
use Rattle.rules.specs.Units.{millis, kopecks}
use Rattle.rules.specs.Cells.{blank_cell}
use Rattle.lent.specs.Words.{flag_word, low, high, cell_words, cells_words}
use Rattle.lent.proofs.Parts.{next-part}

-- a flag's word is the flag cast to a number
pub flag_is : (b : Bool) → from_bool b ≡ flag_word b
flag_is true = refl
flag_is false = refl

pub flag_back : (b : Bool) → eqb (flag_word b) 1 ≡ b
flag_back true = refl
flag_back false = refl

pub wide_back : (n : ℕ) → low n + 4294967296 * high n ≡ n
wide_back n = omega arith

-- the cell that ten words say
abbrev pub cell_of : List ℕ → Cell
cell_of ws =
    record {
      filled = eqb (get_or ws 0 0) 1;
      kept = millis (get_or ws 1 0);
      length = millis (get_or ws 2 0);
      share = get_or ws 3 0;
      allowed = get_or ws 4 0;
      lapses = get_or ws 5 0;
      active = kopecks (get_or ws 6 0 + 4294967296 * get_or ws 7 0);
      passive = kopecks (get_or ws 8 0 + 4294967296 * get_or ws 9 0);
    }

cell_words_back : (c : Cell) → cell_of (cell_words c) ≡ c
unfolding cell_words
cell_words_back c = λ i.
    record {
      filled = flag_back c.filled i;
      kept = c.kept;
      length = c.length;
      share = c.share;
      allowed = c.allowed;
      lapses = c.lapses;
      active = kopecks (wide_back c.active.0 i);
      passive = kopecks (wide_back c.passive.0 i);
    }

pub cell_back : (ws : List ℕ) (c : Cell) → ws ≡ cell_words c → cell_of ws ≡ c
cell_back ws c e = ap cell_of e ∙ cell_words_back c

pub cell_length : (c : Cell) → length (cell_words c) ≡ 10
unfolding cell_words
cell_length c = refl

-- ---- cells one after the other

pub cells_length : (cs : List Cell) → length (cells_words cs) ≡ 10 * length cs
unfolding cells_words
cells_length [] = refl
cells_length (c ∷ cs) = length-append (cell_words c) (cells_words cs) ∙ omega (arith, cell_length c, cells_length cs)

pub cells_append : (xs ys : List Cell) → cells_words (xs ++ ys) ≡ cells_words xs ++ cells_words ys
unfolding cells_words
cells_append [] ys = refl
cells_append (x ∷ xs) ys = ap (λ (l : List ℕ). cell_words x ++ l) (cells_append xs ys) ∙ sym (append_assoc (cell_words x) (cells_words xs) (cells_words ys))

pub one_cell : (c : Cell) → cells_words (c ∷ []) ≡ cell_words c
unfolding cells_words
one_cell c = append-nil (cell_words c)

pub cells_more : (cs : List Cell) (i : ℕ) (d : Cell) → i < length cs → cells_words (take (i + 1) cs) ≡ cells_words (take i cs) ++ cell_words (get_or cs i d)
cells_more cs i d h =
    ap (λ (n : ℕ). cells_words (take n cs)) (add-one i)
    ∙ ap cells_words (take-suc cs i d h)
    ∙ cells_append (take i cs) (get_or cs i d ∷ [])
    ∙ ap (λ (l : List ℕ). cells_words (take i cs) ++ l) (one_cell (get_or cs i d))

ten_more : (i : ℕ) → 10 * suc i ≡ 10 + 10 * i
ten_more i = omega arith

ten_on : (i k : ℕ) → k ≡ 10 → 10 * i + k ≡ 10 * (i + 1)
ten_on i k e = omega arith

-- where a cell's ten words are
pub cell_at_lem : (cs : List Cell) (i k : ℕ) (d : Cell) → i < length cs → k ≡ 10 → take k (drop (10 * i) (cells_words cs)) ≡ cell_words (get_or cs i d)
unfolding cells_words
cell_at_lem [] i k d h e = absurd (omega arith)
cell_at_lem (c ∷ cs) zero k d h e = take_at (cell_words c) (cells_words cs) k (cell_length c ∙ sym e)
cell_at_lem (c ∷ cs) (suc i) k d h e =
    ap (λ (n : ℕ). take k (drop n (cell_words c ++ cells_words cs))) (ten_more i ∙ ap (λ (n : ℕ). n + 10 * i) (sym (cell_length c)))
    ∙ ap (take k) (drop-append-add (cell_words c) (cells_words cs) (10 * i))
    ∙ cell_at_lem cs i k d (omega arith) e

-- a turn of the loop that writes them: `ws` has the words of the cells before, and then what was there
pub cells_on : (cs : List Cell) (ws ws₀ part : List ℕ) (i k : ℕ) (d : Cell) → i < length cs → k ≡ 10 → part ≡ cell_words (get_or cs i d)
    → ws ≡ cells_words (take i cs) ++ drop (10 * i) ws₀
    → take (10 * i) ws ++ (part ++ drop k (drop (10 * i) ws)) ≡ cells_words (take (i + 1) cs) ++ drop (10 * (i + 1)) ws₀
cells_on cs ws ws₀ part i k d h e p w =
    next-part ws (cells_words (take i cs)) (drop (10 * i) ws₀) part (10 * i) k w
    (cells_length (take i cs) ∙ ap (λ (n : ℕ). 10 * n) (length-take-le i cs (omega arith)))
    ∙ (λ j. (cells_words (take i cs) ++ p j) ++ drop-drop k (10 * i) ws₀ j)
    ∙ ap (λ (n : ℕ). (cells_words (take i cs) ++ cell_words (get_or cs i d)) ++ drop n ws₀) (ten_on i k e)
    ∙ ap (λ (l : List ℕ). l ++ drop (10 * (i + 1)) ws₀) (sym (cells_more cs i d h))

none_left : (i k n : ℕ) → i ≡ k → n ≡ 10 * k → n ≤ 10 * i
none_left i k n h e = omega arith

-- the words keep their length
pub cells_long : (cs : List Cell) (ws ws₀ : List ℕ) (i : ℕ) → i ≤ length cs → length ws₀ ≡ 10 * length cs → ws ≡ cells_words (take i cs) ++ drop (10 * i) ws₀ → length ws ≡ length ws₀
cells_long cs ws ws₀ i h n w =
    ap length w
    ∙ length-append (cells_words (take i cs)) (drop (10 * i) ws₀)
    ∙ omega (arith, cells_length (take i cs), length-take-le i cs h, length-drop (10 * i) ws₀)

pub cells_all : (cs : List Cell) (ws ws₀ : List ℕ) (i : ℕ) → i ≡ length cs → length ws₀ ≡ 10 * length cs → ws ≡ cells_words (take i cs) ++ drop (10 * i) ws₀ → ws ≡ cells_words cs
cells_all cs ws ws₀ i h n w =
    w
    ∙ (λ j. cells_words (take_all i cs (omega arith) j) ++ drop_of_length-le ws₀ (none_left i (length cs) (length ws₀) h n) j)
    ∙ append-nil (cells_words cs)

-- a turn of the loop that reads them
pub read_on : (cs rs : List Cell) (ws : List ℕ) (i k : ℕ) (c : Cell) → length rs ≡ length cs → i < length cs → k ≡ 10 → ws ≡ cells_words cs
    → ((d : Cell) → take k (drop (10 * i) ws) ≡ cell_words d → c ≡ d) → take i rs ≡ take i cs → take (i + 1) (set rs i c) ≡ take (i + 1) cs
read_on cs rs ws i k c e h t w r so =
    ap (λ (n : ℕ). take n (set rs i c)) (add-one i)
    ∙ take-suc-set rs i c (omega arith)
    ∙ (λ j. so j ++ (r (get_or cs i blank_cell) (ap (λ (l : List ℕ). take k (drop (10 * i) l)) w ∙ cell_at_lem cs i k blank_cell h t) j ∷ []))
    ∙ sym (take-suc cs i blank_cell h)
    ∙ ap (λ (n : ℕ). take n cs) (sym (add-one i))

-- as many cells as there are words for
pub cells_many : (cs : List Cell) (ws : List ℕ) → ws ≡ cells_words cs → length ws ≡ 1860 → length cs ≡ 186
cells_many cs ws e h = omega (arith, ap length e, cells_length cs)
