-- The stretches of one state below a bound, for any states: what they are, that no other list is that, how they grow, and how they
-- stand to the kept stretches and the lapses.
use Rattle.std.specs.Prelude.{if◌then◌else◌}
use Prim.Native.Nat.{ℕ, zero, suc, ◌+◌, ◌≤◌, ◌<◌}
use native.Mathlib.Omega.{arith}
use mathlib.Core.Path.{◌≡◌, refl, sym, ap, ◌∙◌, subst}
use mathlib.Core.Logic.{◌≢◌}
use mathlib.Core.List.{List, [], ◌∷◌, map}
use mathlib.Core.Bool.{Bool, true, false}
use lib.Dec.{eqb, leb}
use lib.ListN.{length}
use borrow.Author.Tests.{eq-eqb, eqb-true, eqb-false, leb-true, leb-false}
use Rattle.lists.specs.Lists.{sum, All}
use Rattle.rules.specs.States.{State, kept, has_no_bid, has_no_ask, neither, crossed, wide, state_word}
use Rattle.rules.specs.Accounts.{Part, part, same_state, grown_by, parts, in_state, time_in, Tiles, Stays, Differ, AccountOf}
use Rattle.lists.proofs.Counting.{count_stretch, count_le}

-- ---- states by their words

pub same_refl : (s : State) → same_state s s ≡ true
same_refl s = eq-eqb (state_word s) (state_word s) refl

abbrev word_state : ℕ → State
word_state zero = kept
word_state (suc zero) = has_no_bid
word_state (suc (suc zero)) = has_no_ask
word_state (suc (suc (suc zero))) = neither
word_state (suc (suc (suc (suc zero)))) = crossed
word_state (suc (suc (suc (suc (suc n))))) = wide

state-word : (s : State) → word_state (state_word s) ≡ s
state-word kept = refl
state-word has_no_bid = refl
state-word has_no_ask = refl
state-word neither = refl
state-word crossed = refl
state-word wide = refl

pub word_only : (s t : State) → state_word s ≡ state_word t → s ≡ t
word_only s t e = sym (state-word s) ∙ ap word_state e ∙ state-word t

pub word_most : (s : State) → state_word s ≤ 5
word_most kept = omega arith
word_most has_no_bid = omega arith
word_most has_no_ask = omega arith
word_most neither = omega arith
word_most crossed = omega arith
word_most wide = omega arith

same_true : (s t : State) → same_state s t ≡ true → s ≡ t
same_true s t e = word_only s t (eqb-true (state_word s) (state_word t) e)

same_false : (s t : State) → same_state s t ≡ false → s ≢ t
same_false s t e h = eqb-false (state_word s) (state_word t) e (ap state_word h)

-- ---- by one number, and by a piece that is in one state

parts-one : (f : ℕ → State) (n : ℕ) (s : State) → f n ≡ s → parts f (suc n) ≡ grown_by s n 1 (parts f n)
unfolding parts
parts-one f n s e = rw e refl

grown-behind : (s : State) (a d : ℕ) (p : Part) (ps : List Part) → 1 ≤ length ps → grown_by s a d (p ∷ ps) ≡ p ∷ grown_by s a d ps
unfolding grown_by
grown-behind s a d p [] l = absurd (omega arith)
grown-behind s a d p (q ∷ ps) l = refl

grown_some : (s : State) (a d : ℕ) (ps : List Part) → 1 ≤ length (grown_by s a d ps)
unfolding grown_by
grown_some s a d [] = omega arith
grown_some s a d (p ∷ []) = go (same_state p.state s)
  where
    go : (b : Bool) → 1 ≤ length (if b then part p.offset (p.length + d) s ∷ [] else p ∷ part a d s ∷ [])
    go true = omega arith
    go false = omega arith
grown_some s a d (p ∷ q ∷ ps) = omega arith

joined-again : (s : State) (a d : ℕ) (p : Part) (b : Bool)
    → grown_by s (a + d) 1 (if b then part p.offset (p.length + d) s ∷ [] else p ∷ part a d s ∷ [])
    ≡ (if b then part p.offset (p.length + (d + 1)) s ∷ [] else p ∷ part a (d + 1) s ∷ [])
unfolding grown_by
joined-again s a d p true =
    let to : p.length + d + 1 ≡ p.length + (d + 1) = omega arith in
    rw (same_refl s, to) refl
joined-again s a d p false = rw (same_refl s) refl

-- the next number after a piece
grown-again : (s : State) (a d : ℕ) (ps : List Part) → grown_by s (a + d) 1 (grown_by s a d ps) ≡ grown_by s a (d + 1) ps
unfolding grown_by
grown-again s a d [] = rw (same_refl s) refl
grown-again s a d (p ∷ []) = joined-again s a d p (same_state p.state s)
grown-again s a d (p ∷ q ∷ ps) =
    grown-behind s (a + d) 1 p (grown_by s a d (q ∷ ps)) (grown_some s a d (q ∷ ps))
    ∙ ap {B = List Part} (λ l. p ∷ l) (grown-again s a d (q ∷ ps))

pub parts-run : (f : ℕ → State) (a d : ℕ) (s : State) → 1 ≤ d → ((m : ℕ) → a ≤ m → m < a + d → f m ≡ s) → parts f (a + d) ≡ grown_by s a d (parts f a)
parts-run f a zero s l h = absurd (omega arith)
parts-run f a (suc zero) s l h =
    let to : a + 1 ≡ suc a = omega arith in
    ap (parts f) to ∙ parts-one f a s (h a (omega arith) (omega arith))
parts-run f a (suc (suc d)) s l h =
    let to : a + suc (suc d) ≡ suc (a + suc d) = omega arith in
    let more : suc d + 1 ≡ suc (suc d) = omega arith in
    ap (parts f) to
    ∙ parts-one f (a + suc d) s (h (a + suc d) (omega arith) (omega arith))
    ∙ ap (grown_by s (a + suc d) 1) (parts-run f a (suc d) s (omega arith) (λ m x y. h m x (omega arith)))
    ∙ grown-again s a (suc d) (parts f a)
    ∙ ap (λ (n : ℕ). grown_by s a n (parts f a)) more

-- ---- what they are

tiles_grown : (s : State) (x n : ℕ) (ps : List Part) → Tiles x n ps → Tiles x (suc n) (grown_by s n 1 ps)
unfolding grown_by
tiles_grown s x n [] t = (sym t, omega arith, omega (arith, t))
tiles_grown s x n (p ∷ []) t = go (same_state p.state s)
  where
    go : (b : Bool) → Tiles x (suc n) (if b then part p.offset (p.length + 1) s ∷ [] else p ∷ part n 1 s ∷ [])
    go true = (t.0, omega arith, omega (arith, t.2))
    go false = (t.0, t.1, (sym t.2, omega arith, omega (arith, t.2)))
tiles_grown s x n (p ∷ q ∷ ps) t = (t.0, t.1, tiles_grown s (x + p.length) n (q ∷ ps) t.2)

stays_grown : (f : ℕ → State) (x n : ℕ) (ps : List Part) → Tiles x n ps → All (Stays f) ps → All (Stays f) (grown_by (f n) n 1 ps)
unfolding grown_by
stays_grown f x n [] t h = ((λ m l u. let e : m ≡ n = omega arith in ap f e), tt)
stays_grown f x n (p ∷ []) t h = go (same_state p.state (f n)) refl
  where
    longer : p.state ≡ f n → Stays f (part p.offset (p.length + 1) (f n))
    longer e m l u = pick (eqb m n) refl
      where
        pick : (b : Bool) → eqb m n ≡ b → f m ≡ f n
        pick true k = ap f (eqb-true m n k)
        pick false k = let j = eqb-false m n k in h.0 m l (omega (arith, t.0, t.2)) ∙ e

    go : (b : Bool) → same_state p.state (f n) ≡ b
        → All (Stays f) (if b then part p.offset (p.length + 1) (f n) ∷ [] else p ∷ part n 1 (f n) ∷ [])
    go true e = (longer (same_true p.state (f n) e), tt)
    go false e = (h.0, ((λ m l u. let e : m ≡ n = omega arith in ap f e), tt))
stays_grown f x n (p ∷ q ∷ ps) t h = (h.0, stays_grown f (x + p.length) n (q ∷ ps) t.2 h.1)

-- a state in front that differs from the first one differs from it when the list has grown
differ_front : (s r : State) (n : ℕ) (p : Part) (ps : List Part) → r ≢ p.state → Differ (grown_by s n 1 (p ∷ ps))
    → (o l : ℕ) → Differ (part o l r ∷ grown_by s n 1 (p ∷ ps))
unfolding grown_by
differ_front s r n p [] h k o l = go (same_state p.state s) refl k
  where
    go : (b : Bool) → same_state p.state s ≡ b → Differ (if b then part p.offset (p.length + 1) s ∷ [] else p ∷ part n 1 s ∷ [])
        → Differ (part o l r ∷ (if b then part p.offset (p.length + 1) s ∷ [] else p ∷ part n 1 s ∷ []))
    go true e d = ((λ x. h (x ∙ sym (same_true p.state s e))), tt)
    go false e d = (h, d)
differ_front s r n p (q ∷ ps) h k o l = (h, k)

differ_grown : (s : State) (n : ℕ) (ps : List Part) → Differ ps → Differ (grown_by s n 1 ps)
unfolding grown_by
differ_grown s n [] d = tt
differ_grown s n (p ∷ []) d = go (same_state p.state s) refl
  where
    go : (b : Bool) → same_state p.state s ≡ b → Differ (if b then part p.offset (p.length + 1) s ∷ [] else p ∷ part n 1 s ∷ [])
    go true e = tt
    go false e = (same_false p.state s e, tt)
differ_grown s n (p ∷ q ∷ ps) d = differ_front s p.state n q ps d.0 (differ_grown s n (q ∷ ps) d.1) p.offset p.length

pub parts-account : (f : ℕ → State) (n : ℕ) → AccountOf f n (parts f n)
unfolding parts
parts-account f zero = record { whole = refl; stays = tt; differ = tt }
parts-account f (suc n) =
    let a = parts-account f n in
    record {
      whole = tiles_grown (f n) 0 n (parts f n) a.whole;
      stays = stays_grown f 0 n (parts f n) a.whole a.stays;
      differ = differ_grown (f n) n (parts f n) a.differ;
    }

-- ---- no other list is that

tiles_le : (x n : ℕ) (ps : List Part) → Tiles x n ps → x ≤ n
tiles_le x n [] t = omega (arith, t)
tiles_le x n (p ∷ ps) t = let ih = tiles_le (x + p.length) n ps t.2 in omega arith

-- two first ones of the same numbers: the shorter one's neighbour would have its state
not_shorter : (f : ℕ → State) (x n : ℕ) (p q : Part) (ps : List Part) → Tiles x n (p ∷ ps) → All (Stays f) (p ∷ ps) → Differ (p ∷ ps)
    → q.offset ≡ x → Stays f q → q.offset + q.length ≤ n → p.length < q.length → ⊥
not_shorter f x n p q [] t h d o k i l = omega (arith, t.2)
not_shorter f x n p q (r ∷ ps) t h d o k i l =
    let here = t.2 in
    let at = x + p.length in
    let first : f x ≡ p.state = h.0 x (omega (arith, t.0)) (omega (arith, t.0, t.1)) in
    let first' : f x ≡ q.state = k x (omega (arith, o)) (omega (arith, o, l)) in
    let next : f at ≡ r.state = h.1.0 at (omega (arith, here.0)) (omega (arith, here.0, here.1)) in
    let next' : f at ≡ q.state = k at (omega (arith, o)) (omega (arith, o, l)) in
    d.0 (sym first ∙ first' ∙ sym next' ∙ next)

part_path : {o o' l l' : ℕ} {s s' : State} → o ≡ o' → l ≡ l' → s ≡ s' → part o l s ≡ part o' l' s'
part_path a b c = λ i. part (a i) (b i) (c i)

differ_rest : (p : Part) (ps : List Part) → Differ (p ∷ ps) → Differ ps
differ_rest p [] d = tt
differ_rest p (q ∷ ps) d = d.1

pub account_only : (f : ℕ → State) (x n : ℕ) (ps qs : List Part) → Tiles x n ps → All (Stays f) ps → Differ ps → Tiles x n qs → All (Stays f) qs → Differ qs → ps ≡ qs
account_only f x n [] [] t h d u k e = refl
account_only f x n [] (q ∷ qs) t h d u k e = absurd (omega (arith, t, u.1, tiles_le (x + q.length) n qs u.2))
account_only f x n (p ∷ ps) [] t h d u k e = absurd (omega (arith, u, t.1, tiles_le (x + p.length) n ps t.2))
account_only f x n (p ∷ ps) (q ∷ qs) t h d u k e =
    let ends = tiles_le (x + p.length) n ps t.2 in
    let ends' = tiles_le (x + q.length) n qs u.2 in
    let long : p.length ≤ q.length = least (leb p.length q.length) refl in
    let short : q.length ≤ p.length = most (leb q.length p.length) refl in
    let same : p.length ≡ q.length = omega arith in
    let state : p.state ≡ q.state = sym (h.0 x (omega (arith, t.0)) (omega (arith, t.0, t.1))) ∙ k.0 x (omega (arith, u.0)) (omega (arith, u.0, u.1)) in
    let rest = account_only f (x + p.length) n ps qs t.2 h.1 (differ_rest p ps d) (subst (λ (m : ℕ). Tiles (x + m) n qs) (sym same) u.2) k.1 (differ_rest q qs e) in
    (λ i. part_path (t.0 ∙ sym u.0) same state i ∷ rest i)
  where
    least : (b : Bool) → leb p.length q.length ≡ b → p.length ≤ q.length
    least true z = leb-true p.length q.length z
    least false z =
        absurd (not_shorter f x n q p qs u k e t.0 h.0 (omega (arith, t.0, tiles_le (x + p.length) n ps t.2)) (leb-false p.length q.length z))

    most : (b : Bool) → leb q.length p.length ≡ b → q.length ≤ p.length
    most true z = leb-true q.length p.length z
    most false z =
        absurd (not_shorter f x n p q ps t h d u.0 k.0 (omega (arith, u.0, tiles_le (x + q.length) n qs u.2)) (leb-false q.length p.length z))

-- ---- the lengths, and the milliseconds of each state

pub tiles_sum : (x n : ℕ) (ps : List Part) → Tiles x n ps → x + sum (map (λ (p : Part). p.length) ps) ≡ n
unfolding sum
tiles_sum x n [] t = omega (arith, t)
tiles_sum x n (p ∷ ps) t = let ih = tiles_sum (x + p.length) n ps t.2 in omega arith

-- as many stretches as milliseconds, at most
pub tiles_few : (x n : ℕ) (ps : List Part) → Tiles x n ps → x + length ps ≤ n
tiles_few x n [] t = omega (arith, t)
tiles_few x n (p ∷ ps) t = let ih = tiles_few (x + p.length) n ps t.2 in omega (arith, t.1)

module _ (f : ℕ → State) (a d : ℕ) (s : State) (h : (m : ℕ) → a ≤ m → m < a + d → f m ≡ s) where
  pub time_run : (t : State) → time_in f (a + d) t ≡ time_in f a t + (if same_state s t then d else 0)
  unfolding time_in
  time_run t = count_stretch (in_state f t) a d (same_state s t) (λ m l u. ap (λ (x : State). same_state x t) (h m l u))

pub time_most : (f : ℕ → State) (n : ℕ) (s : State) → time_in f n s ≤ n
unfolding time_in
time_most f n s = count_le (in_state f s) n
