-- Volumes added up from the best order down until they are enough: where that stops is the best key. And W3's number of four orders.
use Rattle.std.specs.Prelude.{if◌then◌else◌}
use Prim.Native.Nat.{ℕ, ◌+◌, ◌≤◌, ◌<◌}
use native.Mathlib.Omega.{arith}
use mathlib.Core.Path.{◌≡◌, refl, sym, ap, ◌∙◌, subst}
use mathlib.Core.Bool.{Bool, true, false, ◌||◌}
use mathlib.Core.Logic.{◌⊎◌, inl, inr}
use mathlib.Core.List.{List, [], ◌∷◌}
use borrow.Author.Tests.{leb-true, leb-false, ltb-true, ltb-false, eqb-true, eqb-false, le-leb, lt-leb, le-ltb, lt-ltb, eq-eqb}
use lib.Dec.{leb, ltb, eqb}
use lib.ListN.{length, get_or}
use Rattle.lists.specs.Lists.{how_many}
use Rattle.best_quote.specs.declared.Level.{Level}
use Rattle.best_quote.specs.Levels.{held, enough, best_key, level_at, is_best}
use Rattle.best_quote.proofs.Levels.{best_level}
use Rattle.best_quote.proofs.Sums.{count_at, downward_sums}
use Rattle.small_side.specs.Internal.{key_in, volume_in, held_one, held_all, level_in, four, Descending}
use Rattle.small_side.specs.Small.{BestKeyFound}
use Rattle.small_side.proofs.Orders.{one_most, one-all, one_none}

-- the depth with one more order
abbrev pub next : ℕ → ℕ → ℕ → ℕ
next minimum depth x = if ltb depth minimum then depth + volume_in x else depth

-- the order at which the depth is first enough, 0 where it never is
abbrev pub stop : ℕ → ℕ → List ℕ → ℕ
stop minimum depth [] = 0
stop minimum depth (x ∷ xs) = if leb minimum (next minimum depth x) then x else stop minimum (next minimum depth x) xs

-- orders that follow one of this key, the best one first
abbrev pub Behind : ℕ → List ℕ → Type 0
Behind bound [] = Unit {0}
Behind bound (x ∷ xs) = (key_in x ≤ bound) × Behind (key_in x) xs

none-better : (k bound : ℕ) (xs : List ℕ) → bound ≤ k → Behind bound xs → held_all (ltb k) xs ≡ 0
unfolding held_all
none-better k bound [] h b = refl
none-better k bound (x ∷ xs) h b =
    omega (arith, one_none (ltb k) x (le-ltb k (key_in x) (omega (arith, h, b.0))), none-better k (key_in x) xs (omega (arith, h, b.0)) b.1)

-- what was passed of all the orders: `passed t` of it passes a test, and all of it at keys up to the bound
module _ (minimum : ℕ) (all : (ℕ → Bool) → ℕ) where
  pub record Passed (passed : (ℕ → Bool) → ℕ) (depth bound : ℕ) (xs : List ℕ) : Type 0 where
    pub whole : (t : ℕ → Bool) → all t ≡ passed t + held_all t xs
    pub most : (t : ℕ → Bool) → passed t ≤ depth
    pub low : (k : ℕ) → k ≤ bound → passed (leb k) ≡ depth
    pub few : depth < minimum
    pub behind : Behind bound xs

  pub record Ends (depth : ℕ) (xs : List ℕ) : Type 0 where
    pub few : all (ltb (key_in (stop minimum depth xs))) < minimum
    pub enough : (key_in (stop minimum depth xs) ≡ 0) ⊎ (minimum ≤ all (leb (key_in (stop minimum depth xs))))

  module _ (passed : (ℕ → Bool) → ℕ) (depth bound x : ℕ) (xs : List ℕ) (p : Passed passed depth bound (x ∷ xs)) where
    abbrev deep : ℕ
    deep = depth + volume_in x

    next_is : next minimum depth x ≡ deep
    next_is = ap (λ (b : Bool). if b then depth + volume_in x else depth) (lt-ltb depth minimum p.few)

    abbrev with_it : (ℕ → Bool) → ℕ
    with_it t = passed t + held_one t x

    -- the contracts at its key or better, and those before it
    at_least : deep ≤ all (leb (key_in x))
    unfolding held_all
    at_least =
        omega (arith, p.whole (leb (key_in x)), p.low (key_in x) p.behind.0, one-all (leb (key_in x)) x (le-leb (key_in x) (key_in x) (omega arith)))

    before_few : all (ltb (key_in x)) < minimum
    unfolding held_all
    before_few =
        omega (
          arith,
          p.whole (ltb (key_in x)),
          p.most (ltb (key_in x)),
          p.few,
          one_none (ltb (key_in x)) x (le-ltb (key_in x) (key_in x) (omega arith)),
          none-better (key_in x) (key_in x) xs (omega arith) p.behind.1,
        )

    onward : deep < minimum → Passed with_it deep (key_in x) xs
    unfolding held_all
    onward h =
        record {
          whole = λ t. omega (arith, p.whole t);
          most = λ t. omega (arith, p.most t, one_most t x);
          low = λ k l. omega (arith, p.low k (omega (arith, l, p.behind.0)), one-all (leb k) x (le-leb k (key_in x) l));
          few = h;
          behind = p.behind.1;
        }

  -- at the first order with which it is enough
  module _ (passed : (ℕ → Bool) → ℕ) (depth bound x : ℕ) (xs : List ℕ) (p : Passed passed depth bound (x ∷ xs))
      (h : minimum ≤ depth + volume_in x) where
    stops : stop minimum depth (x ∷ xs) ≡ x
    stops =
        ap (λ (n : ℕ). if leb minimum n then x else stop minimum n xs) (next_is passed depth bound x xs p)
        ∙ ap (λ (b : Bool). if b then x else stop minimum (depth + volume_in x) xs) (le-leb minimum (depth + volume_in x) h)

    ends_here : Ends depth (x ∷ xs)
    ends_here =
        record {
          few = subst (λ (y : ℕ). all (ltb (key_in y)) < minimum) (sym stops) (before_few passed depth bound x xs p);
          enough =
              inr
              (subst (λ (y : ℕ). minimum ≤ all (leb (key_in y))) (sym stops) (omega (arith, h, at_least passed depth bound x xs p)));
        }

  -- before it
  module _ (passed : (ℕ → Bool) → ℕ) (depth bound x : ℕ) (xs : List ℕ) (p : Passed passed depth bound (x ∷ xs))
      (h : depth + volume_in x < minimum) (rest : Ends (depth + volume_in x) xs) where
    goes_on : stop minimum depth (x ∷ xs) ≡ stop minimum (depth + volume_in x) xs
    goes_on =
        ap (λ (n : ℕ). if leb minimum n then x else stop minimum n xs) (next_is passed depth bound x xs p)
        ∙ ap (λ (b : Bool). if b then x else stop minimum (depth + volume_in x) xs) (lt-leb minimum (depth + volume_in x) h)

    ends_later : Ends depth (x ∷ xs)
    ends_later =
        record {
          few = subst (λ (y : ℕ). all (ltb (key_in y)) < minimum) (sym goes_on) rest.few;
          enough = subst (λ (y : ℕ). (key_in y ≡ 0) ⊎ (minimum ≤ all (leb (key_in y)))) (sym goes_on) rest.enough;
        }

  pub ends : (passed : (ℕ → Bool) → ℕ) (depth bound : ℕ) (xs : List ℕ) → Passed passed depth bound xs → Ends depth xs
  unfolding held_all
  ends passed depth bound [] p =
      record {
        few = omega (arith, p.whole (ltb 0), p.most (ltb 0), p.few);
        enough = inl refl;
      }
  ends passed depth bound (x ∷ xs) p =
      go (leb minimum (depth + volume_in x)) refl (λ h. ends (with_it passed depth bound x xs p) (depth + volume_in x) (key_in x) xs (onward passed depth bound x xs p h))
    where
      go : (b : Bool) → leb minimum (depth + volume_in x) ≡ b → (depth + volume_in x < minimum → Ends (depth + volume_in x) xs) → Ends depth (x ∷ xs)
      go true e rest = ends_here passed depth bound x xs p (leb-true minimum (depth + volume_in x) e)
      go false e rest =
          let h = leb-false minimum (depth + volume_in x) e in
          ends_later passed depth bound x xs p h (rest h)

-- ---- the best key of all the orders

-- at a key or better: better, or at it
all_split : (k : ℕ) (xs : List ℕ) → held_all (leb k) xs ≡ held_all (ltb k) xs + held_all (eqb k) xs
unfolding held_all
all_split k [] = refl
all_split k (x ∷ xs) = omega (arith, go (ltb k (key_in x)) (eqb k (key_in x)) refl refl, all_split k xs)
  where
    go : (a b : Bool) → ltb k (key_in x) ≡ a → eqb k (key_in x) ≡ b → held_one (leb k) x ≡ held_one (ltb k) x + held_one (eqb k) x
    go true true e f = absurd (omega (arith, ltb-true k (key_in x) e, eqb-true k (key_in x) f))
    go true false e f = rw (le-leb k (key_in x) (omega (arith, ltb-true k (key_in x) e)), e, f) (omega arith)
    go false true e f = rw (le-leb k (key_in x) (omega (arith, eqb-true k (key_in x) f)), e, f) (omega arith)
    go false false e f = rw (lt-leb k (key_in x) (omega (arith, ltb-false k (key_in x) e, eqb-false k (key_in x) f)), e, f) (omega arith)

pub is_best_lem : (minimum k : ℕ) (xs : List ℕ) → held_all (ltb k) xs < minimum → (k ≡ 0) ⊎ (minimum ≤ held_all (leb k) xs) → is_best (level_in xs k) minimum ≡ true
unfolding is_best
is_best_lem minimum k xs few (inl z) = rw (lt-ltb (held_all (ltb k) xs) minimum few, eq-eqb k 0 z) refl
is_best_lem minimum k xs few (inr h) =
    rw (lt-ltb (held_all (ltb k) xs) minimum few, le-leb minimum (held_all (ltb k) xs + held_all (eqb k) xs) (omega (arith, h, all_split k xs))) (go (eqb k 0))
  where
    go : (b : Bool) → b || true ≡ true
    go true = refl
    go false = refl

-- nothing passed yet: the sums of all the orders, the best one first
ends-all : (minimum bound : ℕ) (xs : List ℕ) → 1 ≤ minimum → Behind bound xs → Ends minimum (λ t. held_all t xs) 0 xs
ends-all minimum bound xs some b =
    ends minimum (λ t. held_all t xs) (λ t. 0) 0 bound xs
    (record { whole = λ t. omega arith; most = λ t. omega arith; low = λ k l. refl; few = some; behind = b })

-- ---- four orders

lower : (x y : ℕ) → y ≤ x → key_in y ≤ key_in x
lower x y h = omega (arith, h)

module _ (m a b c d one two three deep in4 in3 in2 in1 : ℕ) (some : 1 ≤ m) (sorted : Descending a b c d)
    (d1 : one ≡ next m 0 a) (d2 : two ≡ next m one b) (d3 : three ≡ next m two c) (d4 : deep ≡ next m three d)
    (i4 : in4 ≡ (if leb m deep then d else 0)) (i3 : in3 ≡ (if leb m three then c else in4)) (i2 : in2 ≡ (if leb m two then b else in3))
    (i1 : in1 ≡ (if leb m one then a else in2)) where
  deep-two : two ≡ next m (next m 0 a) b
  deep-two = d2 ∙ ap (λ (x : ℕ). next m x b) d1

  deep-three : three ≡ next m (next m (next m 0 a) b) c
  deep-three = d3 ∙ ap (λ (x : ℕ). next m x c) deep-two

  deep-four : deep ≡ next m (next m (next m (next m 0 a) b) c) d
  deep-four = d4 ∙ ap (λ (x : ℕ). next m x d) deep-three

  stopped : in1 ≡ stop m 0 (four a b c d)
  stopped =
      i1
      ∙ (λ i. if leb m (d1 i) then a
      else (i2
      ∙ (λ j. if leb m (deep-two j) then b
      else (i3 ∙ (λ k. if leb m (deep-three k) then c else (i4 ∙ (λ l. if leb m (deep-four l) then d else 0)) k)) j)) i)

  pub down_is : is_best (level_in (four a b c d) (key_in in1)) m ≡ true
  down_is =
      let xs = four a b c d in
      let behind : Behind (key_in a) xs = (omega arith, (lower a b sorted.first, (lower b c sorted.second, (lower c d sorted.third, tt)))) in
      let e = ends-all m (key_in a) xs some behind in
      ap (λ (y : ℕ). is_best (level_in xs (key_in y)) m) stopped ∙ is_best_lem m (key_in (stop m 0 xs)) xs e.few e.enough

-- ---- the columns

pub finds : (ks vs xs : List ℕ) (m key sums : ℕ) → ((t : ℕ → Bool) → held_all t xs ≡ held t ks vs) → is_best (level_in xs key) m ≡ true
    → sums ≡ count_at key ks → BestKeyFound ks vs m (record { key = key; sums = sums })
unfolding level_at best_key
finds ks vs xs m key sums same best number =
    let level : level_in xs key ≡ level_at ks vs key = λ i. record { key = key; before = same (ltb key) i; at = same (eqb key) i } in
    let is = best_level m ks vs key (ap (λ (l : Level). is_best l m) (sym level) ∙ best) in
    record { key = sym is; sums = number ∙ sym (downward_sums (enough m ks vs) ks ∙ ap (λ (k : ℕ). count_at k ks) is) }

-- ---- the count

many_four : (t : ℕ → Bool) (ks : List ℕ) → length ks ≡ 4
    → how_many t ks
    ≡ (if t (get_or ks 0 0) then 1 else 0)
    + ((if t (get_or ks 1 0) then 1 else 0) + ((if t (get_or ks 2 0) then 1 else 0) + ((if t (get_or ks 3 0) then 1 else 0) + 0)))
unfolding how_many
many_four t (a ∷ b ∷ c ∷ d ∷ []) h = refl
many_four t [] h = absurd (omega (arith, h))
many_four t (a ∷ []) h = absurd (omega (arith, h))
many_four t (a ∷ b ∷ []) h = absurd (omega (arith, h))
many_four t (a ∷ b ∷ c ∷ []) h = absurd (omega (arith, h))
many_four t (a ∷ b ∷ c ∷ d ∷ e ∷ ks) h = absurd (omega (arith, h))

pub count_four : (best : ℕ) (ks : List ℕ) (n1 n2 n3 n4 n5 : ℕ) → length ks ≡ 4
    → n1 ≡ (if ltb best (get_or ks 0 0) then 1 else 0) → n2 ≡ (if ltb best (get_or ks 1 0) then 1 else 0)
    → n3 ≡ (if ltb best (get_or ks 2 0) then 1 else 0) → n4 ≡ (if ltb best (get_or ks 3 0) then 1 else 0) → n5 ≡ (if ltb 0 best then 1 else 0)
    → n1 + n2 + n3 + n4 + n5 ≡ count_at best ks
count_four best ks n1 n2 n3 n4 n5 long e1 e2 e3 e4 e5 = omega (arith, many_four (ltb best) ks long, e1, e2, e3, e4, e5)
