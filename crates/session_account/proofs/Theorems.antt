-- The theorems: the lengths of an account add up to L and the states' sums do; its kept stretches are the session run's pairs; its other
-- stretches, joined where they touch, are W1's lapses; no other list is the account; and the run is refused as the session run is.
use Rattle.std.specs.Prelude.{if◌then◌else◌}
use Prim.Native.Nat.{ℕ, zero, suc, ◌+◌, ◌≤◌, ◌<◌}
use native.Mathlib.Omega.{arith}
use mathlib.Core.Path.{◌≡◌, refl, sym, ap, ◌∙◌}
use mathlib.Core.List.{List, [], ◌∷◌, ◌++◌, map, append_assoc, append-nil}
use mathlib.Core.Bool.{Bool, true, false, true≢false, false≢true, not}
use borrow.Author.Tests.{eq-eqb, ne_eqb}
use Rattle.rules.specs.declared.Steps.{Steps}
use Rattle.rules.specs.declared.Row.{Row}
use Rattle.rules.specs.declared.SpreadRule.{SpreadRule}
use Rattle.rules.specs.declared.SpreadRule.TheVariants.{Settled}
use Rattle.rules.specs.declared.Event.{Event}
use Rattle.lists.specs.Lists.{filter, sum, count_below, All}
use Rattle.rules.specs.Terms.{paper}
use Rattle.rules.specs.Rows.{row_of}
use Rattle.rules.specs.Units.{kopecks}
use Rattle.rules.specs.Cells.{place_of, cell_at}
use Rattle.rules.specs.Kept.{kept_at, kept_below}
use Rattle.rules.specs.States.{State, kept, has_no_bid, has_no_ask, neither, crossed, wide, is_kept, state_at}
use Rattle.rules.specs.Stretches.{Stretch, stretch, stretches, kept_stretches}
use Rattle.rules.specs.Runs.{end, Inside, before, ends_at, lengthened, extended}
use Rattle.rules.specs.Lapses.{missing, lapses}
use Rattle.rules.specs.Pay.{cell_weight}
use Rattle.rules.specs.Calls.{Open, Close, Running, Idle, Quoting, Book, fresh_book}
use Rattle.rules.specs.Causes.{refusal_of}
use Rattle.rules.specs.Book.{step}
use Rattle.rules.specs.Records.{read_record}
use Rattle.rules.specs.Session as S
use Rattle.rules.specs.Accounts.{Part, same_state, parts, in_state, time_in, totals, Tiles, Stays, Differ, AccountOf, joined_up, as_stretch, kept_parts, lost_parts, Account, account_unless, no_limit, account_of, account_in, account_records, account}
use Rattle.lists.proofs.Counting.{count_ext}
use Rattle.rules.proofs.States.{kept-state}
use Rattle.rules.proofs.Stretches.{stretches_ext, stretches_false, stretches-new, stretches-longer, stretches-ends}
use Rattle.session_account.proofs.Parts.{parts-account, account_only, tiles_sum, time_run}

-- ---- one list and no other

pub one-account : (f : ℕ → State) (n : ℕ) (ps : List Part) → AccountOf f n ps → ps ≡ parts f n
one-account f n ps a =
    let b = parts-account f n in
    account_only f 0 n ps (parts f n) a.whole a.stays a.differ b.whole b.stays b.differ

-- ---- the lengths, and the states' sums

pub lengths-whole : (f : ℕ → State) (n : ℕ) → sum (map (λ (p : Part). p.length) (parts f n)) ≡ n
lengths-whole f n = let t = tiles_sum 0 n (parts f n) (parts-account f n).whole in omega (arith, t)

six_one : (s : State) → (if same_state s kept then 1 else 0) + (if same_state s has_no_bid then 1 else 0) + (if same_state s has_no_ask then 1 else 0)
    + (if same_state s neither then 1 else 0) + (if same_state s crossed then 1 else 0) + (if same_state s wide then 1 else 0) ≡ 1
six_one kept = refl
six_one has_no_bid = refl
six_one has_no_ask = refl
six_one neither = refl
six_one crossed = refl
six_one wide = refl

pub totals-whole : (f : ℕ → State) (n : ℕ) → sum (totals f n) ≡ n
unfolding totals time_in sum count_below
totals-whole f zero = refl
totals-whole f (suc n) = let ih = totals-whole f n in omega (arith, six_one (f n))

-- the lengths of the stretches of a state add up to its time
unfoldable pub lengths_in : State → List Part → ℕ
lengths_in s [] = 0
lengths_in s (p ∷ ps) = (if same_state p.state s then p.length else 0) + lengths_in s ps

lengths_from : (f : ℕ → State) (s : State) (x n : ℕ) (ps : List Part) → Tiles x n ps → All (Stays f) ps → time_in f x s + lengths_in s ps ≡ time_in f n s
unfolding lengths_in
lengths_from f s x n [] t h = ap (λ (k : ℕ). time_in f k s + 0) t ∙ omega arith
lengths_from f s x n (p ∷ ps) t h =
    let ih = lengths_from f s (x + p.length) n ps t.2 h.1 in
    let run = time_run f x p.length p.state (λ m l u. h.0 m (omega (arith, t.0)) (omega (arith, t.0))) s in
    omega (arith, ih, run)

pub lengths_time : (f : ℕ → State) (n : ℕ) (s : State) → lengths_in s (parts f n) ≡ time_in f n s
unfolding time_in count_below
lengths_time f n s =
    let a = parts-account f n in
    let e = lengths_from f s 0 n (parts f n) a.whole a.stays in
    omega (arith, e)

-- ---- stretches joined where they touch

extended_last : (a d : ℕ) (ss : List Stretch) (s : Stretch) → extended a d (ss ++ (s ∷ [])) ≡ ss ++ lengthened a d s
unfolding extended
extended_last a d [] s = refl
extended_last a d (x ∷ []) s = refl
extended_last a d (x ∷ y ∷ ss) s = ap {B = List Stretch} (λ l. x ∷ l) (extended_last a d (y ∷ ss) s)

extended-longer : (a d : ℕ) (ss : List Stretch) (s : Stretch) → end s ≡ a → extended a d (ss ++ (s ∷ [])) ≡ ss ++ (stretch s.offset (s.length + d) ∷ [])
extended-longer a d ss s e = rw (extended_last a d ss s, eq-eqb (end s) a e) refl

extended-new : (a d : ℕ) (ss : List Stretch) → ends_at a ss ≡ false → extended a d ss ≡ ss ++ (stretch a d ∷ [])
unfolding extended ends_at
extended-new a d [] e = refl
extended-new a d (s ∷ []) e = rw e refl
extended-new a d (s ∷ t ∷ ss) e = ap {B = List Stretch} (λ l. s ∷ l) (extended-new a d (t ∷ ss) e)

module _ (p : ℕ → Bool) (a d : ℕ) (l : 1 ≤ d) (h : (m : ℕ) → a ≤ m → m < a + d → p m ≡ true) where
  stretches_true : (b : Bool) → before p a ≡ b → extended a d (stretches p a) ≡ stretches p (a + d)
  stretches_true false e = extended-new a d (stretches p a) (stretches-ends p a ∙ e) ∙ sym (stretches-new p a d l h e)
  stretches_true true e =
      let (ss, s, ends, old, new) = stretches-longer p a d l h e in
      ap (extended a d) old ∙ extended-longer a d ss s ends ∙ sym new

joined_from : (q : State → Bool) (f : ℕ → State) (x n : ℕ) (ps : List Part) → Tiles x n ps → All (Stays f) ps
    → joined_up q (stretches (λ m. q (f m)) x) ps ≡ stretches (λ m. q (f m)) n
unfolding joined_up
joined_from q f x n [] t h = ap (stretches (λ m. q (f m))) t
joined_from q f x n (p ∷ ps) t h = ap (λ (l : List Stretch). joined_up q l ps) (go (q p.state) refl) ∙ joined_from q f (x + p.length) n ps t.2 h.1
  where
    passes : (b : Bool) → q p.state ≡ b → (m : ℕ) → x ≤ m → m < x + p.length → q (f m) ≡ b
    passes b e m l u = ap q (h.0 m (omega (arith, t.0)) (omega (arith, t.0))) ∙ e

    go : (b : Bool) → q p.state ≡ b
        → (if b then extended p.offset p.length (stretches (λ m. q (f m)) x) else stretches (λ m. q (f m)) x) ≡ stretches (λ m. q (f m)) (x + p.length)
    go true e =
        ap (λ (o : ℕ). extended o p.length (stretches (λ m. q (f m)) x)) t.0
        ∙ stretches_true (λ m. q (f m)) x p.length t.1 (passes true e) (before (λ m. q (f m)) x) refl
    go false e = sym (stretches_false (λ m. q (f m)) x p.length (passes false e))

-- the other states' stretches, joined where they touch, are the stretches of what is not kept
pub lost_stretches : (f : ℕ → State) (n : ℕ) → lost_parts (parts f n) ≡ stretches (λ m. not (is_kept (f m))) n
unfolding lost_parts stretches
lost_stretches f n = let a = parts-account f n in joined_from (λ (s : State). not (is_kept s)) f 0 n (parts f n) a.whole a.stays

pub lost_lapses : (row : Row) (spread : SpreadRule) (events : List Event) (n : ℕ) → lost_parts (parts (state_at row spread events) n) ≡ lapses (kept_at row spread events) n
unfolding lapses
lost_lapses row spread events n =
    lost_stretches (state_at row spread events) n
    ∙ stretches_ext (λ m. not (is_kept (state_at row spread events m))) (missing (kept_at row spread events)) n (λ m l. ap not (kept-state row spread events m))

-- ---- the kept ones never touch

only_kept : (s t : State) → is_kept s ≡ true → is_kept t ≡ true → s ≡ t
only_kept kept kept e k = refl
only_kept kept has_no_bid e k = absurd (false≢true k)
only_kept kept has_no_ask e k = absurd (false≢true k)
only_kept kept neither e k = absurd (false≢true k)
only_kept kept crossed e k = absurd (false≢true k)
only_kept kept wide e k = absurd (false≢true k)
only_kept has_no_bid t e k = absurd (false≢true e)
only_kept has_no_ask t e k = absurd (false≢true e)
only_kept neither t e k = absurd (false≢true e)
only_kept crossed t e k = absurd (false≢true e)
only_kept wide t e k = absurd (false≢true e)

-- the first stretch is not kept
abbrev FirstLost : List Part → Type 0
FirstLost [] = Unit {0}
FirstLost (p ∷ ps) = is_kept p.state ≡ false

next_lost : (p : Part) (ps : List Part) → Differ (p ∷ ps) → is_kept p.state ≡ true → FirstLost ps
next_lost p [] d e = tt
next_lost p (q ∷ ps) d e = go (is_kept q.state) refl
  where
    go : (b : Bool) → is_kept q.state ≡ b → is_kept q.state ≡ false
    go true k = absurd (d.0 (only_kept p.state q.state e k))
    go false k = k

differ_rest : (p : Part) (ps : List Part) → Differ (p ∷ ps) → Differ ps
differ_rest p [] d = tt
differ_rest p (q ∷ ps) d = d.1

inside_later : (x d : ℕ) (ss : List Stretch) → Inside x ss → Inside (x + d) ss
inside_later x d [] i = tt
inside_later x d (s ∷ ss) i = (omega arith, inside_later x d ss i.1)

inside_snoc : (x d : ℕ) (ss : List Stretch) → Inside x ss → Inside (x + d) (ss ++ (stretch x d ∷ []))
inside_snoc x d [] i = (omega arith, tt)
inside_snoc x d (s ∷ ss) i = (omega arith, inside_snoc x d ss i.1)

ends_not : (x d : ℕ) (ss : List Stretch) → 1 ≤ d → Inside x ss → ends_at (x + d) ss ≡ false
unfolding ends_at
ends_not x d [] l i = refl
ends_not x d (s ∷ []) l i = ne_eqb (end s) (x + d) (λ k. omega arith)
ends_not x d (s ∷ t ∷ ss) l i = ends_not x d (t ∷ ss) l i.1

-- a kept first stretch begins where none ends
begins_free : (x : ℕ) (ss : List Stretch) (p : Part) (ps : List Part) → (ends_at x ss ≡ true → FirstLost (p ∷ ps)) → is_kept p.state ≡ true → ends_at x ss ≡ false
begins_free x ss p ps h e = go (ends_at x ss) refl
  where
    go : (b : Bool) → ends_at x ss ≡ b → ends_at x ss ≡ false
    go true k = absurd (true≢false (sym e ∙ h k))
    go false k = k

kept_from : (x n : ℕ) (ss : List Stretch) (ps : List Part) → Tiles x n ps → Differ ps → Inside x ss → (ends_at x ss ≡ true → FirstLost ps) → joined_up is_kept ss ps ≡ ss ++ kept_parts ps
unfolding joined_up kept_parts filter
kept_from x n ss [] t d i h = sym (append-nil ss)
kept_from x n ss (p ∷ ps) t d i h = go (λ ts j k. kept_from (x + p.length) n ts ps t.2 (differ_rest p ps d) j k) (is_kept p.state) refl
  where
    go : ((ts : List Stretch) → Inside (x + p.length) ts → (ends_at (x + p.length) ts ≡ true → FirstLost ps) → joined_up is_kept ts ps ≡ ts ++ kept_parts ps)
        → (b : Bool) → is_kept p.state ≡ b
        → joined_up is_kept (if b then extended p.offset p.length ss else ss) ps
        ≡ ss ++ map as_stretch (if b then p ∷ filter (λ (p : Part). is_kept p.state) ps else filter (λ (p : Part). is_kept p.state) ps)
    go rest true e =
        let s = stretch x p.length in
        ap (λ (o : ℕ). joined_up is_kept (extended o p.length ss) ps) t.0
        ∙ ap (λ (l : List Stretch). joined_up is_kept l ps) (extended-new x p.length ss (begins_free x ss p ps h e))
        ∙ rest (ss ++ (s ∷ [])) (inside_snoc x p.length ss i) (λ k. next_lost p ps d e)
        ∙ append_assoc ss (s ∷ []) (kept_parts ps)
        ∙ ap (λ (o : ℕ). ss ++ (stretch o p.length ∷ kept_parts ps)) (sym t.0)
    go rest false e = rest ss (inside_later x p.length ss i) (λ k. absurd (false≢true (sym (ends_not x p.length ss t.1 i) ∙ k)))

pub kept-stretches : (f : ℕ → State) (n : ℕ) → kept_parts (parts f n) ≡ stretches (λ m. is_kept (f m)) n
unfolding stretches ends_at
kept-stretches f n =
    let a = parts-account f n in
    sym (kept_from 0 n [] (parts f n) a.whole a.differ tt (λ k. absurd (false≢true k))) ∙ joined_from is_kept f 0 n (parts f n) a.whole a.stays

pub kept_pairs : (row : Row) (spread : SpreadRule) (events : List Event) → kept_parts (parts (state_at row spread events) row.length.0) ≡ kept_stretches row spread events
unfolding kept_stretches
kept_pairs row spread events =
    kept-stretches (state_at row spread events) row.length.0
    ∙ stretches_ext (λ m. is_kept (state_at row spread events m)) (kept_at row spread events) row.length.0 (λ m l. kept-state row spread events m)

kept_test : (s : State) → same_state s kept ≡ is_kept s
kept_test kept = refl
kept_test has_no_bid = refl
kept_test has_no_ask = refl
kept_test neither = refl
kept_test crossed = refl
kept_test wide = refl

-- the kept state's time is kept time
pub kept_time : (row : Row) (spread : SpreadRule) (events : List Event) (n : ℕ) → time_in (state_at row spread events) n kept ≡ kept_below row spread events n
unfolding time_in kept_below
kept_time row spread events n =
    count_ext (in_state (state_at row spread events) kept) (kept_at row spread events) n (λ m l. kept_test (state_at row spread events m) ∙ kept-state row spread events m)

-- ---- the account run and the session run: refused by the same number at the same place, or the kept stretches are the pairs

abbrev pub Agree : S.Session → Account → Type 0
Agree (S.Session.accepted k w ss) (Account.accepted times ps) = kept_parts ps ≡ ss
Agree (S.Session.accepted k w ss) (Account.refused n place) = ⊥
Agree (S.Session.refused n place) (Account.accepted times ps) = ⊥
Agree (S.Session.refused n place) (Account.refused m at) = (n ≡ m) × (place ≡ at)

agree_unless : (n place : ℕ) (s : S.Session) (a : Account) → Agree s a → Agree (S.unless n place s) (account_unless n place a)
agree_unless zero place s a h = h
agree_unless (suc n) place s a h = (refl, refl)

agree_in : (k w : ℕ) (r : Running) → Agree (S.Session.accepted k w (S.stretches_in r)) (account_in r)
unfolding account_of kept_parts filter
agree_in k w Idle = refl
agree_in k w (Quoting place row opening events) = kept_pairs row opening.spread events

agree_records : (most cell place : ℕ) (b : Book) (rs : List (List ℕ)) → Agree (S.run_records paper most cell place b rs) (account_records paper most place b rs)
unfolding S.run_records S.closing account_records
agree_records most cell place b [] =
    let c = cell_at (step paper b (Close (kopecks 0) (kopecks 0))).cells cell in
    agree_in c.kept.0 (cell_weight paper c) b.running
agree_records most cell place b (r ∷ rs) =
    agree_unless (S.record_refusal paper most place b r) place _ _ (agree_records most cell (suc place) (S.read_step paper (read_record r) b) rs)

pub account-session : (most : ℕ) (words : List ℕ) (sp : Steps) (bytes : List ℕ) → Agree (S.session paper most words sp bytes) (account paper most words (Settled sp) bytes)
unfolding S.session account
account-session most words sp bytes =
    agree_unless (refusal_of paper fresh_book (Open words 1 (no_limit (Settled sp)))) 0 _ _
    (agree_records most (place_of 1 (row_of words).expiry (row_of words).quantum) 1 (step paper fresh_book (Open words 1 (no_limit (Settled sp)))) (S.records_of bytes))
