-- A list of words, three at a time: what is read from the front of it, and from a place on.
use Rattle.std.specs.Prelude.{Some, None, is_some, if◌then◌else◌}
use Prim.Native.Nat.{ℕ, ◌+◌, ◌-◌, ◌*◌, ◌≤◌, ◌<◌}
use native.Mathlib.Omega.{arith}
use mathlib.Core.Path.{◌≡◌, refl, sym, ap, subst, ◌∙◌}
use mathlib.Core.List.{List, [], ◌∷◌}
use mathlib.Core.Bool.{Bool, true, false, ◌&&◌}
use lib.Dec.{eqb, leb}
use lib.ListN.{length, get_or, drop, length-drop}
use lib.Seq.{get_or-drop, drop-drop}
use borrow.Author.Tests.{eq-eqb, ne_eqb, eqb-true, eqb-false, le-leb, lt-leb}
use Rattle.standing_rules.specs.declared.Call.{Call}
use Rattle.standing_rules.specs.Calls.{call_of}
use Rattle.standing.specs.Words.{is_call, readable, calls_of}
use Rattle.standing.specs.Internal.{measured, can_run, ready_of}

-- ---- the front

front-readable : (ws : List ℕ) → 3 ≤ length ws → readable ws ≡ is_call (get_or ws 0 0) (get_or ws 2 0) && readable (drop 3 ws)
unfolding readable
front-readable [] h = absurd (omega arith)
front-readable (a ∷ []) h = absurd (omega arith)
front-readable (a ∷ b ∷ []) h = absurd (omega arith)
front-readable (a ∷ b ∷ c ∷ rest) h = refl

front-calls : (ws : List ℕ) → 3 ≤ length ws
    → calls_of ws ≡ (if is_call (get_or ws 0 0) (get_or ws 2 0) then call_of (get_or ws 0 0) (get_or ws 1 0) (get_or ws 2 0) ∷ calls_of (drop 3 ws) else [])
unfolding calls_of
front-calls [] h = absurd (omega arith)
front-calls (a ∷ []) h = absurd (omega arith)
front-calls (a ∷ b ∷ []) h = absurd (omega arith)
front-calls (a ∷ b ∷ c ∷ rest) h = refl

short_readable : (ws : List ℕ) → length ws < 3 → readable ws ≡ eqb (length ws) 0
unfolding readable
short_readable [] h = refl
short_readable (a ∷ []) h = refl
short_readable (a ∷ b ∷ []) h = refl
short_readable (a ∷ b ∷ c ∷ rest) h = absurd (omega arith)

short_calls : (ws : List ℕ) → length ws < 3 → calls_of ws ≡ []
unfolding calls_of
short_calls [] h = refl
short_calls (a ∷ []) h = refl
short_calls (a ∷ b ∷ []) h = refl
short_calls (a ∷ b ∷ c ∷ rest) h = absurd (omega arith)

-- ---- from a place on

module _ (ws : List ℕ) (at : ℕ) where
  abbrev rest : List ℕ
  rest = drop at ws

  rest_long : length rest ≡ length ws - at
  rest_long = length-drop at ws

  at-word : (k : ℕ) → get_or rest k 0 ≡ get_or ws (at + k) 0
  at-word k = get_or-drop at ws k 0

  first_word : get_or rest 0 0 ≡ get_or ws at 0
  first_word = at-word 0 ∙ ap (λ (k : ℕ). get_or ws k 0) (omega arith)

  behind : drop 3 rest ≡ drop (at + 3) ws
  behind = drop-drop 3 at ws

-- how far a list is measured: what is left of it, and how many calls came before
pub record Upto (ws : List ℕ) (n at : ℕ) : Type 0 where
  pub inside : at ≤ length ws
  pub place : at ≡ 3 * n
  pub whole : readable ws ≡ readable (drop at ws)
  pub calls : length (calls_of ws) ≡ n + length (calls_of (drop at ws))

pub upto_start : (ws : List ℕ) → Upto ws 0 0
upto_start ws = record { inside = omega arith; place = refl; whole = refl; calls = omega arith }

module _ (ws : List ℕ) (calls at : ℕ) (u : Upto ws calls at) where
  abbrev test : Bool
  test = is_call (get_or ws at 0) (get_or ws (at + 2) 0)

  long_rest : at + 3 ≤ length ws → 3 ≤ length (drop at ws)
  long_rest h = let e = rest_long ws at in omega (arith, e)

  test_is : is_call (get_or (drop at ws) 0 0) (get_or (drop at ws) 2 0) ≡ test
  test_is = rw (first_word ws at, at-word ws at 2) refl

  readable_is : at + 3 ≤ length ws → readable ws ≡ test && readable (drop (at + 3) ws)
  readable_is h = u.whole ∙ front-readable (drop at ws) (long_rest h) ∙ rw (test_is, behind ws at) refl

  calls-length : (b : Bool) (c : Call) (cs : List Call) → length (if b then c ∷ cs else []) ≡ (if b then 1 + length cs else 0)
  calls-length true c cs = omega arith
  calls-length false c cs = refl

  calls_are : at + 3 ≤ length ws → length (calls_of (drop at ws)) ≡ (if test then 1 + length (calls_of (drop (at + 3) ws)) else 0)
  calls_are h =
      ap length (front-calls (drop at ws) (long_rest h))
      ∙ calls-length (is_call (get_or (drop at ws) 0 0) (get_or (drop at ws) 2 0)) (call_of (get_or (drop at ws) 0 0) (get_or (drop at ws) 1 0) (get_or (drop at ws) 2 0)) (calls_of (drop 3 (drop at ws)))
      ∙ rw (test_is, behind ws at) refl

  pub upto_next : at + 3 ≤ length ws → test ≡ true → Upto ws (calls + 1) (at + 3)
  upto_next h t =
      let p = u.place in
      let k : length (calls_of (drop at ws)) ≡ 1 + length (calls_of (drop (at + 3) ws)) = calls_are h ∙ rw t refl in
      let l = u.calls in
      record { inside = h; place = omega arith; whole = readable_is h ∙ rw t refl; calls = omega (arith, k, l) }

  pub upto_bad : at + 3 ≤ length ws → test ≡ false → None ≡ measured ws
  unfolding measured
  upto_bad h t = let r : readable ws ≡ false = readable_is h ∙ rw t refl in rw r refl

  -- the end, with nothing left or one or two words
  left_is : length ws < at + 3 → readable ws ≡ eqb at (length ws)
  left_is h =
      let e = rest_long ws at in
      let i = u.inside in
      let short : length (drop at ws) < 3 = omega (arith, e) in
      u.whole ∙ short_readable (drop at ws) short ∙ sym (same at (length ws) (length (drop at ws)) i e)
    where
      same : (a b c : ℕ) → a ≤ b → c ≡ b - a → eqb a b ≡ eqb c 0
      same a b c le q = go (eqb a b) refl
        where
          go : (t : Bool) → eqb a b ≡ t → t ≡ eqb c 0
          go true w = sym (eq-eqb c 0 (let z = eqb-true a b w in omega (arith, z)))
          go false w = sym (ne_eqb c 0 (λ z. eqb-false a b w (omega (arith, z))))

  pub upto_short : length ws < at + 3 → (at ≡ length ws → ⊥) → None ≡ measured ws
  unfolding measured
  upto_short h n = let r : readable ws ≡ false = left_is h ∙ ne_eqb at (length ws) n in rw r refl

  pub upto-end : at ≡ length ws → Some calls ≡ measured ws
  unfolding measured
  upto-end h =
      let e = rest_long ws at in
      let k : length (calls_of (drop at ws)) ≡ 0 = ap length (short_calls (drop at ws) (omega (arith, e))) in
      let l = u.calls in
      let n : calls ≡ length (calls_of ws) = omega (arith, k, l) in
      let r : readable ws ≡ true = left_is (omega arith) ∙ eq-eqb at (length ws) h in
      rw r (ap Some n)

-- ---- whether a list can run

module _ (ws : List ℕ) where
  pub list_is : is_some (measured ws) ≡ readable ws
  unfolding measured
  list_is = go (readable ws)
    where
      go : (b : Bool) → is_some (if b then Some (length (calls_of ws)) else None) ≡ b
      go true = refl
      go false = refl

  none_is : None ≡ measured ws → readable ws ≡ false
  none_is e = sym list_is ∙ ap is_some (sym e)

  some_is : (n : ℕ) → Some n ≡ measured ws → (readable ws ≡ true) × (n ≡ length (calls_of ws))
  unfolding measured
  some_is n e = go (readable ws) refl e
    where
      go : (b : Bool) → readable ws ≡ b → Some n ≡ (if b then Some (length (calls_of ws)) else None) → (readable ws ≡ true) × (n ≡ length (calls_of ws))
      go true t e = (t, cc)
      go false t e = cc

  module _ (room : ℕ) where
    pub ready_none : None ≡ measured ws → None ≡ ready_of ws room
    unfolding ready_of can_run
    ready_none e = rw (none_is e) refl

    module _ (n : ℕ) (e : Some n ≡ measured ws) where
      pub ready_short : room < n → None ≡ ready_of ws room
      unfolding ready_of can_run
      ready_short l =
          let s = some_is n e in
          let t : leb (length (calls_of ws)) room ≡ false = lt-leb (length (calls_of ws)) room (subst (λ (k : ℕ). room < k) s.1 l) in
          rw (s.0, t) refl

      pub ready_all : n ≤ room → Some n ≡ ready_of ws room
      unfolding ready_of can_run
      ready_all l =
          let s = some_is n e in
          let t : leb (length (calls_of ws)) room ≡ true = le-leb (length (calls_of ws)) room (subst (λ (k : ℕ). k ≤ room) s.1 l) in
          rw (s.0, t) (ap Some s.1)
