-- The theorem of the game: the value is what the maker can force, by two ways that are given.
use Rattle.std.specs.Prelude.{if◌then◌else◌}
use Prim.Native.Nat.{ℕ, zero, suc, ◌+◌, ◌-◌, ◌≤◌, ◌<◌}
use mathlib.Core.Path.{◌≡◌, refl, sym}
use mathlib.Core.List.{[], ◌∷◌}
use mathlib.Core.Bool.{Bool, true, false}
use native.Mathlib.Omega.{arith}
use lib.ListN.{length}
use Rattle.rules.specs.Answers.{accepted}
use Rattle.rules.proofs.Answers.{accepted_by}
use Rattle.game.specs.Play.{Volume, single, double, knocks_for, Minute, History, doubles, knocks, unvoided, Maker, Taker, quote, is_voided, next, play, Forced}
use Rattle.game.specs.Ways.{doubles_first, singles_to_come, singles_first}
use Rattle.game.specs.Value.{value, closed}
use Rattle.game.specs.Answers.{safe_refusal, safe_minutes}
use Rattle.game.proofs.Closed.{closed_none, after, maker_single, maker_double, taker_single, taker_double}
use Rattle.game.proofs.Recurrence.{value-closed}
use Rattle.game.proofs.Play.{minute, doubles_start, knocks_start, unvoided_start, doubles_single, doubles_double, knocks_void, knocks_stands, unvoided_void, unvoided_stands, quoted_double, play-length}
use Rattle.game.proofs.Ways.{maker_single_last, taker_allowed, voided_paid, left-test}

-- what is left of each stock
abbrev doubles_left : ℕ → History → ℕ
doubles_left h past = h - doubles past

abbrev knocks_left : ℕ → History → ℕ
knocks_left k past = k - knocks past

module _ (m h k : ℕ) where
  -- the unvoided minutes so far, with what the minutes left are worth with what is left of both stocks
  stake : History → ℕ
  stake past = unvoided past + closed (m - length past) (doubles_left h past) (knocks_left k past)

  -- ---- one minute, with j to come after it

  module _ (past : History) (j : ℕ) (more : m ≡ suc (length past + j)) where
    stake_now : stake past ≡ unvoided past + closed (suc j) (doubles_left h past) (knocks_left k past)
    unfolding stake
    stake_now = let e : m - length past ≡ suc j = omega arith in rw e

    -- by what a minute adds and takes of each stock
    stake_by : (x : Minute) (u a b : ℕ) → unvoided (x ∷ past) ≡ u + unvoided past → doubles_left h (x ∷ past) ≡ a
        → knocks_left k (x ∷ past) ≡ b
        → stake (x ∷ past) ≡ unvoided past + (u + closed j a b)
    unfolding stake
    stake_by x u a b o p q =
        let e : m - length (x ∷ past) ≡ j = omega arith in
        let f : closed (m - length (x ∷ past)) (doubles_left h (x ∷ past)) (knocks_left k (x ∷ past)) ≡ closed j a b = cc in
        omega arith

    stake_next : (v : Volume) (b : Bool)
        → stake (minute v b ∷ past) ≡ unvoided past + after j (doubles_left h past) (knocks_left k past) v b
    stake_next single true =
        let d = doubles_single past true in
        let s = knocks_void past single in
        let u = unvoided_void past single in
        let e = stake_by (minute single true) 0 (doubles_left h past) (knocks_left k past - 1) (omega arith) (omega arith) (omega arith) in
        omega arith
    stake_next single false =
        let d = doubles_single past false in
        let s = knocks_stands past single in
        let u = unvoided_stands past single in
        let e = stake_by (minute single false) 1 (doubles_left h past) (knocks_left k past) (omega arith) (omega arith) (omega arith) in
        omega arith
    stake_next double true =
        let d = doubles_double past true in
        let s = knocks_void past double in
        let u = unvoided_void past double in
        let e = stake_by (minute double true) 0 (doubles_left h past - 1) (knocks_left k past - 2) (omega arith) (omega arith) (omega arith) in
        omega arith
    stake_next double false =
        let d = doubles_double past false in
        let s = knocks_stands past double in
        let u = unvoided_stands past double in
        let e = stake_by (minute double false) 1 (doubles_left h past - 1) (knocks_left k past) (omega arith) (omega arith) (omega arith) in
        omega arith

    -- the maker's way loses nothing, however the minute is answered
    maker-minute : (v : Volume) (b : Bool) → quote h past (doubles_first h past) ≡ v
        → (if b then knocks_for v else 0) ≤ knocks_left k past
        → stake past ≤ stake (minute v b ∷ past)
    maker-minute single b e f =
        let l : doubles_left h past < 1 = omega (arith, maker_single_last h past e) in
        omega (arith, stake_now, stake_next single b, maker_single j (doubles_left h past) (knocks_left k past) b l f)
    maker-minute double b e f =
        let l : 1 ≤ doubles_left h past = omega (arith, quoted_double h past (doubles_first h past) e) in
        omega (arith, stake_now, stake_next double b, maker_double j (doubles_left h past) (knocks_left k past) b l f)

    -- the taker's way lets nothing more through, whatever is quoted
    taker_minute : (v : Volume) (b : Bool) (chosen : Volume) → quote h past chosen ≡ v → singles_first m h k past v ≡ b
        → stake (minute v b ∷ past) ≤ stake past
    unfolding singles_first
    taker_minute single b chosen e f =
        let t = left-test (knocks past) 1 0 k b (omega arith) f in
        omega (arith, stake_now, stake_next single b, taker_single j (doubles_left h past) (knocks_left k past) b t)
    taker_minute double b chosen e f =
        let l : 1 ≤ doubles_left h past = omega (arith, quoted_double h past chosen e) in
        let s : singles_to_come m h past ≡ j - (doubles_left h past - 1) = omega arith in
        let t = left-test (knocks past) 2 (singles_to_come m h past) k b (omega arith) f in
        omega (arith, stake_now, stake_next double b, taker_double j (doubles_left h past) (knocks_left k past) b l (rw s at t))

  -- ---- a whole play, minute by minute

  maker_keeps : (taker : Taker) (n j : ℕ) → m ≡ n + j → stake [] ≤ stake (play h k (doubles_first h) taker n)
  unfolding play next
  maker_keeps taker zero j e = omega arith
  maker_keeps taker (suc n) j e =
      let past = play h k (doubles_first h) taker n in
      let v = quote h past (doubles_first h past) in
      let b = is_voided k past v (taker past v) in
      let size : length past ≡ n = play-length h k (doubles_first h) taker n in
      let before : stake [] ≤ stake past = maker_keeps taker n (suc j) (omega arith) in
      omega
      (arith, maker-minute past j (omega arith) v b refl (voided_paid k past v (taker past v) b refl))

  taker_keeps : (maker : Maker) (n j : ℕ) → m ≡ n + j → stake (play h k maker (singles_first m h k) n) ≤ stake []
  unfolding play next
  taker_keeps maker zero j e = omega arith
  taker_keeps maker (suc n) j e =
      let past = play h k maker (singles_first m h k) n in
      let v = quote h past (maker past) in
      let b = is_voided k past v (singles_first m h k past v) in
      let size : length past ≡ n = play-length h k maker (singles_first m h k) n in
      let before : stake past ≤ stake [] = taker_keeps maker n (suc j) (omega arith) in
      omega
      (arith, taker_minute past j (omega arith) v b (maker past) refl (sym (taker_allowed m h k past v)))

  -- at first nothing has happened, and at the end nothing is left
  first : stake [] ≡ value m h k
  unfolding stake
  first =
      let a : doubles_left h [] ≡ h = omega (arith, doubles_start) in
      let b : knocks_left k [] ≡ k = omega (arith, knocks_start) in
      let c : m - length {A = Minute} [] ≡ m = omega arith in
      let e : closed (m - length {A = Minute} []) (doubles_left h []) (knocks_left k []) ≡ value m h k = cc (value-closed m h k) in
      omega (arith, unvoided_start)

  last : (past : History) → length past ≡ m → stake past ≡ unvoided past
  unfolding stake
  last past e =
      let a = doubles_left h past in
      let b = knocks_left k past in
      let c : m - length past ≡ 0 = omega arith in
      let f : closed (m - length past) a b ≡ 0 = cc (closed_none a b) in
      omega arith

  last_of : (maker : Maker) (taker : Taker)
      → stake (play h k maker taker m) ≡ unvoided (play h k maker taker m)
  last_of maker taker = last (play h k maker taker m) (play-length h k maker taker m)

  -- "he has a way of choosing that gets at least G however the taker answers", and "the taker has one that holds every maker to G at most"
  pub forced : Forced m h k (value m h k) (doubles_first h) (singles_first m h k)
  forced =
      record {
        at_least = λ taker. omega (arith, first, maker_keeps taker m 0 (omega arith), last_of (doubles_first h) taker);
        at_most = λ maker. omega (arith, first, taker_keeps maker m 0 (omega arith), last_of maker (singles_first m h k));
      }

  -- no other number is forced, by whatever ways
  pub forced_only : (g : ℕ) (maker : Maker) (taker : Taker) → Forced m h k g maker taker → g ≡ value m h k
  forced_only g maker taker f =
      omega
      (arith, f.at_least (singles_first m h k), forced.at_most maker, forced.at_least taker, f.at_most (doubles_first h))

  -- G is the number that the public call answers
  pub answer_forced : (g : ℕ) → accepted g ≡ safe_minutes m h k → Forced m h k g (doubles_first h) (singles_first m h k)
  unfolding safe_minutes
  answer_forced g e =
      let same : g ≡ value m h k = (accepted_by (safe_refusal m h k) g (value m h k) e).1 in
      rw same forced
