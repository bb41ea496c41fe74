-- A session's account in a lent buffer.
use Rattle.std.specs.Prelude.{if◌then◌else◌, Result, Ok, Err}
use Prim.Native.Nat.{ℕ, ◌+◌, ◌-◌, ◌*◌, ◌≤◌, ◌<◌}
use native.Mathlib.Omega.{arith}
use mathlib.Core.Path.{◌≡◌, refl, sym, ap, subst, ◌∙◌}
use mathlib.Core.List.{List, [], ◌∷◌, ◌++◌, append-nil}
use mathlib.Core.Bool.{Bool, true, false}
use lib.Dec.{ltb}
use lib.ListN.{length, take, drop, length-drop, drop_of_length-le}
use lib.Seq.{take_all}
use borrow.Author.Tests.{lt-ltb, le-ltb, ltb-true, ltb-false}
use Rattle.rules.specs.declared.Stopped.{Stopped}
use Rattle.rules.specs.declared.SpreadRule.{SpreadRule}
use Rattle.rules.specs.Terms.{paper}
use Rattle.rules.specs.Session.{most_records}
use Rattle.rules.specs.Answers.{number_of}
use Rattle.rules.specs.Accounts.{Part, part_words, Account, AccountRan, account, account_ran, account_front, account_buffer}
use Rattle.session_account.specs.declared.Times.{Times}
use Rattle.session_account.specs.declared.Accounted.{Accounted}
use Rattle.session_account.specs.Shown.{times_shown, shown_account}
use Rattle.session_account.proofs.Growing.{words_length}
use Rattle.c_answers.specs.Answers.{refused_number}
use Rattle.c_account.specs.Accounts.{account_words, account_number, account_filled, FillsAccount, short_account, ran_account, headed_by, headed_account}

-- ---- no room for the times and the number of stretches

short : (a : Account) (n : ℕ) → n < 7 → short_account (account_ran 0 a) ≡ account_number n a
unfolding account_ran account_number
short (Account.accepted t ps) n h = go (ltb 0 (3 * length ps)) ∙ sym (rw (lt-ltb n (7 + 3 * length ps) (omega arith)) refl)
  where
    go : (b : Bool) → short_account (if b then AccountRan.refused 16 0 else AccountRan.accepted t (length ps)) ≡ refused_number 16
    go true = refl
    go false = refl
short (Account.refused m p) n h = refl

pub account_short_is : (a : Account) (shown : AccountRan) (r n : ℕ) → shown ≡ account_ran 0 a → r ≡ short_account shown → n < 7 → r ≡ account_number n a
account_short_is a shown r n e f h = f ∙ ap short_account e ∙ short a n h

pub short_fills : (a : Account) (b : List ℕ) (r : ℕ) → length b < 7 → r ≡ account_number (length b) a → FillsAccount a b b r
unfolding account_filled
short_fills (Account.accepted t ps) b r h e = record { number = e; buffer = rw (lt-ltb (length b) (7 + 3 * length ps) (omega arith)) refl }
short_fills (Account.refused m p) b r h e = record { number = e; buffer = refl }

pub account-stopped : (r : Result Accounted Stopped) (stop : Stopped) (n : ℕ) → r ≡ Err stop → n ≡ refused_number (number_of stop.refusal) + stop.place → n ≡ short_account (shown_account r)
account-stopped r stop n e is = is ∙ sym (ap (λ (x : Result Accounted Stopped). short_account (shown_account x)) e)

-- ---- room for them

pub account_finished : (r : Result Accounted Stopped) (run : Accounted) (b : List ℕ) → r ≡ Ok run
    → (7 + 3 * run.stretches ≡ ran_account (shown_account r)) × (headed_by b run.times run.stretches ≡ headed_account b r)
account_finished r run b e = (sym (ap (λ (x : Result Accounted Stopped). ran_account (shown_account x)) e), sym (ap (headed_account b) e))

pub account_refused : (r : Result Accounted Stopped) (stop : Stopped) (n : ℕ) (b : List ℕ) → r ≡ Err stop → n ≡ refused_number (number_of stop.refusal) + stop.place
    → (n ≡ ran_account (shown_account r)) × (b ≡ headed_account b r)
account_refused r stop n b e is =
    (is ∙ sym (ap (λ (x : Result Accounted Stopped). ran_account (shown_account x)) e), sym (ap (headed_account b) e))

-- a buffer of seven words and more
module _ (x0 x1 x2 x3 x4 x5 x6 : ℕ) (t : List ℕ) where
  abbrev behind : List ℕ → List ℕ
  behind l = x0 ∷ x1 ∷ x2 ∷ x3 ∷ x4 ∷ x5 ∷ x6 ∷ l

  not_filled : (times : List ℕ) (ps : List Part) → length t < 3 * length ps → FillsAccount (Account.accepted times ps) (behind t) (behind t) (refused_number 16)
  unfolding account_number account_filled
  not_filled times ps l =
      let short : ltb (length (behind t)) (7 + 3 * length ps) ≡ true = lt-ltb (length (behind t)) (7 + 3 * length ps) (omega arith) in
      record { number = rw short refl; buffer = rw short refl }

  filled : (times : List ℕ) (ps : List Part) (x : Times) → times_shown x ≡ times → 3 * length ps ≤ length t
      → FillsAccount (Account.accepted times ps) (behind t) (headed_by (behind (part_words ps ++ drop (length (part_words ps)) t)) x (length ps)) (7 + 3 * length ps)
  unfolding account_number account_filled
  filled times ps x e l =
      let long : ltb (length (behind t)) (7 + 3 * length ps) ≡ false = le-ltb (length (behind t)) (7 + 3 * length ps) (omega arith) in
      let size : length (account_words (times_shown x) ps) ≡ 7 + 3 * length ps = omega (arith, words_length ps) in
      let same : headed_by (behind (part_words ps ++ drop (length (part_words ps)) t)) x (length ps) ≡ account_words times ps ++ drop (7 + 3 * length ps) (behind t) =
      ap (λ (n : ℕ). account_words (times_shown x) ps ++ drop n (behind t)) size ∙ ap (λ (l : List ℕ). account_words l ps ++ drop (7 + 3 * length ps) (behind t)) e in
      record { number = rw long refl; buffer = rw long same }

  by_room : (times : List ℕ) (ps : List Part) (b : Bool) → ltb (length t) (3 * length ps) ≡ b → (r : Result Accounted Stopped)
      → shown_account r ≡ (if b then AccountRan.refused 16 0 else AccountRan.accepted times (length ps))
      → FillsAccount (Account.accepted times ps) (behind t)
      (headed_account (behind ((if b then [] else part_words ps) ++ drop (length (if b then [] else part_words ps)) t)) r) (ran_account (if b then AccountRan.refused 16 0 else AccountRan.accepted times (length ps)))
  by_room times ps true f (Ok x) e = let z : ◌≡◌ {A = ℕ} 0 1 = cc in absurd (omega arith)
  by_room times ps true f (Err x) e = not_filled times ps (ltb-true (length t) (3 * length ps) f)
  by_room times ps false f (Ok x) e =
      let n : x.stretches ≡ length ps = cc in
      let is : times_shown x.times ≡ times = cc in
      subst (λ (k : ℕ). FillsAccount (Account.accepted times ps) (behind t) (headed_by (behind (part_words ps ++ drop (length (part_words ps)) t)) x.times k) (7 + 3 * length ps)) (sym n)
      (filled times ps x.times is (ltb-false (length t) (3 * length ps) f))
  by_room times ps false f (Err x) e = let z : ◌≡◌ {A = ℕ} 0 1 = cc in absurd (omega arith)

  fills : (a : Account) (r : Result Accounted Stopped) → shown_account r ≡ account_ran (length t) a
      → FillsAccount a (behind t) (headed_account (behind (account_buffer t a)) r) (ran_account (account_ran (length t) a))
  unfolding account_ran account_front account_buffer account_number account_filled
  fills (Account.accepted times ps) r e = by_room times ps (ltb (length t) (3 * length ps)) refl r e
  fills (Account.refused m p) (Ok x) e = let z : ◌≡◌ {A = ℕ} 0 1 = cc in absurd (omega arith)
  fills (Account.refused m p) (Err x) e = record { number = refl; buffer = refl }

filled-behind : (a : Account) (b mid e : List ℕ) (ran : Result Accounted Stopped) (r : ℕ) → 7 ≤ length b → shown_account ran ≡ account_ran (length (drop 7 b)) a
    → mid ≡ take 7 b ++ account_buffer (drop 7 b) a → r ≡ ran_account (shown_account ran) → e ≡ headed_account mid ran → FillsAccount a b e r
filled-behind a [] mid e ran r h f g i j = absurd (omega arith)
filled-behind a (x0 ∷ []) mid e ran r h f g i j = absurd (omega arith)
filled-behind a (x0 ∷ x1 ∷ []) mid e ran r h f g i j = absurd (omega arith)
filled-behind a (x0 ∷ x1 ∷ x2 ∷ []) mid e ran r h f g i j = absurd (omega arith)
filled-behind a (x0 ∷ x1 ∷ x2 ∷ x3 ∷ []) mid e ran r h f g i j = absurd (omega arith)
filled-behind a (x0 ∷ x1 ∷ x2 ∷ x3 ∷ x4 ∷ []) mid e ran r h f g i j = absurd (omega arith)
filled-behind a (x0 ∷ x1 ∷ x2 ∷ x3 ∷ x4 ∷ x5 ∷ []) mid e ran r h f g i j = absurd (omega arith)
filled-behind a (x0 ∷ x1 ∷ x2 ∷ x3 ∷ x4 ∷ x5 ∷ x6 ∷ t) mid e ran r h f g i j =
    let whole = fills x0 x1 x2 x3 x4 x5 x6 t a ran f in
    record {
      number = i ∙ ap ran_account f ∙ whole.number;
      buffer = j ∙ ap (λ (l : List ℕ). headed_account l ran) g ∙ whole.buffer;
    }

-- the buffer from the eighth word on is lent to the run, and back
pub account-lent : (a : Account) (b out e : List ℕ) (k : ℕ) (ran : Result Accounted Stopped) (r : ℕ) → 7 ≤ length b → k ≡ length b - 7
    → shown_account ran ≡ account_ran (length (take k (drop 7 b))) a → out ≡ account_buffer (take k (drop 7 b)) a → r ≡ ran_account (shown_account ran)
    → e ≡ headed_account (take 7 b ++ (out ++ drop k (drop 7 b))) ran → FillsAccount a b e r
account-lent a b out e k ran r h is f g i j =
    let size = length-drop 7 b in
    let part = take_all k (drop 7 b) (omega arith) in
    let rest = drop_of_length-le (drop 7 b) {i = k} (omega arith) in
    let mid =
    (λ n. take 7 b ++ (g n ++ rest n)) ∙ ap (λ (l : List ℕ). take 7 b ++ l) (append-nil (account_buffer (take k (drop 7 b)) a))
    ∙ ap (λ (l : List ℕ). take 7 b ++ account_buffer l a) part in
    filled-behind a b (take 7 b ++ (out ++ drop k (drop 7 b))) e ran r h (f ∙ ap (λ (l : List ℕ). account_ran (length l) a) part) mid i j

-- by what the spread limit depends on
pub fills_by : (words bytes : List ℕ) (spread rule : SpreadRule) → spread ≡ rule → (b e : List ℕ) (r : ℕ)
    → FillsAccount (account paper most_records words spread bytes) b e r → FillsAccount (account paper most_records words rule bytes) b e r
fills_by words bytes spread rule is b e r h = subst (λ (x : SpreadRule). FillsAccount (account paper most_records words x bytes) b e r) is h
