-- What the account's calls make of a pass.
use Rattle.std.specs.Prelude.{if◌then◌else◌, Result, Ok, Err}
use Prim.Native.Nat.{ℕ, ◌*◌, ◌≤◌, ◌<◌}
use native.Mathlib.Omega.{arith}
use mathlib.Core.Path.{◌≡◌, refl, sym, ap, ◌∙◌, subst}
use mathlib.Core.List.{List, [], ◌++◌}
use mathlib.Core.Bool.{Bool, true, false}
use lib.Dec.{ltb}
use lib.ListN.{length, drop}
use borrow.Author.Tests.{lt-ltb, le-ltb, ltb-false}
use Rattle.rules.specs.declared.Row.{Row}
use Rattle.rules.specs.declared.SpreadRule.{SpreadRule}
use Rattle.rules.specs.declared.Refusal.{Refusal}
use Rattle.rules.specs.declared.Refusal.TheVariants.{ArgumentOutOfRange, BufferShort, StrikesOutOfRange}
use Rattle.rules.specs.Terms.{paper}
use Rattle.rules.specs.Causes.{read_row, good_settlement, good_spread_rule}
use Rattle.rules.specs.Answers.{accepted, refused, number_of}
use Rattle.rules.specs.Session.{records_of}
use Rattle.rules.specs.Accounts.{AccountRan, Part, part_words, Account, account_records, account, account_ran, account_front, account_buffer}
use Rattle.rules.specs.declared.Stopped.{Stopped}
use Rattle.session_account.specs.declared.Accounted.{Accounted}
use Rattle.session_account.specs.Shown.{times_shown, shown_account, filled_by}
use Rattle.record_runs.specs.Internal.{book_of}
use Rattle.record_runs.proofs.Openings.{cell_of}
use Rattle.session_account.specs.Internal.{counted, Passed}
use Rattle.session_account.proofs.Growing.{words_length}
use Rattle.session_account.proofs.Runs.{account-row, account_price, account-strike, account_opens}
use Rattle.session_account.proofs.Halting.{passed_halted}

-- the pass says how the account ends
counted-stopped : (a : Account) (n place : ℕ) → AccountRan.refused n place ≡ counted a → a ≡ Account.refused n place
unfolding counted
counted-stopped (Account.accepted t ps) n place e = let z : ◌≡◌ {A = ℕ} 0 1 = cc in absurd (omega arith)
counted-stopped (Account.refused m at) n place e = cc

counted_finished : (a : Account) (t : List ℕ) (n : ℕ) → AccountRan.accepted t n ≡ counted a → (ps : List Part) × (a ≡ Account.accepted t ps) × (length ps ≡ n)
unfolding counted
counted_finished (Account.accepted t' ps) t n e = (ps, cc, cc)
counted_finished (Account.refused m at) t n e = let z : ◌≡◌ {A = ℕ} 0 1 = cc in absurd (omega arith)

counted_whole : (t : List ℕ) (ps : List Part) → counted (Account.accepted t ps) ≡ AccountRan.accepted t (length ps)
unfolding counted
counted_whole t ps = refl

abbrev Ended : Account → List ℕ → List ℕ → Result Accounted Stopped → Type 0
Ended a entry exit r = (shown_account r ≡ account_ran (length entry) a) × (exit ≡ account_buffer entry a)

-- how an account that ends so ends with a buffer
halted_ends : (n place : ℕ) (entry : List ℕ) (r : Result Accounted Stopped) → shown_account r ≡ AccountRan.refused n place → Ended (Account.refused n place) entry entry r
unfolding account_ran account_front account_buffer
halted_ends n place entry r e = (e, refl)

short_ends : (t : List ℕ) (ps : List Part) (entry : List ℕ) → length entry < 3 * length ps → Ended (Account.accepted t ps) entry entry (Err (record { refusal = BufferShort; place = 0 }))
unfolding account_ran account_front account_buffer
short_ends t ps entry l = rw (lt-ltb (length entry) (3 * length ps) l) (refl, refl)

written_ends : (t : List ℕ) (ps : List Part) (entry exit : List ℕ) (r : Result Accounted Stopped) → 3 * length ps ≤ length entry
    → shown_account r ≡ AccountRan.accepted t (length ps) → exit ≡ part_words ps ++ drop (3 * length ps) entry → Ended (Account.accepted t ps) entry exit r
unfolding account_ran account_front account_buffer
written_ends t ps entry exit r l e f = rw (le-ltb (length entry) (3 * length ps) l, words_length ps) (e, f)

module _ (a : Account) (none none' : List ℕ) (entry : List ℕ) where
  pub ends_refused : (stop : Stopped) → Passed a none none' (Err stop) → Ended a entry entry (Err stop)
  ends_refused stop p =
      let h = counted-stopped a (number_of stop.refusal) stop.place p.answer in
      subst (λ (t : Account). Ended t entry entry (Err stop)) (sym h) (halted_ends (number_of stop.refusal) stop.place entry (Err stop) refl)

  module _ (first : Accounted) (p : Passed a none none' (Ok first)) where
    finds : (ps : List Part) × (a ≡ Account.accepted (times_shown first.times) ps) × (length ps ≡ first.stretches)
    finds = counted_finished a (times_shown first.times) first.stretches p.answer

    pub ends_short : length entry < 3 * first.stretches → Ended a entry entry (Err (record { refusal = BufferShort; place = 0 }))
    ends_short l =
        let (ps, is, long) = finds in
        subst (λ (x : Account). Ended x entry entry (Err (record { refusal = BufferShort; place = 0 }))) (sym is) (short_ends (times_shown first.times) ps entry (omega arith))

    pub ends_written : (exit : List ℕ) (second : Result Accounted Stopped) → 3 * first.stretches ≤ length entry → Passed a entry exit second → Ended a entry exit second
    ends_written exit second l q =
        let (ps, is, long) = finds in
        let shown : shown_account second ≡ AccountRan.accepted (times_shown first.times) (length ps) = q.answer ∙ ap counted is ∙ counted_whole (times_shown first.times) ps in
        subst (λ (x : Account). Ended x entry exit second) (sym is)
        (written_ends (times_shown first.times) ps entry exit second (omega arith) shown (q.words (times_shown first.times) ps is (omega arith)))

-- what a run has filled lies in the buffer
pub filled-fits : (a : Account) (n : ℕ) (r : Result Accounted Stopped) → shown_account r ≡ account_ran n a → filled_by r ≤ n
unfolding account_ran
filled-fits (Account.accepted t ps) n r e = go (ltb n (3 * length ps)) refl r e
  where
    go : (b : Bool) → ltb n (3 * length ps) ≡ b → (r : Result Accounted Stopped) → shown_account r ≡ (if b then AccountRan.refused 16 0 else AccountRan.accepted t (length ps)) → filled_by r ≤ n
    go true f (Ok x) e = let z : ◌≡◌ {A = ℕ} 0 1 = cc in absurd (omega arith)
    go true f (Err x) e = omega arith
    go false f (Ok x) e =
        let m : x.stretches ≡ length ps = cc in
        let l = ltb-false n (3 * length ps) f in
        omega arith
    go false f (Err x) e = omega arith
filled-fits (Account.refused m at) n (Ok x) e = let z : ◌≡◌ {A = ℕ} 0 1 = cc in absurd (omega arith)
filled-fits (Account.refused m at) n (Err x) e = omega arith

-- ---- the row and the quantum's opening

module _ (most : ℕ) (words : List ℕ) (sp : SpreadRule) (bytes entry exit : List ℕ) where
  pub passed_row : (f : Refusal) → refused (number_of f) ≡ read_row paper sp words → Passed (account paper most words sp bytes) entry exit (Err (record { refusal = f; place = 0 }))
  passed_row f e = passed_halted (account paper most words sp bytes) f 0 entry exit (account-row most words sp bytes (number_of f) e)

  module _ (row : Row) (is : accepted row ≡ read_row paper sp words) where
    pub passed_price : good_settlement sp ≡ false → Passed (account paper most words sp bytes) entry exit (Err (record { refusal = ArgumentOutOfRange; place = 0 }))
    passed_price f = passed_halted (account paper most words sp bytes) ArgumentOutOfRange 0 entry exit (account_price most words sp bytes row is f)

    module _ (f : good_settlement sp ≡ true) where
      pub passed_strike : good_spread_rule sp ≡ false → Passed (account paper most words sp bytes) entry exit (Err (record { refusal = StrikesOutOfRange; place = 0 }))
      passed_strike g = passed_halted (account paper most words sp bytes) StrikesOutOfRange 0 entry exit (account-strike most words sp bytes row is f g)

      pub passed_opened : good_spread_rule sp ≡ true → (r : Result Accounted Stopped)
          → ((cell : ℕ) → Passed (account_records paper most 1 (book_of cell row sp []) (records_of bytes)) entry exit r)
          → Passed (account paper most words sp bytes) entry exit r
      passed_opened g r h =
          subst (λ (a : Account). Passed a entry exit r) (sym (account_opens most words sp bytes row is f g)) (h (cell_of words sp))
