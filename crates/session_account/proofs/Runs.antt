-- The account run by its accepted events, with the book taken away: how it starts, what each record does, how it ends.
use Prim.Native.Nat.{ℕ, suc}
use mathlib.Core.Path.{◌≡◌, refl, sym, ap, ◌∙◌}
use mathlib.Core.List.{List, []}
use mathlib.Core.Bool.{true, false}
use borrow.Author.Tests.{lt-ltb, le-ltb}
use Rattle.rules.specs.declared.Row.{Row}
use Rattle.rules.specs.declared.SpreadRule.{SpreadRule}
use Rattle.rules.specs.declared.Event.{Event}
use Rattle.rules.specs.Terms.{paper}
use Rattle.rules.specs.Rows.{row_of}
use Rattle.rules.specs.Answers.{accepted, refused}
use Rattle.rules.specs.Causes.{good_settlement, good_spread_rule, read_row}
use Rattle.rules.specs.Records.{read_record}
use Rattle.rules.specs.Session.{records_of, record_refusal}
use Rattle.rules.specs.Accounts.{Account, account_of, account_records, account}
use Rattle.record_runs.specs.Internal.{book_of}
use Rattle.record_runs.proofs.Walks.{Walk}
use Rattle.record_runs.proofs.Openings.{read_refusal_lem, read_step_lem, open_refusal, cell_of, opened, open_row, read_is, open_price, open_strike, open_passes}

-- ---- a record

module _ (most cell : ℕ) (row : Row) (sp : SpreadRule) where
  pub walks : Walk Account.refused most row (λ place es. account_records paper most place (book_of cell row sp es))
  unfolding account_records record_refusal
  walks =
      record {
        past = λ place es r rs h. rw (lt-ltb most place h) refl;
        stops = λ place es r rs n h e. rw (le-ltb most place h, read_refusal_lem cell row sp es (read_record r), e) refl;
        goes = λ place es r rs h e. rw (le-ltb most place h, read_refusal_lem cell row sp es (read_record r), e, read_step_lem cell row sp es (read_record r) e) refl;
      }

  pub runs_end : (place : ℕ) (es : List Event) → account_records paper most place (book_of cell row sp es) [] ≡ account_of row sp es
  unfolding account_records
  runs_end place es = refl

-- ---- the start

module _ (most : ℕ) (words : List ℕ) (sp : SpreadRule) (bytes : List ℕ) where
  stops : (n : ℕ) → open_refusal words sp ≡ suc n → account paper most words sp bytes ≡ Account.refused (suc n) 0
  unfolding account
  stops n e = rw e refl

  pub account-row : (n : ℕ) → refused n ≡ read_row paper sp words → account paper most words sp bytes ≡ Account.refused n 0
  account-row n e = let (m, is, by) = open_row words sp n e in stops m by ∙ ap (λ (k : ℕ). Account.refused k 0) (sym is)

  pub account-begins : open_refusal words sp ≡ 0
      → account paper most words sp bytes ≡ account_records paper most 1 (book_of (cell_of words sp) (row_of words) sp []) (records_of bytes)
  unfolding account
  account-begins z = rw (z, opened words sp z) refl

  -- the row is read
  module _ (row : Row) (e : accepted row ≡ read_row paper sp words) where
    pub account_price : good_settlement sp ≡ false → account paper most words sp bytes ≡ Account.refused 3 0
    account_price f = stops 2 (open_price words sp row e f)

    pub account-strike : good_settlement sp ≡ true → good_spread_rule sp ≡ false → account paper most words sp bytes ≡ Account.refused 18 0
    account-strike f g = stops 17 (open_strike words sp row e f g)

    pub account_opens : good_settlement sp ≡ true → good_spread_rule sp ≡ true
        → account paper most words sp bytes ≡ account_records paper most 1 (book_of (cell_of words sp) row sp []) (records_of bytes)
    account_opens f g =
        account-begins (open_passes words sp row e f g)
        ∙ ap (λ (r : Row). account_records paper most 1 (book_of (cell_of words sp) r sp []) (records_of bytes)) (sym (read_is words sp row e).2)
