-- Document 02, W8: "Any list of calls with no A or P past the old limit gives the same fee and cells as just before this ticket."
-- proofs/OldCharges shows that it does.
use Rattle.std.specs.Prelude.{ℕ, ◌≤◌, ◌≡◌, List}
use Rattle.rules.specs.declared.Kopecks.{Kopecks}
use Rattle.lists.specs.Lists.{All}
use Rattle.rules.specs.Terms.{Terms}
use Rattle.rules.specs.Pay.{all_failures, fee}
use Rattle.rules.specs.Calls.{Call, charges_in, fresh_book}
use Rattle.rules.specs.Replies.{report_of}
use Rattle.rules.specs.Book.{answer_of, after}
use Rattle.rules.specs.Histories.{refusals_from, answers_from}

-- the same terms with another greatest charge
abbrev pub charges_to : ℕ → Terms → Terms
charges_to most terms = record { whole = terms.whole; most_share = terms.most_share; most_charge = most }

-- "no A or P past the old limit"
abbrev pub NotPast : ℕ → Call → Type 0
NotPast most c = All (λ (charge : Kopecks). charge.0 ≤ most) (charges_in c)

-- the same refusals at the same places, the same answers, and the same book: cells, open quantum and W5's count; so the same failure
-- counts and fee
pub record SameAnswers (old new : Terms) (calls : List Call) : Type 0 where
  pub refusals : refusals_from new fresh_book calls ≡ refusals_from old fresh_book calls
  pub answers : answers_from new fresh_book calls ≡ answers_from old fresh_book calls
  -- whatever call comes next is answered likewise
  pub next : (c : Call) → NotPast old.most_charge c → answer_of new (after new calls) c ≡ answer_of old (after old calls) c
  pub book : after new calls ≡ after old calls
  pub failures : all_failures new (after new calls).cells ≡ all_failures old (after old calls).cells
  pub fee : fee new (after new calls).cells ≡ fee old (after old calls).cells
  pub report : report_of new (after new calls) ≡ report_of old (after old calls)

-- the theorem, for all terms and a limit that is not below the old one
abbrev pub LargerCharges : Type 0
LargerCharges = (old : Terms) (most : ℕ) → old.most_charge ≤ most → (calls : List Call) → All (NotPast old.most_charge) calls
    → SameAnswers old (charges_to most old) calls
