-- The theorem: a larger greatest charge changes nothing for a list with no charge past the old one. The terms' greatest charge is read by
-- refusal 3 alone.
use Prim.Native.Nat.{ℕ, zero, suc, ◌≤◌}
use native.Mathlib.Omega.{arith}
use mathlib.Core.Path.{◌≡◌, refl, sym, ap, ◌∙◌, subst}
use mathlib.Core.List.{List, [], ◌∷◌, map}
use mathlib.Core.Bool.{Bool, not, ◌&&◌}
use borrow.Author.Tests.{le-leb}
use Rattle.rules.specs.declared.Kopecks.{Kopecks}
use Rattle.rules.specs.declared.Cell.{Cell}
use Rattle.lists.specs.Lists.{All}
use Rattle.rules.specs.Terms.{Terms}
use Rattle.rules.specs.Units.{good_charge}
use Rattle.rules.specs.Rows.{good_row, good_row_for}
use Rattle.rules.specs.Cells.{good_cell, place_of, cell_at}
use Rattle.rules.specs.Pay.{met, weight_met, view_of, cell_failed, failures, all_failures, earned, fee}
use Rattle.rules.specs.Outlook.{may_so, latest_rest, full_need, weight_resting, weight_keeping, outlook_of}
use Rattle.rules.specs.Answers.{outcome_by, outlook}
use Rattle.rules.specs.Calls.{Call, Open, Send, Message, Ask, Commit, Close, Drop, Charge, Withdraw, Look, Report, Outlook, charges_in, map_rows, Running, Idle, Quoting, Book, fresh_book, is_open}
use Rattle.rules.specs.Causes.{cause, first_number, good_charges, causes, refusal_of}
use Rattle.rules.specs.Replies.{report_of, outlook_in, reply_of}
use Rattle.rules.specs.Book.{answer_of, step_by, step, run, after}
use Rattle.rules.specs.Histories.{refusals_from, answers_from}
use Rattle.requests.specs.OldMonths.{tenfold_words, tenfold}
use Rattle.requests.specs.OldCharges.{charges_to, NotPast, SameAnswers, LargerCharges}

module _ (old : Terms) (most : ℕ) (more : old.most_charge ≤ most) where
  abbrev new : Terms
  new = charges_to most old

  -- ---- what does not read it

  failures-same : (cells : List Cell) → all_failures new cells ≡ all_failures old cells
  unfolding all_failures failures cell_failed met
  failures-same cells = refl

  fee-same : (cells : List Cell) → fee new cells ≡ fee old cells
  unfolding fee all_failures failures cell_failed earned met weight_met
  fee-same cells = refl

  report_same : (b : Book) → report_of new b ≡ report_of old b
  unfolding report_of fee all_failures failures cell_failed earned met weight_met
  report_same b = refl

  outlook_same : (r : Running) → outlook_in new r ≡ outlook_in old r
  unfolding outlook_in outlook_of latest_rest may_so full_need weight_resting weight_keeping met weight_met
  outlook_same Idle = refl
  outlook_same (Quoting place row opening events) = refl

  -- ---- what does

  good : (c : ℕ) → c ≤ old.most_charge → good_charge new c ≡ good_charge old c
  unfolding good_charge
  good c h = le-leb c most (omega (arith, h, more)) ∙ sym (le-leb c old.most_charge h)

  charges_same : (active passive : Kopecks) → All (λ (charge : Kopecks). charge.0 ≤ old.most_charge) (active ∷ passive ∷ [])
      → good_charges new active passive ≡ good_charges old active passive
  charges_same active passive h =
      let a = good active.0 h.0 in
      let p = good passive.0 h.1.0 in
      λ i. a i && p i

  -- ---- call by call

  -- the same number and the same reply
  call_same : (b : Book) (c : Call) → NotPast old.most_charge c → (refusal_of new b c ≡ refusal_of old b c) × (reply_of new b c ≡ reply_of old b c)
  unfolding refusal_of causes good_row_for good_row view_of report_of fee all_failures failures cell_failed earned met weight_met
  call_same b (Open words day opening) h = (refl, refl)
  call_same b (Send e) h = (refl, refl)
  call_same b (Message start bytes) h = (refl, refl)
  call_same b (Ask a) h = (refl, refl)
  call_same b (Commit a ticket) h = (refl, refl)
  call_same b (Close active passive) h =
      (ap (λ (t : Bool). first_number (cause 3 (not t) ∷ cause 7 (not (is_open b.running)) ∷ [])) (charges_same active passive h), refl)
  call_same b Drop h = (refl, refl)
  call_same b (Charge day expiry quantum active passive) h = (
    ap
        (λ (t : Bool).
        first_number (cause 3 (not (good_cell day expiry quantum && t)) ∷ cause 5 (not (cell_at b.cells (place_of day expiry quantum)).filled) ∷ []))
        (charges_same active passive h),
    refl,
  )
  call_same b (Withdraw day expiry quantum) h = (refl, refl)
  call_same b (Look day expiry quantum) h = (refl, refl)
  call_same b Report h = (refl, refl)
  call_same b Outlook h = (refl, ap outlook (outlook_same b.running))

  answer-same : (b : Book) (c : Call) → NotPast old.most_charge c → answer_of new b c ≡ answer_of old b c
  unfolding answer_of
  answer-same b c h =
      let (number, reply) = call_same b c h in
      λ i. outcome_by (number i) (reply i)

  step_same : (b : Book) (c : Call) → NotPast old.most_charge c → step new b c ≡ step old b c
  unfolding step
  step_same b c h = ap (λ (n : ℕ). step_by new n b c) (call_same b c h).0 ∙ go (refusal_of old b c)
    where
      go : (n : ℕ) → step_by new n b c ≡ step_by old n b c
      go zero = refl
      go (suc n) = refl

  -- ---- the list

  run-same : (b : Book) (calls : List Call) → All (NotPast old.most_charge) calls → run new b calls ≡ run old b calls
  unfolding run
  run-same b [] h = refl
  run-same b (c ∷ cs) h = ap (λ (x : Book). run new x cs) (step_same b c h.0) ∙ run-same (step old b c) cs h.1

  refusals_same : (b : Book) (calls : List Call) → All (NotPast old.most_charge) calls → refusals_from new b calls ≡ refusals_from old b calls
  unfolding refusals_from
  refusals_same b [] h = refl
  refusals_same b (c ∷ cs) h =
      let first = (call_same b c h.0).0 in
      let rest = ap (λ (x : Book). refusals_from new x cs) (step_same b c h.0) ∙ refusals_same (step old b c) cs h.1 in
      λ i. first i ∷ rest i

  answers_same : (b : Book) (calls : List Call) → All (NotPast old.most_charge) calls → answers_from new b calls ≡ answers_from old b calls
  unfolding answers_from
  answers_same b [] h = refl
  answers_same b (c ∷ cs) h =
      let first = answer-same b c h.0 in
      let rest = ap (λ (x : Book). answers_from new x cs) (step_same b c h.0) ∙ answers_same (step old b c) cs h.1 in
      λ i. first i ∷ rest i

  same : (calls : List Call) → All (NotPast old.most_charge) calls → SameAnswers old new calls
  unfolding after
  same calls h =
      let book = run-same fresh_book calls h in
      record {
        refusals = refusals_same fresh_book calls h;
        answers = answers_same fresh_book calls h;
        next = λ c k. ap (λ (b : Book). answer_of new b c) book ∙ answer-same (after old calls) c k;
        book = book;
        failures = ap (λ (b : Book). all_failures new b.cells) book ∙ failures-same (after old calls).cells;
        fee = ap (λ (b : Book). fee new b.cells) book ∙ fee-same (after old calls).cells;
        report = ap (report_of new) book ∙ report_same (after old calls);
      }

pub larger_charges : LargerCharges
larger_charges old most more calls h = same old most more calls h

-- ---- with p multiplied by ten (W6)

-- other rows, the same charges
other-rows : (f : List ℕ → List ℕ) (c : Call) → charges_in (map_rows f c) ≡ charges_in c
other-rows f (Open words day opening) = refl
other-rows f (Send e) = refl
other-rows f (Message start bytes) = refl
other-rows f (Ask a) = refl
other-rows f (Commit a ticket) = refl
other-rows f (Close active passive) = refl
other-rows f Drop = refl
other-rows f (Charge day expiry quantum active passive) = refl
other-rows f (Withdraw day expiry quantum) = refl
other-rows f (Look day expiry quantum) = refl
other-rows f Report = refl
other-rows f Outlook = refl

pub not_past_tenfold : (most : ℕ) (c : Call) → NotPast most c → NotPast most (tenfold c)
not_past_tenfold most c h = subst (All (λ (charge : Kopecks). charge.0 ≤ most)) (sym (other-rows tenfold_words c)) h

pub none_past_tenfold : (most : ℕ) (calls : List Call) → All (NotPast most) calls → All (NotPast most) (map tenfold calls)
none_past_tenfold most [] h = tt
none_past_tenfold most (c ∷ cs) h = (not_past_tenfold most c h.0, none_past_tenfold most cs h.1)
