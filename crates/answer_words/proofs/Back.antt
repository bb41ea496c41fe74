-- The answer that twenty words say, and that an answer's own words say it.
use Rattle.std.specs.Prelude.{if◌then◌else◌, None, Option, Some}
use Prim.Native.Nat.{ℕ, zero, suc, ◌+◌, ◌*◌}
use native.Mathlib.Omega.{arith}
use mathlib.Core.Path.{◌≡◌, refl, sym, ap, ◌∙◌}
use mathlib.Core.List.{List, [], ◌∷◌}
use lib.Dec.{eqb}
use lib.IntN.{ℤ}
use lib.ListN.{length, get_or, take, drop}
use Rattle.rules.specs.declared.Steps.{Steps}
use Rattle.rules.specs.declared.Millis.{Millis}
use Rattle.rules.specs.declared.CellView.{CellView}
use Rattle.rules.specs.declared.Preview.{Preview}
use Rattle.rules.specs.declared.Report.{Report}
use Rattle.rules.specs.declared.LapsesLeft.{LapsesLeft}
use Rattle.rules.specs.declared.LapsesLeft.TheVariants as L
use Rattle.rules.specs.declared.Outlook.{Outlook}
use Rattle.rules.specs.Units.{millis, steps, contracts, kopecks}
use Rattle.rules.specs.Records.{signed_of}
use Rattle.rules.specs.Answers.{Outcome, accepted, refused, Reply, done, cell, asked, report, outlook}
use Rattle.rules.proofs.Records.{signed_unsigned}
use Rattle.lent.specs.Words.{cell_words}
use Rattle.lent.proofs.Back.{flag_back, wide_back, cell_of, cell_back}
use Rattle.answer_words.specs.Words.{quote_flag, quote_word, possible_flag, possible_word, lapses_kind, lapses_word, answer_words, QuoteFits, AnswerFits}

abbrev quote_of : ℕ → ℕ → Option Steps
quote_of flag word = if eqb flag 1 then Some (steps (signed_of word)) else None

abbrev wide_of : List ℕ → ℕ → ℕ
wide_of ws i = get_or ws i 0 + 4294967296 * get_or ws (suc i) 0

abbrev view_of : List ℕ → CellView
view_of ws = record { cell = cell_of (take 10 (drop 2 ws)); met = eqb (get_or ws 12 0) 1; weight = get_or ws 13 0 }

abbrev preview_of : List ℕ → Preview
preview_of ws =
    record {
      bid = quote_of (get_or ws 2 0) (get_or ws 3 0);
      ask = quote_of (get_or ws 4 0) (get_or ws 5 0);
      ticket =
          record {
            amendment = record { t = millis (get_or ws 6 0); id = get_or ws 7 0; price = steps (signed_of (get_or ws 8 0)); volume = contracts (get_or ws 9 0) };
            count = wide_of ws 10;
          };
    }

abbrev report_of : List ℕ → Report
report_of ws =
    record {
      running = eqb (get_or ws 2 0) 1;
      time = millis (get_or ws 3 0);
      orders = get_or ws 4 0;
      bid = quote_of (get_or ws 5 0) (get_or ws 6 0);
      ask = quote_of (get_or ws 7 0) (get_or ws 8 0);
      kept = millis (get_or ws 9 0);
      lapses = get_or ws 10 0;
      failures = take 6 (drop 11 ws);
      fee = kopecks (wide_of ws 17);
    }

abbrev possible_of : ℕ → ℕ → Option Millis
possible_of flag word = if eqb flag 1 then Some (millis word) else None

abbrev lapses_of : ℕ → ℕ → LapsesLeft
lapses_of kind word = if eqb kind 0 then L.Unlimited else (if eqb kind 1 then L.Over else L.Left word)

abbrev outlook_of : List ℕ → Outlook
outlook_of ws =
    record {
      need = millis (get_or ws 2 0);
      left = millis (get_or ws 3 0);
      by = possible_of (get_or ws 4 0) (get_or ws 5 0);
      full = possible_of (get_or ws 6 0) (get_or ws 7 0);
      lapses = lapses_of (get_or ws 8 0) (get_or ws 9 0);
      rest = eqb (get_or ws 10 0) 1;
      lost = eqb (get_or ws 11 0) 1;
      resting = get_or ws 12 0;
      keeping = get_or ws 13 0;
    }

-- by the kind
abbrev by_kind : ℕ → List ℕ → Outcome Reply
by_kind zero ws = accepted done
by_kind (suc zero) ws = refused (get_or ws 1 0)
by_kind (suc (suc zero)) ws = accepted (cell (view_of ws))
by_kind (suc (suc (suc zero))) ws = accepted (asked (preview_of ws))
by_kind (suc (suc (suc (suc zero)))) ws = accepted (report (report_of ws))
by_kind (suc (suc (suc (suc (suc n))))) ws = accepted (outlook (outlook_of ws))

abbrev pub answer_in : List ℕ → Outcome Reply
answer_in ws = by_kind (get_or ws 0 0) ws

quote_back : (q : Option Steps) → QuoteFits q → quote_of (quote_flag q) (quote_word q) ≡ q
quote_back None h = refl
quote_back (Some p) h = ap (λ (z : ℤ). Some (steps z)) (signed_unsigned p.0 h)

possible_back : (p : Option Millis) → possible_of (possible_flag p) (possible_word p) ≡ p
possible_back None = refl
possible_back (Some m) = refl

lapses_back : (l : LapsesLeft) → lapses_of (lapses_kind l) (lapses_word l) ≡ l
lapses_back L.Unlimited = refl
lapses_back L.Over = refl
lapses_back (L.Left n) = refl

six : (l : List ℕ) → length l ≡ 6 → ◌≡◌ {A = List ℕ} (get_or l 0 0 ∷ get_or l 1 0 ∷ get_or l 2 0 ∷ get_or l 3 0 ∷ get_or l 4 0 ∷ get_or l 5 0 ∷ []) l
six [] h = absurd (omega arith)
six (a ∷ []) h = absurd (omega arith)
six (a ∷ b ∷ []) h = absurd (omega arith)
six (a ∷ b ∷ c ∷ []) h = absurd (omega arith)
six (a ∷ b ∷ c ∷ d ∷ []) h = absurd (omega arith)
six (a ∷ b ∷ c ∷ d ∷ e ∷ []) h = absurd (omega arith)
six (a ∷ b ∷ c ∷ d ∷ e ∷ f ∷ []) h = refl
six (a ∷ b ∷ c ∷ d ∷ e ∷ f ∷ g ∷ l) h = absurd (omega arith)

pub answer_back : (o : Outcome Reply) → AnswerFits o → answer_in (answer_words o) ≡ o
unfolding answer_words cell_words
answer_back (accepted done) h = refl
answer_back (refused n) h = refl
answer_back (accepted (cell v)) h = λ i.
    accepted (cell (record { cell = cell_back (cell_words v.cell) v.cell refl i; met = flag_back v.met i; weight = v.weight }))
answer_back (accepted (asked p)) h = λ i.
    accepted
    (asked
    (record {
      bid = quote_back p.bid h.0 i;
      ask = quote_back p.ask h.1 i;
      ticket =
          record {
            amendment =
                record {
                  t = p.ticket.amendment.t;
                  id = p.ticket.amendment.id;
                  price = steps (signed_unsigned p.ticket.amendment.price.0 h.2 i);
                  volume = p.ticket.amendment.volume;
                };
            count = wide_back p.ticket.count i;
          };
    }))
answer_back (accepted (report r)) h = λ i.
    accepted
    (report
    (record {
      running = flag_back r.running i;
      time = r.time;
      orders = r.orders;
      bid = quote_back r.bid h.0 i;
      ask = quote_back r.ask h.1 i;
      kept = r.kept;
      lapses = r.lapses;
      failures = six r.failures h.2 i;
      fee = kopecks (wide_back r.fee.0 i);
    }))
answer_back (accepted (outlook o)) h = λ i.
    accepted
    (outlook
    (record {
      need = o.need;
      left = o.left;
      by = possible_back o.by i;
      full = possible_back o.full i;
      lapses = lapses_back o.lapses i;
      rest = flag_back o.rest i;
      lost = flag_back o.lost i;
      resting = o.resting;
      keeping = o.keeping;
    }))

-- no two answers have the same words
pub answers_apart : (a b : Outcome Reply) → AnswerFits a → AnswerFits b → answer_words a ≡ answer_words b → a ≡ b
answers_apart a b fa fb e = sym (answer_back a fa) ∙ ap answer_in e ∙ answer_back b fb
