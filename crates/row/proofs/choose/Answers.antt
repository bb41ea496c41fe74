-- Each answer by the law of its case.
use mathlib.Core.Path.{ap, sym, ◌∙◌}
use mathlib.Core.Bool.{true≢false}
use borrow.Author.Tests.{eq-eqb, eqb-true}
use lib.ListN.{length}
use Rattle.rules.proofs.Choosing.{chosen_usual, chosen_holiday, chosen-other}
use Rattle.row.proofs.Starts.{start_usual, start_holiday, start_other}
use Rattle.row.proofs.choose.Goals as goal

pub returns-then-not-is_holiday : goal.returns-then-not-is_holiday
returns-then-not-is_holiday c =
    let a = c.args in
    let e = c.if-not-is_holiday.true in record { words = c.first.ensures.words ∙ sym (chosen_usual a.expiry a.quantum a.usual.now a.holiday.now e); place = c.first.ensures.place ∙ sym (start_usual a.expiry a.quantum a.usual.ref_ptr a.usual.now a.holiday.ref_ptr a.holiday.now e) }

pub returns-then-is_empty : goal.returns-then-is_empty
returns-then-is_empty c =
    let a = c.args in
    let e = c.if-not-is_holiday.false in
    let none = ap length (sym c.first-part.ensures.words) ∙ eqb-true (length c.first-part.result.now) 0 (sym c.is_empty.ensures ∙ c.if-is_empty.true) in record { words = c.first-then-is_empty.ensures.words ∙ sym (chosen-other a.expiry a.quantum a.usual.now a.holiday.now e none); place = c.first-then-is_empty.ensures.place ∙ sym (start_other a.expiry a.quantum a.usual.ref_ptr a.usual.now a.holiday.ref_ptr a.holiday.now e none) }

pub returns : goal.returns
returns c =
    let a = c.args in
    let f = c.first-part in
    let e = c.if-not-is_holiday.false in record {
      words = f.ensures.words
          ∙ sym (chosen_holiday a.expiry a.quantum a.usual.now a.holiday.now e (λ n. true≢false (sym (c.is_empty.ensures ∙ eq-eqb (length f.result.now) 0 (ap length f.ensures.words ∙ n)) ∙ c.if-is_empty.false)));
      place = f.ensures.place
          ∙ sym (start_holiday a.expiry a.quantum a.usual.ref_ptr a.usual.now a.holiday.ref_ptr a.holiday.now e (λ n. true≢false (sym (c.is_empty.ensures ∙ eq-eqb (length f.result.now) 0 (ap length f.ensures.words ∙ n)) ∙ c.if-is_empty.false)));
    }
