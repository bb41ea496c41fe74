-- A pass from the row on: refused, or the quantum opened and the records run.
use Rattle.std.specs.Prelude.{Result, Err}
use Prim.Native.Nat.{ℕ, ◌<◌}
use mathlib.Core.Path.{◌≡◌, sym, ap, ◌∙◌, subst}
use mathlib.Core.List.{List, []}
use mathlib.Core.Bool.{true, false}
use Rattle.rules.specs.declared.Steps.{Steps}
use Rattle.rules.specs.declared.Row.{Row}
use Rattle.rules.specs.declared.SpreadRule.TheVariants.{Settled}
use Rattle.rules.specs.declared.Refusal.{Refusal}
use Rattle.rules.specs.declared.Refusal.TheVariants.{ArgumentOutOfRange}
use Rattle.rules.specs.declared.Finished.{Finished}
use Rattle.rules.specs.declared.Stopped.{Stopped}
use Rattle.rules.specs.Terms.{paper}
use Rattle.rules.specs.Units.{good_price}
use Rattle.rules.specs.Rows.{row_of, good_row}
use Rattle.rules.specs.Cells.{place_of}
use Rattle.rules.specs.Causes.{read_row}
use Rattle.rules.specs.Answers.{accepted, refused, number_of}
use Rattle.rules.specs.Session.{Session, records_of, run_records, session}
use Rattle.session_pass.specs.Internal.{book_with, Passed}
use Rattle.session_pass.proofs.Runs.{session-row, session_price, session_opens, cell_inside}
use Rattle.session_pass.proofs.Passes.{passed_halted}

module _ (most : ℕ) (words : List ℕ) (sp : Steps) (bytes : List ℕ) (row : Row) (is : accepted row ≡ read_row paper (Settled sp) words) where
  pub opens_good : good_price sp.0 ≡ true → good_row paper row ≡ true
  opens_good f =
      let (same, good, runs) = session_opens most words sp bytes row is f in
      ap (good_row paper) same ∙ good

  pub passed_opened : good_price sp.0 ≡ true → (entry exit : List ℕ) (r : Result Finished Stopped)
      → ((cell : ℕ) → cell < 186 → Passed (run_records paper most cell 1 (book_with cell row sp []) (records_of bytes)) entry exit r)
      → Passed (session paper most words sp bytes) entry exit r
  passed_opened f entry exit r h =
      let (same, good, runs) = session_opens most words sp bytes row is f in
      let cell = place_of 1 (row_of words).expiry (row_of words).quantum in
      let at = ap (λ (x : Row). run_records paper most cell 1 (book_with cell x sp []) (records_of bytes)) same in
      subst (λ (s : Session). Passed s entry exit r) (at ∙ sym runs) (h cell (cell_inside most words sp bytes good))

  pub passed_price : good_price sp.0 ≡ false → (entry exit : List ℕ) → Passed (session paper most words sp bytes) entry exit (Err (record { refusal = ArgumentOutOfRange; place = 0 }))
  passed_price f entry exit =
      passed_halted (session paper most words sp bytes) ArgumentOutOfRange 0 entry exit (session_price most words sp bytes row is f)

pub passed_row : (most : ℕ) (words : List ℕ) (sp : Steps) (bytes : List ℕ) (f : Refusal) → refused (number_of f) ≡ read_row paper (Settled sp) words → (entry exit : List ℕ)
    → Passed (session paper most words sp bytes) entry exit (Err (record { refusal = f; place = 0 }))
passed_row most words sp bytes f e entry exit =
    passed_halted (session paper most words sp bytes) f 0 entry exit (session-row most words sp bytes (number_of f) e)
