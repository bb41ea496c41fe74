-- The theorem: an outlook, accepted or refused, leaves the book as it was, so a list without its outlooks does what the whole list does.
use Rattle.std.specs.Prelude.{if◌then◌else◌}
use Prim.Native.Nat.{ℕ, zero, suc}
use mathlib.Core.Path.{◌≡◌, refl, sym, ap, ◌∙◌}
use mathlib.Core.List.{List, [], ◌∷◌}
use mathlib.Core.Bool.{Bool, true, false, false≢true, not}
use Rattle.lists.specs.Lists.{filter}
use Rattle.rules.specs.Terms.{Terms}
use Rattle.rules.specs.Calls.{Call, Open, Send, Message, Ask, Commit, Close, Drop, Charge, Withdraw, Look, Report, Outlook, Book, fresh_book}
use Rattle.rules.specs.Causes.{refusal_of}
use Rattle.rules.specs.Changes.{changed}
use Rattle.rules.specs.Book.{answer_of, step_by, step, run, after}
use Rattle.rules.specs.Histories.{refusals_from, answers_from}
use Rattle.requests.specs.Outlooks.{is_outlook, without_outlooks, of_others, OutlooksChangeNothing}

module _ (terms : Terms) where
  outlook_stays : (b : Book) → step terms b Outlook ≡ b
  unfolding step changed
  outlook_stays b = go (refusal_of terms b Outlook)
    where
      go : (n : ℕ) → step_by terms n b Outlook ≡ b
      go zero = refl
      go (suc n) = refl

  stays : (b : Book) (c : Call) → is_outlook c ≡ true → step terms b c ≡ b
  stays b (Open words day opening) h = absurd (false≢true h)
  stays b (Send e) h = absurd (false≢true h)
  stays b (Message start bytes) h = absurd (false≢true h)
  stays b (Ask a) h = absurd (false≢true h)
  stays b (Commit a ticket) h = absurd (false≢true h)
  stays b (Close active passive) h = absurd (false≢true h)
  stays b Drop h = absurd (false≢true h)
  stays b (Charge day expiry quantum active passive) h = absurd (false≢true h)
  stays b (Withdraw day expiry quantum) h = absurd (false≢true h)
  stays b (Look day expiry quantum) h = absurd (false≢true h)
  stays b Report h = absurd (false≢true h)
  stays b Outlook h = outlook_stays b

  same-book : (b : Book) (calls : List Call) → run terms b (without_outlooks calls) ≡ run terms b calls
  unfolding run filter
  same-book b [] = refl
  same-book b (c ∷ cs) = go (is_outlook c) refl (λ d. same-book d cs)
    where
      go : (t : Bool) → is_outlook c ≡ t → ((d : Book) → run terms d (without_outlooks cs) ≡ run terms d cs)
          → run terms b (if not t then c ∷ without_outlooks cs else without_outlooks cs) ≡ run terms (step terms b c) cs
      go true e rest = rest b ∙ ap (λ (d : Book). run terms d cs) (sym (stays b c e))
      go false e rest = rest (step terms b c)

  -- whatever each call is given by the book before it
  module _ {A : Type 0} (given : Book → Call → A) (all : Book → List Call → List A) (none : (b : Book) → all b [] ≡ [])
      (more : (b : Book) (c : Call) (cs : List Call) → all b (c ∷ cs) ≡ given b c ∷ all (step terms b c) cs) where
    same-others : (b : Book) (calls : List Call) → all b (without_outlooks calls) ≡ of_others calls (all b calls)
    unfolding filter of_others
    same-others b [] = none b
    same-others b (c ∷ cs) = go (is_outlook c) refl (λ d. same-others d cs) ∙ sym (ap {B = List A} (of_others (c ∷ cs)) (more b c cs))
      where
        go : (t : Bool) → is_outlook c ≡ t → ((d : Book) → all d (without_outlooks cs) ≡ of_others cs (all d cs))
            → all b (if not t then c ∷ without_outlooks cs else without_outlooks cs)
            ≡ (if t then of_others cs (all (step terms b c) cs) else given b c ∷ of_others cs (all (step terms b c) cs))
        go true e rest = rest b ∙ ap {B = List A} (λ (d : Book). of_others cs (all d cs)) (sym (stays b c e))
        go false e rest = more b c (without_outlooks cs) ∙ ap {B = List A} (λ (l : List A). given b c ∷ l) (rest (step terms b c))

pub outlooks_change_nothing : OutlooksChangeNothing
unfolding after refusals_from answers_from
outlooks_change_nothing terms calls =
    record {
      book = same-book terms fresh_book calls;
      refusals = same-others terms (refusal_of terms) (refusals_from terms) (λ b. refl) (λ b c cs. refl) fresh_book calls;
      answers = same-others terms (answer_of terms) (answers_from terms) (λ b. refl) (λ b c cs. refl) fresh_book calls;
      next = λ c. ap (λ (b : Book). answer_of terms b c) (same-book terms fresh_book calls);
    }
