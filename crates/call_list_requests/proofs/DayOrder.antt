-- The theorem (document 02, W9), of what the list runner writes: by what `call_list::run` promises, any further call is answered alike after
-- whole quanta in another order.
use Prim.Native.Nat.{ℕ}
use mathlib.Core.Path.{◌≡◌, sym, ap, ◌∙◌}
use mathlib.Core.List.{List, Permᴰ}
use lib.ListN.{length}
use Rattle.lists.specs.Lists.{All}
use Rattle.rules.specs.Terms.{paper}
use Rattle.rules.specs.Calls.{Call, Book, fresh_book}
use Rattle.rules.specs.Book.{answer_of, after}
use Rattle.rules.specs.Histories.{NoneRefused}
use Rattle.requests.specs.DayOrder.{Whole, joined, Anywhere}
use Rattle.requests.proofs.DayOrder.{zeros_accepted, accepted_zeros, rearranged, accepted_too}
use Rattle.answer_words.specs.Words.{answer_words}
use Rattle.call_list.specs.Listing.{Listed}
use Rattle.call_list.specs.Demand.{answer_at, CallsRan}
use Rattle.call_list.proofs.Demand.{ran_from_scratch, ran-next}
use Rattle.call_list_requests.specs.DayOrder.{Fills, SameAfter}

fills_accepted : (quanta : List Whole) (bytes before written : List ℕ) (r : Listed) → Fills quanta bytes before written r
    → NoneRefused paper fresh_book (joined quanta)
fills_accepted quanta bytes before written r f =
    zeros_accepted paper fresh_book (joined quanta)
    (sym (ran_from_scratch (joined quanta) bytes before written r f.ran).refusals ∙ f.accepted)

-- the first run's quanta in another order
pub rearranged_lists : (first second : List Whole) → Permᴰ first second
    → (bytes before written : List ℕ) (r : Listed) → Fills first bytes before written r
    → (bytes' before' written' : List ℕ) (r' : Listed) → Fills second bytes' before' written' r'
    → SameAfter first second
rearranged_lists first second p bytes before written r f bytes' before' written' r' g =
    let same =
    (rearranged paper first second (fills_accepted first bytes before written r f) p (fills_accepted second bytes' before' written' r' g)).book
    in
    record {
      book = same;
      next = λ c bytes before written r more bytes' before' written' r' also.
          (ran-next (joined first) c bytes before written r more).words
          ∙ ap (λ (b : Book). answer_words (answer_of paper b c)) same
          ∙ sym (ran-next (joined second) c bytes' before' written' r' also).words;
    }

-- with neither a commit nor a look, a run of the other list is refused nowhere
pub also_accepted : (first second : List Whole) → Permᴰ first second → All Anywhere first
    → (bytes before written : List ℕ) (r : Listed) → Fills first bytes before written r
    → (bytes' before' written' : List ℕ) (r' : Listed) → CallsRan (joined second) bytes' before' written' r'
    → Fills second bytes' before' written' r'
also_accepted first second p free bytes before written r f bytes' before' written' r' ran =
    let none = accepted_too paper first second (fills_accepted first bytes before written r f) p free in
    record {
      ran = ran;
      accepted =
          (ran_from_scratch (joined second) bytes' before' written' r' ran).refusals ∙ accepted_zeros paper fresh_book (joined second) none;
    }
