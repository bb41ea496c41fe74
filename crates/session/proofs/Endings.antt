-- What the session's calls make of a pass.
use Rattle.std.specs.Prelude.{if◌then◌else◌, Result, Ok, Err}
use Prim.Native.Nat.{ℕ, ◌+◌, ◌*◌, ◌≤◌, ◌<◌}
use native.Mathlib.Omega.{arith}
use mathlib.Core.Path.{◌≡◌, refl, sym, ap, ◌∙◌, subst}
use mathlib.Core.List.{List, [], ◌++◌}
use mathlib.Core.Bool.{Bool, true, false}
use lib.Dec.{ltb}
use lib.ListN.{length, take, drop, length-append}
use lib.Seq.{take-append_seam}
use borrow.Author.Tests.{lt-ltb, le-ltb, eq-eqb, ne_eqb, ltb-false}
use Rattle.rules.specs.declared.Millis.{Millis}
use Rattle.rules.specs.declared.Steps.{Steps}
use Rattle.rules.specs.declared.Refusal.{Refusal}
use Rattle.rules.specs.declared.Refusal.TheVariants.{BufferShort}
use Rattle.rules.specs.declared.Finished.{Finished}
use Rattle.rules.specs.declared.Stopped.{Stopped}
use Rattle.rules.specs.Terms.{paper}
use Rattle.rules.specs.Stretches.{Stretch, pair_words}
use Rattle.rules.specs.Answers.{number_of}
use Rattle.rules.specs.Session.{shown_session, Ran, Session, session, session_bytes, leading_words, leading_price, ran, front, buffer_after, one_number}
use Rattle.rules.proofs.Stretches.{pair_words-length}
use Rattle.c_answers.specs.Answers.{refused_number}
use Rattle.session_pass.specs.Internal.{counted, Passed}
use Rattle.session.specs.Internal.{filled_by, number_by}

-- the pass says how the session ends
counted-stopped : (s : Session) (n place : ℕ) → Ran.refused n place ≡ counted s → s ≡ Session.refused n place
unfolding counted
counted-stopped (Session.accepted k w ss) n place e = let z : ◌≡◌ {A = ℕ} 0 1 = cc in absurd (omega arith)
counted-stopped (Session.refused m at) n place e = cc

counted_finished : (s : Session) (k w n : ℕ) → Ran.accepted k w n ≡ counted s → (ss : List Stretch) × (s ≡ Session.accepted k w ss) × (length ss ≡ n)
unfolding counted
counted_finished (Session.accepted k' w' ss) k w n e = (ss, cc, cc)
counted_finished (Session.refused m at) k w n e = let z : ◌≡◌ {A = ℕ} 0 1 = cc in absurd (omega arith)

counted_whole : (k w : ℕ) (ss : List Stretch) → counted (Session.accepted k w ss) ≡ Ran.accepted k w (length ss)
unfolding counted
counted_whole k w ss = refl

abbrev Ended : Session → List ℕ → List ℕ → Result Finished Stopped → Type 0
Ended s entry exit r = (shown_session r ≡ ran (length entry) s) × (exit ≡ buffer_after entry s)

-- how a session that ends so ends with a buffer
halted_ends : (n place : ℕ) (entry : List ℕ) (r : Result Finished Stopped) → shown_session r ≡ Ran.refused n place → Ended (Session.refused n place) entry entry r
unfolding ran front buffer_after
halted_ends n place entry r e = (e, refl)

short_ends : (k w : ℕ) (ss : List Stretch) (entry : List ℕ) → length entry < 2 * length ss → Ended (Session.accepted k w ss) entry entry (Err (record { refusal = BufferShort; place = 0 }))
unfolding ran front buffer_after
short_ends k w ss entry l = rw (lt-ltb (length entry) (2 * length ss) l) (refl, refl)

written_ends : (k w : ℕ) (ss : List Stretch) (entry exit : List ℕ) (r : Result Finished Stopped) → 2 * length ss ≤ length entry
    → shown_session r ≡ Ran.accepted k w (length ss) → exit ≡ pair_words ss ++ drop (2 * length ss) entry → Ended (Session.accepted k w ss) entry exit r
unfolding ran front buffer_after
written_ends k w ss entry exit r l e f = rw (le-ltb (length entry) (2 * length ss) l, pair_words-length ss) (e, f)

module _ (s : Session) (none none' entry : List ℕ) where
  pub ends_refused : (stop : Stopped) → Passed s none none' (Err stop) → Ended s entry entry (Err stop)
  ends_refused stop p =
      let h = counted-stopped s (number_of stop.refusal) stop.place p.answer in
      subst (λ (t : Session). Ended t entry entry (Err stop)) (sym h) (halted_ends (number_of stop.refusal) stop.place entry (Err stop) refl)

  module _ (first : Finished) (p : Passed s none none' (Ok first)) where
    finds : (ss : List Stretch) × (s ≡ Session.accepted first.kept.0 first.weight ss) × (length ss ≡ first.pairs)
    finds = counted_finished s first.kept.0 first.weight first.pairs p.answer

    pub ends_short : length entry < 2 * first.pairs → Ended s entry entry (Err (record { refusal = BufferShort; place = 0 }))
    ends_short l =
        let (ss, is, long) = finds in
        subst (λ (t : Session). Ended t entry entry (Err (record { refusal = BufferShort; place = 0 }))) (sym is) (short_ends first.kept.0 first.weight ss entry (omega arith))

    pub ends_written : (exit : List ℕ) (second : Result Finished Stopped) → 2 * first.pairs ≤ length entry → Passed s entry exit second → Ended s entry exit second
    ends_written exit second l q =
        let (ss, is, long) = finds in
        let shown : shown_session second ≡ Ran.accepted first.kept.0 first.weight (length ss) = q.answer ∙ ap counted is ∙ counted_whole first.kept.0 first.weight ss in
        subst (λ (t : Session). Ended t entry exit second) (sym is)
        (written_ends first.kept.0 first.weight ss entry exit second (omega arith) shown (q.words first.kept.0 first.weight ss is (omega arith)))

-- ---- the front

front_length : (s : Session) (n : ℕ) (r : Result Finished Stopped) → shown_session r ≡ ran n s → (length (front n s) ≡ filled_by r) × (filled_by r ≤ n)
unfolding ran front
front_length (Session.accepted k w ss) n r e = go (ltb n (2 * length ss)) refl r e
  where
    go : (b : Bool) → ltb n (2 * length ss) ≡ b → (r : Result Finished Stopped) → shown_session r ≡ (if b then Ran.refused 16 0 else Ran.accepted k w (length ss))
        → (length (if b then [] else pair_words ss) ≡ filled_by r) × (filled_by r ≤ n)
    go true f (Ok x) e = let z : ◌≡◌ {A = ℕ} 0 1 = cc in absurd (omega arith)
    go true f (Err x) e = (refl, omega arith)
    go false f (Ok x) e =
        let m : x.pairs ≡ length ss = cc in
        let l = ltb-false n (2 * length ss) f in
        (pair_words-length ss ∙ omega arith, omega arith)
    go false f (Err x) e = let z : ◌≡◌ {A = ℕ} 0 1 = cc in absurd (omega arith)
front_length (Session.refused m at) n (Ok x) e = let z : ◌≡◌ {A = ℕ} 0 1 = cc in absurd (omega arith)
front_length (Session.refused m at) n (Err x) e = (refl, omega arith)

pub front_is : (s : Session) (entry exit : List ℕ) (r : Result Finished Stopped) (n : ℕ) → Ended s entry exit r → n ≡ filled_by r
    → (take n exit ≡ front (length entry) s) × (n ≤ length exit)
unfolding buffer_after
front_is s entry exit r n e is =
    let (long, fits) = front_length s (length entry) r e.0 in
    let f = front (length entry) s in
    let same : n ≡ length f = is ∙ sym long in
    let whole_length : length exit ≡ length f + length (drop (length f) entry) = ap length e.1 ∙ length-append f (drop (length f) entry) in
    (ap (take n) e.1 ∙ ap (λ (m : ℕ). take m (f ++ drop (length f) entry)) same ∙ take-append_seam f (drop (length f) entry), omega arith)

-- ---- the C call

number-counted : (s : Session) → number_by (counted s) ≡ one_number s
unfolding counted one_number
number-counted (Session.accepted k w ss) = refl
number-counted (Session.refused n place) = refl

pub number_is : (s : Session) (entry exit : List ℕ) (r : Result Finished Stopped) → Passed s entry exit r → number_by (shown_session r) ≡ one_number s
number_is s entry exit r p = ap number_by p.answer ∙ number-counted s

pub bytes_short : (most : ℕ) (head bytes : List ℕ) (n : ℕ) → (length head ≡ 32 → ⊥) → n ≡ refused_number 1 → n ≡ one_number (session_bytes paper most head bytes)
unfolding session_bytes one_number
bytes_short most head bytes n h e = rw (ne_eqb (length head) 32 h) (e ∙ omega arith)

pub by_head : (most : ℕ) (head bytes : List ℕ) → length head ≡ 32 → {row : List ℕ} {sp : Steps} → row ≡ leading_words head → sp ≡ leading_price head
    → session paper most row sp bytes ≡ session_bytes paper most head bytes
unfolding session_bytes
by_head most head bytes h e f = (λ i. session paper most (e i) (f i) bytes) ∙ rw (eq-eqb (length head) 32 h) refl

-- ---- the answers' numbers, case by case

pub filled_is : (r : Result Finished Stopped) (run : Finished) → r ≡ Ok run → 2 * run.pairs ≡ filled_by r
filled_is r run e = sym (ap filled_by e)

pub refused_is : (r : Result Finished Stopped) (stop : Stopped) (n : ℕ) → r ≡ Err stop → n ≡ refused_number (number_of stop.refusal) + stop.place → n ≡ number_by (shown_session r)
refused_is r stop n e is = is ∙ sym (ap (λ (x : Result Finished Stopped). number_by (shown_session x)) e)

pub bytes_number : (most : ℕ) (head bytes : List ℕ) → length head ≡ 32 → {row : List ℕ} {sp : Steps} → row ≡ leading_words head → sp ≡ leading_price head
    → (n : ℕ) (r : Result Finished Stopped) (none none' : List ℕ) → n ≡ number_by (shown_session r) → Passed (session paper most row sp bytes) none none' r
    → n ≡ one_number (session_bytes paper most head bytes)
bytes_number most head bytes l {row} {sp} e f n r none none' is p =
    is ∙ number_is (session paper most row sp bytes) none none' r p ∙ ap one_number (by_head most head bytes l e f)
