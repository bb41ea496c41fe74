-- The words of a list of calls, and which lists of calls can be so written: those whose numbers fit their types. That they are read back
-- is in proofs/Writing.
use Rattle.std.specs.Prelude.{ℕ, ◌<◌, List, [], ◌∷◌, ◌++◌, length, get_or}
use Rattle.rules.specs.declared.SpreadRule.{SpreadRule}
use Rattle.rules.specs.declared.SpreadRule.TheVariants.{Settled, OfStrike}
use Rattle.rules.specs.declared.Amendment.{Amendment}
use Rattle.rules.specs.declared.Event.{Event}
use Rattle.rules.specs.declared.Event.TheVariants.{Add, Amend, Cancel, Deal, Tick}
use Rattle.rules.specs.Records.{add_kind, unsigned_of}
use Rattle.rules.specs.Widths.{Word, SignedWord, Fits, Bytes}
use Rattle.rules.specs.Calls.{Call, Open, Send, Message, Ask, Commit, Close, Drop, Charge, Withdraw, Look, Report, Outlook}
use Rattle.words.specs.Bytes.{words_in}
use Rattle.lent.specs.Words.{low, high}

-- an event's block
unfoldable pub event_words : Event → List ℕ
event_words (Add t id side price volume) = 2 ∷ t.0 ∷ id ∷ add_kind side ∷ unsigned_of price.0 ∷ volume.0 ∷ []
event_words (Amend t id price volume) = 3 ∷ t.0 ∷ id ∷ unsigned_of price.0 ∷ volume.0 ∷ []
event_words (Cancel t id) = 4 ∷ t.0 ∷ id ∷ []
event_words (Deal t id volume) = 5 ∷ t.0 ∷ id ∷ volume.0 ∷ []
event_words (Tick t) = 6 ∷ t.0 ∷ []

-- an open's kind: with SP, or of a strike
abbrev pub open_kind : SpreadRule → ℕ
open_kind (Settled sp) = 1
open_kind (OfStrike s) = 13

-- what open is given besides the row and the day
abbrev pub opening_words : SpreadRule → ℕ → List ℕ
opening_words (Settled sp) allowed = unsigned_of sp.0 ∷ allowed ∷ []
opening_words (OfStrike s) allowed = s.a ∷ s.difference ∷ s.days ∷ s.b ∷ allowed ∷ []

-- the words of some bytes, the last one filled up with bytes 0: three are added, and what follows the last whole word is dropped
abbrev pub filled : List ℕ → List ℕ
filled bytes = words_in (bytes ++ (0 ∷ 0 ∷ 0 ∷ []))

-- a call's block
unfoldable pub words_of : Call → List ℕ
words_of (Open words day opening) = open_kind opening.spread ∷ length words ∷ (words ++ (day ∷ opening_words opening.spread opening.allowed))
words_of (Send e) = event_words e
words_of (Message start bytes) = 16 ∷ length start ∷ length bytes ∷ filled (start ++ bytes)
words_of (Ask a) = 14 ∷ a.t.0 ∷ a.id ∷ unsigned_of a.price.0 ∷ a.volume.0 ∷ []
words_of (Commit a ticket) =
    let b = ticket.amendment in
    15 ∷ a.t.0 ∷ a.id ∷ unsigned_of a.price.0 ∷ a.volume.0 ∷ b.t.0 ∷ b.id ∷ unsigned_of b.price.0 ∷ b.volume.0
    ∷ low ticket.count ∷ high ticket.count ∷ []
words_of (Close active passive) = 7 ∷ low active.0 ∷ high active.0 ∷ low passive.0 ∷ high passive.0 ∷ []
words_of Drop = 8 ∷ []
words_of (Charge day expiry quantum active passive) =
    9 ∷ day ∷ expiry ∷ quantum ∷ low active.0 ∷ high active.0 ∷ low passive.0 ∷ high passive.0 ∷ []
words_of (Withdraw day expiry quantum) = 10 ∷ day ∷ expiry ∷ quantum ∷ []
words_of (Look day expiry quantum) = 11 ∷ day ∷ expiry ∷ quantum ∷ []
words_of Report = 12 ∷ []
words_of Outlook = 17 ∷ []

-- one block after the other
unfoldable pub script_of : List Call → List ℕ
script_of [] = []
script_of (c ∷ cs) = words_of c ++ script_of cs

-- every element is an unsigned 32-bit word; past the end `get_or` gives 0
abbrev pub Words : List ℕ → Type 0
Words ws = (i : ℕ) → Word (get_or ws i 0)

-- an unsigned 64-bit number
abbrev pub Wide : ℕ → Type 0
Wide n = n < 18446744073709551616

-- SP, or a strike's four numbers
abbrev pub SpreadRuleFits : SpreadRule → Type 0
SpreadRuleFits (Settled sp) = SignedWord sp.0
SpreadRuleFits (OfStrike s) = Word s.a × Word s.difference × Word s.days × Word s.b

-- an amendment's four numbers
abbrev pub AmendmentFits : Amendment → Type 0
AmendmentFits a = Word a.t.0 × Word a.id × SignedWord a.price.0 × Word a.volume.0

-- each number of the call fits its type, and the number of an open's row words, or of a message's bytes, fits its word
abbrev pub CallFits : Call → Type 0
CallFits (Open words day opening) = Word (length words) × Words words × Word day × SpreadRuleFits opening.spread × Word opening.allowed
CallFits (Send e) = Fits e
CallFits (Message start bytes) = Word (length start) × Word (length bytes) × Bytes start × Bytes bytes
CallFits (Ask a) = AmendmentFits a
CallFits (Commit a ticket) = AmendmentFits a × AmendmentFits ticket.amendment × Wide ticket.count
CallFits (Close active passive) = Wide active.0 × Wide passive.0
CallFits Drop = Unit {0}
CallFits (Charge day expiry quantum active passive) = Word day × Word expiry × Word quantum × Wide active.0 × Wide passive.0
CallFits (Withdraw day expiry quantum) = Word day × Word expiry × Word quantum
CallFits (Look day expiry quantum) = Word day × Word expiry × Word quantum
CallFits Report = Unit {0}
CallFits Outlook = Unit {0}

-- every call of a list
abbrev pub AllFit : List Call → Type 0
AllFit [] = Unit {0}
AllFit (c ∷ cs) = CallFits c × AllFit cs
