-- `call_step::block` meets its contract: the part that it hands on is the words from that place.
use Prim.Native.Nat.{ℕ, ◌-◌, ◌*◌}
use native.Mathlib.Omega.{arith}
use mathlib.Core.Path.{refl, sym, ap, subst, ◌∙◌}
use mathlib.Core.List.{List}
use lib.ListN.{length, take, drop}
use Rattle.words.specs.Bytes.{words_in}
use Rattle.words.proofs.Bytes.{part_words_lem}
use Rattle.call_blocks.specs.Kinds.{block_size, call_of}
use Rattle.call_blocks.proofs.Reading.{none_past}
use Rattle.call_blocks.proofs.Loops.{next_fits}
use Rattle.call_step.specs.Blocks.{Performed}
use Rattle.call_step.proofs.Performing.{told, stepped-none, stepped_some, said}
use Rattle.call_step.proofs.block.Goals as goal

pub returns-then-count-at : goal.returns-then-count-at
returns-then-count-at c =
    let a = c.args in
    stepped-none a.month (words_in a.bytes.now) a.at c.no_call.result (sym (none_past (words_in a.bytes.now) a.at (omega arith))) c.no_call.ensures

pub returns-in_default : goal.returns-in_default
returns-in_default c =
    let a = c.args in
    let p = part_words_lem a.bytes.now a.at (4 * a.at) refl in
    stepped-none a.month (words_in a.bytes.now) a.at c.no_call-in_default.result (ap block_size (sym p) ∙ c.in_default.ensures) c.no_call-in_default.ensures

pub overflow_add-next : goal.overflow_add-next
overflow_add-next c =
    let a = c.args in
    let p = part_words_lem a.bytes.now a.at (4 * a.at) refl in
    omega (arith, next_fits (words_in a.bytes.now) a.at c.in-Some.size (omega arith) (c.in-Some.ensures.0 ∙ ap block_size p))

pub returns-in-Send : goal.returns-in-Send
returns-in-Send c =
    let a = c.args in
    let part = words_in (take (length a.bytes.now - 4 * a.at) (drop (4 * a.at) a.bytes.now)) in
    let p = part_words_lem a.bytes.now a.at (4 * a.at) refl in
    let s = told part c.in-Send.is c.send.ensures c.tell.ensures in
    stepped_some a.month (words_in a.bytes.now) a.at c.tell.result c.in-Some.size (c.in-Some.ensures.0 ∙ ap block_size p) c.in-Some.ensures.1 s.0
    (subst (λ (l : List ℕ). Performed a.month (call_of l) c.tell.result.month c.tell.result.shown) p (said part c.decode-said.result c.decode-said.ensures s.1))

pub returns-in-Message : goal.returns-in-Message
returns-in-Message c =
    let a = c.args in
    let part = words_in (take (length a.bytes.now - 4 * a.at) (drop (4 * a.at) a.bytes.now)) in
    let p = part_words_lem a.bytes.now a.at (4 * a.at) refl in
    let r = c.tell-in-Message.result in
    let s = told part c.in-Message.is c.message.ensures c.tell-in-Message.ensures in
    stepped_some a.month (words_in a.bytes.now) a.at r c.in-Some.size (c.in-Some.ensures.0 ∙ ap block_size p) c.in-Some.ensures.1 s.0
    (subst (λ (l : List ℕ). Performed a.month (call_of l) r.month r.shown) p (said part c.decode-said.result c.decode-said.ensures s.1))

pub returns-in_default-said : goal.returns-in_default-said
returns-in_default-said c =
    let a = c.args in
    let p = part_words_lem a.bytes.now a.at (4 * a.at) refl in
    let r = c.call.result in
    stepped_some a.month (words_in a.bytes.now) a.at r c.in-Some.size (c.in-Some.ensures.0 ∙ ap block_size p) c.in-Some.ensures.1 c.call.ensures.0
    (subst (λ (l : List ℕ). Performed a.month (call_of l) r.month r.shown) p (said _ c.decode-said.result c.decode-said.ensures c.call.ensures.1))
