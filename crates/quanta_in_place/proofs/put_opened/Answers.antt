-- The five parts, one after the other.
use Prim.Native.Nat.{ℕ}
use mathlib.Core.Path.{◌≡◌, refl, sym, ap, ◌∙◌}
use lib.ListN.{length, take, drop, replicate, length-replicate}
use Rattle.quantum.specs.declared.Quantum.{Quantum}
use Rattle.quantum.specs.Words.{quantum_words}
use Rattle.quantum.proofs.Answers.{opened_is}
use Rattle.quantum.proofs.Words.{three, room, room_four, quantum_laid}
use Rattle.quanta_in_place.proofs.Opened.{blank_table}
use borrow.Author.Rules.{rules}
use Rattle.quanta_in_place.proofs.put_opened.Goals as goal

pub slice_bounds-copy-end-5 : goal.slice_bounds-copy-end-5
slice_bounds-copy-end-5 c =
    let notes-size : length c.opened-notes.result ≡ 76 = search rules in
    sym (notes-size)

pub copy-requires-3 : goal.copy-requires-3
copy-requires-3 c =
    let table-size : length c.clear.new.words ≡ 512 =
    let table_is : c.clear.new.words ≡ replicate 512 0 =
    let room-table : length (take 512 (drop 10 (three c.args.words.now c.copy.new.to c.put_clock.new.words c.copy-2.new.to))) ≡ 512 = room c.args.words.now c.copy.new.to c.put_clock.new.words c.copy-2.new.to c.requires.0
    (ap length c.copy.ensures) (ap length c.put_clock.ensures) (ap length c.copy-2.ensures) in
    c.clear.ensures ∙ ap (λ (n : ℕ). replicate n 0) (room-table) in
    ap length (table_is) ∙ length-replicate {A = ℕ} 512 0 in
    let notes-size : length c.opened-notes.result ≡ 76 = search rules in
    room_four c.args.words.now c.copy.new.to c.put_clock.new.words c.copy-2.new.to c.requires.0
    (ap length c.copy.ensures) (ap length c.put_clock.ensures) (ap length c.copy-2.ensures) c.clear.new.words (table-size)
    ∙ sym (notes-size)

pub returns : goal.returns
returns c =
    let table_is : c.clear.new.words ≡ replicate 512 0 =
    let room-table : length (take 512 (drop 10 (three c.args.words.now c.copy.new.to c.put_clock.new.words c.copy-2.new.to))) ≡ 512 = room c.args.words.now c.copy.new.to c.put_clock.new.words c.copy-2.new.to c.requires.0
    (ap length c.copy.ensures) (ap length c.put_clock.ensures) (ap length c.copy-2.ensures) in
    c.clear.ensures ∙ ap (λ (n : ℕ). replicate n 0) (room-table) in
    let table-size : length c.clear.new.words ≡ 512 =
    let table_is : c.clear.new.words ≡ replicate 512 0 =
    let room-table : length (take 512 (drop 10 (three c.args.words.now c.copy.new.to c.put_clock.new.words c.copy-2.new.to))) ≡ 512 = room c.args.words.now c.copy.new.to c.put_clock.new.words c.copy-2.new.to c.requires.0
    (ap length c.copy.ensures) (ap length c.put_clock.ensures) (ap length c.copy-2.ensures) in
    c.clear.ensures ∙ ap (λ (n : ℕ). replicate n 0) (room-table) in
    ap length (table_is) ∙ length-replicate {A = ℕ} 512 0 in
    let q : Quantum = record { duty = c.duty_of-duty.result; clock = c.started-clock.result; table = c.clear.new.words; notes = c.opened-notes.result } in
    quantum_laid c.args.words.now c.copy.new.to c.put_clock.new.words c.copy-2.new.to c.clear.new.words c.copy-3.new.to q c.requires.0 (table-size)
    c.copy.ensures c.put_clock.ensures c.copy-2.ensures refl c.copy-3.ensures
    ∙ ap quantum_words
    (opened_is c.args.row c.args.spread c.duty_of-duty.result c.started-clock.result c.clear.new.words c.opened-notes.result c.duty_of-duty.ensures
    (c.started-clock.ensures c.args.row c.args.spread) (table_is ∙ blank_table c.args.row.minimum.0) c.opened-notes.ensures)
